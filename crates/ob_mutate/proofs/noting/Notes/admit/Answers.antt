use Rattle.std.proofs.Common.{◌≡◌, ◌++◌, ◌∙◌, length, take, drop, sym, ap, subst}
use Rattle.std.proofs.lemmas.List.{take_at}
use Rattle.ob_order.specs.Orders.{KnowsKeys, field_at, keys_after}
use Rattle.ob_mutate.specs.Batches.{NotesState}
use Rattle.ob_mutate.proofs.noting.Notes.admit.Goals as goal

pub returns-clause-knows : goal.returns-clause-knows
returns-clause-knows c = λ keys known.
    let new = c.admit.new.there in
    let at = c.args.at in
    let len = c.args.len in
    let kept = c.args.kept.now in
    let rest = drop (length new) c.self.inside.there.items in
    let whole : take c.self.inside.there.len (new ++ rest) ≡ new = take_at new rest c.self.inside.there.len (c.admit.ensures.size ∙ c.as_mut_slice.ensures.len) in
    let lent = c.as_mut_slice.ensures.value ∙ ap (λ (n : NotesState). n.there) c.self.view_is in
    subst (KnowsKeys at len kept (keys_after (field_at at len kept c.args.i) keys c.args.free)) (sym whole)
    (c.admit.ensures.knows keys (subst (KnowsKeys at len kept keys) (sym lent) known))

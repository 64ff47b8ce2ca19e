use Rattle.std.proofs.Common.{ℕ, ap, sym}
use Rattle.std.specs.Prelude.{Option}
use Rattle.ob_order.specs.Orders.{mark_at}
use Rattle.ob_order.proofs.NotingLemmas.{place_is, place_none}
use Rattle.ob_order.proofs.admitting.note.Goals as goal

pub returns-in-Some-clause-notes : goal.returns-in-Some-clause-notes
returns-in-Some-clause-notes c =
    sym (ap (λ (o : Option ℕ). mark_at o c.args.there.now) (place_is c.args.at c.args.key.now c.args.rows.now c.in-Some.place c.in-Some.ensures.some))

pub returns-in_default-clause-notes : goal.returns-in_default-clause-notes
returns-in_default-clause-notes c =
    sym (ap (λ (o : Option ℕ). mark_at o c.args.there.now) (place_none c.args.at c.args.key.now c.args.rows.now c.in_default.ensures.none))

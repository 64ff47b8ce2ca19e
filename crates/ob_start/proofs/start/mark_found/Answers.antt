use Rattle.std.proofs.Common.{◌≡◌, ◌==◌, ℕ, List, [], length, ap, sym, Some}
use Rattle.std.proofs.lemmas.Bool.{both_ways}
use Rattle.ob_start.proofs.MarkLemmas.{unnamed}
use Rattle.ob_start.proofs.start.mark_found.Goals as goal

pub returns-in-None-id : goal.returns-in-None-id
returns-in-None-id c =
    let some : c.args.text.now ≡ [] → ⊥ = λ is. both_ways _ (sym c.if-is_empty.ensures) (ap (λ (l : List ℕ). length l == 0) is) in
    (some, λ mark id holds. unnamed c.in-Some.held mark id c.in-None-id.is (c.in-Some.ensures.read (record { mark = mark; id = Some id }) holds))

pub returns-in-None : goal.returns-in-None
returns-in-None c =
    let some : c.args.text.now ≡ [] → ⊥ = λ is. both_ways _ (sym c.if-is_empty.ensures) (ap (λ (l : List ℕ). length l == 0) is) in
    (some, λ mark id holds. cc (c.in-None.ensures.read (record { mark = mark; id = Some id }) holds))

use Rattle.std.proofs.Common.{◌≡◌, ◌==◌, ℕ, List, [], length, ap, sym}
use Rattle.std.proofs.lemmas.Bool.{both_ways}
use Rattle.ob_file.proofs.KeepingLemmas.{none_stands}
use Rattle.ob_file.proofs.keeper.mark_in.Goals as goal

pub returns-in-None-clause-read : goal.returns-in-None-clause-read
returns-in-None-clause-read c = λ mark stands.
    let some : c.args.text.now ≡ [] → ⊥ = λ is. both_ways _ (sym c.if-is_empty.ensures) (ap (λ (l : List ℕ). length l == 0) is) in
    absurd (none_stands c.args.text.now c.args.id mark some (λ held holds. cc (c.in-None.is, c.held_of.ensures.read held holds)) stands)

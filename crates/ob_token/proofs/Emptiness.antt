-- What a test for an empty list says.
use Rattle.std.proofs.Common.{◌≡◌, ◌<◌, List, length, Bool, true, false, ◌==◌, sym, ◌∙◌, arith}
use Rattle.std.proofs.lemmas.Bool.Decides.{nat_tests}

pub is_none : {T : Type 0} → (xs : List T) (b : Bool) → b ≡ (length xs == 0) → b ≡ true → length xs ≡ 0
is_none xs b e h = let f : (length xs == 0) ≡ true = sym e ∙ h in grind (arith, nat_tests)

pub is_some : {T : Type 0} → (xs : List T) (b : Bool) → b ≡ (length xs == 0) → b ≡ false → 0 < length xs
is_some xs b e h = let f : (length xs == 0) ≡ false = sym e ∙ h in grind (arith, nat_tests)

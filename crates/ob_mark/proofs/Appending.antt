-- What is written after what was written.
use Rattle.std.proofs.Common.{◌≡◌, ◌∙◌, ℕ, List, ◌++◌, Option, None, Some, Result, Ok, Err, OnOk, ap}
use Rattle.std.proofs.lemmas.List.{append_assoc}
use Rattle.std.specs.Io.KnownBytes.{Appends}

both_parts : (a b c : Option (List ℕ)) (x y : List ℕ) → Appends a b x → Appends b c y → Appends a c (x ++ y)
both_parts None b c x y first second = tt
both_parts (Some xs) None c x y first second = absurd first
both_parts (Some xs) (Some ys) None x y first second = absurd second
both_parts (Some xs) (Some ys) (Some zs) x y first second = second ∙ ap (λ (l : List ℕ). l ++ y) first ∙ append_assoc xs x y

-- two parts, of which the second may have failed
pub then_part : {T E : Type 0} (r : Result T E) (a b c : Option (List ℕ)) (x y : List ℕ) → Appends a b x → OnOk r (Appends b c y)
    → OnOk r (Appends a c (x ++ y))
then_part (Ok value) a b c x y first second = both_parts a b c x y first second
then_part (Err e) a b c x y first second = tt

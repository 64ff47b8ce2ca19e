-- What is said and written of what isn't right.
use Rattle.std.specs.Prelude.{◌≡◌, ◌⊎◌, ℕ, nat_lt, ◌==◌, ◌||◌, if◌then◌else◌, List, [], map}
use Rattle.std.specs.Borrow.{Bor}
use Rattle.std.specs.List.{concat}

-- the parts of a path, one after the other
abbrev pub whole : List (Bor (List ℕ)) → List ℕ
whole parts = concat (map (λ (part : Bor (List ℕ)). part.now) parts)

-- it is said of this place; of none, where there was no memory for it
abbrev pub SaidOf : (place said : List ℕ) → Type 0
SaidOf place said = (said ≡ place) ⊎ (said ≡ [])

-- no byte of a path ends a line
abbrev pub plain : ℕ → ℕ
plain byte = if nat_lt byte 32 || byte == 127 then 63 else byte

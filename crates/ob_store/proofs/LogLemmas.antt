-- A log that has let go of some accesses, and has the runs of those after them.
use Rattle.std.proofs.Common.{◌≡◌, ◌≤◌, ◌-◌, ℕ, zero, suc, List, [], ◌∷◌, ◌++◌, length, slice_get, refl, ◌∙◌, ap, arith}
use Rattle.ob_store.specs.Kept.{IsLog, Sound}
use Rattle.ob_store.specs.Logs.{spelt}

-- an entry after the first part of a list
pub get_behind : {A : Type 0} (xs ys : List A) (i : ℕ) → length xs ≤ i → slice_get (xs ++ ys) i ≡ slice_get ys (i - length xs)
get_behind [] ys i behind = ap (slice_get ys) (omega arith)
get_behind (x ∷ xs) ys zero behind = absurd (omega arith)
get_behind (x ∷ xs) ys (suc i) behind = get_behind xs ys i (omega arith) ∙ ap (slice_get ys) (omega arith)

-- a log of no access
pub no_log : IsLog [] [] 0
unfolding Sound
no_log = record { sound = (refl, refl); places = λ i below. absurd (omega arith) }

pub spelt-nil : spelt [] ≡ []
unfolding spelt
spelt-nil = refl

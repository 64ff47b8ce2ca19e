-- Which leaves of indexes are read: those of draws, of which none is read twice.
use Rattle.std.specs.Prelude.{ℕ, ◌≡◌, ◌≢◌, List, [], ◌∷◌, Option, Some, None}
use Rattle.std.specs.List.{AllPairs}
use Rattle.ob_base.specs.Indexes.{leaf_of_draw}
use Rattle.ob_mean.specs.Lawful.{height_at}
use Rattle.ob_script.specs.Trace.{Served}
use Rattle.ob_headline.specs.Flights.{Position}

-- a leaf that was read is that of the draw with the first of these numbers, and the others are those of what is after it
abbrev pub IsDrawn : (draw : ℕ → ℕ) → (height : ℕ) → (leaf : Option ℕ) → (numbers : List ℕ)
    → (behind : List ℕ → Type 0) → Type 0
IsDrawn draw height None numbers behind = behind numbers
IsDrawn draw height (Some leaf) [] behind = ⊥
IsDrawn draw height (Some leaf) (n ∷ numbers) behind =
    (leaf ≡ leaf_of_draw height (draw n)) × behind numbers

-- of these statements each leaf that was read is that of a draw, by its height: these are the numbers of the draws
abbrev pub AreDrawn : (draw : ℕ → ℕ) → List Position → List Served → (numbers : List ℕ) → Type 0
AreDrawn draw positions [] numbers = numbers ≡ []
AreDrawn draw [] (x ∷ seen) numbers = ⊥
AreDrawn draw (v ∷ positions) (x ∷ seen) numbers =
    IsDrawn draw (height_at v.public x.skeleton) x.seen.leaf numbers (AreDrawn draw positions seen)

-- and no draw is read twice
pub record ReadsDraws (draw : ℕ → ℕ) (positions : List Position) (seen : List Served) : Type 0 where
  pub numbers : List ℕ
  pub are : AreDrawn draw positions seen numbers
  pub apart : AllPairs (λ a b. a ≢ b) numbers

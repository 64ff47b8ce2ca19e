-- The places of selected rows, as a counting pass meets them.
use Rattle.std.specs.Prelude.{◌≡◌, ℕ, ◌+◌, Bool, ◌&&◌, ◌||◌, ◌==◌, List, [], ◌∷◌, length, if◌then◌else◌}
use Rattle.ob_flat.specs.declared.counting.Tally.{Tally}
use Rattle.ob_row.specs.Slots.{is_consecutive}

-- one more than the last place, or 0 where there is none
abbrev pub next_of : List ℕ → ℕ
next_of [] = 0
next_of (i ∷ []) = i + 1
next_of (i ∷ j ∷ is) = next_of (j ∷ is)

-- what a tally is after the slot of index i
abbrev pub tallied : Bool → ℕ → Tally → Tally
tallied b i t = if b then record { k = t.k + 1; end = i + 1; consecutive = t.consecutive && ((t.k == 0) || (i == t.end)) } else t

-- it is that of these places
pub record IsTally (places : List ℕ) (t : Tally) : Type 0 where
  pub k : t.k ≡ length places
  pub end : t.end ≡ next_of places
  pub consecutive : t.consecutive ≡ is_consecutive places

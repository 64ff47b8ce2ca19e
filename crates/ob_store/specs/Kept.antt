-- How a log keeps its runs: the accesses of all cycles, one cycle after the other, and where each run begins.
use Rattle.std.specs.Prelude.{◌≡◌, ◌<◌, ◌≤◌, ◌-◌, ◌^◌, ℕ, zero, suc, List, [], ◌∷◌, length, slice_index_or, slice_range}
use Rattle.ob_base.specs.declared.access.Access.{Access}
use Rattle.ob_base.specs.declared.access.Access.TheVariants.{Make, Read, Write, Discard, Open}
use Rattle.ob_store.specs.Logs.{Run, access_at, spelt}
use Rattle.ob_store.specs.declared.runs.Start.{Start}

abbrev pub start_of : List Start → ℕ → Start
start_of starts k = slice_index_or starts k (record { access = 0; cycle = 0 })

-- the first k runs, the last of them first, where they end at this access and this access of the cycles
unfoldable pub runs_of : List Access → List Start → ℕ → ℕ → ℕ → List Run
runs_of cycles starts zero to end = []
runs_of cycles starts (suc k) to end =
    record { cycle = slice_range cycles (start_of starts k).cycle to; count = end - (start_of starts k).access } ∷ runs_of cycles starts k (start_of starts k).cycle (start_of starts k).access

abbrev pub place_of : Access → ℕ
place_of (Make region blocks len) = 0
place_of (Read region place) = place
place_of (Write region place) = place
place_of (Discard region) = 0
place_of (Open region blocks len) = 0

-- each run has a cycle, which is no longer than the run
unfoldable pub Sound : List Start → ℕ → ℕ → ℕ → Type 0
Sound starts zero to end = (to ≡ 0) × (end ≡ 0)
Sound starts (suc k) to end =
    ((start_of starts k).cycle < to) × (to - (start_of starts k).cycle ≤ end - (start_of starts k).access) × Sound starts k (start_of starts k).cycle (start_of starts k).access

pub record IsLog (cycles : List Access) (starts : List Start) (count : ℕ) : Type 0 where
  pub sound : Sound starts (length starts) (length cycles) count
  pub places : (i : ℕ) → i < count
      → place_of (access_at (spelt (runs_of cycles starts (length starts) (length cycles) count)) i)
      < 2 ^ 32

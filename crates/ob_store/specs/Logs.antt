-- The accesses asked of a store, kept as runs.
use Rattle.std.specs.Prelude.{◌≡◌, ◌≤◌, ◌-◌, ◌^◌, ◌==◌, ◌&&◌, ◌+◌, ◌/◌, ◌%◌, ℕ, zero, suc, Bool, true, false, List, [], ◌∷◌, ◌++◌, length, drop, nat_le, slice_index_or, if◌then◌else◌}
use Rattle.std.specs.List.{list_all}
use Rattle.ob_base.specs.Lists.{tabulate}
use Rattle.ob_base.specs.declared.access.Access.{Access}
use Rattle.ob_base.specs.declared.access.Access.TheVariants.{Make, Read, Write, Discard, Open}

-- a run spells `count` accesses by a cycle of one to three
pub record Run : Type 0 where
  pub cycle : List Access
  pub count : ℕ

-- what contracts see of runs: the last of them first, and for how many more accesses there is room
pub record RunsState : Type 0 where
  pub runs : List Run
  pub spare : ℕ

-- and of a log: the accesses that it has let go of, the runs of those after them, and for how many more there is room
pub record LogState : Type 0 where
  pub past : List Access
  pub runs : List Run
  pub spare : ℕ

-- an access with its place raised
abbrev pub raised : ℕ → Access → Access
raised n (Read region place) = Read region (place + n)
raised n (Write region place) = Write region (place + n)
raised n (Make region blocks len) = Make region blocks len
raised n (Discard region) = Discard region
raised n (Open region blocks len) = Open region blocks len

abbrev pub access_at : List Access → ℕ → Access
access_at cycle i = slice_index_or cycle i (Make 0 0 0)

-- entry t of a run with a cycle of c accesses: entry t mod c of the cycle, its place raised by t div c
abbrev pub entry : List Access → ℕ → Access
entry cycle t = raised (t / length cycle) (access_at cycle (t % length cycle))

abbrev pub spelt_run : Run → List Access
spelt_run run = tabulate run.count (entry run.cycle)

-- the accesses that runs spell, where the last run stands first
unfoldable pub spelt : List Run → List Access
spelt [] = []
spelt (last ∷ before) = spelt before ++ spelt_run last

abbrev pub asked_of : LogState → List Access
asked_of log = log.past ++ spelt log.runs

-- so many are gone, and with those of these runs they are few enough to be counted
pub record AreCounted (gone : ℕ) (past : List Access) (runs : List Run) : Type 0 where
  pub count : gone ≡ length past
  pub few : gone + length (spelt runs) ≤ 2 ^ 64 - 1

abbrev pub is_block : Access → Bool
is_block (Read region place) = true
is_block (Write region place) = true
is_block (Make region blocks len) = false
is_block (Discard region) = false
is_block (Open region blocks len) = false

-- whether both are Reads, or both Writes, of one region, the second at a place that is higher by n
abbrev pub is_raised : ℕ → Access → Access → Bool
is_raised n (Read q x) (Read r y) = (q == r) && (x + n == y)
is_raised n (Write q x) (Write r y) = (q == r) && (x + n == y)
is_raised n _ _ = false

-- whether an access is the next entry of a run
abbrev pub is_next : List Access → ℕ → Access → Bool
is_next cycle count access = is_raised (count / length cycle) (access_at cycle (count % length cycle)) access

-- whether Reads and Writes and an access are a cycle and the first entry of its next turn
abbrev pub is_turn : List Access → Access → Bool
is_turn cycle access = list_all is_block cycle && is_raised 1 (access_at cycle 0) access

-- whether an access is the next entry of the last run
abbrev pub goes_on : Access → List Run → Bool
goes_on access [] = false
goes_on access (last ∷ before) = is_next last.cycle last.count access

-- the last n runs, as one
abbrev pub whole : ℕ → List Run → Run
whole zero runs = record { cycle = []; count = 0 }
whole (suc n) [] = record { cycle = []; count = 0 }
whole (suc n) (last ∷ before) = let rest = whole n before in record { cycle = rest.cycle ++ last.cycle; count = rest.count + last.count }

-- whether the last n runs are one Read or Write each, and an access is the first of them at the next place
abbrev pub comes_round : ℕ → Access → List Run → Bool
comes_round n access runs = nat_le n (length runs) && ((whole n runs).count == n && is_turn (whole n runs).cycle access)

-- how many of the last runs are one run together with an access, by the first rule that fits
abbrev pub joins : Access → List Run → ℕ
joins access runs = if goes_on access runs then 1 else (if comes_round 2 access runs then 2 else (if comes_round 3 access runs then 3 else 0))

abbrev pub lengthened : ℕ → Access → List Run → List Run
lengthened zero access runs = record { cycle = access ∷ []; count = 1 } ∷ runs
lengthened (suc n) access runs = record { cycle = (whole (suc n) runs).cycle; count = (whole (suc n) runs).count + 1 } ∷ drop (suc n) runs

-- the runs after one more access
abbrev pub added : Access → List Run → List Run
added access runs = lengthened (joins access runs) access runs

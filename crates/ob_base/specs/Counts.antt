-- Counts of failed calls, which 64 bits hold.
use Rattle.std.specs.Prelude.{◌+◌, ◌-◌, ◌^◌, ◌≤◌, min, ℕ}

-- the count has risen, or stands at the last value of a u64
abbrev pub Rises : ℕ → ℕ → Type 0
Rises old new = min (old + 1) (2 ^ 64 - 1) ≤ new

-- Limits on sizes.
use Rattle.std.specs.Prelude.{ℕ, ◌-◌, ◌*◌, ◌/◌}

-- the blocks that a pass may buffer beside two open ones, where so many rows may be open
abbrev pub buffered_blocks : ℕ → ℕ → ℕ
buffered_blocks pack rows = (rows - 2 * pack) / pack

-- the rows in them: as many groups, or left rows of a join's chunk, may be kept
abbrev pub buffered : ℕ → ℕ → ℕ
buffered pack rows = pack * buffered_blocks pack rows

-- The sizes of a join, by its pack, the rows that may be open, and the capacities of its tables.
use Rattle.std.specs.Prelude.{ℕ, ◌*◌}
use Rattle.std.specs.Int.{div_ceil}
use Rattle.ob_base.specs.Numbers.{blocks_for}
use Rattle.ob_base.specs.Limits.{buffered_blocks}

-- the chunks of a left table of n slots, each of as many blocks as may be buffered
abbrev pub chunks : ℕ → ℕ → ℕ → ℕ
chunks pack rows n = div_ceil (blocks_for pack n) (buffered_blocks pack rows)

-- the joined region: for each chunk, a block for each right block
abbrev pub joined_blocks : ℕ → ℕ → ℕ → ℕ → ℕ
joined_blocks pack rows n m = chunks pack rows n * blocks_for pack m

abbrev pub joined_slots : ℕ → ℕ → ℕ → ℕ → ℕ
joined_slots pack rows n m = joined_blocks pack rows n m * pack

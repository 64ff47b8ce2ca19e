-- Numbers that several layers use.
use Rattle.std.specs.Prelude.{ℕ, ◌+◌, ◌*◌, ◌/◌, ◌%◌, ◌^◌}
use Rattle.std.specs.Int.{div_ceil}

-- the blocks that hold n slots, pack of them in each
abbrev pub blocks_for : ℕ → ℕ → ℕ
blocks_for pack n = div_ceil n pack

-- the two buckets, among k, of the row in slot i
abbrev pub first_bucket : ℕ → ℕ → ℕ
first_bucket k i = (((i * 2654435761) % 2 ^ 32) * k) / 2 ^ 32

abbrev pub second_bucket : ℕ → ℕ → ℕ
second_bucket k i = (((i * 2246822519 + 374761393) % 2 ^ 32) * k) / 2 ^ 32

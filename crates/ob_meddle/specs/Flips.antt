-- A byte of which one bit is inverted.
use Rattle.std.specs.Prelude.{ℕ, List, bit_xor, slice_index, slice_set}

-- the lowest bit of a byte is inverted
abbrev pub flipped : ℕ → List ℕ → List ℕ
flipped byte block = slice_set block byte (bit_xor (slice_index block byte) 1)

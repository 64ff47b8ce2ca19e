-- A region of buckets in memory.
use Rattle.std.specs.Prelude.{ℕ, List, Option, Some, None, slice_index_or}
use Rattle.ob_linked.specs.declared.memory.Laid.{Laid}
use Rattle.ob_linked.specs.Linked.{Block, Cells}

abbrev pub block_in : (place : ℕ) → Option Laid → Option (Block ℕ)
block_in x None = None
block_in x (Some l) = Some (record { at = x; version = l.version; body = record { rows = l.rows; left = l.left; right = l.right } })

abbrev pub cells_in : List (Option Laid) → Cells ℕ
cells_in cells x = block_in x (slice_index_or cells x None)

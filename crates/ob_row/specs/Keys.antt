-- The keys of rows: the numbers from 0 to n - 1.
use Rattle.std.specs.Prelude.{◌<◌, ℕ, ℤ, pos, negsuc, nat_lt, List, Option, Some, None, unwrap_or, if◌then◌else◌}
use Rattle.std.specs.List.{All}
use Rattle.ob_base.specs.declared.schema.Heading.{Heading}
use Rattle.ob_base.specs.Schemas.{Columns, key_place}
use Rattle.ob_row.specs.declared.cell.Cell.{Cell}
use Rattle.ob_row.specs.declared.cell.Cell.TheVariants.{Int, Text}
use Rattle.ob_row.specs.Rows.{Row, cell_at}

-- the number, where it is one of n keys, and else n
abbrev pub key_number : ℕ → ℤ → ℕ
key_number n (pos x) = if nat_lt x n then x else n
key_number n (negsuc x) = n

abbrev pub cell_number : ℕ → Option Cell → ℕ
cell_number n None = n
cell_number n (Some (Int x)) = key_number n x
cell_number n (Some (Text t)) = n

-- the key of a row, whose cell stands at this place
abbrev pub row_key : (n place : ℕ) → Row → ℕ
row_key n place row = cell_number n (cell_at row place)

-- the place of a primary key, and the key of a row of an index
abbrev pub key_at : Columns → ℕ
key_at cs = unwrap_or (key_place cs) 0

abbrev pub key_in : Heading → Row → ℕ
key_in h row = row_key h.capacity (key_at h.schema) row

-- each row has one of the n keys
abbrev pub InRange : (n place : ℕ) → List Row → Type 0
InRange n place all = All (λ (row : Row). row_key n place row < n) all

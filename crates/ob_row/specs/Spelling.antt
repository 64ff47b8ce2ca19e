-- The bytes of a row: a mark, and then each cell at its full width.
use Rattle.std.specs.Prelude.{◌≡◌, ℕ, ◌-◌, ◌≤◌, List, [], ◌∷◌, ◌++◌, length, replicate, take, sum_by, ⊤, FitsSigned, Option, Some, None, IfSome, slice_get}
use Rattle.std.specs.Option.{option_map_or}
use Rattle.std.specs.Int.{to_be_bytes, cast_unsigned, w64}
use Rattle.ob_base.specs.declared.schema.Kind.{Kind}
use Rattle.ob_base.specs.declared.schema.Kind.TheVariants.{Int as IntKind, Varchar}
use Rattle.ob_base.specs.declared.schema.Column.{Column}
use Rattle.ob_base.specs.Schemas.{Columns, kind_width, width}
use Rattle.ob_base.specs.Texts.{IsPrintable}
use Rattle.ob_row.specs.declared.cell.Cell.{Cell}
use Rattle.ob_row.specs.declared.cell.Cell.TheVariants.{Int, Text}
use Rattle.ob_row.specs.Rows.{Row}

-- the text's bytes lie within the column and are printable ASCII
abbrev pub FitsText : ℕ → List ℕ → Type 0
FitsText n t = (length t ≤ n) × IsPrintable t

abbrev pub FitsKind : Kind → Cell → Type 0
FitsKind IntKind (Int x) = FitsSigned w64 x
FitsKind IntKind (Text t) = ⊥
FitsKind (Varchar n) (Int x) = ⊥
FitsKind (Varchar n) (Text t) = FitsText n t

-- an integer of 64 bits, or a text that some column holds
abbrev pub IsCell : Cell → Type 0
IsCell (Int x) = FitsSigned w64 x
IsCell (Text t) = FitsText 255 t

-- the kind of the column at a place
abbrev pub kind_at : Columns → ℕ → Kind
kind_at columns i = option_map_or (λ (c : Column). c.kind) (slice_get columns i) IntKind

-- a cell for each column, of its kind
abbrev pub FitsColumns : Columns → Row → Type 0
FitsColumns [] [] = ⊤
FitsColumns [] (x ∷ xs) = ⊥
FitsColumns (c ∷ cs) [] = ⊥
FitsColumns (c ∷ cs) (x ∷ xs) = FitsKind c.kind x × FitsColumns cs xs

-- an integer in two's complement, its highest byte first; a text after its length, with zeros up to n bytes
abbrev pub cell_bytes : Kind → Cell → List ℕ
cell_bytes IntKind (Int x) = to_be_bytes w64 (cast_unsigned w64 x)
cell_bytes IntKind (Text t) = []
cell_bytes (Varchar n) (Int x) = []
cell_bytes (Varchar n) (Text t) = length t ∷ (t ++ replicate (n - length t) 0)

abbrev pub cells_bytes : Columns → Row → List ℕ
cells_bytes [] row = []
cells_bytes (c ∷ cs) [] = []
cells_bytes (c ∷ cs) (x ∷ xs) = cell_bytes c.kind x ++ cells_bytes cs xs

-- the width of the cells
abbrev pub cells_width : Columns → ℕ
cells_width columns = sum_by (λ (c : Column). kind_width c.kind) columns

abbrev pub row_bytes : Columns → Row → List ℕ
row_bytes columns row = 1 ∷ cells_bytes columns row

-- no row
abbrev pub dummy_bytes : Columns → List ℕ
dummy_bytes columns = replicate (width columns) 0

-- the bytes of a row, or of none
abbrev pub slot_bytes : Columns → Option Row → List ℕ
slot_bytes columns None = dummy_bytes columns
slot_bytes columns (Some row) = row_bytes columns row

-- the bytes spell this row, or none
pub record Spells (columns : Columns) (slot : Option Row) (bytes : List ℕ) : Type 0 where
  pub fits : IfSome slot (FitsColumns columns)
  pub is : bytes ≡ slot_bytes columns slot

-- the first bytes, as many as a row has, spell it; what stands after them doesn't count
abbrev pub Begins : Columns → Option Row → List ℕ → Type 0
Begins columns slot bytes = Spells columns slot (take (width columns) bytes)

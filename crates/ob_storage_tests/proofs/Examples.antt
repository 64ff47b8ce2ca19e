-- Bytes of rows and of a closing, worked out.
use Rattle.std.proofs.Common.{◌≡◌, ◌++◌, ◌-◌, ℕ, List, [], ◌∷◌, Option, Some, None, length, pos, true, false, refl}
use Rattle.std.specs.Prelude.{Bool, codes, negsuc, replicate}
use Rattle.ob_base.specs.declared.schema.Column.{Column}
use Rattle.ob_base.specs.declared.schema.Kind.{Kind}
use Rattle.ob_base.specs.declared.schema.Kind.TheVariants.{Int as IntKind, Varchar}
use Rattle.ob_base.specs.declared.schema.Shape.TheVariants.{Flat}
use Rattle.ob_base.specs.Schemas.{Columns, width}
use Rattle.ob_reopen.specs.declared.listed.Listed.{Listed}
use Rattle.ob_reopen.specs.Spelling.{head_text, table_text}
use Rattle.ob_row.specs.declared.cell.Cell.TheVariants.{Int, Text}
use Rattle.ob_row.specs.Rows.{Row}
use Rattle.ob_row.specs.Spelling.{row_bytes}

abbrev column : (table name : List ℕ) → Kind → Bool → Column
column table name kind key = record { table = table; name = name; kind = kind; key = key }

-- what `encode` writes into so many bytes
abbrev written : ℕ → Columns → Row → List ℕ
written n columns row = row_bytes columns row ++ replicate (n - width columns) 0

abbrev two_ints : Columns
two_ints = column (codes "t") (codes "c") IntKind false ∷ column (codes "t") (codes "c") IntKind false ∷ []

abbrev int_and_text : Columns
int_and_text = column (codes "t") (codes "c") IntKind false ∷ column (codes "t") (codes "c") (Varchar 4) false ∷ []

two_ints_width : width two_ints ≡ 17
two_ints_width = refl

integers : written 17 two_ints (Int (pos 1) ∷ Int (pos 10) ∷ [])
    ≡ 1 ∷ 0 ∷ 0 ∷ 0 ∷ 0 ∷ 0 ∷ 0 ∷ 0 ∷ 1 ∷ 0 ∷ 0 ∷ 0 ∷ 0 ∷ 0 ∷ 0 ∷ 0 ∷ 10 ∷ []
integers = refl

integer_and_text : written 16 int_and_text (Int (negsuc 0) ∷ Text (codes "ab") ∷ [])
    ≡ 1 ∷ 255 ∷ 255 ∷ 255 ∷ 255 ∷ 255 ∷ 255 ∷ 255 ∷ 255 ∷ 2 ∷ 97 ∷ 98 ∷ 0 ∷ 0 ∷ 0 ∷ 0 ∷ []
integer_and_text = refl

abbrev listed : (name : List ℕ) → Columns → (capacity region number : ℕ) → (salt : Option (List ℕ)) → Listed
listed name columns capacity region number salt = record {
  table = record { heading = record { name = name; schema = columns; capacity = capacity; shape = Flat }; region = region };
  number = number;
  salt = salt;
}

abbrev notes : List ℕ
notes = codes "notes"

abbrev ids : List ℕ
ids = codes "ids"

-- a head of two tables and of the next region 258
head : head_text 258 2 ≡ codes "oblidb-c" ++ (0 ∷ 0 ∷ 0 ∷ 0 ∷ 0 ∷ 0 ∷ 1 ∷ 2 ∷ 0 ∷ 0 ∷ 0 ∷ 2 ∷ replicate 1004 0)
unfolding head_text
head = refl

-- the columns `id INT PRIMARY KEY` and `note VARCHAR(7)`, in region 0x0405, with the capacity 0x00010203 and the number
-- 0x060708090a0b
table_of_notes : table_text (listed notes (column notes (codes "id") IntKind true ∷ column notes (codes "note") (Varchar 7) false ∷ []) 0x00010203 0x0405 0x060708090a0b None)
    ≡ 5 ∷ (codes "notes" ++ (replicate 27 0 ++ (0 ∷ 0 ∷ 0 ∷ 0 ∷ 0 ∷ 0 ∷ 4 ∷ 5 ∷ 0 ∷ 1 ∷ 2 ∷ 3 ∷ 0 ∷ 0 ∷ 6 ∷ 7 ∷ 8 ∷ 9 ∷ 10 ∷ 11 ∷ 2
    ∷ 2 ∷ (codes "id" ++ (replicate 30 0 ++ (0 ∷ 0 ∷ 1 ∷ 4 ∷ (codes "note" ++ (replicate 28 0 ++ (1 ∷ 7 ∷ 0 ∷ replicate 898 0)))))))))
unfolding table_text
table_of_notes = refl

-- the column `id INT`
table_of_ids : table_text (listed ids (column ids (codes "id") IntKind false ∷ []) 4 4 8 None)
    ≡ 3 ∷ (codes "ids" ++ (replicate 29 0 ++ (0 ∷ 0 ∷ 0 ∷ 0 ∷ 0 ∷ 0 ∷ 0 ∷ 4 ∷ 0 ∷ 0 ∷ 0 ∷ 4 ∷ 0 ∷ 0 ∷ 0 ∷ 0 ∷ 0 ∷ 0 ∷ 0 ∷ 8 ∷ 1
    ∷ 2 ∷ (codes "id" ++ (replicate 30 0 ++ (0 ∷ 0 ∷ 0 ∷ replicate 934 0))))))
unfolding table_text
table_of_ids = refl

-- the same of a run whose salt is the numbers from 1 to 16
table_of_a_salt : table_text (listed ids (column ids (codes "id") IntKind false ∷ []) 4 4 8 (Some (1 ∷ 2 ∷ 3 ∷ 4 ∷ 5 ∷ 6 ∷ 7 ∷ 8 ∷ 9 ∷ 10 ∷ 11 ∷ 12 ∷ 13 ∷ 14 ∷ 15 ∷ 16 ∷ [])))
    ≡ 3 ∷ (codes "ids" ++ (replicate 29 0 ++ (0 ∷ 0 ∷ 0 ∷ 0 ∷ 0 ∷ 0 ∷ 0 ∷ 4 ∷ 0 ∷ 0 ∷ 0 ∷ 4 ∷ 0 ∷ 0 ∷ 0 ∷ 0 ∷ 0 ∷ 0 ∷ 0 ∷ 8 ∷ 1
    ∷ 2 ∷ (codes "id" ++ (replicate 30 0 ++ (0 ∷ 0 ∷ 0 ∷ (replicate 917 0 ++ (1 ∷ 1 ∷ 2 ∷ 3 ∷ 4 ∷ 5 ∷ 6 ∷ 7 ∷ 8 ∷ 9 ∷ 10 ∷ 11 ∷ 12 ∷ 13 ∷ 14 ∷ 15 ∷ 16 ∷ []))))))))
unfolding table_text
table_of_a_salt = refl

-- Schemas and what stands in them.
use Rattle.std.specs.Prelude.{ℕ, ◌+◌, Bool, true, false, List, map, sum_by, nat_lt, Option}
use Rattle.ob_base.specs.declared.schema.Kind.{Kind}
use Rattle.ob_base.specs.declared.schema.Kind.TheVariants.{Int, Varchar}
use Rattle.ob_base.specs.declared.schema.Column.{Column}
use Rattle.ob_base.specs.declared.skeleton.NewKind.{NewKind}
use Rattle.ob_base.specs.declared.skeleton.NewKind.TheVariants.{Int as NewInt, Varchar as NewVarchar}
use Rattle.ob_base.specs.declared.skeleton.NewColumn.{NewColumn}
use Rattle.ob_base.specs.Lists.{places_of, first}

-- the columns of a table, or of a join, in order
abbrev pub Columns : Type 0
Columns = List Column

-- the bytes that a cell of this kind takes
abbrev pub kind_width : Kind → ℕ
kind_width Int = 8
kind_width (Varchar n) = n + 1

-- the bytes that a row takes: its mark and its cells
abbrev pub width : Columns → ℕ
width columns = 1 + sum_by (λ (c : Column). kind_width c.kind) columns

-- integer with integer, text with text
abbrev pub same_kind : Kind → Kind → Bool
same_kind Int Int = true
same_kind Int (Varchar n) = false
same_kind (Varchar m) Int = false
same_kind (Varchar m) (Varchar n) = true

abbrev pub kind_of : NewKind → Kind
kind_of NewInt = Int
kind_of (NewVarchar n) = Varchar n

-- a column as CREATE writes it
abbrev pub new_column : List ℕ → NewColumn → Column
new_column table c = record { table = table; name = c.name; kind = kind_of c.kind; key = nat_lt 0 c.keys }

-- the columns of a table as CREATE writes it
abbrev pub columns_of : List ℕ → List NewColumn → Columns
columns_of table cs = map (new_column table) cs

-- the place of the primary key, if there is one
abbrev pub key_place : Columns → Option ℕ
key_place cs = first (places_of (λ (c : Column). c.key) cs)

-- The labels of an answer's columns.
use Rattle.std.specs.Prelude.{Bool, ℕ, List, ◌++◌, codes, if◌then◌else◌}
use Rattle.ob_base.specs.declared.schema.Column.{Column}

-- a column by its name, in a join by its table's and its own
abbrev pub column_label : (joins : Bool) → Column → List ℕ
column_label joins c = if joins then c.table ++ codes "." ++ c.name else c.name

-- an aggregate of it
abbrev pub call_label : List ℕ → List ℕ → List ℕ
call_label name of = name ++ codes "(" ++ of ++ codes ")"

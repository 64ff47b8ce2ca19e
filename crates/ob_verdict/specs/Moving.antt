-- What stands at a name after a statement, where no two tables have one name.
use Rattle.std.specs.Prelude.{◌≡◌, ◌≢◌, ℕ, false, List, Option, Some, None}
use Rattle.std.specs.Option.{option_map}
use Rattle.ob_base.specs.declared.config.Public.{Public}
use Rattle.ob_base.specs.declared.schema.Table.{Table}
use Rattle.ob_base.specs.declared.schema.Shape.{Shape}
use Rattle.ob_base.specs.declared.skeleton.NewColumn.{NewColumn}
use Rattle.ob_base.specs.declared.skeleton.Skeleton.TheVariants.{Create, Drop as DropTable}
use Rattle.ob_base.specs.Indexes.{by_shape}
use Rattle.ob_base.specs.Schemas.{columns_of}
use Rattle.ob_base.specs.Stored.{Stored, AreApart, has_table, headings_of, stored_at, stored_regions}
use Rattle.ob_script.specs.Tables.{moved, tables_after}

-- the table of a name, and where it lies
abbrev pub table_at : List ℕ → List Table → Option (Stored ℕ)
table_at name ts = stored_at name (stored_regions ts)

-- a flat table that was moved lies in the other region, an index where it was, and the others and all headings are as they
-- were
pub record Moves (name : List ℕ) (region : ℕ) (ts : List Table) : Type 0 where
  pub here : table_at name (moved name region ts) ≡ option_map (λ t. record { heading = t.heading; held = by_shape t.heading.shape region t.held }) (table_at name ts)
  pub others : (other : List ℕ) → other ≢ name → table_at other (moved name region ts) ≡ table_at other ts
  pub headings : headings_of (moved name region ts) ≡ headings_of ts

-- a new table stands at its name, the others are as they were, and the names stay apart
pub record Creates (p : Public) (table : List ℕ) (columns : List NewColumn) (capacity : ℕ) (shape : Shape) : Type 0 where
  pub here : table_at table (tables_after p (Create table columns capacity shape))
      ≡ Some (record { heading = record { name = table; schema = columns_of table columns; capacity = capacity; shape = shape }; held = p.next_region })
  pub others : (other : List ℕ) → other ≢ table → table_at other (tables_after p (Create table columns capacity shape)) ≡ table_at other p.tables
  pub apart : AreApart (headings_of (tables_after p (Create table columns capacity shape)))

-- no table stands at a name that was dropped
pub record Drops (p : Public) (table : List ℕ) : Type 0 where
  pub here : table_at table (tables_after p (DropTable table)) ≡ None
  pub others : (other : List ℕ) → other ≢ table → table_at other (tables_after p (DropTable table)) ≡ table_at other p.tables
  pub apart : AreApart (headings_of (tables_after p (DropTable table)))

abbrev pub CreatesNew : Type 0
CreatesNew = (p : Public) (table : List ℕ) (columns : List NewColumn) (capacity : ℕ) (shape : Shape) → AreApart (headings_of p.tables) → has_table table (headings_of p.tables) ≡ false → Creates p table columns capacity shape

abbrev pub DropsOne : Type 0
DropsOne = (p : Public) (table : List ℕ) → AreApart (headings_of p.tables) → Drops p table

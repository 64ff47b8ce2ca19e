-- The tables after a statement, as far as they are public.
use Rattle.std.specs.Prelude.{ℕ, List, [], ◌∷◌, ◌++◌, map, filter, not, bytes_eq, if◌then◌else◌}
use Rattle.ob_base.specs.declared.config.Public.{Public}
use Rattle.ob_base.specs.declared.seen.End.{End}
use Rattle.ob_base.specs.declared.seen.End.TheVariants.{Static, Whole, AfterCount, Batched, Cut}
use Rattle.ob_base.specs.declared.schema.Table.{Table}
use Rattle.ob_base.specs.declared.skeleton.Skeleton.{Skeleton}
use Rattle.ob_base.specs.declared.skeleton.Skeleton.TheVariants.{Create, Insert, Update, Delete, Drop as DropTable, Rows, Groups}
use Rattle.ob_base.specs.Indexes.{by_shape}
use Rattle.ob_base.specs.Schemas.{columns_of}

-- a flat table lies in another region now, and an index where it was
abbrev pub moved_to : ℕ → Table → Table
moved_to region t = by_shape t.heading.shape (record t { region = region }) t

abbrev pub moved : List ℕ → ℕ → List Table → List Table
moved name region tables = map (λ (t : Table). if bytes_eq t.heading.name name then moved_to region t else t) tables

-- the tables after a statement that came to its end
abbrev pub tables_after : Public → Skeleton → List Table
tables_after p (Create table cs n shape) =
    p.tables ++ record { heading = record { name = table; schema = columns_of table cs; capacity = n; shape = shape }; region = p.next_region } ∷ []
tables_after p (Insert table cs) = moved table p.next_region p.tables
tables_after p (Update table cs) = moved table p.next_region p.tables
tables_after p (Delete table) = moved table p.next_region p.tables
tables_after p (DropTable table) = filter (λ (t : Table). not (bytes_eq t.heading.name table)) p.tables
tables_after p (Rows source cs) = p.tables
tables_after p (Groups table cs key) = p.tables

abbrev pub tables_then : Public → Skeleton → End → List Table
tables_then p s Static = p.tables
tables_then p s Whole = tables_after p s
tables_then p s AfterCount = p.tables
tables_then p s Batched = p.tables
tables_then p s (Cut n) = p.tables

-- The tables in place after a statement.
use Rattle.std.specs.Prelude.{ℕ, Option, Some, None, [], ◌∷◌, ◌++◌, map}
use Rattle.std.specs.Option.{option_map, option_map_or}
use Rattle.ob_base.specs.declared.config.Public.{Public}
use Rattle.ob_base.specs.declared.schema.Heading.{Heading}
use Rattle.ob_base.specs.Indexes.{by_shape, slots_in_place}
use Rattle.ob_base.specs.Schemas.{columns_of}
use Rattle.ob_base.specs.Stored.{headings, changed_at, dropped_at}
use Rattle.ob_row.specs.Slots.{empty_slots, fill_first, emptied}
use Rattle.ob_row.specs.Truth.{is_true, updated}
use Rattle.ob_sql.specs.declared.stmt.Stmt.{Stmt}
use Rattle.ob_sql.specs.declared.stmt.Stmt.TheVariants.{Create, Insert, Update, Delete, Drop as DropTable, SelectRows as RowsStmt, SelectTotals as TotalsStmt}
use Rattle.ob_names.specs.Names.{columns_at}
use Rattle.ob_mean.specs.Conditions.{where_at}
use Rattle.ob_mean.specs.Step.{new_row, set_cells, followed}
use Rattle.ob_mean.specs.Verdict.{Accessed, Draws, Held, Tables, access_settled, accessed_now, gone, in_slots, leaves_drawn, refusal}

-- what a new table holds: no row, and of an index a drawn leaf for each key
abbrev pub new_held : Draws → (stash : ℕ) → Heading → Held
new_held d stash h = record { slots = empty_slots (slots_in_place stash h); leaves = by_shape h.shape [] (leaves_drawn d h.capacity) }

-- where the statement is not refused, and accesses no index
abbrev pub settled : Draws → Public → Tables → Stmt → Tables
settled d p ts (Create table columns capacity shape) =
    let h : Heading = record { name = table; schema = columns_of table columns; capacity = capacity; shape = shape } in
    ts ++ record { heading = h; held = new_held d p.stash h } ∷ []
settled d p ts (Insert table columns values) = changed_at table (in_slots (fill_first (new_row (columns_at table (headings ts)) columns values))) ts
settled d p ts (Update table sets cond) =
    let cs = columns_at table (headings ts) in changed_at table (in_slots (map (option_map (updated (where_at cond cs) (set_cells sets cs))))) ts
settled d p ts (Delete table cond) = changed_at table (in_slots (map (emptied (is_true (where_at cond (columns_at table (headings ts))))))) ts
settled d p ts (DropTable table) = dropped_at table ts
settled d p ts (RowsStmt s) = ts
settled d p ts (TotalsStmt s) = ts

-- an access changes its table, also where it is refused: the key gets another leaf, and rows of its path move
abbrev pub settle_served : Draws → Option Accessed → Public → (m : ℕ) → Tables → Stmt → Tables
settle_served d None p m ts stmt = followed (refusal p m ts stmt) (settled d p ts stmt) ts
settle_served d (Some a) p m ts stmt = option_map_or (access_settled ts a.table) (gone d a) ts

-- any other statement that is refused changes nothing
abbrev pub settle : Draws → Public → (m : ℕ) → Tables → Stmt → Tables
settle d p m ts stmt = settle_served d (accessed_now p m ts stmt) p m ts stmt

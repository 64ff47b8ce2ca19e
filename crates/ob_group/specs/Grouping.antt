-- Groups of the rows so far.
use Rattle.std.specs.Prelude.{ℕ, ℤ, Bool, List, [], ◌∷◌, map, fold, Option, None, Some, if◌then◌else◌}
use Rattle.ob_base.specs.declared.shown.Shown.{Shown}
use Rattle.ob_row.specs.declared.aggregate.Agg.{Agg}
use Rattle.ob_row.specs.declared.aggregate.Agg.TheVariants.{CountAll}
use Rattle.ob_row.specs.declared.aggregate.Item.{Item}
use Rattle.ob_row.specs.declared.aggregate.Item.TheVariants.{Key, Agg as AggItem}
use Rattle.ob_row.specs.declared.cell.Cell.{Cell}
use Rattle.ob_row.specs.Rows.{Row, cell_at, options_eq}
use Rattle.ob_row.specs.Slots.{Slots}
use Rattle.ob_row.specs.Totals.{shown_at}
use Rattle.ob_group.specs.Running.{Sums, starts, grown_all, total_shown}

-- a group's key, and a total for each item
abbrev pub Group : Type 0
Group = Option Cell × Sums

-- what is added up for an item; for a key, which asks for nothing, the rows are counted
abbrev pub agg_of : Item → Agg
agg_of Key = CountAll
agg_of (AggItem agg) = agg

abbrev pub aggs_of : List Item → List Agg
aggs_of items = map agg_of items

-- the group with one more row
abbrev pub group_with : List Agg → Row → Group → Group
group_with aggs row g = (g.0, grown_all aggs row g.1)

-- the group of one row
abbrev pub group_by : ℕ → List Agg → Row → Group
group_by key aggs row = (cell_at row key, grown_all aggs row (starts aggs))

-- the row goes to the group with its key, or is a new one after the others
abbrev pub put_row : ℕ → List Agg → Row → List Group → List Group
put_row key aggs row [] = group_by key aggs row ∷ []
put_row key aggs row (g ∷ gs) = if options_eq g.0 (cell_at row key) then group_with aggs row g ∷ gs else g ∷ put_row key aggs row gs

-- the row of a slot does, if it has one that passes the test
abbrev pub put_slot : (Row → Bool) → ℕ → List Agg → List Group → Option Row → List Group
put_slot p key aggs gs None = gs
put_slot p key aggs gs (Some row) = if p row then put_row key aggs row gs else gs

-- the groups with the rows of these slots
abbrev pub groups_with : (Row → Bool) → ℕ → List Agg → List Group → Slots → List Group
groups_with p key aggs gs slots = fold (put_slot p key aggs) gs slots

abbrev pub groups_of : (Row → Bool) → ℕ → List Item → Slots → List Group
groups_of p key items slots = groups_with p key (aggs_of items) [] slots

-- the cells of a group's row of the answer
abbrev pub item_cell : Option Cell → Item → Option ℤ → Shown
item_cell key Key total = shown_at key
item_cell key (AggItem agg) total = total_shown total

abbrev pub item_cells : Option Cell → List Item → Sums → List Shown
item_cells key [] totals = []
item_cells key (item ∷ items) [] = []
item_cells key (item ∷ items) (total ∷ totals) = item_cell key item total ∷ item_cells key items totals

abbrev pub group_shown : List Item → Group → List Shown
group_shown items g = item_cells g.0 items g.1

abbrev pub groups_shown : List Item → List Group → List (List Shown)
groups_shown items gs = map (group_shown items) gs

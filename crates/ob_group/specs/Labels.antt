-- The labels of an answer with aggregates or groups.
use Rattle.std.specs.Prelude.{ℕ, false, List, [], ◌∷◌, map, codes, slice_get}
use Rattle.std.specs.Option.{option_map_or}
use Rattle.ob_base.specs.Events.{Event, Head}
use Rattle.ob_base.specs.Labels.{column_label, call_label}
use Rattle.ob_base.specs.Schemas.{Columns}
use Rattle.ob_row.specs.declared.aggregate.Agg.{Agg}
use Rattle.ob_row.specs.declared.aggregate.Agg.TheVariants.{CountAll, Count, Sum, Min, Max}
use Rattle.ob_row.specs.declared.aggregate.Item.{Item}
use Rattle.ob_row.specs.declared.aggregate.Item.TheVariants.{Key, Agg as AggItem}

-- the label of the column at a place
abbrev pub label_at : Columns → ℕ → List ℕ
label_at columns i = option_map_or (column_label false) (slice_get columns i) []

-- an aggregate by its name and its column's
abbrev pub agg_label : Columns → Agg → List ℕ
agg_label columns CountAll = codes "COUNT(*)"
agg_label columns (Count i) = call_label (codes "COUNT") (label_at columns i)
agg_label columns (Sum i) = call_label (codes "SUM") (label_at columns i)
agg_label columns (Min i) = call_label (codes "MIN") (label_at columns i)
agg_label columns (Max i) = call_label (codes "MAX") (label_at columns i)

abbrev pub item_label : Columns → (key : ℕ) → Item → List ℕ
item_label columns key Key = label_at columns key
item_label columns key (AggItem agg) = agg_label columns agg

-- the header of a grouped answer
abbrev pub header : Columns → (key : ℕ) → List Item → List Event
header columns key items = Head (map (item_label columns key) items) ∷ []

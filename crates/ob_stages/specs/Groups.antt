-- A SELECT with GROUP BY in flight: the groups of what it has read.
use Rattle.std.specs.Prelude.{◌≡◌, ◌<◌, ℕ, false, List, [], Some, map, take, length}
use Rattle.std.proofs.Common.{refl, ◌∙◌, subst, arith}
use Rattle.ob_base.specs.declared.config.Public.{Public}
use Rattle.ob_base.specs.declared.skeleton.ColumnName.{ColumnName}
use Rattle.ob_base.specs.Events.{Event}
use Rattle.ob_row.specs.declared.aggregate.Item.{Item}
use Rattle.ob_row.specs.Condition.{Condition}
use Rattle.ob_row.specs.Truth.{is_true}
use Rattle.ob_vault.specs.State.{World}
use Rattle.ob_vault.specs.Rows.{SameSizes, Wide}
use Rattle.ob_vault.specs.Tied.{Ready}
use Rattle.ob_flat.specs.declared.flat.Flat.{Flat}
use Rattle.ob_flat.specs.Scans.{MayScan}
use Rattle.ob_group.specs.Steps.{AreGathered}
use Rattle.ob_group.proofs.Gathering.{gathered_lasts}
use Rattle.ob_names.specs.Names.{place_of}
use Rattle.ob_mean.specs.Step.{item_of}
use Rattle.ob_sql.specs.declared.stmt.SelectTotals.{SelectTotals}
use Rattle.ob_inflight.specs.Leaving.{Leaves}
use Rattle.ob_stages.specs.declared.groups.GroupsFlight.{GroupsFlight}
use Rattle.ob_stages.specs.Reading.{FitsTable, IsReading, NeedsTable, StartsReading, places_of}
use Rattle.ob_stages.specs.ReadingLaws.{reading_frames, table_refits}

-- the items of a group's row
abbrev pub items_of : GroupsFlight → List Item
items_of f = take (length f.reading.select.now.items) f.items

-- it groups by this column of its table
pub record IsKeyed (f : GroupsFlight) : Type 0 where
  pub key : ColumnName
  pub by_key : f.reading.select.now.group ≡ Some key
  pub place : f.key ≡ place_of key f.reading.flat.schema
  pub items : items_of f ≡ map (item_of f.reading.flat.schema) f.reading.select.now.items

-- how it and its table stand: unless the store failed it, the groups of the blocks that it read are in its share
pub record IsGrouping (f : GroupsFlight) (kept : List (List ℕ)) (events : List Event) (w : World)
    : Type 0 where
  pub reading : IsReading f.reading events w
  pub keyed : IsKeyed f
  pub places : length kept ≡ places_of f.reading
  pub gathered : f.reading.failed ≡ false
      → AreGathered f.reading.public.now.pack f.reading.flat (is_true f.reading.pred) f.key
      (items_of f) f.reading.asked f.n kept f.buckets w

-- a row of its share for each group that it may have
pub record FitsGroups (f : GroupsFlight) (rows kept : List (List ℕ)) : Type 0 where
  pub table : FitsTable f.reading rows
  pub places : length kept ≡ places_of f.reading
  pub wide : Wide 768 kept

-- how it starts, over each table that may be read, and each share that fits
pub record StartsGroups (p : Public) (n : ℕ) (s : SelectTotals) (t : Flat) (c : Condition)
    (f : GroupsFlight) : Type 0 where
  pub starts : StartsReading p n s t c f.reading
  pub holds : (w : World) (rows kept : List (List ℕ)) → Ready w → MayScan p.pack t w
      → FitsGroups f rows kept → IsGrouping f kept [] w

pub groups_frames : (f : GroupsFlight) (kept : List (List ℕ)) (events : List Event) (w v : World) → Leaves (NeedsTable f.reading) w v → IsGrouping f kept events w → IsGrouping f kept events v
groups_frames f kept events w v leaves is = record {
  reading = reading_frames f.reading events w v leaves is.reading;
  keyed = is.keyed;
  places = is.places;
  gathered = λ whole.
      gathered_lasts f.reading.public.now.pack f.reading.flat (is_true f.reading.pred) f.key (items_of f) f.reading.asked f.n kept f.buckets w (is.gathered whole) _ v leaves (λ no. no refl);
}

wide_again : (a b : List (List ℕ)) → SameSizes a b → Wide 768 a → Wide 768 b
wide_again a b same wide = record {
  wide = λ j below. let size = same.sizes j in let most = wide.wide j (subst (λ (n : ℕ). j < n) same.count below) in omega (arith, size, most);
}

pub groups_refits : (f : GroupsFlight) (rows kept more own : List (List ℕ)) → SameSizes rows more → SameSizes kept own → FitsGroups f rows kept → FitsGroups f more own
groups_refits f rows kept more own same as_many fits = record {
  table = table_refits f.reading rows more same fits.table;
  places = as_many.count ∙ fits.places;
  wide = wide_again kept own as_many fits.wide;
}

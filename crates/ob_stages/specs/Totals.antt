-- A SELECT of aggregates in flight: the sums of what it has read.
use Rattle.std.specs.Prelude.{◌≡◌, ℕ, false, List, [], ◌∷◌, ◌++◌, None, map, take, length, refl}
use Rattle.ob_base.specs.declared.config.Public.{Public}
use Rattle.ob_base.specs.Events.{Event, Close}
use Rattle.ob_row.specs.declared.aggregate.Agg.{Agg}
use Rattle.ob_row.specs.Condition.{Condition}
use Rattle.ob_row.specs.Truth.{is_true}
use Rattle.ob_vault.specs.State.{World}
use Rattle.ob_vault.specs.Tied.{Ready}
use Rattle.ob_flat.specs.declared.flat.Flat.{Flat}
use Rattle.ob_flat.specs.Scans.{MayScan}
use Rattle.ob_group.specs.Steps.{AreSummed, totals_events}
use Rattle.ob_group.proofs.Summing.{summed_lasts}
use Rattle.ob_sql.specs.declared.stmt.SelectTotals.{SelectTotals}
use Rattle.ob_inflight.specs.Leaving.{Leaves}
use Rattle.ob_stages.specs.declared.totals.TotalsFlight.{TotalsFlight}
use Rattle.ob_stages.specs.Reading.{IsReading, NeedsTable, StartsReading}
use Rattle.ob_stages.specs.ReadingLaws.{reading_frames}
use Rattle.ob_stages.specs.Totalling.{agg_at}

-- its aggregates
abbrev pub aggs_of : TotalsFlight → List Agg
aggs_of f = take (length f.reading.select.now.items) f.aggs

-- the events of its answer
abbrev pub row_events : TotalsFlight → List Event
row_events f = totals_events f.reading.flat.schema (aggs_of f) f.sums ++ Close 1 ∷ []

-- how it and its table stand: unless the store failed it, its sums are those of the blocks that it read
pub record IsTotalling (f : TotalsFlight) (events : List Event) (w : World) : Type 0 where
  pub reading : IsReading f.reading events w
  pub ungrouped : f.reading.select.now.group ≡ None
  pub aggs : aggs_of f ≡ map (agg_at f.reading.flat.schema) f.reading.select.now.items
  pub summed : f.reading.failed ≡ false
      → AreSummed f.reading.public.now.pack f.reading.flat (is_true f.reading.pred) (aggs_of f)
      f.reading.asked f.sums w

-- how it starts, over each table that may be read
pub record StartsTotals (p : Public) (n : ℕ) (s : SelectTotals) (t : Flat) (c : Condition)
    (f : TotalsFlight) : Type 0 where
  pub starts : StartsReading p n s t c f.reading
  pub holds : (w : World) → Ready w → MayScan p.pack t w → IsTotalling f [] w

pub totals_frames : (f : TotalsFlight) (events : List Event) (w v : World) → Leaves (NeedsTable f.reading) w v → IsTotalling f events w → IsTotalling f events v
totals_frames f events w v leaves is = record {
  reading = reading_frames f.reading events w v leaves is.reading;
  ungrouped = is.ungrouped;
  aggs = is.aggs;
  summed = λ whole.
      summed_lasts f.reading.public.now.pack f.reading.flat (is_true f.reading.pred) (aggs_of f) f.reading.asked f.sums w (is.summed whole) _ v leaves (λ no. no refl);
}

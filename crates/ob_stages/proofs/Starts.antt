-- Totals and groups in flight of which nothing was asked.
use Rattle.std.proofs.Common.{◌≡◌, ◌≤◌, ℕ, List, map, take, length, Some, None, sym, ◌∙◌, ap, subst, arith}
use Rattle.ob_base.specs.declared.config.Public.{Public}
use Rattle.ob_base.specs.declared.skeleton.ColumnName.{ColumnName}
use Rattle.ob_base.specs.Limits.{buffered}
use Rattle.ob_base.specs.Schemas.{kind_width}
use Rattle.ob_order.specs.Buckets.{AreBucketed}
use Rattle.ob_row.specs.declared.aggregate.Agg.{Agg}
use Rattle.ob_row.specs.Condition.{Condition}
use Rattle.ob_row.specs.Spelling.{kind_at}
use Rattle.ob_row.specs.Truth.{is_true}
use Rattle.ob_script.specs.Flights.{flight_public}
use Rattle.ob_flat.specs.declared.flat.Flat.{Flat}
use Rattle.ob_group.specs.Running.{AreUpTo, starts}
use Rattle.ob_group.specs.Steps.{AreGathered, AreSummed}
use Rattle.ob_group.proofs.Gathering.{gathered_none}
use Rattle.ob_group.proofs.Summing.{summed_none}
use Rattle.ob_names.specs.Names.{place_of}
use Rattle.ob_mean.specs.Step.{item_of}
use Rattle.ob_sql.specs.declared.stmt.SelectTotals.{SelectTotals}
use Rattle.ob_stages.specs.declared.groups.GroupsFlight.{GroupsFlight}
use Rattle.ob_stages.specs.declared.totals.TotalsFlight.{TotalsFlight}
use Rattle.ob_stages.specs.Groups.{StartsGroups, items_of}
use Rattle.ob_stages.specs.Reading.{MayBoard, StartsReading}
use Rattle.ob_stages.specs.Totalling.{agg_at}
use Rattle.ob_stages.specs.Totals.{StartsTotals, aggs_of}
use Rattle.ob_stages.proofs.GroupsEnds.{buffered_few, share_few}
use Rattle.ob_stages.proofs.ReadingStarts.{starts_places, starts_reading, starts_table}

module _ (p : Public) (n : ℕ) (s : SelectTotals) (t : Flat) (c : Condition) (may : MayBoard p n s t c) where
  pub totals_start : (f : TotalsFlight) → StartsReading p n s t c f.reading → s.group ≡ None
      → take (length s.items) f.aggs ≡ map (agg_at t.schema) s.items → AreUpTo 0 f.sums → take (length (take (length s.items) f.aggs)) f.sums ≡ starts (take (length s.items) f.aggs)
      → StartsTotals p n s t c f
  totals_start f is ungrouped aggs few none = record {
    starts = is;
    holds = λ w ready table.
        let r = f.reading in
        let pack = r.public.now.pack in
        let mine : take (length s.items) f.aggs ≡ aggs_of f = λ i. take (length (sym is.select i).items) f.aggs in
        record {
          reading = starts_reading p n s t c r is may w ready table;
          ungrouped = ap (λ (q : SelectTotals). q.group) is.select ∙ ungrouped;
          aggs = sym mine ∙ aggs ∙ (λ i. map (agg_at (sym is.flat i).schema) (sym is.select i).items);
          summed = λ _.
              subst (λ (k : ℕ). AreSummed pack r.flat (is_true r.pred) (aggs_of f) k f.sums w) (sym is.asked)
              (summed_none pack r.flat (is_true r.pred) (aggs_of f) f.sums w (starts_table p n s t c r is w table) few
              (subst (λ (l : List Agg). take (length l) f.sums ≡ starts l) mine none));
        };
  }

  pub groups_start : (f : GroupsFlight) (key : ColumnName) → StartsReading p n s t c f.reading → s.group ≡ Some key → f.key ≡ place_of key t.schema
      → take (length s.items) f.items ≡ map (item_of t.schema) s.items → f.n ≡ 0 → buffered (flight_public n p).pack (flight_public n p).buffer ≤ f.buckets.most
      → ((at len : ℕ) (rows : List (List ℕ)) → AreBucketed at len 0 rows f.buckets) → StartsGroups p n s t c f
  groups_start f key is by_key place items none most empty = record {
    starts = is;
    holds = λ w rows kept ready table fits.
        let r = f.reading in
        let pack = r.public.now.pack in
        let size = fits.places ∙ starts_places p n s t c r is in
        let share = buffered_few (flight_public n p).pack _ (share_few p.buffer n may.rows) in
        record {
          reading = starts_reading p n s t c r is may w ready table;
          keyed = record {
            key = key;
            by_key = ap (λ (q : SelectTotals). q.group) is.select ∙ by_key;
            place = place ∙ ap (λ (g : Flat). place_of key g.schema) (sym is.flat);
            items = (λ i. take (length (is.select i).items) f.items) ∙ items ∙ (λ i. map (item_of (sym is.flat i).schema) (sym is.select i).items);
          };
          places = fits.places;
          gathered = λ _.
              subst (λ (k : ℕ). AreGathered pack r.flat (is_true r.pred) f.key (items_of f) k f.n kept f.buckets w) (sym is.asked)
              (subst (λ (k : ℕ). AreGathered pack r.flat (is_true r.pred) f.key (items_of f) 0 k kept f.buckets w) (sym none)
              (gathered_none pack r.flat (is_true r.pred) f.key (items_of f) kept f.buckets w (starts_table p n s t c r is w table)
              (record { wide = fits.wide; few = omega (arith, size, share) }) (omega (arith, size, most)) (empty 0 (kind_width (kind_at r.flat.schema f.key)) kept)));
        };
  }

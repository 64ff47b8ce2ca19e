-- A SELECT of totals before its flight, and a statement that is refused before any access.
use Rattle.ob_exec.proofs.Words.{allowed, ap, append-nil, arith, blocks_few, Bool, buffered, Columns, Condition, count_part, early_of, extent_of, FitShares, flight_public, Heading, heading_found, headings_of, IsAboard, IsFound, IsSized, limits_of, List, MayFlyBy, None, Option, option_map_or, Public, refl, Stored, subst, sym, where_at, World, ℕ, [], ◌++◌, ◌-◌, ◌^◌, ◌∙◌, ◌≡◌, ◌≤◌}
use Rattle.ob_base.specs.declared.schema.Shape.TheVariants.{Flat as FlatShape}
use Rattle.ob_flat.specs.Scans.{MayScan}
use Rattle.ob_flat.specs.Words.{FitBlock, blocks_of}
use Rattle.ob_flat.specs.declared.flat.Flat.{Flat}
use Rattle.ob_mean.specs.Step.{totals_columns}
use Rattle.ob_script.specs.Script.{blocks_of as script_blocks}
use Rattle.ob_sql.specs.declared.stmt.SelectTotals.{SelectTotals}
use Rattle.ob_sql.specs.declared.stmt.Stmt.TheVariants.{SelectTotals as TotalsStmt}
use Rattle.ob_stages.specs.Groups.{FitsGroups, StartsGroups}
use Rattle.ob_stages.specs.Reading.{FitsTable, MayBoard, StartsReading, reading_progress, reads_left}
use Rattle.ob_stages.specs.Totalling.{TotalsFit}
use Rattle.ob_stages.specs.Totals.{StartsTotals}
use Rattle.ob_stages.specs.declared.flight.Flight.TheVariants.{Totals, Groups}
use Rattle.ob_stages.specs.declared.groups.GroupsFlight.{GroupsFlight}
use Rattle.ob_stages.specs.declared.reading.Reading.{Reading}
use Rattle.ob_stages.specs.declared.totals.TotalsFlight.{TotalsFlight}
use Rattle.ob_stages.proofs.ReadingStarts.{starts_places}
use Rattle.ob_stages.proofs.TotalsLemmas.{totals_fit}
use Rattle.ob_tables.proofs.FoundLemmas.{shape_found}
use Rattle.ob_tables.proofs.TableLemmas.{stored_found}
use Rattle.ob_exec.specs.Boarding.{ReadsFrom, seen_if, share_of}
use Rattle.ob_exec.proofs.BoardOne.{block_fit, flat_sized, wide_less}

module _ (late : Bool) (n : ℕ) (p : Public) (by : MayFlyBy n p) (s : SelectTotals) (free : early_of late p (TotalsStmt s) ≡ None) (place : ℕ) (flat : Flat) (found : IsFound s.table place flat p.tables) where
  shape : found.table.heading.shape ≡ FlatShape
  shape = shape_found s.table p.tables place found.table by.names found.here.get found.here.named (allowed late (limits_of p) (headings_of p.tables) (TotalsStmt s) free).keyed

  sized : IsSized flat.schema flat.capacity
  sized = flat_sized n p by s.table place flat found

  columns_are : totals_columns s (headings_of p.tables) ≡ flat.schema
  columns_are =
      ap (λ (o : Option Heading). option_map_or (λ (h : Heading). h.schema) o []) (heading_found s.table p.tables place found.table by.names found.here.get found.here.named)
      ∙ sym (ap (λ (f : Flat). f.schema) found.is)

  -- what is public says what it reads
  pub totals_board : (condition : Condition) (columns : Columns) → columns ≡ flat.schema → condition ≡ where_at s.cond (columns ++ []) → MayBoard p n s flat condition
  totals_board condition columns is meant = record {
    pack = by.settings.pack_least;
    rows = by.settings.most;
    script = λ seen.
        ap (λ (o : Option (Stored ℕ)). option_map_or (λ (u : Stored ℕ). count_part u.held (script_blocks (flight_public n p) (extent_of u))) o [])
        (stored_found s.table p.tables place found.table by.names found.here.get found.here.named)
        ∙ (λ i. count_part (sym found.is i).region (blocks_of p.pack (sym found.is i)));
    meant = meant ∙ ap (where_at s.cond) (append-nil columns ∙ is);
    items = subst (λ (cs : Columns). TotalsFit cs s) columns_are (totals_fit late (limits_of p) (headings_of p.tables) s free);
  }

  -- ---- nothing is asked of it
  module _ (condition : Condition) (r : Reading) (starts : StartsReading p n s flat condition r) where
    booked_few : reads_left r.failed r.blocks r.asked ≤ 2 ^ 24
    booked_few =
        let some = by.settings.pack_least in
        let few = blocks_few p.pack flat.capacity some in
        let most = sized.most in
        let blocks = starts.blocks in
        let left : reads_left r.failed r.blocks r.asked ≡ r.blocks - r.asked = ap (λ (b : Bool). reads_left b r.blocks r.asked) starts.failed in
        omega (arith, few, most, blocks, left)

    reads_from : ReadsFrom p (TotalsStmt s) r.flat
    reads_from = record {
      name = s.table;
      place = place;
      reads = refl;
      found = record {
        table = found.table;
        here = record { get = found.here.get; named = found.here.named };
        shape = shape;
        is = starts.flat ∙ found.is;
      };
    }

    table_fits : (rows kept : List (List ℕ)) → FitShares n p rows kept → FitsTable r rows
    table_fits rows kept fit =
        record {
          count = fit.block ∙ ap (λ (x : Public). x.pack) (sym starts.public);
          fit = subst (λ (f : Flat). FitBlock f.schema rows) (sym starts.flat) (block_fit n p by flat.schema sized.wide rows kept fit);
        }

    scans : (w : World) → MayScan p.pack r.flat w → MayScan p.pack flat w
    scans w may = subst (λ (f : Flat). MayScan p.pack f w) starts.flat may

  pub totals_aboard : (condition : Condition) (f : TotalsFlight) → StartsTotals p n s flat condition f → IsAboard late n p (TotalsStmt s) (Totals f)
  totals_aboard condition f is =
      let few = booked_few condition f.reading is.starts in
      record {
        is = ap (λ (q : SelectTotals). TotalsStmt q) is.starts.select;
        public = λ i. flight_public (is.starts.flown i) (is.starts.public i);
        refusal = sym free;
        shown = (λ i. (reading_progress (record f.reading { failed = is.starts.failed i })).served.seen) ∙ sym (ap seen_if free);
        asked = is.starts.asked;
        region = refl;
        failed = is.starts.failed;
        outcome = is.starts.outcome;
        left = λ left. free;
        few = omega (arith, few);
        most = omega (arith, few);
        table = λ none. reads_from condition f.reading is.starts;
        fits = λ rows kept fit. table_fits condition f.reading is.starts rows kept fit;
        holds = λ w rows kept ready fit scan. is.holds w ready (scans condition f.reading is.starts w (scan free));
      }

  groups_fit : (condition : Condition) (f : GroupsFlight) → StartsReading p n s flat condition f.reading → (rows kept : List (List ℕ)) → FitShares n p rows kept → FitsGroups f rows kept
  groups_fit condition f starts rows kept fit =
      let turned : share_of n p ≡ buffered (flight_public n p).pack (flight_public n p).buffer = grind arith in
      record {
        table = table_fits condition f.reading starts rows kept fit;
        places = fit.share ∙ turned ∙ sym (starts_places p n s flat condition f.reading starts);
        wide = wide_less 768 1024 kept (omega arith) fit.share_wide;
      }

  pub groups_aboard : (condition : Condition) (f : GroupsFlight) → StartsGroups p n s flat condition f → IsAboard late n p (TotalsStmt s) (Groups f)
  groups_aboard condition f is =
      let few = booked_few condition f.reading is.starts in
      record {
        is = ap (λ (q : SelectTotals). TotalsStmt q) is.starts.select;
        public = λ i. flight_public (is.starts.flown i) (is.starts.public i);
        refusal = sym free;
        shown = (λ i. (reading_progress (record f.reading { failed = is.starts.failed i })).served.seen) ∙ sym (ap seen_if free);
        asked = is.starts.asked;
        region = refl;
        failed = is.starts.failed;
        outcome = is.starts.outcome;
        left = λ left. free;
        few = omega (arith, few);
        most = omega (arith, few);
        table = λ none. reads_from condition f.reading is.starts;
        fits = λ rows kept fit. groups_fit condition f is.starts rows kept fit;
        holds = λ w rows kept ready fit scan. is.holds w rows kept ready (scans condition f.reading is.starts w (scan free)) (groups_fit condition f is.starts rows kept fit);
      }

-- A SELECT of the rows of a table before its flight.
use Rattle.ob_exec.proofs.Words.{ap, append-nil, arith, Bool, Columns, Condition, early_of, false, FitShares, headings_of, is_access, IsAboard, IsFound, IsSized, length, limits_of, List, MayFlyBy, None, Option, printed_places, Public, refl, RowsAt, select_columns, Selection, Some, Source, source_tables, subst, sym, where_at, width, ℕ, [], ◌++◌, ◌^◌, ◌∙◌, ◌≡◌, ◌≤◌}
use Rattle.ob_base.specs.declared.schema.Shape.TheVariants.{Flat as FlatShape}
use Rattle.ob_base.specs.declared.skeleton.Skeleton.TheVariants.{Rows as RowsSkeleton}
use Rattle.ob_base.specs.declared.skeleton.Source.TheVariants.{Table as OneTable}
use Rattle.ob_emit.specs.Emitting.{AreColumns}
use Rattle.ob_flat.specs.Scans.{MayScan}
use Rattle.ob_flat.specs.declared.flat.Flat.{Flat}
use Rattle.ob_mean.specs.Refusals.{listed}
use Rattle.ob_sql.specs.declared.stmt.SelectRows.{SelectRows}
use Rattle.ob_sql.specs.declared.stmt.Stmt.TheVariants.{SelectRows as RowsStmt}
use Rattle.ob_stages.specs.RowsHolds.{BoardsRows, FitRows, RowsHold}
use Rattle.ob_stages.specs.RowsStates.{IsFlown, IsOf, boarded_rows, known_by, rows_at, rows_skeleton, selection_by, table_blocks, whole_length}
use Rattle.ob_stages.specs.declared.flight.Flight.TheVariants.{Rows}
use Rattle.ob_stages.specs.declared.rows.RowsFlight.{RowsFlight}
use Rattle.ob_stages.proofs.RowsGoing.{whole_most}
use Rattle.ob_tables.proofs.SourceColumns.{listed_few}
use Rattle.ob_tables.proofs.TableLemmas.{stored_found}
use Rattle.ob_verdict.proofs.AcceptedProof.{places_fit}
use Rattle.ob_exec.specs.Boarding.{seen_if}
use Rattle.ob_exec.proofs.BoardOne.{block_fit, flat_sized, flight_settings, wide_less}
use Rattle.ob_exec.proofs.RowsOfTable.{schema_of, shape_of}

module _ (late : Bool) (n : ℕ) (p : Public) (by : MayFlyBy n p) (select : SelectRows) (name : List ℕ) (source : select.source ≡ OneTable name) (free : early_of late p (RowsStmt select) ≡ None)
    (unkeyed : is_access p (rows_skeleton select) ≡ false) (place : ℕ) (flat : Flat) (found : IsFound name place flat p.tables) where
  shape : found.table.heading.shape ≡ FlatShape
  shape = shape_of p place found.table name select by.names found.here.get found.here.named source unkeyed

  schema : flat.schema ≡ select_columns select (headings_of p.tables)
  schema = ap (λ (f : Flat). f.schema) found.is ∙ schema_of p place found.table name select by.names found.here.get found.here.named source unkeyed

  pub sized : IsSized flat.schema flat.capacity
  sized = flat_sized n p by name place flat found

  pub list_few : length (listed select) ≤ 32
  list_few = (places_fit late (limits_of p) (headings_of p.tables) select free).few

  module _ (condition : Condition) (cols : List ℕ) (columns : Columns) (columns_are : columns ≡ flat.schema) (condition_is : condition ≡ where_at select.cond (columns ++ []))
      (cols_are : cols ≡ printed_places select (columns ++ [])) where
    abbrev q : Selection
    q = selection_by n p flat condition cols

    whole : columns ++ [] ≡ select_columns select (headings_of p.tables)
    whole = append-nil columns ∙ columns_are ∙ schema

    pub rows_own : IsOf q select
    rows_own = record { condition = condition_is ∙ ap (where_at select.cond) whole; cols = cols_are ∙ ap (printed_places select) whole }

    columns_within : AreColumns flat.schema cols
    columns_within =
        let few = sized.few in
        subst (λ (cs : Columns). AreColumns cs cols) (sym schema)
        (subst (λ (l : List ℕ). AreColumns (select_columns select (headings_of p.tables)) l) (sym rows_own.cols)
        (record {
          few = listed_few select.list (select_columns select (headings_of p.tables)) list_few (subst (λ (cs : Columns). length cs ≤ 32) schema few);
          within = (places_fit late (limits_of p) (headings_of p.tables) select free).printed;
        }))

    pub rows_flown : IsFlown q (rows_skeleton select)
    rows_flown = record {
      settings = flight_settings n p by;
      planner = refl;
      size = sized;
      columns = columns_within;
      reads = record {
        name = name;
        columns = select.list;
        is = ap (λ (x : Source). RowsSkeleton x select.list) source;
        table = record { heading = found.table.heading; held = found.table.region };
        found = stored_found name p.tables place found.table by.names found.here.get found.here.named;
        flat = shape;
        region = ap (λ (f : Flat). f.region) (sym found.is);
        slots = ap (λ (f : Flat). f.capacity) (sym found.is);
        schema = ap (λ (f : Flat). f.schema) (sym found.is);
      };
    }

    -- ---- nothing is asked of it
    booked_few : known_by p.pad (table_blocks q) (whole_length q 0) ≤ 2 ^ 59
    booked_few =
        let all = whole_most q (rows_skeleton select) rows_flown 0 (none_taken p.pad) in
        known_few p.pad (table_blocks q) (whole_length q 0) (omega arith) (omega (arith, all))
      where
        known_few : (pad : Option ℕ) (c all : ℕ) → c ≤ all → all ≤ 2 ^ 59 → known_by pad c all ≤ 2 ^ 59
        known_few None c all less most = omega (arith, less, most)
        known_few (Some pad) c all less most = most

        none_taken : (pad : Option ℕ) → Rattle.ob_stages.specs.RowsStates.taken_by pad flat.capacity 0 ≤ flat.capacity
        none_taken None = omega arith
        none_taken (Some pad) = omega arith

    share_fits : (rows kept : List (List ℕ)) → FitShares n p rows kept → FitRows q rows kept
    share_fits rows kept fit =
        let wide = sized.wide in
        record {
          block = record { count = fit.block; fit = block_fit n p by flat.schema wide rows kept fit };
          share = record { space = fit.share; wide = wide_less (width flat.schema) 1024 kept wide fit.share_wide };
        }

    pub rows_aboard : (f : RowsFlight) → rows_at f ≡ boarded_rows q n select → BoardsRows q (RowsHold f) → IsAboard late n p (RowsStmt select) (Rows f)
    rows_aboard f is boards = record {
      is = ap (λ (g : RowsAt). RowsStmt g.select) is;
      public = ap (λ (g : RowsAt). g.q.public) is;
      refusal = sym free;
      shown = ap (λ (g : RowsAt). g.seen) is ∙ sym (ap seen_if free);
      asked = ap (λ (g : RowsAt). g.asked) is;
      region = ap (λ (g : RowsAt). g.region) is;
      failed = ap (λ (g : RowsAt). g.failed) is;
      outcome = ap (λ (g : RowsAt). g.outcome) is;
      left = λ left. free;
      few = subst (λ (m : ℕ). m ≤ 2 ^ 59) (ap (λ (g : RowsAt). g.booked) (sym is)) booked_few;
      most = omega arith;
      table = λ none. record {
        name = name;
        place = place;
        reads = ap (λ (x : Source). source_tables x) source;
        found = record {
          table = found.table;
          here = record { get = found.here.get; named = found.here.named };
          shape = shape;
          is = ap (λ (g : RowsAt). g.q.flat) is ∙ found.is;
        };
      };
      fits = λ rows kept fit. subst (λ (g : RowsAt). FitRows g.q rows kept) (sym is) (share_fits rows kept fit);
      holds = λ w rows kept ready fit scan. boards w ready (subst (λ (g : RowsAt). MayScan p.pack g.q.flat w) is (scan free)) kept;
    }

-- What is known of the source of a SELECT of rows, where it is not refused before any access.
use Rattle.ob_exec.proofs.Words.{Agrees, ap, AreInPlace, count_of, database, Engine, false, Heading, headings, headings_of, is_access, is_late, limits_of, List, None, refl, refusal_now, RevState, rows, Same, skeleton, some_buffered, Source, source_rows, source_slots, StoreState, subst, sym, Tables, ◌∙◌, ◌≡◌}
use Rattle.ob_base.specs.declared.skeleton.Source.TheVariants.{Table as OneTable, Join}
use Rattle.ob_mean.specs.Refusals.{joins_off_key_at}
use Rattle.ob_mean.proofs.EarlyLemmas.{Allowed}
use Rattle.ob_sql.specs.declared.stmt.SelectRows.{SelectRows}
use Rattle.ob_sql.specs.declared.stmt.Stmt.TheVariants.{SelectRows as RowsStmt}
use Rattle.ob_exec.proofs.RowsStops.{IsSource}
use Rattle.ob_exec.proofs.RowsSource.{join_same, table_same}
use Rattle.ob_tables.proofs.SourceColumns.{fits, labelled_is}

module _ {R : Type 0} (state : R → RevState) (old : Engine R) (s : StoreState) (select : SelectRows) (agrees : Agrees state old s)
    (free : refusal_now old.public (count_of old s) (RowsStmt select) ≡ None) where
  can : Allowed (is_late (count_of old s)) (limits_of old.public) (headings_of old.public.tables) (RowsStmt select)
  can = fits state old s select agrees free

  same : (source : Source) → select.source ≡ source → (tables : Tables) → AreInPlace old.public.stash tables → headings tables ≡ headings_of old.public.tables
      → Same (source_rows source (database tables)) (rows (source_slots old.public source tables))
  same (OneTable name) is tables in_place headed = table_same name tables
  same (Join a b on equals) is tables in_place headed =
      join_same old.public a b on equals tables agrees.settings.pack_least (some_buffered old.public.pack old.public.buffer agrees.settings.pack_least agrees.settings.blocks) in_place
      (subst (λ (hs : List Heading). joins_off_key_at hs (Join a b on equals) ≡ false) (sym headed)
      (sym (ap (joins_off_key_at (headings_of old.public.tables)) is) ∙ can.joins))

  pub source_is : is_access old.public (skeleton (RowsStmt select)) ≡ false → IsSource old.public select
  source_is none = record {
    unkeyed = none;
    labelled = labelled_is state old s select agrees free;
    rows_are = λ tables in_place headed. same select.source refl tables in_place headed;
  }

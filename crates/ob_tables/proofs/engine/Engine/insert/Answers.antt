use Rattle.ob_tables.proofs.Words.{ap, Columns, count_of, Engine, FitsColumns, headings_of, insert_part, inserted_as, IsCell, limits_of, Ok, Outcome, refl, slice_get_within, subst, sym, Whole, ◌-◌, ◌∙◌, ◌≡◌}
use Rattle.std.specs.Prelude.{All}
use Rattle.ob_flat.specs.declared.flat.Flat.{Flat}
use Rattle.ob_row.specs.Rows.{Row}
use Rattle.ob_mutate.specs.Inserting.{insert_answer, slots_after}
use Rattle.ob_sql.specs.declared.stmt.Stmt.TheVariants.{Insert}
use Rattle.ob_mean.specs.Step.{new_row}
use Rattle.ob_mean.specs.Verdict.{ended as seen_to}
use Rattle.ob_mean.proofs.InsertLemmas.{insert_fits}
use Rattle.ob_tables.proofs.FoundLemmas.{heading_found, shape_found}
use Rattle.ob_tables.proofs.InsertLemmas.{insert_alters}
use Rattle.ob_tables.proofs.MutateLemmas.{mutated, unmutated}
use Rattle.ob_tables.proofs.ReadLemmas.{read_flat}
use Rattle.ob_tables.proofs.RunLemmas.{opens_block, rests_refl}
use Rattle.ob_tables.proofs.SilentLemmas.{serves_as, unasked}
use Rattle.ob_tables.proofs.engine.Engine.insert.Goals as goal

pub insert-result-requires-clause-cells : goal.insert-result-requires-clause-cells
insert-result-requires-clause-cells g c =
    let old = c.args.self.now in
    let found = c.table_at-i.ensures in
    let table = found.table in
    let schema_is : c.table_at-i.result.1.schema ≡ table.heading.schema = ap (λ (f : Flat). f.schema) found.is in
    let row_is : c.in-Ok.cells.items ≡ new_row table.heading.schema c.args.columns.now c.args.values.now =
    c.in-Ok.ensures.value ∙ ap (λ (cs : Columns). new_row cs c.args.columns.now c.args.values.now) schema_is in
    let fits = insert_fits _ (limits_of old.public) (headings_of old.public.tables) c.args.table.now table.heading c.args.columns.now c.args.values.now c.requires.allowed
    (heading_found c.args.table.now old.public.tables c.table_at-i.result.0 table c.requires.agrees.tables.names found.here.get found.here.named)
    (c.requires.agrees.tables.each c.table_at-i.result.0 table found.here.get).heading.stored.names (subst (λ (r : Row). All IsCell r) row_is c.in-Ok.ensures.held) in
    subst (λ (cs : Columns). FitsColumns cs c.as_slice.result.now) (sym schema_is) (subst (λ (r : Row). FitsColumns table.heading.schema r) (sym (c.as_slice.ensures.value ∙ row_is)) fits)

pub insert-result-requires-clause-flat : goal.insert-result-requires-clause-flat
insert-result-requires-clause-flat g c =
    let old = c.args.self.now in
    let found = c.table_at-i.ensures in
    let shape = shape_found c.args.table.now old.public.tables c.table_at-i.result.0 found.table c.requires.agrees.tables.names found.here.get found.here.named c.requires.flat in
    read_flat g.R.Revisions.state old (g.S.BlockStore.state c.args.store.now) (g.S.BlockStore.state c.make_room.new.store) c.table_at-i.result.0 found.table c.requires.agrees c.make_room.ensures.rests found.here.get shape
    c.table_at-i.result.1 found.is

pub move_table-requires : goal.move_table-requires
move_table-requires g c = slice_get_within c.args.self.now.public.tables c.table_at-i.result.0 c.table_at-i.ensures.table c.table_at-i.ensures.here.get

pub returns-in_default : goal.returns-in_default
returns-in_default g c = record {
  serves =
      serves_as g.R.Revisions.state (Insert c.args.table.now c.args.columns.now c.args.values.now) c.args.self.now (g.S.BlockStore.state c.args.store.now) (g.S.BlockStore.state c.args.store.now) _ _ _ _
      c.cut.ensures.answer c.cut.ensures.seen
      (unasked g.R.Revisions.state (Insert c.args.table.now c.args.columns.now c.args.values.now) c.args.self.now (g.S.BlockStore.state c.args.store.now) c.requires.agrees c.requires.allowed refl c.requires.flat tt
      (g.S.BlockStore.state c.args.store.now) c.args.self.now.public.tables (rests_refl (g.S.BlockStore.state c.args.store.now)));
}

pub returns-then-is_err : goal.returns-then-is_err
returns-then-is_err g c = record {
  serves =
      serves_as g.R.Revisions.state (Insert c.args.table.now c.args.columns.now c.args.values.now) c.args.self.now (g.S.BlockStore.state c.args.store.now) (g.S.BlockStore.state c.make_room.new.store) _ _ _ _
      c.cut-then-is_err.ensures.answer c.cut-then-is_err.ensures.seen
      (unasked g.R.Revisions.state (Insert c.args.table.now c.args.columns.now c.args.values.now) c.args.self.now (g.S.BlockStore.state c.args.store.now) c.requires.agrees c.requires.allowed refl c.requires.flat tt
      (g.S.BlockStore.state c.make_room.new.store) c.args.self.now.public.tables c.make_room.ensures.rests);
}

pub returns-in-Ok-result : goal.returns-in-Ok-result
returns-in-Ok-result g c =
    let old = c.args.self.now in
    let s = g.S.BlockStore.state c.args.store.now in
    let found = c.table_at-i.ensures in
    let table = found.table in
    let flat = c.table_at-i.result.1 in
    let row = c.as_slice.result.now in
    let schema_is : flat.schema ≡ table.heading.schema = ap (λ (f : Flat). f.schema) found.is in
    let row_is : row ≡ new_row table.heading.schema c.args.columns.now c.args.values.now =
    c.as_slice.ensures.value ∙ c.in-Ok.ensures.value ∙ ap (λ (cs : Columns). new_row cs c.args.columns.now c.args.values.now) schema_is in
    let alters = insert_alters old.public (count_of old s) c.args.table.now c.args.columns.now c.args.values.now table.heading flat.schema row (shape_found c.args.table.now old.public.tables c.table_at-i.result.0 table c.requires.agrees.tables.names found.here.get found.here.named c.requires.flat) schema_is row_is in
    record {
      serves =
          mutated g.R.Revisions.state (Insert c.args.table.now c.args.columns.now c.args.values.now) c.args.table.now insert_part inserted_as (insert_answer flat.schema row)
          (λ slots. slots_after (insert_answer flat.schema row slots) row slots) old s (g.S.BlockStore.state c.make_room.new.store) c.insert-result.new.vault c.insert-result.new.room (g.S.BlockStore.state c.insert-result.new.store)
          c.table_at-i.result.0 table flat c.insert-result.new.flat c.requires.agrees c.make_room.ensures.rests (opens_block c.requires.agrees c.insert-result.ensures.room) found.here found.is c.requires.allowed c.requires.flat alters
          c.former-former.result c.former-former.ensures c.in-Ok-result.inserted c.finish.new.self _ c.in-Ok-result.ensures.inserts c.requires.lives (ap (λ (o : Outcome). Ok o) (c.finish.ensures.answer ∙ c.outcome_of.ensures))
          (c.finish.ensures.seen
          ∙ ap (λ (e : Engine g.row.R.Denot). record e { seen = seen_to Whole; public = record e.public { next_region = e.vault.next } }) (c.move_table.ensures table found.here.get));
    }

pub returns : goal.returns
returns g c =
    let old = c.args.self.now in
    let s = g.S.BlockStore.state c.args.store.now in
    let found = c.table_at-i.ensures in
    let table = found.table in
    let flat = c.table_at-i.result.1 in
    let row = c.as_slice.result.now in
    let schema_is : flat.schema ≡ table.heading.schema = ap (λ (f : Flat). f.schema) found.is in
    let row_is : row ≡ new_row table.heading.schema c.args.columns.now c.args.values.now =
    c.as_slice.ensures.value ∙ c.in-Ok.ensures.value ∙ ap (λ (cs : Columns). new_row cs c.args.columns.now c.args.values.now) schema_is in
    let alters = insert_alters old.public (count_of old s) c.args.table.now c.args.columns.now c.args.values.now table.heading flat.schema row (shape_found c.args.table.now old.public.tables c.table_at-i.result.0 table c.requires.agrees.tables.names found.here.get found.here.named c.requires.flat) schema_is row_is in
    record {
      serves =
          unmutated g.R.Revisions.state (Insert c.args.table.now c.args.columns.now c.args.values.now) c.args.table.now insert_part inserted_as (insert_answer flat.schema row)
          (λ slots. slots_after (insert_answer flat.schema row slots) row slots) old s (g.S.BlockStore.state c.make_room.new.store) c.insert-result.new.vault c.insert-result.new.room (g.S.BlockStore.state c.insert-result.new.store)
          c.table_at-i.result.0 table flat c.insert-result.new.flat c.requires.agrees c.make_room.ensures.rests (opens_block c.requires.agrees c.insert-result.ensures.room) found.here found.is c.requires.allowed c.requires.flat alters
          c.former-former.result c.former-former.ensures c.in-Err.error (c.count.result - c.count-before.result) c.cut-in-Err.new.self _ c.in-Err.ensures.inserts (λ i. c.count.ensures i - c.count-before.ensures i) c.cut-in-Err.ensures.answer c.cut-in-Err.ensures.seen;
    }

use Rattle.ob_tables.proofs.Words.{ap, append-nil, Changed, count_by, count_of, Engine, is_true, IsSet, List, map, Ok, option_map, Outcome, refl, rewrite_part, rows, slice_get_within, subst, sym, Whole, ℕ, ◌-◌, ◌∙◌, ◌≡◌}
use Rattle.std.specs.List.{All}
use Rattle.ob_flat.specs.declared.flat.Flat.{Flat}
use Rattle.ob_row.specs.declared.cell.Cell.{Cell}
use Rattle.ob_row.specs.Truth.{updated}
use Rattle.ob_sql.specs.declared.stmt.Stmt.TheVariants.{Update}
use Rattle.ob_mean.specs.Conditions.{where_at}
use Rattle.ob_mean.specs.Step.{set_cells}
use Rattle.ob_mean.specs.Verdict.{ended as seen_to}
use Rattle.ob_tables.proofs.ChangeLemmas.{sets_found, update_alters}
use Rattle.ob_tables.proofs.FoundLemmas.{heading_found, shape_found}
use Rattle.ob_tables.proofs.MutateLemmas.{mutated, unmutated}
use Rattle.ob_tables.proofs.ReadLemmas.{read_flat}
use Rattle.ob_tables.proofs.RunLemmas.{opens_block, rests_refl}
use Rattle.ob_tables.proofs.SilentLemmas.{serves_as, unasked}
use Rattle.ob_tables.proofs.engine.Engine.update.Goals as goal

pub update-requires-clause-sets : goal.update-requires-clause-sets
update-requires-clause-sets g c =
    let found = c.table_at-i.ensures in
    let held = subst (λ (xs : List (ℕ × Cell)). All IsSet xs) (sym c.as_slice-3.ensures.value) c.in-Ok-set_cells.ensures.held in
    sets_found c.args.self.now.public (count_of c.args.self.now (g.S.BlockStore.state c.args.store.now)) c.args.table.now c.args.sets.now c.args.cond.now found.table.heading c.table_at-i.result.1.schema c.as_slice-3.result.now
    c.requires.allowed (heading_found c.args.table.now c.args.self.now.public.tables c.table_at-i.result.0 found.table c.requires.agrees.tables.names found.here.get found.here.named) (ap (λ (f : Flat). f.schema) found.is)
    (c.as_slice-3.ensures.value ∙ c.in-Ok-set_cells.ensures.value ∙ ap (set_cells c.args.sets.now) c.as_slice-2.ensures.value) held

pub update-requires-clause-flat : goal.update-requires-clause-flat
update-requires-clause-flat g c =
    let old = c.args.self.now in
    let found = c.table_at-i.ensures in
    let shape = shape_found c.args.table.now old.public.tables c.table_at-i.result.0 found.table c.requires.agrees.tables.names found.here.get found.here.named c.requires.flat in
    read_flat g.R.Revisions.state old (g.S.BlockStore.state c.args.store.now) (g.S.BlockStore.state c.make_room.new.store) c.table_at-i.result.0 found.table c.requires.agrees c.make_room.ensures.rests found.here.get shape
    c.table_at-i.result.1 found.is

pub move_table-requires : goal.move_table-requires
move_table-requires g c = slice_get_within c.args.self.now.public.tables c.table_at-i.result.0 c.table_at-i.ensures.table c.table_at-i.ensures.here.get

pub returns-in_default : goal.returns-in_default
returns-in_default g c = record {
  serves =
      serves_as g.R.Revisions.state (Update c.args.table.now c.args.sets.now c.args.cond.now) c.args.self.now (g.S.BlockStore.state c.args.store.now) (g.S.BlockStore.state c.args.store.now) _ _ _ _
      c.cut.ensures.answer c.cut.ensures.seen
      (unasked g.R.Revisions.state (Update c.args.table.now c.args.sets.now c.args.cond.now) c.args.self.now (g.S.BlockStore.state c.args.store.now) c.requires.agrees c.requires.allowed refl c.requires.flat tt
      (g.S.BlockStore.state c.args.store.now) c.args.self.now.public.tables (rests_refl (g.S.BlockStore.state c.args.store.now)));
}

pub returns-in_default-set_cells : goal.returns-in_default-set_cells
returns-in_default-set_cells g c = record {
  serves =
      serves_as g.R.Revisions.state (Update c.args.table.now c.args.sets.now c.args.cond.now) c.args.self.now (g.S.BlockStore.state c.args.store.now) (g.S.BlockStore.state c.args.store.now) _ _ _ _
      c.cut-in_default-set_cells.ensures.answer c.cut-in_default-set_cells.ensures.seen
      (unasked g.R.Revisions.state (Update c.args.table.now c.args.sets.now c.args.cond.now) c.args.self.now (g.S.BlockStore.state c.args.store.now) c.requires.agrees c.requires.allowed refl c.requires.flat tt
      (g.S.BlockStore.state c.args.store.now) c.args.self.now.public.tables (rests_refl (g.S.BlockStore.state c.args.store.now)));
}

pub returns-then-is_err : goal.returns-then-is_err
returns-then-is_err g c = record {
  serves =
      serves_as g.R.Revisions.state (Update c.args.table.now c.args.sets.now c.args.cond.now) c.args.self.now (g.S.BlockStore.state c.args.store.now) (g.S.BlockStore.state c.make_room.new.store) _ _ _ _
      c.cut-then-is_err.ensures.answer c.cut-then-is_err.ensures.seen
      (unasked g.R.Revisions.state (Update c.args.table.now c.args.sets.now c.args.cond.now) c.args.self.now (g.S.BlockStore.state c.args.store.now) c.requires.agrees c.requires.allowed refl c.requires.flat tt
      (g.S.BlockStore.state c.make_room.new.store) c.args.self.now.public.tables c.make_room.ensures.rests);
}

pub returns-in-Ok-update : goal.returns-in-Ok-update
returns-in-Ok-update g c =
    let old = c.args.self.now in
    let s = g.S.BlockStore.state c.args.store.now in
    let found = c.table_at-i.ensures in
    let table = found.table in
    let flat = c.table_at-i.result.1 in
    let pred = c.in-Ok.pred in
    let pred_is : pred ≡ where_at c.args.cond.now table.heading.schema =
    c.in-Ok.ensures ∙ ap (where_at c.args.cond.now) (append-nil c.as_slice.result.now ∙ c.as_slice.ensures.value ∙ ap (λ (f : Flat). f.schema) found.is) in
    let cells = c.as_slice-3.result.now in
    let cells_is : cells ≡ set_cells c.args.sets.now table.heading.schema =
    c.as_slice-3.ensures.value ∙ c.in-Ok-set_cells.ensures.value ∙ ap (set_cells c.args.sets.now) (c.as_slice-2.ensures.value ∙ ap (λ (f : Flat). f.schema) found.is) in
    record {
      serves =
          mutated g.R.Revisions.state (Update c.args.table.now c.args.sets.now c.args.cond.now) c.args.table.now rewrite_part Changed (λ slots. count_by (is_true pred) (rows slots))
          (map (option_map (updated pred cells))) old s (g.S.BlockStore.state c.make_room.new.store) c.update.new.vault c.update.new.room (g.S.BlockStore.state c.update.new.store)
          c.table_at-i.result.0 table flat c.update.new.flat c.requires.agrees c.make_room.ensures.rests (opens_block c.requires.agrees c.update.ensures.room) found.here found.is c.requires.allowed c.requires.flat
          (update_alters old.public (count_of old s) c.args.table.now c.args.sets.now c.args.cond.now table.heading pred cells pred_is cells_is)
          c.former-former.result c.former-former.ensures c.in-Ok-update.changed c.finish.new.self _ c.in-Ok-update.ensures.updates c.requires.lives (ap (λ (o : Outcome). Ok o) c.finish.ensures.answer)
          (c.finish.ensures.seen
          ∙ ap (λ (e : Engine g.row.R.Denot). record e { seen = seen_to Whole; public = record e.public { next_region = e.vault.next } }) (c.move_table.ensures table found.here.get));
    }

pub returns : goal.returns
returns g c =
    let old = c.args.self.now in
    let s = g.S.BlockStore.state c.args.store.now in
    let found = c.table_at-i.ensures in
    let table = found.table in
    let flat = c.table_at-i.result.1 in
    let pred = c.in-Ok.pred in
    let pred_is : pred ≡ where_at c.args.cond.now table.heading.schema =
    c.in-Ok.ensures ∙ ap (where_at c.args.cond.now) (append-nil c.as_slice.result.now ∙ c.as_slice.ensures.value ∙ ap (λ (f : Flat). f.schema) found.is) in
    let cells = c.as_slice-3.result.now in
    let cells_is : cells ≡ set_cells c.args.sets.now table.heading.schema =
    c.as_slice-3.ensures.value ∙ c.in-Ok-set_cells.ensures.value ∙ ap (set_cells c.args.sets.now) (c.as_slice-2.ensures.value ∙ ap (λ (f : Flat). f.schema) found.is) in
    record {
      serves =
          unmutated g.R.Revisions.state (Update c.args.table.now c.args.sets.now c.args.cond.now) c.args.table.now rewrite_part Changed (λ slots. count_by (is_true pred) (rows slots))
          (map (option_map (updated pred cells))) old s (g.S.BlockStore.state c.make_room.new.store) c.update.new.vault c.update.new.room (g.S.BlockStore.state c.update.new.store)
          c.table_at-i.result.0 table flat c.update.new.flat c.requires.agrees c.make_room.ensures.rests (opens_block c.requires.agrees c.update.ensures.room) found.here found.is c.requires.allowed c.requires.flat
          (update_alters old.public (count_of old s) c.args.table.now c.args.sets.now c.args.cond.now table.heading pred cells pred_is cells_is)
          c.former-former.result c.former-former.ensures c.in-Err.error (c.count.result - c.count-before.result) c.cut-in-Err.new.self _ c.in-Err.ensures.updates (λ i. c.count.ensures i - c.count-before.ensures i) c.cut-in-Err.ensures.answer c.cut-in-Err.ensures.seen;
    }

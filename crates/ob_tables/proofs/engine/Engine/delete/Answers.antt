use Rattle.ob_tables.proofs.Words.{ap, append-nil, count_by, count_of, Deleted, Engine, is_true, map, Ok, Outcome, refl, rewrite_part, rows, slice_get_within, Whole, ◌-◌, ◌∙◌, ◌≡◌}
use Rattle.ob_flat.specs.declared.flat.Flat.{Flat}
use Rattle.ob_row.specs.Slots.{emptied}
use Rattle.ob_sql.specs.declared.stmt.Stmt.TheVariants.{Delete}
use Rattle.ob_mean.specs.Conditions.{where_at}
use Rattle.ob_mean.specs.Verdict.{ended as seen_to}
use Rattle.ob_tables.proofs.ChangeLemmas.{delete_alters}
use Rattle.ob_tables.proofs.FoundLemmas.{shape_found}
use Rattle.ob_tables.proofs.MutateLemmas.{mutated, unmutated}
use Rattle.ob_tables.proofs.ReadLemmas.{read_flat}
use Rattle.ob_tables.proofs.RunLemmas.{opens_block, rests_refl}
use Rattle.ob_tables.proofs.SilentLemmas.{serves_as, unasked}
use Rattle.ob_tables.proofs.engine.Engine.delete.Goals as goal

pub delete-requires-clause-flat : goal.delete-requires-clause-flat
delete-requires-clause-flat g c =
    let old = c.args.self.now in
    let found = c.table_at-i.ensures in
    let shape = shape_found c.args.table.now old.public.tables c.table_at-i.result.0 found.table c.requires.agrees.tables.names found.here.get found.here.named c.requires.flat in
    read_flat g.R.Revisions.state old (g.S.BlockStore.state c.args.store.now) (g.S.BlockStore.state c.make_room.new.store) c.table_at-i.result.0 found.table c.requires.agrees c.make_room.ensures.rests found.here.get shape
    c.table_at-i.result.1 found.is

pub move_table-requires : goal.move_table-requires
move_table-requires g c = slice_get_within c.args.self.now.public.tables c.table_at-i.result.0 c.table_at-i.ensures.table c.table_at-i.ensures.here.get

pub returns-in_default : goal.returns-in_default
returns-in_default g c = record {
  serves =
      serves_as g.R.Revisions.state (Delete c.args.table.now c.args.cond.now) c.args.self.now (g.S.BlockStore.state c.args.store.now) (g.S.BlockStore.state c.args.store.now) _ _ _ _
      c.cut.ensures.answer c.cut.ensures.seen
      (unasked g.R.Revisions.state (Delete c.args.table.now c.args.cond.now) c.args.self.now (g.S.BlockStore.state c.args.store.now) c.requires.agrees c.requires.allowed refl c.requires.flat tt
      (g.S.BlockStore.state c.args.store.now) c.args.self.now.public.tables (rests_refl (g.S.BlockStore.state c.args.store.now)));
}

pub returns-then-is_err : goal.returns-then-is_err
returns-then-is_err g c = record {
  serves =
      serves_as g.R.Revisions.state (Delete c.args.table.now c.args.cond.now) c.args.self.now (g.S.BlockStore.state c.args.store.now) (g.S.BlockStore.state c.make_room.new.store) _ _ _ _
      c.cut-then-is_err.ensures.answer c.cut-then-is_err.ensures.seen
      (unasked g.R.Revisions.state (Delete c.args.table.now c.args.cond.now) c.args.self.now (g.S.BlockStore.state c.args.store.now) c.requires.agrees c.requires.allowed refl c.requires.flat tt
      (g.S.BlockStore.state c.make_room.new.store) c.args.self.now.public.tables c.make_room.ensures.rests);
}

pub returns-in-Ok-delete : goal.returns-in-Ok-delete
returns-in-Ok-delete g c =
    let old = c.args.self.now in
    let s = g.S.BlockStore.state c.args.store.now in
    let found = c.table_at-i.ensures in
    let table = found.table in
    let flat = c.table_at-i.result.1 in
    let pred = c.in-Ok.pred in
    let pred_is : pred ≡ where_at c.args.cond.now table.heading.schema =
    c.in-Ok.ensures ∙ ap (where_at c.args.cond.now) (append-nil c.as_slice.result.now ∙ c.as_slice.ensures.value ∙ ap (λ (f : Flat). f.schema) found.is) in
    record {
      serves =
          mutated g.R.Revisions.state (Delete c.args.table.now c.args.cond.now) c.args.table.now rewrite_part Deleted (λ slots. count_by (is_true pred) (rows slots))
          (map (emptied (is_true pred))) old s (g.S.BlockStore.state c.make_room.new.store) c.delete.new.vault c.delete.new.room (g.S.BlockStore.state c.delete.new.store)
          c.table_at-i.result.0 table flat c.delete.new.flat c.requires.agrees c.make_room.ensures.rests (opens_block c.requires.agrees c.delete.ensures.room) found.here found.is c.requires.allowed c.requires.flat
          (delete_alters old.public (count_of old s) c.args.table.now c.args.cond.now table.heading pred pred_is)
          c.former-former.result c.former-former.ensures c.in-Ok-delete.deleted c.finish.new.self _ c.in-Ok-delete.ensures.deletes c.requires.lives (ap (λ (o : Outcome). Ok o) c.finish.ensures.answer)
          (c.finish.ensures.seen
          ∙ ap (λ (e : Engine g.row.R.Denot). record e { seen = seen_to Whole; public = record e.public { next_region = e.vault.next } }) (c.move_table.ensures table found.here.get));
    }

pub returns : goal.returns
returns g c =
    let old = c.args.self.now in
    let s = g.S.BlockStore.state c.args.store.now in
    let found = c.table_at-i.ensures in
    let table = found.table in
    let flat = c.table_at-i.result.1 in
    let pred = c.in-Ok.pred in
    let pred_is : pred ≡ where_at c.args.cond.now table.heading.schema =
    c.in-Ok.ensures ∙ ap (where_at c.args.cond.now) (append-nil c.as_slice.result.now ∙ c.as_slice.ensures.value ∙ ap (λ (f : Flat). f.schema) found.is) in
    record {
      serves =
          unmutated g.R.Revisions.state (Delete c.args.table.now c.args.cond.now) c.args.table.now rewrite_part Deleted (λ slots. count_by (is_true pred) (rows slots))
          (map (emptied (is_true pred))) old s (g.S.BlockStore.state c.make_room.new.store) c.delete.new.vault c.delete.new.room (g.S.BlockStore.state c.delete.new.store)
          c.table_at-i.result.0 table flat c.delete.new.flat c.requires.agrees c.make_room.ensures.rests (opens_block c.requires.agrees c.delete.ensures.room) found.here found.is c.requires.allowed c.requires.flat
          (delete_alters old.public (count_of old s) c.args.table.now c.args.cond.now table.heading pred pred_is)
          c.former-former.result c.former-former.ensures c.in-Err.error (c.count.result - c.count-before.result) c.cut-in-Err.new.self _ c.in-Err.ensures.deletes (λ i. c.count.ensures i - c.count-before.ensures i) c.cut-in-Err.ensures.answer c.cut-in-Err.ensures.seen;
    }

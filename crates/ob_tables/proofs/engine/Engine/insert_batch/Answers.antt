use Rattle.ob_tables.proofs.Words.{Access, ap, AreFit, arith, blocks_for, count_of, earlier, Engine, engine_start, false, given_all, length, length-map, List, map, Ok, Option, Outcome, refl, Refusal, refusal_by, slice_get_within, subst, sym, Whole, ℕ, ◌*◌, ◌+◌, ◌-◌, ◌∙◌, ◌≡◌, ◌≤◌}
use Rattle.std.specs.Prelude.{⊤}
use Rattle.ob_flat.specs.declared.flat.Flat.{Flat}
use Rattle.ob_mean.specs.Verdict.{ended as seen_to}
use Rattle.ob_mutate.specs.declared.inserting.Inserted.{Inserted}
use Rattle.ob_row.specs.Rows.{Row}
use Rattle.ob_vault.proofs.WordLemmas.{ready_rests}
use Rattle.ob_tables.proofs.BatchServed.{all_insert, batch_unasked, begun, cut_batch, few_rest, name_flat, name_there, not_late, put_batch, rows_are_fit, rows_open}
use Rattle.ob_tables.proofs.FoundLemmas.{heading_found, shape_found}
use Rattle.ob_tables.proofs.ReadLemmas.{read_flat, read_size}
use Rattle.ob_tables.proofs.RunLemmas.{at_ok, early_few, opens_rows, rests_refl}
use Rattle.ob_tables.proofs.engine.Engine.insert_batch.Goals as goal

pub table_of-requires : goal.table_of-requires
table_of-requires g c = (begun c.args.self.now.public (count_of c.args.self.now (g.S.BlockStore.state c.args.store.now)) c.args.first.now c.args.rest.now c.requires.batch).inserts

pub table_at-i-requires : goal.table_at-i-requires
table_at-i-requires g c =
    name_there c.args.self.now.public (count_of c.args.self.now (g.S.BlockStore.state c.args.store.now)) c.args.first.now c.args.rest.now c.requires.batch c.table_of.result.now c.table_of.ensures

pub batch_of-requires-clause-insert : goal.batch_of-requires-clause-insert
batch_of-requires-clause-insert g c = (begun c.args.self.now.public (count_of c.args.self.now (g.S.BlockStore.state c.args.store.now)) c.args.first.now c.args.rest.now c.requires.batch).inserts

pub batch_of-requires-clause-inserts : goal.batch_of-requires-clause-inserts
batch_of-requires-clause-inserts g c = all_insert c.args.self.now.public (count_of c.args.self.now (g.S.BlockStore.state c.args.store.now)) c.args.first.now c.args.rest.now c.requires.batch

pub batch_of-requires-clause-few : goal.batch_of-requires-clause-few
batch_of-requires-clause-few g c =
    few_rest c.args.self.now.public (count_of c.args.self.now (g.S.BlockStore.state c.args.store.now)) c.args.first.now c.args.rest.now c.requires.batch c.requires.agrees.settings

pub insert_all-result-requires-clause-flat : goal.insert_all-result-requires-clause-flat
insert_all-result-requires-clause-flat g c =
    let old = c.args.self.now in
    let found = c.table_at-i.ensures in
    let flat = name_flat old.public (count_of old (g.S.BlockStore.state c.args.store.now)) c.args.first.now c.args.rest.now c.requires.batch c.table_of.result.now c.table_of.ensures in
    let shape = shape_found c.table_of.result.now old.public.tables c.table_at-i.result.0 found.table c.requires.agrees.tables.names found.here.get found.here.named flat in
    read_flat g.R.Revisions.state old (g.S.BlockStore.state c.args.store.now) (g.S.BlockStore.state c.make_room.new.store) c.table_at-i.result.0 found.table c.requires.agrees c.make_room.ensures.rests found.here.get shape
    c.table_at-i.result.1 found.is

pub insert_all-result-requires-clause-size : goal.insert_all-result-requires-clause-size
insert_all-result-requires-clause-size g c =
    let old = c.args.self.now in
    let found = c.table_at-i.ensures in
    let flat = name_flat old.public (count_of old (g.S.BlockStore.state c.args.store.now)) c.args.first.now c.args.rest.now c.requires.batch c.table_of.result.now c.table_of.ensures in
    let shape = shape_found c.table_of.result.now old.public.tables c.table_at-i.result.0 found.table c.requires.agrees.tables.names found.here.get found.here.named flat in
    read_size g.R.Revisions.state old (g.S.BlockStore.state c.args.store.now) (g.S.BlockStore.state c.make_room.new.store) c.table_at-i.result.0 found.table c.requires.agrees c.make_room.ensures.rests found.here.get shape
    c.table_at-i.result.1 found.is

pub insert_all-result-requires-clause-batch : goal.insert_all-result-requires-clause-batch
insert_all-result-requires-clause-batch g c =
    let old = c.args.self.now in
    let found = c.table_at-i.ensures in
    let table = found.table in
    let m = count_of old (g.S.BlockStore.state c.args.store.now) in
    let flat = name_flat old.public m c.args.first.now c.args.rest.now c.requires.batch c.table_of.result.now c.table_of.ensures in
    let shape = shape_found c.table_of.result.now old.public.tables c.table_at-i.result.0 table c.requires.agrees.tables.names found.here.get found.here.named flat in
    let fit = rows_are_fit old.public m c.args.first.now c.args.rest.now c.requires.batch c.table_of.result.now c.table_of.ensures table.heading c.table_at-i.result.1.schema (ap (λ (f : Flat). f.schema) found.is)
    c.in-Ok.batch.rows.items c.in-Ok.ensures.rows shape (heading_found c.table_of.result.now old.public.tables c.table_at-i.result.0 table c.requires.agrees.tables.names found.here.get found.here.named)
    (c.requires.agrees.tables.each c.table_at-i.result.0 table found.here.get).heading.stored.names c.in-Ok.ensures.held in
    subst (λ (rows : List Row). AreFit c.table_at-i.result.1.schema rows) (sym c.as_slice-rows.ensures.value) fit

pub insert_all-result-requires-clause-few : goal.insert_all-result-requires-clause-few
insert_all-result-requires-clause-few g c =
    let old = c.args.self.now in
    let found = c.table_at-i.ensures in
    let within = rows_open old.public (count_of old (g.S.BlockStore.state c.args.store.now)) c.args.first.now c.args.rest.now c.requires.batch c.table_of.result.now c.table_of.ensures found.table.heading c.table_at-i.result.1.schema
    (ap (λ (f : Flat). f.schema) found.is) c.in-Ok.batch.rows.items c.in-Ok.ensures.rows in
    let same = ap length c.as_slice-rows.ensures.value in
    omega (arith, within, same, c.requires.agrees.room.pack, c.requires.agrees.room.rows)

pub insert_all-result-requires-clause-starts : goal.insert_all-result-requires-clause-starts
insert_all-result-requires-clause-starts g c =
    let old = c.args.self.now in
    let m = count_of old (g.S.BlockStore.state c.args.store.now) in
    let capacity = c.table_at-i.result.1.capacity in
    let room : 3 * blocks_for old.public.pack capacity + 2 ≤ (g.S.BlockStore.state c.make_room.new.store).spare =
    at_ok c.make_room.result _ (sym c.is_err.ensures.value ∙ c.if-is_err.false) c.make_room.ensures.spare in
    record {
      ready = ready_rests _ _ _ c.make_room.ensures.rests c.requires.agrees.ready;
      spare = subst (λ (pack : ℕ). 3 * blocks_for pack capacity + 2 ≤ (g.S.BlockStore.state c.make_room.new.store).spare) (sym c.requires.agrees.room.pack) room;
      few =
          early_few m _ (not_late old.public m (begun old.public m c.args.first.now c.args.rest.now c.requires.batch).room)
          (ap (λ (l : List Access). earlier (engine_start old) + length l) c.make_room.ensures.rests.asked);
    }

pub insert_all-result-requires-clause-places : goal.insert_all-result-requires-clause-places
insert_all-result-requires-clause-places g c = let same = ap length c.as_slice-rows.ensures.value in omega (arith, same, c.in-Ok.ensures.places)

pub insert_all-result-requires-clause-out : goal.insert_all-result-requires-clause-out
insert_all-result-requires-clause-out g c = ap length c.as_mut_slice-answers.ensures.value ∙ c.in-Ok.ensures.answers ∙ ap length (sym c.as_slice-rows.ensures.value)

pub move_table-requires : goal.move_table-requires
move_table-requires g c = slice_get_within c.args.self.now.public.tables c.table_at-i.result.0 c.table_at-i.ensures.table c.table_at-i.ensures.here.get

pub give_all-requires-clause-each : goal.give_all-requires-clause-each
give_all-requires-clause-each g c =
    c.requires.each ∙ sym (length-map c.args.rest.now (refusal_by false c.args.self.now.public)) ∙ ap length (sym (c.as_slice-refusals.ensures.value ∙ c.in-Ok.ensures.refusals))

pub fail_all-requires : goal.fail_all-requires
fail_all-requires g c =
    c.requires.each ∙ sym (length-map c.args.rest.now (refusal_by false c.args.self.now.public)) ∙ ap length (sym (c.as_slice-refusals.ensures.value ∙ c.in-Ok.ensures.refusals))

pub returns-in_default : goal.returns-in_default
returns-in_default g c = record {
  serves =
      batch_unasked g.R.Revisions.state c.args.first.now c.args.rest.now _ c.args.self.now (g.S.BlockStore.state c.args.store.now) (g.S.BlockStore.state c.args.store.now) c.requires.agrees c.requires.batch
      (rests_refl (g.S.BlockStore.state c.args.store.now)) c.table_of.result.now c.table_of.ensures _ _ c.cut.ensures.answer c.cut.ensures.seen;
}

pub returns-then-is_err : goal.returns-then-is_err
returns-then-is_err g c = record {
  serves =
      batch_unasked g.R.Revisions.state c.args.first.now c.args.rest.now _ c.args.self.now (g.S.BlockStore.state c.args.store.now) (g.S.BlockStore.state c.make_room.new.store) c.requires.agrees c.requires.batch
      c.make_room.ensures.rests c.table_of.result.now c.table_of.ensures _ _ c.cut-then-is_err.ensures.answer c.cut-then-is_err.ensures.seen;
}

pub returns-in-Ok-result : goal.returns-in-Ok-result
returns-in-Ok-result g c =
    let old = c.args.self.now in
    let s = g.S.BlockStore.state c.args.store.now in
    let found = c.table_at-i.ensures in
    let rows = c.as_slice-rows.result.now in
    let answers = c.insert_all-result.new.out in
    let uses = opens_rows (old.room.pack + length rows) c.requires.agrees (omega (arith)) c.insert_all-result.ensures.room in
    record {
      serves =
          put_batch g.R.Revisions.state c.args.first.now c.args.rest.now old s (g.S.BlockStore.state c.make_room.new.store) c.insert_all-result.new.vault c.insert_all-result.new.room (g.S.BlockStore.state c.insert_all-result.new.store)
          c.table_at-i.result.0 c.table_at-i.result.1 c.insert_all-result.new.flat c.requires.agrees c.make_room.ensures.rests uses c.requires.batch c.table_of.result.now c.table_of.ensures found rows
          (c.as_slice-rows.ensures.value ∙ c.in-Ok.ensures.rows) ⊤ tt c.former-former.result c.former-former.ensures answers c.in-Ok-result.ensures.inserts c.requires.lives
          c.as_slice-refusals.result.now _ (c.as_slice-refusals.ensures.value ∙ c.in-Ok.ensures.refusals)
          (c.give_all.ensures ∙ ap (λ (l : List Inserted). given_all l c.as_slice-refusals.result.now) c.give_next-outcome.ensures.behind) c.finish.new.self _
          (ap (λ (o : Outcome). Ok o) (c.finish.ensures.answer ∙ c.give_next-outcome.ensures.outcome))
          (c.finish.ensures.seen
          ∙ ap (λ (e : Engine g.row.R.Denot). record e { seen = seen_to Whole; public = record e.public { next_region = e.vault.next } }) (c.move_table.ensures found.table found.here.get));
    }

pub returns : goal.returns
returns g c =
    let old = c.args.self.now in
    let s = g.S.BlockStore.state c.args.store.now in
    let found = c.table_at-i.ensures in
    let rows = c.as_slice-rows.result.now in
    let answers = c.insert_all-result.new.out in
    let uses = opens_rows (old.room.pack + length rows) c.requires.agrees (omega (arith)) c.insert_all-result.ensures.room in
    record {
      serves =
          cut_batch g.R.Revisions.state c.args.first.now c.args.rest.now old s (g.S.BlockStore.state c.make_room.new.store) c.insert_all-result.new.vault c.insert_all-result.new.room (g.S.BlockStore.state c.insert_all-result.new.store)
          c.table_at-i.result.0 c.table_at-i.result.1 c.insert_all-result.new.flat c.requires.agrees c.make_room.ensures.rests uses c.requires.batch c.table_of.result.now c.table_of.ensures found rows
          (c.as_slice-rows.ensures.value ∙ c.in-Ok.ensures.rows) ⊤ c.former-former.result c.former-former.ensures answers c.in-Err.error c.in-Err.ensures.inserts
          (c.count.result - c.count-before.result) (λ i. c.count.ensures i - c.count-before.ensures i)
          c.as_slice-refusals.result.now _ (c.as_slice-refusals.ensures.value ∙ c.in-Ok.ensures.refusals) c.fail_all.ensures c.cut-in-Err.new.self _ c.cut-in-Err.ensures.answer c.cut-in-Err.ensures.seen;
    }

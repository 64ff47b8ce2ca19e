use Rattle.std.proofs.Common.{rules}
use Rattle.ob_vault.specs.Places.{at}
use Rattle.ob_flat.proofs.Resting.{flat_rests}
use Rattle.ob_pass_tests.proofs.Beside.{on_ok}
use Rattle.ob_pass_tests.proofs.Passes.{counted, may_read, may_start, rewritten, table_idle}
use Rattle.ob_pass_tests.proofs.Sizes.{change_asks, insert_asks, read_asks}
use Rattle.ob_pass_tests.proofs.steps.step.Goals as goal

pub insert-requires : goal.insert-requires
insert-requires g c =
    let rests = c.make_room.ensures.rests in
    let rest = c.requires.rest in
    let table = c.requires.table in
    record {
      starts = may_start _ _ _ rests c.in_ok-make_room.ensures.room _ rest.ready (insert_asks _ _ rest.some table.small.slots);
      flat = flat_rests _ _ _ rests _ _ table.is;
      size = table.size;
      room = table_idle _ _ _ rest table;
      cells = search rules;
    }

pub returns-in-Some-insert : goal.returns-in-Some-insert
returns-in-Some-insert g c =
    let did = c.in_ok-inserted-in-Some-insert.ensures.inserts in
    on_ok c.say_inserted.result (rewritten _ _ _ c.make_room.ensures.rests c.args.room.now _ _ c.insert.ensures.room (at g.R.Revisions.state c.insert.new.vault (g.S.BlockStore.state c.insert.new.store)) c.requires.rest c.args.flat.now c.insert.new.flat did.ok.lasts did.moves did.table)

pub update-requires : goal.update-requires
update-requires g c =
    let rests = c.make_room.ensures.rests in
    let rest = c.requires.rest in
    let table = c.requires.table in
    record {
      starts = may_start _ _ _ rests c.in_ok-make_room.ensures.room _ rest.ready (change_asks _ _ rest.some table.small.slots);
      flat = flat_rests _ _ _ rests _ _ table.is;
      size = table.size;
      room = table_idle _ _ _ rest table;
      sets = search rules;
    }

pub returns-in-Some-update : goal.returns-in-Some-update
returns-in-Some-update g c =
    let did = c.in_ok-rows-in-Some-update.ensures.updates in
    on_ok c.say_rows.result (rewritten _ _ _ c.make_room.ensures.rests c.args.room.now _ _ c.update.ensures.room (at g.R.Revisions.state c.update.new.vault (g.S.BlockStore.state c.update.new.store)) c.requires.rest c.args.flat.now c.update.new.flat did.ok.lasts did.moves did.table)

pub delete-requires : goal.delete-requires
delete-requires g c =
    let rests = c.make_room.ensures.rests in
    let rest = c.requires.rest in
    let table = c.requires.table in
    record {
      starts = may_start _ _ _ rests c.in_ok-make_room.ensures.room _ rest.ready (change_asks _ _ rest.some table.small.slots);
      flat = flat_rests _ _ _ rests _ _ table.is;
      size = table.size;
      room = table_idle _ _ _ rest table;
    }

pub returns-in-Some-delete : goal.returns-in-Some-delete
returns-in-Some-delete g c =
    let did = c.in_ok-rows-in-Some-delete.ensures.deletes in
    on_ok c.say_rows-in-Some-delete.result (rewritten _ _ _ c.make_room.ensures.rests c.args.room.now _ _ c.delete.ensures.room (at g.R.Revisions.state c.delete.new.vault (g.S.BlockStore.state c.delete.new.store)) c.requires.rest c.args.flat.now c.delete.new.flat did.ok.lasts did.moves did.table)

pub count-requires : goal.count-requires
count-requires g c =
    let rests = c.make_room.ensures.rests in
    let rest = c.requires.rest in
    let table = c.requires.table in
    record {
      spare = may_read _ _ _ rests c.in_ok-make_room.ensures.room _ rest.ready (read_asks _ _ rest.some table.small.slots);
      flat = flat_rests _ _ _ rests _ _ table.is;
      size = table.size;
      room = table_idle _ _ _ rest table;
    }

pub returns-in-Some-count : goal.returns-in-Some-count
returns-in-Some-count g c =
    let did = c.in_ok-counted-in-Some-count.ensures.counts in
    on_ok c.say_rows-in-Some-count.result (counted _ _ _ c.make_room.ensures.rests c.args.room.now _ _ c.count.ensures.room (at g.R.Revisions.state c.count.new.vault (g.S.BlockStore.state c.count.new.store)) c.requires.rest c.args.flat.now did.ran.ok.lasts did.source)

use Rattle.ob_vault.specs.Places.{at}
use Rattle.ob_flat.proofs.Resting.{flat_rests}
use Rattle.ob_flat.proofs.Tables.{fits_sized, written_flat}
use Rattle.ob_pass_tests.proofs.Passes.{made_found, may_start, table_idle}
use Rattle.ob_pass_tests.proofs.Sizes.{continuous_asks, few_of, fits_few, large_asks, passes_ask}
use Rattle.ob_pass_tests.proofs.selects.selected.Goals as goal

pub select-requires : goal.select-requires
select-requires g c =
    let rests = c.make_room.ensures.rests in
    let rest = c.requires.rest in
    let table = c.requires.table in
    record {
      starts = may_start _ _ _ rests c.in_ok-make_room.ensures.room _ rest.ready (passes_ask _ _ rest.some table.small.slots _ (few_of c.if-k-flat.false c.requires.table.small.slots) _ rest.idle.enough);
      flat = flat_rests _ _ _ rests _ _ table.is;
      size = table.size;
      room = table_idle _ _ _ rest table;
      number = (c.if-k-lt1.false, c.if-k-flat.false);
    }

pub returns-in_ok-select-in-small : goal.returns-in_ok-select-in-small
returns-in_ok-select-in-small g c =
    let rest = c.requires.rest in
    let room = c.args.room.now in
    let flat = c.args.flat.now in
    let after = at g.R.Revisions.state c.select.new.vault (g.S.BlockStore.state c.select.new.store) in
    let did = c.in_ok-select-in-small.ensures.selects in
    let fresh = c.in_ok-select-in-small.field-0 in
    made_found _ _ _ c.make_room.ensures.rests room c.select.new.room _ c.select.ensures.room after rest flat.schema c.args.k fresh did.ran.ok.lasts did.makes.value 16
    (fits_few room.pack c.args.k flat.schema flat.capacity rest.some c.requires.table.size c.if-k-lt1.false (few_of c.if-k-flat.false c.requires.table.small.slots)) (few_of c.if-k-flat.false c.requires.table.small.slots) (written_flat room.pack fresh after did.makes.flat)

pub select_padded-requires : goal.select_padded-requires
select_padded-requires g c =
    let rests = c.make_room.ensures.rests in
    let rest = c.requires.rest in
    let table = c.requires.table in
    record {
      starts = may_start _ _ _ rests c.in_ok-make_room.ensures.room _ rest.ready (passes_ask _ _ rest.some table.small.slots _ (few_of c.if-k-flat.false c.requires.table.small.slots) _ rest.idle.enough);
      flat = flat_rests _ _ _ rests _ _ table.is;
      size = table.size;
      room = table_idle _ _ _ rest table;
      number = (c.if-k-lt1.false, c.if-k-flat.false);
    }

pub returns-in_ok-select_padded-in-padded : goal.returns-in_ok-select_padded-in-padded
returns-in_ok-select_padded-in-padded g c =
    let rest = c.requires.rest in
    let room = c.args.room.now in
    let flat = c.args.flat.now in
    let after = at g.R.Revisions.state c.select_padded.new.vault (g.S.BlockStore.state c.select_padded.new.store) in
    let did = c.in_ok-select_padded-in-padded.ensures.selects in
    let fresh = c.in_ok-select_padded-in-padded.field-0 in
    made_found _ _ _ c.make_room.ensures.rests room c.select_padded.new.room _ c.select_padded.ensures.room after rest flat.schema c.args.k fresh did.ran.ok.lasts did.makes.value 16
    (fits_few room.pack c.args.k flat.schema flat.capacity rest.some c.requires.table.size c.if-k-lt1.false (few_of c.if-k-flat.false c.requires.table.small.slots)) (few_of c.if-k-flat.false c.requires.table.small.slots) (written_flat room.pack fresh after did.makes.flat)

pub select-requires-in-large : goal.select-requires-in-large
select-requires-in-large g c =
    let rests = c.make_room.ensures.rests in
    let rest = c.requires.rest in
    let table = c.requires.table in
    record {
      starts = may_start _ _ _ rests c.in_ok-make_room.ensures.room _ rest.ready (large_asks _ _ rest.some table.small.slots);
      flat = flat_rests _ _ _ rests _ _ table.is;
      size = table.size;
      room = table_idle _ _ _ rest table;
    }

pub returns-in_ok-select-in-large : goal.returns-in_ok-select-in-large
returns-in_ok-select-in-large g c =
    let rest = c.requires.rest in
    let room = c.args.room.now in
    let flat = c.args.flat.now in
    let after = at g.R.Revisions.state c.select-in-large.new.vault (g.S.BlockStore.state c.select-in-large.new.store) in
    let did = c.in_ok-select-in-large.ensures.selects in
    let fresh = c.in_ok-select-in-large.field-0 in
    made_found _ _ _ c.make_room.ensures.rests room c.select-in-large.new.room _ c.select-in-large.ensures.room after rest flat.schema flat.capacity fresh did.ran.ok.lasts did.makes.value 16
    (fits_sized room.pack flat.schema flat.capacity rest.some c.requires.table.size) c.requires.table.small.slots (written_flat room.pack fresh after did.makes.flat)

pub select-requires-in-continuous : goal.select-requires-in-continuous
select-requires-in-continuous g c =
    let rests = c.make_room.ensures.rests in
    let rest = c.requires.rest in
    let table = c.requires.table in
    record {
      starts = may_start _ _ _ rests c.in_ok-make_room.ensures.room _ rest.ready (continuous_asks _ _ rest.some table.small.slots _ (few_of c.if-k-flat.false c.requires.table.small.slots));
      flat = flat_rests _ _ _ rests _ _ table.is;
      size = table.size;
      room = table_idle _ _ _ rest table;
      number = (c.if-k-lt1.false, c.if-k-flat.false);
    }

pub returns-in_ok-select-in-continuous : goal.returns-in_ok-select-in-continuous
returns-in_ok-select-in-continuous g c =
    let rest = c.requires.rest in
    let room = c.args.room.now in
    let flat = c.args.flat.now in
    let after = at g.R.Revisions.state c.select-in-continuous.new.vault (g.S.BlockStore.state c.select-in-continuous.new.store) in
    let did = c.in_ok-select-in-continuous.ensures.selects in
    let fresh = c.in_ok-select-in-continuous.field-0 in
    made_found _ _ _ c.make_room.ensures.rests room c.select-in-continuous.new.room _ c.select-in-continuous.ensures.room after rest flat.schema c.args.k fresh did.ran.ok.lasts did.value 16
    (fits_few room.pack c.args.k flat.schema flat.capacity rest.some c.requires.table.size c.if-k-lt1.false (few_of c.if-k-flat.false c.requires.table.small.slots)) (few_of c.if-k-flat.false c.requires.table.small.slots) did.written

use Rattle.ob_vault.specs.Places.{at}
use Rattle.ob_pass_tests.proofs.Passes.{idle_wide, made_changed, made_rest, made_table, may_start}
use Rattle.ob_pass_tests.proofs.Sizes.{create_asks}
use Rattle.ob_pass_tests.proofs.tables.made.Goals as goal

pub create-requires : goal.create-requires
create-requires g c =
    let rests = c.make_room.ensures.rests in
    let rest = c.requires in
    let sizes = c.in-Some-heading.ensures in
    record {
      starts = may_start _ _ _ rests c.in_ok-make_room.ensures.room _ rest.ready (create_asks _ _ rest.some sizes.small.slots);
      size = sizes.size;
      room = idle_wide _ _ sizes.size.wide rest.idle;
    }

pub take_steps-requires : goal.take_steps-requires
take_steps-requires g c =
    let did = c.in_ok-flat.ensures.creates in
    let sizes = c.in-Some-heading.ensures in
    record {
      rest = made_rest _ _ _ c.make_room.ensures.rests c.args.room.now _ _ c.create.ensures.room (at g.R.Revisions.state c.create.new.vault (g.S.BlockStore.state c.create.new.store)) c.requires _ _ c.in_ok-flat.flat did.ran.ok.lasts did.makes.value;
      table = made_table _ _ _ c.make_room.ensures.rests c.args.room.now _ _ c.create.ensures.room (at g.R.Revisions.state c.create.new.vault (g.S.BlockStore.state c.create.new.store)) c.requires _ _ c.in_ok-flat.flat did.ran.ok.lasts did.makes.value sizes.size sizes.small did.makes.flat;
    }

pub returns : goal.returns
returns g c =
    let did = c.in_ok-flat.ensures.creates in
    let sizes = c.in-Some-heading.ensures in
    made_changed _ _ _ c.make_room.ensures.rests c.args.room.now _ _ c.create.ensures.room (at g.R.Revisions.state c.create.new.vault (g.S.BlockStore.state c.create.new.store)) c.requires _ _ c.in_ok-flat.flat did.ran.ok.lasts did.makes.value _ _ _ sizes.size sizes.small did.makes.flat c.in_ok-take_steps.ensures

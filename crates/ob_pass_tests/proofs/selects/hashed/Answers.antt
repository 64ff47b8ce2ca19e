use Rattle.std.proofs.Common.{◌*◌}
use Rattle.ob_vault.specs.Places.{at}
use Rattle.ob_flat.specs.declared.flat.Flat.{Flat}
use Rattle.ob_flat.proofs.Resting.{flat_rests}
use Rattle.ob_flat.proofs.Tables.{written_flat}
use Rattle.ob_hash.specs.Answers.{flat_of}
use Rattle.ob_pass_tests.specs.Tables.{Found}
use Rattle.ob_pass_tests.proofs.Beside.{if_same}
use Rattle.ob_pass_tests.proofs.Passes.{made_found, may_start, table_idle}
use Rattle.ob_pass_tests.proofs.Sizes.{buckets_ask, few_of, slots_few}
use Rattle.ob_pass_tests.proofs.selects.hashed.Goals as goal

pub select-requires : goal.select-requires
select-requires g c =
    let rests = c.make_room.ensures.rests in
    let rest = c.requires.rest in
    let table = c.requires.table in
    let fewer = few_of c.if-k-flat.false table.small.slots in
    record {
      starts = may_start _ _ _ rests c.in_ok-make_room.ensures.room _ rest.ready (buckets_ask _ _ rest.some table.small.slots _ fewer _ c.if-depth-gt8.false);
      flat = flat_rests _ _ _ rests _ _ table.is;
      size = table.size;
      sizes = record { some = c.if-k-lt1.false; most = c.if-k-flat.false; blocks = c.if-depth-lt1.false; deepest = c.if-depth-gt8.false };
      room = table_idle _ _ _ rest table;
    }

pub returns : goal.returns
returns g c =
    let did = c.in_ok-placed.ensures.selects in
    let rest = c.requires.rest in
    let room = c.args.room.now in
    let left = c.select.new.room in
    let columns = c.args.flat.now.schema in
    let after = at g.R.Revisions.state c.select.new.vault (g.S.BlockStore.state c.select.new.store) in
    let given = flat_of c.in_ok-placed.placed in
    let slots = slots_few c.args.k c.args.depth room.pack (few_of c.if-k-flat.false c.requires.table.small.slots) c.if-depth-gt8.false rest.most in
    if_same (λ (f : Flat). Found 2048 room left columns f after) given c.parts.result c.parts.ensures
    (made_found _ _ _ c.make_room.ensures.rests room left _ c.select.ensures.room after rest columns ((c.args.k * c.args.depth) * room.pack) given did.ran.ok.lasts did.makes.value 2048
    did.size slots (written_flat room.pack given after did.makes.flat))

use Rattle.ob_vault.specs.Places.{at}
use Rattle.ob_flat.proofs.Resting.{flat_rests}
use Rattle.ob_flat.proofs.Tables.{fits_sized, written_flat}
use Rattle.ob_pass_tests.proofs.Passes.{found_emits, idle_wide, made_found, may_start}
use Rattle.ob_pass_tests.proofs.Sizes.{join_asks, few_slots, joined_sized, joined_wide, most_slots}
use Rattle.ob_pass_tests.proofs.joins.joined.Goals as goal

pub join-requires-clause-starts : goal.join-requires-clause-starts
join-requires-clause-starts g c =
    let rest = c.requires.rest in
    may_start _ _ _ c.make_room.ensures.rests c.in_ok-make_room.ensures.room _ rest.ready (join_asks _ _ _ _ rest.some rest.most rest.idle.enough c.requires.left.small.slots c.requires.right.small.slots)

pub join-requires-clause-tables : goal.join-requires-clause-tables
join-requires-clause-tables g c =
    let rests = c.make_room.ensures.rests in
    let rest = c.requires.rest in
    let left = c.requires.left in
    let right = c.requires.right in
    record {
      left = flat_rests _ _ _ rests _ _ left.is;
      right = flat_rests _ _ _ rests _ _ right.is;
      left_size = left.size;
      right_size = right.size;
      sized = joined_sized _ _ _ _ rest.some rest.most rest.idle.enough left.small.slots right.small.slots _ _ left.size right.size left.small right.small;
      lcol = c.in-Some.ensures;
      rcol = c.in-Some-place_of.ensures;
    }

pub join-requires-clause-room : goal.join-requires-clause-room
join-requires-clause-room g c =
    let rest = c.requires.rest in
    let left = c.requires.left in
    let right = c.requires.right in
    idle_wide _ _ (joined_wide _ _ _ _ rest.some rest.most rest.idle.enough left.small.slots right.small.slots _ _ left.small right.small) rest.idle

pub emit_discard-requires : goal.emit_discard-requires
emit_discard-requires g c =
    let did = c.in_ok-result.ensures.joins in
    let rest = c.requires.rest in
    let left = c.requires.left in
    let right = c.requires.right in
    let sized = joined_sized _ _ _ _ rest.some rest.most rest.idle.enough left.small.slots right.small.slots _ _ left.size right.size left.small right.small in
    let few = few_slots _ _ _ _ rest.some rest.most rest.idle.enough left.small.slots right.small.slots in
    let found = made_found _ _ _ c.make_room.ensures.rests c.args.room.now c.join.new.room _ c.join.ensures.room (at g.R.Revisions.state c.join.new.vault (g.S.BlockStore.state c.join.new.store)) rest _ _ c.in_ok-result.result did.ran.ok.lasts did.makes.value 4096
    (fits_sized _ _ _ rest.some sized) few (written_flat _ _ _ did.makes.flat) in
    found_emits 4096 _ _ _ _ _ _ rest sized.wide most_slots found

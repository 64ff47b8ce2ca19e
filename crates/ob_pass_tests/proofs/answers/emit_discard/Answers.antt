use Rattle.ob_pass_tests.proofs.Passes.{may_read, written_rests}
use Rattle.ob_pass_tests.proofs.Sizes.{one_asks}
use Rattle.ob_pass_tests.proofs.answers.emit_discard.Goals as goal

pub emitted-requires : goal.emitted-requires
emitted-requires g c = c.requires

pub discard-requires : goal.discard-requires
discard-requires g c =
    let rests = c.make_room.ensures.rests in
    let did = c.in_ok-emitted.ensures in
    record {
      spare = may_read _ _ _ rests c.in_ok-make_room.ensures.room _ did.ready one_asks;
      lives = (_, (written_rests _ _ _ rests _ _ did.written).lives);
    }

use Rattle.ob_pass_tests.proofs.Passes.{may_read, table_emits, written_rests}
use Rattle.ob_pass_tests.proofs.Sizes.{read_asks}
use Rattle.ob_pass_tests.proofs.answers.walked.Goals as goal

pub walk-requires : goal.walk-requires
walk-requires g c =
    let rests = c.make_room.ensures.rests in
    let rest = c.requires.rest in
    let table = c.requires.table in
    let may = table_emits _ _ _ rest table in
    record {
      spare = may_read _ _ _ rests c.in_ok-make_room.ensures.room _ rest.ready (read_asks _ _ rest.some table.small.slots);
      flat = written_rests _ _ _ rests _ _ may.written;
      size = may.size;
      room = may.idle;
    }

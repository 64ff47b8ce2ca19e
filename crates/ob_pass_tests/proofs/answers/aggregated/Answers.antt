use Rattle.std.proofs.Common.{rules}
use Rattle.ob_flat.proofs.Resting.{flat_rests}
use Rattle.ob_pass_tests.proofs.Passes.{may_read, table_idle}
use Rattle.ob_pass_tests.proofs.Sizes.{read_asks}
use Rattle.ob_pass_tests.proofs.answers.aggregated.Goals as goal

pub aggregate-requires : goal.aggregate-requires
aggregate-requires g c =
    let rests = c.make_room.ensures.rests in
    let rest = c.requires.rest in
    let table = c.requires.table in
    record {
      spare = may_read _ _ _ rests c.in_ok-make_room.ensures.room _ rest.ready (read_asks _ _ rest.some table.small.slots);
      flat = flat_rests _ _ _ rests _ _ table.is;
      size = table.size;
      room = table_idle _ _ _ rest table;
      aggs = search rules;
    }

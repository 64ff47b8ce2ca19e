use Rattle.ob_flat.proofs.Resting.{flat_rests}
use Rattle.ob_pass_tests.proofs.Passes.{idle_groups, may_read, table_idle}
use Rattle.ob_pass_tests.proofs.Sizes.{read_asks}
use Rattle.ob_pass_tests.proofs.answers.group_by.Goals as goal

pub group-answer-requires-clause-spare : goal.group-answer-requires-clause-spare
group-answer-requires-clause-spare g c =
    let rest = c.requires.rest in
    may_read _ _ _ c.make_room.ensures.rests c.in_ok-make_room.ensures.room _ rest.ready (read_asks _ _ rest.some c.requires.table.small.slots)

pub group-answer-requires-clause-flat : goal.group-answer-requires-clause-flat
group-answer-requires-clause-flat g c = flat_rests _ _ _ c.make_room.ensures.rests _ _ c.requires.table.is

pub group-answer-requires-clause-room : goal.group-answer-requires-clause-room
group-answer-requires-clause-room g c = table_idle _ _ _ c.requires.rest c.requires.table

pub group-answer-requires-clause-wide : goal.group-answer-requires-clause-wide
group-answer-requires-clause-wide g c = idle_groups c.requires.rest.idle

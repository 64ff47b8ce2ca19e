use Rattle.ob_pass_tests.proofs.Passes.{table_emits}
use Rattle.ob_pass_tests.proofs.blocks.answered.Goals as goal

pub emitted-requires : goal.emitted-requires
emitted-requires g c = table_emits _ _ _ c.requires.rest c.requires.table

pub walked-requires : goal.walked-requires
walked-requires g c = record { rest = c.requires.rest; table = c.requires.table }

pub aggregated-requires : goal.aggregated-requires
aggregated-requires g c = record { rest = c.requires.rest; table = c.requires.table }

pub grouped-requires : goal.grouped-requires
grouped-requires g c = record { rest = c.requires.rest; table = c.requires.table }

pub select_emit-requires : goal.select_emit-requires
select_emit-requires g c = record { rest = c.requires.rest; table = c.requires.table }

use Rattle.ob_pass_tests.proofs.Passes.{changed_none, changed_on, changed_rest, changed_table}
use Rattle.ob_pass_tests.proofs.tables.take_steps.Goals as goal

pub loop-line-init : goal.loop-line-init
loop-line-init g c = changed_none _ _ _ c.requires.rest.ready c.requires.table.is

pub step-requires : goal.step-requires
step-requires g c = record { rest = changed_rest c.loop-line.invariant c.requires.rest; table = changed_table c.loop-line.invariant c.requires.table }

pub loop-line-preserved : goal.loop-line-preserved
loop-line-preserved g c = changed_on c.loop-line.invariant c.in_ok-step.ensures

pub returns : goal.returns
returns g c = c.loop-line.invariant

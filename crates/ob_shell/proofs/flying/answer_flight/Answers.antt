use Rattle.ob_shell.proofs.Words.{rules}
use Rattle.ob_shell.proofs.flying.answer_flight.Goals as goal

pub returns-clause-runs : goal.returns-clause-runs
returns-clause-runs g c = let told = c.fly_stmts.ensures.runs in search (told, rules)

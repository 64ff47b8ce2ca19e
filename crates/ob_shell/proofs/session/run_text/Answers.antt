use Rattle.ob_shell.proofs.Words.{rules}
use Rattle.ob_shell.proofs.session.run_text.Goals as goal

pub returns-clause-serves : goal.returns-clause-serves
returns-clause-serves g c = λ flights. let told = c.run_stmt.ensures.serves flights in search (told, rules)

use Rattle.ob_verdict.proofs.AlikeTables.{alike_chained, alike_same, alike_turned}
use Rattle.ob_verdict.proofs.laws.alike_tables.Goals as goal

pub returns : goal.returns
returns c = record { same = alike_same; turned = alike_turned; chained = alike_chained }

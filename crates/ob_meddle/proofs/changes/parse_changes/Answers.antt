use Rattle.ob_meddle.proofs.ChangeLemmas.{from_none}
use Rattle.ob_meddle.proofs.changes.parse_changes.Goals as goal

pub returns-in-Ok-clause-ok : goal.returns-in-Ok-clause-ok
returns-in-Ok-clause-ok c = from_none _ _ _ c.new-list.ensures.items c.in-Ok.ensures.ok

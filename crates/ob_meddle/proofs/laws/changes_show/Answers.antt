use Rattle.ob_meddle.proofs.ShowLemmas.{shows}
use Rattle.ob_meddle.proofs.laws.changes_show.Goals as goal

pub returns : goal.returns
returns c = shows

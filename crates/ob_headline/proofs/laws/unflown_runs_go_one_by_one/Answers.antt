use Rattle.ob_headline.proofs.OneByOneLemmas.{one_by_one}
use Rattle.ob_headline.proofs.laws.unflown_runs_go_one_by_one.Goals as goal

pub returns : goal.returns
returns c = one_by_one

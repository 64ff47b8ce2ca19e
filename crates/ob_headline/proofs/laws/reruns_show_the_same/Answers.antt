use Rattle.ob_headline.proofs.RerunLemmas.{show_the_same}
use Rattle.ob_headline.proofs.laws.reruns_show_the_same.Goals as goal

pub returns : goal.returns
returns c = show_the_same

use Rattle.ob_headline.proofs.RerunLemmas.{ask_the_same}
use Rattle.ob_headline.proofs.laws.reruns_ask_the_same.Goals as goal

pub returns : goal.returns
returns c = ask_the_same

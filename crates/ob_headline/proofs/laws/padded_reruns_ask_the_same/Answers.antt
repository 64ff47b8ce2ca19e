use Rattle.ob_headline.proofs.RerunLemmas.{padded_ask_the_same}
use Rattle.ob_headline.proofs.laws.padded_reruns_ask_the_same.Goals as goal

pub returns : goal.returns
returns c = padded_ask_the_same

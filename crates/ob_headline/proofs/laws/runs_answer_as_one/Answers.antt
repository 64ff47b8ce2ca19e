use Rattle.ob_headline.proofs.AsOne.{answer_as_one}
use Rattle.ob_headline.proofs.laws.runs_answer_as_one.Goals as goal

pub returns : goal.returns
returns c = answer_as_one

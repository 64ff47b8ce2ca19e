use Rattle.ob_headline.proofs.SavedAsOne.{answer_in_one}
use Rattle.ob_headline.proofs.laws.saved_runs_answer_as_one.Goals as goal

pub returns : goal.returns
returns c = answer_in_one

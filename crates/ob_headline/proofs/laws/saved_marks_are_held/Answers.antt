use Rattle.ob_headline.proofs.SavedMarks.{saved_held}
use Rattle.ob_headline.proofs.laws.saved_marks_are_held.Goals as goal

pub returns : goal.returns
returns c = saved_held

use Rattle.ob_headline.proofs.MarkLemmas.{marks_held}
use Rattle.ob_headline.proofs.laws.marks_are_held.Goals as goal

pub returns : goal.returns
returns c = marks_held

use Rattle.ob_reopen.proofs.OutlastLemmas.{rests_last}
use Rattle.ob_reopen.proofs.laws.rests_outlast.Goals as goal

pub returns : goal.returns
returns c = λ keys closing old new tables rests same. rests_last keys old new closing tables rests same

use Rattle.ob_tree.proofs.MeetLemmas.{path_at, paths_meet}
use Rattle.ob_tree.proofs.paths_go_down.Goals as goal

pub returns-clause-buckets : goal.returns-clause-buckets
returns-clause-buckets c = λ h leaf j below within. path_at h leaf j below within

pub returns-clause-meet : goal.returns-clause-meet
returns-clause-meet c = λ h a b j ha hb within. paths_meet h a b j ha hb within

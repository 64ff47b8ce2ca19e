use Rattle.ob_tree.proofs.RunLemmas.{created_represents}
use Rattle.ob_tree.proofs.stands_empty.Goals as goal

pub returns : goal.returns
returns g c = λ h t leaves below. created_represents g.R.Keyed.key h t leaves below

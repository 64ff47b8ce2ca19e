use Rattle.ob_tree.proofs.KeyNumbers.{apart_single}
use Rattle.ob_tree.proofs.keys_single.Goals as goal

pub returns : goal.returns
returns c n place all = apart_single n place all

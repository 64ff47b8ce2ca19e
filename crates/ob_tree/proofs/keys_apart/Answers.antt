use Rattle.ob_tree.proofs.KeyNumbers.{single_apart}
use Rattle.ob_tree.proofs.keys_apart.Goals as goal

pub returns : goal.returns
returns c n place all = single_apart n place all

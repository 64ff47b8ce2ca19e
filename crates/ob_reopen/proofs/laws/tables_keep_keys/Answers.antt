use Rattle.ob_reopen.proofs.RestsAgree.{rests_agree}
use Rattle.ob_reopen.proofs.laws.tables_keep_keys.Goals as goal

pub returns : goal.returns
returns c = rests_agree

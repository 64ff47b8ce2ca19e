use Rattle.ob_reopen.proofs.ReadsRekeyed.{reads_rekeyed}
use Rattle.ob_reopen.proofs.laws.closings_keep_keys.Goals as goal

pub returns : goal.returns
returns c = reads_rekeyed

use Rattle.ob_oram.proofs.Shortness.{access_short}
use Rattle.ob_oram.proofs.laws.access_short.Goals as goal

pub returns : goal.returns
returns c e index left op draw old new accesses = access_short index left _ old new e accesses.err

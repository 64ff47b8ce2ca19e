use Rattle.ob_oram.proofs.Early.{reads_early}
use Rattle.ob_oram.proofs.laws.access_begun.Goals as goal

pub returns : goal.returns
returns c lie index leaf before reads = reads_early lie index leaf before reads

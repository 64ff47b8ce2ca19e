use Rattle.ob_linked.proofs.LinkedLemmas.{reads_are}
use Rattle.ob_linked.proofs.root_tells_path.Goals as goal

pub returns : goal.returns
returns g c = λ made apart n t is_sealed cells of b below goes bodies reads. reads_are made apart n t is_sealed cells of b below goes bodies reads

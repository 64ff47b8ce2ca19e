use Rattle.ob_script.proofs.Numbers.{ceil-ceil}
use Rattle.ob_script.proofs.laws.buffers_by_rows.Goals as goal

pub returns : goal.returns
returns c = ceil-ceil

use Rattle.ob_row.proofs.SpellingLemmas.{length-row_bytes}
use Rattle.ob_row.proofs.laws.spelling_width.Goals as goal

pub returns : goal.returns
returns c = length-row_bytes

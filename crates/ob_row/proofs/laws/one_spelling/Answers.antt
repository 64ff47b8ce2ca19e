use Rattle.ob_row.proofs.SpellingLemmas.{row_bytes-same}
use Rattle.ob_row.proofs.laws.one_spelling.Goals as goal

pub returns : goal.returns
returns c = row_bytes-same

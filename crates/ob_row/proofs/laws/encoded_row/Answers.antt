use Rattle.ob_row.proofs.SpellingLemmas.{row_bytes-begin}
use Rattle.ob_row.proofs.laws.encoded_row.Goals as goal

pub returns : goal.returns
returns c = row_bytes-begin

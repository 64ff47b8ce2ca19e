use Rattle.ob_row.proofs.SpellingLemmas.{row_bytes-not_dummy}
use Rattle.ob_row.proofs.laws.dummy_is_no_row.Goals as goal

pub returns : goal.returns
returns c = row_bytes-not_dummy

use Rattle.ob_headline.proofs.KindLemmas.{asks_meddled, asks_saved, asks_taken}
use Rattle.ob_headline.proofs.laws.asks_by_kinds.Goals as goal

pub returns-clause-taken : goal.returns-clause-taken
returns-clause-taken c = asks_taken

pub returns-clause-meddled : goal.returns-clause-meddled
returns-clause-meddled c = asks_meddled

pub returns-clause-saved : goal.returns-clause-saved
returns-clause-saved c = asks_saved

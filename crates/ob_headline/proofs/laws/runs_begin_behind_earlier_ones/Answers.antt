use Rattle.ob_headline.proofs.BegunLemmas.{begun_flying, begun_fresh, begun_from}
use Rattle.ob_headline.proofs.SavedNumbers.{begun_saved}
use Rattle.ob_headline.proofs.laws.runs_begin_behind_earlier_ones.Goals as goal

pub returns : goal.returns
returns c = record { fresh = begun_fresh; kept = begun_from; saved = begun_saved; flown = begun_flying }

use Rattle.ob_headline.proofs.LeftLemmas.{written_behind}
use Rattle.ob_headline.proofs.OwnLemmas.{runs_write_own}
use Rattle.ob_headline.proofs.laws.statements_write_their_own.Goals as goal

pub returns : goal.returns
returns c = record { own = runs_write_own; behind = written_behind }

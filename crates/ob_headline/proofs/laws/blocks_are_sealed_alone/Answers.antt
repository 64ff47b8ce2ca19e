use Rattle.ob_headline.proofs.LeftLemmas.{shows_behind, shows_between, shows_sealed}
use Rattle.ob_headline.proofs.laws.blocks_are_sealed_alone.Goals as goal

pub returns : goal.returns
returns c = record { ends = shows_sealed; between = shows_between; behind = shows_behind }

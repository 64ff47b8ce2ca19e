use Rattle.ob_headline.proofs.BegunLemmas.{kept_shown}
use Rattle.ob_headline.proofs.laws.kept_blocks_are_sealed_alone.Goals as goal

pub returns : goal.returns
returns c = λ words old new keeper0 keeper1 report run. kept_shown run.ran

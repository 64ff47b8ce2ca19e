use Rattle.ob_headline.proofs.PieceLemmas.{pieces}
use Rattle.ob_headline.proofs.laws.texts_are_pieces.Goals as goal

pub returns : goal.returns
returns c bytes short = pieces bytes short

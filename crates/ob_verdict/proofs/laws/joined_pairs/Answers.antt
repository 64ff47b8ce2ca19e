use Rattle.ob_verdict.proofs.JoinLemmas.{rows-joined}
use Rattle.ob_verdict.proofs.laws.joined_pairs.Goals as goal

pub returns : goal.returns
returns c = rows-joined

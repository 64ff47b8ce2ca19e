use Rattle.ob_headline.proofs.laws.leaves_are_draws.Goals as goal

pub returns : goal.returns
returns c one = one.run.accesses.drawn

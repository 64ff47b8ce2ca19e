use Rattle.ob_reopen.proofs.LimitLemmas.{ends_few}
use Rattle.ob_reopen.proofs.limits.goes_on.Goals as goal

pub all_apart-requires-clause-before : goal.all_apart-requires-clause-before
all_apart-requires-clause-before c = ends_few c.args.closing c.args.before.now c.requires.marked c.requires.before

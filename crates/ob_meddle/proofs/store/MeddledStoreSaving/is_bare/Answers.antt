use Rattle.ob_meddle.proofs.StoreLemmas.{none_kept}
use Rattle.ob_meddle.proofs.store.MeddledStoreSaving.is_bare.Goals as goal

pub returns-clause-empty : goal.returns-clause-empty
returns-clause-empty c = λ tells bare. c.is_empty.ensures.1 (none_kept c.args.self.now.regions bare.none)

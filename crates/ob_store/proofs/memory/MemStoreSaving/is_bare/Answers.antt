use Rattle.ob_store.proofs.SweepLemmas.{bare_is_empty}
use Rattle.ob_store.proofs.memory.MemStoreSaving.is_bare.Goals as goal

pub returns-clause-empty : goal.returns-clause-empty
returns-clause-empty c = λ tells bare. c.is_empty.ensures.1 (bare_is_empty c.args.self.now.regions bare.none)

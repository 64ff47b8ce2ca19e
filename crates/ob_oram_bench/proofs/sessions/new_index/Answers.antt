use Rattle.ob_vault.proofs.WordLemmas.{starts_anew}
use Rattle.ob_oram_bench.proofs.sessions.new_index.Goals as goal

pub made-requires-clause-ready : goal.made-requires-clause-ready
made-requires-clause-ready g c = starts_anew (c.new-vault.ensures.ready _ c.requires.none) c.new-vault.ensures.started

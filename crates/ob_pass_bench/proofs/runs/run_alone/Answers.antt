use Rattle.ob_vault.proofs.WordLemmas.{starts_anew}
use Rattle.ob_pass_bench.proofs.runs.run_alone.Goals as goal

pub run_case-requires-clause-ready : goal.run_case-requires-clause-ready
run_case-requires-clause-ready g c = starts_anew (c.new-vault.ensures.ready _ c.new-store.ensures.asked) c.new-vault.ensures.started

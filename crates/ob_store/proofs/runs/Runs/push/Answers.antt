use Rattle.std.proofs.Common.{◌++◌, ◌∷◌, [], ◌∙◌, ap, arith}
use Rattle.ob_store.specs.Logs.{RunsState, spelt}
use Rattle.ob_store.proofs.RunLemmas.{spelt_added}
use Rattle.ob_store.proofs.KeptLemmas.{full_of}
use Rattle.ob_store.proofs.runs.Runs.push.Goals as goal

pub returns-clause-asked : goal.returns-clause-asked
returns-clause-asked c =
    ap spelt c.lengthen.ensures.runs ∙ spelt_added c.args.access _ (full_of _ _ _ _ _ (omega arith) c.self.invariant.sound)
    ∙ ap (λ (s : RunsState). spelt s.runs ++ c.args.access ∷ []) c.self.view_is

use Rattle.std.proofs.Common.{sym, ◌∙◌, ap, length}
use Rattle.ob_store.specs.Logs.{RunsState, spelt}
use Rattle.ob_store.proofs.KeptLemmas.{length-spelt}
use Rattle.ob_store.proofs.runs.Runs.count.Goals as goal

pub returns : goal.returns
returns c = sym (length-spelt _ _ _ _ _ c.self.invariant.sound) ∙ ap (λ (s : RunsState). length (spelt s.runs)) c.self.view_is

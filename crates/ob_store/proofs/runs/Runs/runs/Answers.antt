use Rattle.std.proofs.Common.{ap, length, arith}
use Rattle.ob_store.specs.Logs.{RunsState, spelt}
use Rattle.ob_store.proofs.KeptLemmas.{length-spelt, length-runs_of, reach}
use Rattle.ob_store.proofs.runs.Runs.runs.Goals as goal

pub returns-clause-runs : goal.returns-clause-runs
returns-clause-runs c = omega (arith, c.len.ensures, c.self.inside.starts.ok.0, length-runs_of c.self.inside.cycles.items c.self.inside.starts.items (length c.self.inside.starts.items) (length c.self.inside.cycles.items) c.self.inside.count, ap (λ (s : RunsState). length s.runs) c.self.view_is)

pub returns-clause-few : goal.returns-clause-few
returns-clause-few c =
    let r = reach _ _ _ _ c.self.invariant.sound in
    omega (arith, c.len.ensures, c.self.inside.starts.ok.0, r.0, r.1, length-spelt c.self.inside.cycles.items _ _ _ _ c.self.invariant.sound, ap (λ (s : RunsState). length (spelt s.runs)) c.self.view_is)

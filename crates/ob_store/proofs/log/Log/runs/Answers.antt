use Rattle.std.proofs.Common.{◌∙◌, ap, arith, length, length-append}
use Rattle.ob_store.specs.Logs.{LogState, asked_of, spelt}
use Rattle.ob_store.proofs.log.Log.runs.Goals as goal

pub returns-clause-runs : goal.returns-clause-runs
returns-clause-runs c = c.runs.ensures.runs ∙ ap (λ (s : LogState). length s.runs) c.self.view_is

pub returns-clause-few : goal.returns-clause-few
returns-clause-few c =
    omega (
      arith,
      c.runs.ensures.few,
      length-append c.self.inside.past.accesses (spelt c.self.inside.runs.runs),
      ap (λ (s : LogState). length (asked_of s)) c.self.view_is,
    )

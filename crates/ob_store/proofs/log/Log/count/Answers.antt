use Rattle.std.proofs.Common.{ap, arith, length, length-append}
use Rattle.ob_store.specs.Logs.{LogState, asked_of, spelt}
use Rattle.ob_store.proofs.log.Log.count.Goals as goal

pub overflow_add-result : goal.overflow_add-result
overflow_add-result c = omega (arith, c.self.invariant.few, c.count.ensures)

pub returns : goal.returns
returns c =
    omega (
      arith,
      c.count.ensures,
      c.self.invariant.count,
      length-append c.self.inside.past.accesses (spelt c.self.inside.runs.runs),
      ap (λ (s : LogState). length (asked_of s)) c.self.view_is,
    )

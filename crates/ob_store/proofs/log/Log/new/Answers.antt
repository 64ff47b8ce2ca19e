use Rattle.std.proofs.Common.{◌++◌, ◌∙◌, List, ap, arith, length, sym}
use Rattle.ob_store.specs.Logs.{Run, spelt}
use Rattle.ob_store.proofs.LogLemmas.{spelt-nil}
use Rattle.ob_store.proofs.log.Log.new.Goals as goal

pub invariant_of-result : goal.invariant_of-result
invariant_of-result c =
    let none = ap (λ (runs : List Run). length (spelt runs)) c.new-2.ensures in
    let nil = ap length spelt-nil in
    record { count = sym (ap length c.new.ensures); few = omega (arith, none, nil) }

pub returns-clause-asked : goal.returns-clause-asked
returns-clause-asked c = (λ i. c.new.ensures i ++ spelt (c.new-2.ensures i)) ∙ spelt-nil

use Rattle.std.proofs.Common.{arith}
use Rattle.ob_store.specs.Logs.{asked_of}
use Rattle.ob_meddle.proofs.StoreLemmas.{fresh_none, counted_none, honest_none}
use Rattle.ob_meddle.proofs.store.MeddledStore.new.Goals as goal

pub returns-clause-asked : goal.returns-clause-asked
returns-clause-asked c = c.new.ensures.asked

pub invariant_of-result : goal.invariant_of-result
invariant_of-result c =
    let asked = asked_of c.new.result in
    let regions = c.new-2.result in
    let none = c.new.ensures.asked in
    let list = c.from_vec.result in
    record {
      fresh = fresh_none asked c.new-3.result none c.new-3.ensures.empty;
      few = omega arith;
      counted = λ still. counted_none list asked none;
      honest = λ still. honest_none list asked regions c.new-2.ensures.empty;
      early = λ x is. absurd (cc is);
      caused = λ still x is. absurd (cc is);
    }

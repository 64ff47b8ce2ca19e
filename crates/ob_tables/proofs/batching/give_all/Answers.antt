use Rattle.std.proofs.Common.{◌<◌, ◌≤◌, None, length, length-set, ◌∙◌, arith}
use Rattle.ob_tables.proofs.BatchLoops.{all_given_to, one_given}
use Rattle.ob_tables.proofs.batching.give_all.Goals as goal

pub loop-j-preserved : goal.loop-j-preserved
loop-j-preserved c =
    let before = c.loop-j.invariant in
    let j = c.loop-j.j in
    let outcomes = c.loop-j.outcomes in
    let next = c.give_next-outcome.result.0 in
    let room : j < length outcomes = omega (arith, before.size, c.loop-j-test.true) in
    record {
      size = length-set outcomes j next ∙ before.size;
      within = c.give_next-outcome.ensures.within;
      told =
          one_given _ c.args.answers.now c.loop-j.given c.give_next-outcome.result.1 j c.args.refusals.now outcomes next None c.loop-j-test.true room c.give_next-outcome.ensures.outcome
          c.give_next-outcome.ensures.behind before.told;
    }

pub returns : goal.returns
returns c =
    let past : length c.args.refusals.now ≤ c.loop-j.j = omega (arith, c.loop-j-test.false) in
    let most : length c.loop-j.outcomes ≤ c.loop-j.j = omega (arith, c.loop-j-test.false, c.loop-j.invariant.size) in
    all_given_to _ c.args.answers.now c.loop-j.given c.loop-j.j c.args.refusals.now c.loop-j.outcomes past most c.loop-j.invariant.told

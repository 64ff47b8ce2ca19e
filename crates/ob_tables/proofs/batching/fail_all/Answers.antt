use Rattle.std.proofs.Common.{◌<◌, ◌≤◌, None, length, length-set, ◌∙◌, arith}
use Rattle.ob_tables.proofs.BatchLoops.{all_failed_with, one_failed}
use Rattle.ob_tables.proofs.batching.fail_all.Goals as goal

pub loop-j-preserved : goal.loop-j-preserved
loop-j-preserved c =
    let before = c.loop-j.invariant in
    let j = c.loop-j.j in
    let outcomes = c.loop-j.outcomes in
    let room : j < length outcomes = omega (arith, before.size, c.loop-j-test.true) in
    record {
      size = length-set outcomes j c.failed_by.result ∙ before.size;
      told = one_failed j c.args.refusals.now outcomes c.failed_by.result None c.loop-j-test.true room c.failed_by.ensures before.told;
    }

pub returns : goal.returns
returns c =
    let past : length c.args.refusals.now ≤ c.loop-j.j = omega (arith, c.loop-j-test.false) in
    let most : length c.loop-j.outcomes ≤ c.loop-j.j = omega (arith, c.loop-j-test.false, c.loop-j.invariant.size) in
    all_failed_with c.loop-j.j c.args.refusals.now c.loop-j.outcomes past most c.loop-j.invariant.told

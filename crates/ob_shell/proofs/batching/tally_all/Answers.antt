use Rattle.ob_shell.proofs.Words.{arith, length, refl, sym, ◌∙◌, ◌≤◌}
use Rattle.ob_shell.proofs.LineLemmas.{tally_at, tally_done}
use Rattle.ob_shell.proofs.batching.tally_all.Goals as goal

pub loop-i-init : goal.loop-i-init
loop-i-init c = record { counted = refl }

pub loop-i-preserved : goal.loop-i-preserved
loop-i-preserved c = record {
  counted =
      rw c.tally_with-tally.ensures (sym (tally_at c.loop-i.tally c.args.outcomes.now c.loop-i.i _ c.loop-i-test.true) ∙ c.loop-i.invariant.counted);
}

pub returns : goal.returns
returns c =
    let end : length c.args.outcomes.now ≤ c.loop-i.i = omega arith in
    sym (tally_done c.loop-i.tally c.args.outcomes.now c.loop-i.i end) ∙ c.loop-i.invariant.counted

use Rattle.std.proofs.Common.{arith}
use Rattle.ob_seal.proofs.LookedUp.{none_left, none_more}
use Rattle.ob_seal.proofs.greatest.Goals as goal

pub each-preserved : goal.each-preserved
each-preserved c = record {
  left = λ n most none. c.each.invariant.left n (omega arith) (none_more n c.each.i c.args.held.now _ (omega arith) c.index-held-i.is (omega arith) none);
}

pub returns : goal.returns
returns c = c.each.invariant.left c.each.most (omega arith) (none_left c.each.most c.each.i c.args.held.now (omega arith))

use Rattle.std.proofs.Common.{length}
use Rattle.ob_store.specs.Gave.{gave_of}
use Rattle.ob_meddle.specs.Acts.{stands_of}
use Rattle.ob_meddle.specs.Caught.{lie_of}
use Rattle.ob_meddle.specs.Shows.{state_of}
use Rattle.ob_meddle.proofs.store.MeddledStoreBlockStore.let_go.Goals as goal

pub invariant_of-self : goal.invariant_of-self
invariant_of-self c =
    let old = c.args.self.now in
    let same = c.let_go.ensures.asked in
    record {
      fresh = rw same old.fresh;
      few = rw same old.few;
      counted = rw same old.counted;
      honest = rw same old.honest;
      early = rw same old.early;
      caused = old.caused;
    }

pub returns-clause-is : goal.returns-clause-is
returns-clause-is c =
    let old = c.args.self.now in
    let same = c.let_go.ensures.asked in
    λ i. record (state_of old) {
      asked = same i;
      let_go = length (c.let_go.ensures.past i);
      spare = c.let_go.new.self.spare;
      lie = lie_of old.caught (same i);
      gave = gave_of (stands_of old.regions) (same i);
    }

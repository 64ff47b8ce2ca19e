use Rattle.std.proofs.Common.{length}
use Rattle.std.specs.BTreeMap.{get}
use Rattle.std.specs.Ordering.{nat_cmp}
use Rattle.ob_store.specs.Gave.{gave_of}
use Rattle.ob_store.specs.Memory.{bytes_of}
use Rattle.ob_store.specs.MemoryState.{state_of}
use Rattle.ob_store.proofs.memory.MemStoreBlockStore.let_go.Goals as goal

pub invariant_of-self : goal.invariant_of-self
invariant_of-self c = record { fresh = rw c.let_go.ensures.asked c.args.self.now.fresh; unfailed = c.args.self.now.unfailed }

pub returns-clause-is : goal.returns-clause-is
returns-clause-is c =
    let old = c.args.self.now in
    let same = c.let_go.ensures.asked in
    λ i. record (state_of old) {
      asked = same i;
      let_go = length (c.let_go.ensures.past i);
      spare = c.let_go.new.self.spare;
      gave = gave_of (λ q x. bytes_of (get nat_cmp old.regions q) x) (same i);
    }

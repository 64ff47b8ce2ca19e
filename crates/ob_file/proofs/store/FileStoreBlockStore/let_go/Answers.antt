use Rattle.std.proofs.Common.{None, false, length, take}
use Rattle.std.specs.BTreeMap.{get}
use Rattle.std.specs.Ordering.{nat_cmp}
use Rattle.ob_file.specs.Regions.{shape_of}
use Rattle.ob_file.proofs.store.FileStoreBlockStore.let_go.Goals as goal

pub invariant_of-self : goal.invariant_of-self
invariant_of-self g c = record { fresh = rw c.let_go.ensures.asked c.args.self.now.fresh; short = c.args.self.now.short }

pub returns-clause-is : goal.returns-clause-is
returns-clause-is g c =
    let old = c.args.self.now in
    λ i. record {
      asked = c.let_go.ensures.asked i;
      let_go = length (c.let_go.ensures.past i);
      spare = c.let_go.new.self.spare;
      faults = old.faults;
      slips = old.slips;
      live = λ r. shape_of (get nat_cmp old.regions r);
      tells = false;
      last = λ r p. None;
      lie = None;
      kept = λ r. None;
      gave = take old.given_len old.given;
      disturbed = None;
    }

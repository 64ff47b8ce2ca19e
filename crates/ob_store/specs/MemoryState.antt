-- What contracts see of a store in memory.
use Rattle.std.specs.Prelude.{length, true, Some, None, [], if◌then◌else◌}
use Rattle.std.specs.Ordering.{nat_cmp}
use Rattle.std.specs.BTreeMap.{get}
use Rattle.std.specs.BTreeSet.{contains}
use Rattle.ob_store.specs.State.{StoreState}
use Rattle.ob_store.specs.Logs.{asked_of}
use Rattle.ob_store.specs.Gave.{gave_of}
use Rattle.ob_store.specs.Memory.{live_shape, kept_of, last_of, bytes_of}
use Rattle.ob_store.specs.declared.memory.MemStore.{MemStore}

abbrev pub state_of : MemStore → StoreState
state_of m = record {
  asked = asked_of m.log;
  let_go = length m.log.past;
  spare = m.log.spare;
  faults = m.faults;
  slips = 0;
  live = λ q. live_shape (contains nat_cmp m.live q) (get nat_cmp m.regions q);
  tells = true;
  last = λ q x. last_of (get nat_cmp m.regions q) x;
  lie = None;
  kept = λ q. kept_of (get nat_cmp m.regions q);
  gave = gave_of (λ q x. bytes_of (get nat_cmp m.regions q) x) (asked_of m.log);
  disturbed = if m.reopened then None else Some [];
}

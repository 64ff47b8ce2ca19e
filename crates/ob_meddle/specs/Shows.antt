-- When the changes of a store show.
use Rattle.std.specs.Prelude.{◌≡◌, ◌<◌, ◌+◌, ◌||◌, ℕ, is_none, Bool, true, false, List, Option, Some, None, length}
use Rattle.std.specs.Ordering.{nat_cmp}
use Rattle.std.specs.BTreeSet.{contains}
use Rattle.ob_store.specs.State.{Disturbance, FalseRead, StoreState}
use Rattle.ob_store.specs.Calls.{IsQuiet}
use Rattle.ob_meddle.specs.declared.meddle.Meddle.{Meddle}
use Rattle.ob_meddle.specs.declared.store.MeddledStore.{MeddledStore}
use Rattle.ob_store.specs.Logs.{asked_of}
use Rattle.ob_store.specs.Gave.{gave_of}
use Rattle.ob_meddle.specs.Acts.{RegionRests, Stands, rests_of, stands_of, after_acts}
use Rattle.ob_meddle.specs.Regions.{usable_shape, kept_at, last_at}
use Rattle.ob_meddle.specs.Caught.{lie_of}
use Rattle.ob_meddle.specs.Due.{fails_at, failed_among, has_acted, are_later, disturbances, is_source}

-- the changes that a store was made with
abbrev pub list_of : MeddledStore → List Meddle
list_of m = m.list

-- what is told of them: nothing of a store that outlasted a run, or of which an earlier run's region was asked for
abbrev pub told_of : (reopened : Bool) → List Meddle → Option (List Disturbance)
told_of true list = None
told_of false list = disturbances list

abbrev pub state_of : MeddledStore → StoreState
state_of m = record {
  asked = asked_of m.log;
  let_go = length m.log.past;
  spare = m.log.spare;
  faults = m.faults;
  slips = m.slips;
  live = λ q. usable_shape (contains nat_cmp m.usable q) (rests_of m.regions q);
  tells = true;
  last = λ q x. last_at (rests_of m.regions q) x;
  lie = lie_of m.caught (asked_of m.log);
  kept = λ q. kept_at (rests_of m.regions q);
  gave = gave_of (stands_of m.regions) (asked_of m.log);
  disturbed = told_of m.reopened m.list;
}

-- whether the blocks of a region that is given up are kept, to be copied: where a change copies from it, and, so that
-- a later run's changes may, where nothing is told of what others do
abbrev pub keeps_gone : MeddledStore → ℕ → Bool
keeps_gone m region = is_none (state_of m).disturbed || is_source m.list region

-- what stands at a region's place, whoever put it there
abbrev pub standing : MeddledStore → Stands
standing m = stands_of m.regions

-- the same once the acts before the next access are done
abbrev pub standing_next : MeddledStore → Stands
standing_next m = after_acts (rests_of m.regions) m.list (length (asked_of m.log) + 1) (stands_of m.regions)

-- what a region has beside that: its shape, what was written last, and what stood before; of a discarded
-- one too, as long as it may be copied from
abbrev pub held : MeddledStore → RegionRests
held m = rests_of m.regions

-- whether the next access is to fail
abbrev pub fails_next : MeddledStore → Bool
fails_next m = fails_at m.list (length (asked_of m.log) + 1)

pub record Shows (list : List Meddle) (s : StoreState) : Type 0 where
  -- as many calls failed as there are accesses so far that were to fail
  pub counted : s.faults + s.slips ≡ failed_among list (length s.asked)
  -- a read that was asked lies only where an act other than Fail came before it
  pub asked : (lie : FalseRead) → s.lie ≡ Some lie → length lie.before < length s.asked
  pub caused : (lie : FalseRead) → s.lie ≡ Some lie → has_acted list (length lie.before + 1) ≡ true
  -- nothing shows before the first change
  pub quiet : are_later list (length s.asked) ≡ true → IsQuiet s
  -- it says before which accesses they come, and which of them fail
  pub disturbed : s.disturbed ≡ disturbances list

-- What saving an engine's tables after a statement asks for, and what it leaves in the store and with the keeper, whatever
-- fails.
use Rattle.std.specs.Prelude.{◌≡◌, ◌≢◌, ◌⊎◌, ◌≤◌, ◌<◌, ◌+◌, ◌^◌, ◌++◌, ℕ, Bool, true, false, IsTrue, List, Option, None, Some, Result, IfErr, OnOk, OnErr}
use Rattle.ob_base.specs.Accesses.{drop_script, make_at}
use Rattle.ob_base.specs.Counts.{Rises}
use Rattle.ob_base.specs.Stored.{headings_of}
use Rattle.ob_reopen.specs.declared.mark.Mark.{Mark}
use Rattle.ob_mean.specs.Flats.{AreFlat}
use Rattle.ob_mean.specs.Verdict.{Tables}
use Rattle.ob_reopen.specs.Closed.{is_used_up}
use Rattle.ob_reopen.specs.Closings.{saved_mark}
use Rattle.ob_reopen.specs.Keepers.{KeeperState}
use Rattle.ob_reopen.specs.Resting.{AcceptsClosings, by_name}
use Rattle.ob_reopen.specs.declared.fault.CloseErr.{CloseErr}
use Rattle.ob_reopen.specs.declared.fault.CloseErr.TheVariants as CloseErrs
use Rattle.ob_script.specs.Saved.{saved_public}
use Rattle.ob_seal.specs.KeySet.{pair_of}
use Rattle.ob_select.specs.Selecting.{AcceptsRows}
use Rattle.ob_select.specs.Settings.{IsFree}
use Rattle.ob_store.specs.Runs.{Began, Did, Later}
use Rattle.ob_store.specs.State.{StoreState}
use Rattle.ob_vault.specs.Calls.{Seals}
use Rattle.ob_vault.specs.State.{RevState}
use Rattle.ob_vault.specs.Tied.{Untampered}
use Rattle.ob_tables.specs.Agreeing.{Agrees, count_of, draws_of, engine_keys, engine_start, has_ended, high_of, indexes_of, opened_from, public_of, replaced_of, seen_of, world_of}
use Rattle.ob_tables.specs.Closing.{next_closing}
use Rattle.ob_tables.specs.Saving.{RestsIn, Waits, save_script}
use Rattle.ob_tables.specs.Telling.{Represents}
use Rattle.ob_tables.specs.declared.engine.Engine.{Engine}
use Rattle.ob_tables.specs.declared.stop.RunStop.{RunStop}
use Rattle.ob_tables.specs.declared.stop.RunStop.TheVariants.{KeeperFault, NoMemory, SinkFault, StashFull, StoreFault, Tampered}

-- ---- what it asks for
-- an engine whose tables are saved after each statement that changes them: what saves them can do so, its run has a salt for
-- each region that it makes from now on, and the closing that it discards next is the one that is public
pub record MaySave {R : Type 0} (Saves : Type 0) (e : Engine R) : Type 0 where
  pub saves : (public_of e).save ≡ true → Saves
  pub salted : (public_of e).save ≡ true → (q : ℕ) → (public_of e).next_region ≤ q
      → (pair_of (engine_keys e) q).salt ≢ None
  pub listed : (public_of e).save ≡ true → opened_from e ≡ (public_of e).closing

-- and once its own share of a statement is done: it takes statements, and has nothing to discard but the region that the
-- statement left; none of its tables is an index, and there are numbers and a salt left for the closing
pub record MayBeSaved {R : Type 0} (state : R → RevState) (left : Option ℕ) (e : Engine R)
    (s : StoreState) : Type 0 where
  pub agrees : Agrees state e s
  pub lives : has_ended e ≡ false
  pub waits : Waits state left e s
  pub settled : replaced_of e ≡ None
  pub flat : AreFlat (headings_of (public_of e).tables)
  pub few : count_of e s < 2 ^ 63 + 2 ^ 59
  pub salted : (pair_of (engine_keys e) (public_of e).next_region).salt ≢ None

-- ---- what it does
-- the keeper holds the mark of the closing that is made next, and the tables that the engine holds rest there
pub record HoldsSaved {R : Type 0} (state : R → RevState) (e : Engine R) (s t : StoreState)
    (keeper : KeeperState) : Type 0 where
  pub salt : List ℕ
  pub of : (pair_of (engine_keys e) (next_closing e s).region).salt ≡ Some salt
  pub is : keeper.held ≡ Some (saved_mark (next_closing e s) salt
      (pair_of (engine_keys e) (next_closing e s).region).check)
  pub rests : IsTrue s.tells → (tables : Tables) → Represents state e s tables
      → RestsIn (engine_keys e) (next_closing e s) t.kept (by_name tables) (public_of e).tables

-- the engine takes the next statement, and has nothing to discard
pub record GoesOnSaved {R : Type 0} (state : R → RevState) (e : Engine R) (s : StoreState)
    (saved : Engine R) (t : StoreState) : Type 0 where
  pub agrees : Agrees state saved t
  pub public : public_of saved ≡ saved_public (public_of e)
  pub listed : opened_from saved ≡ (public_of saved).closing
  pub lives : has_ended saved ≡ false
  pub settled : replaced_of saved ≡ None
  pub told : IsTrue s.tells → (tables : Tables) → Represents state e s tables
      → Represents state saved t tables

-- the stop of a session whose tables could not be saved
abbrev pub saving_stop : CloseErr → RunStop
saving_stop CloseErrs.Failed = StoreFault
saving_stop CloseErrs.NoMemory = NoMemory

-- no mark may name the closing that would be made, and nothing was asked
pub record IsUsedUp {R : Type 0} (e : Engine R) (s t : StoreState) : Type 0 where
  pub used_up : is_used_up (next_closing e s) ≡ true
  pub same : t ≡ s

-- why tables weren't saved: a call of the store failed, or there is no number left for a closing; memory was wanted before the
-- first access, or where the closing's region is made; or the keeper failed, once all was written
abbrev pub SavingCause : {R : Type 0} → RunStop → Engine R → (s t : StoreState)
    → (old new : KeeperState) → Type 0
SavingCause StoreFault e s t old new =
    (Rises s.faults t.faults ⊎ IsUsedUp e s t) × (new ≡ old)
SavingCause NoMemory e s t old new =
    Began (make_at (next_closing e s).region (next_closing e s).blocks 1024) s t
    × (t.faults ≡ s.faults) × (new ≡ old)
SavingCause KeeperFault e s t old new = Did (save_script e s) s t × Rises old.faults new.faults
SavingCause SinkFault e s t old new = ⊥
SavingCause StashFull e s t old new = ⊥
SavingCause (Tampered region place) e s t old new = ⊥

-- an engine's tables were saved, and what the mark needs no more was discarded, or why not
pub record SavesTables {T R : Type 0} (state : R → RevState) (left : Option ℕ)
    (result : Result T RunStop) (e : Engine R) (s : StoreState) (saved : Engine R)
    (t : StoreState) (old new : KeeperState) : Type 0 where
  -- a keeper that tells holds the new mark, or, where tables weren't saved, the one that it held or the new one
  pub held : OnOk result ((mark : Mark) → old.held ≡ Some mark → HoldsSaved state e s t new)
  pub stays : OnErr result ((mark : Mark) → old.held ≡ Some mark
      → (new.held ≡ Some mark) ⊎ HoldsSaved state e s t new)
  -- and then nothing has changed of the regions that there were: what rested for that mark goes on to rest
  pub kept : OnErr result ((q : ℕ) → q ≢ (next_closing e s).region → t.kept q ≡ s.kept q)
  pub others : OnOk result ((q : ℕ) → q ≢ (next_closing e s).region → (left ≡ Some q → ⊥)
      → (opened_from e ≡ Some q → ⊥) → t.kept q ≡ s.kept q)
  -- what is discarded is so only once the keeper holds the new mark
  pub asked : OnOk result (Did
      (save_script e s ++ (drop_script left ++ drop_script (opened_from e))) s t)
  pub began : OnErr result (Began (save_script e s) s t)
  pub goes_on : OnOk result (GoesOnSaved state e s saved t)
  pub counted : OnOk result (new.faults ≡ old.faults)
  pub drawn : new.drawn ≡ old.drawn
  pub cause : IfErr result (λ stop. SavingCause stop e s t old new)
  pub keys : engine_keys saved ≡ engine_keys e
  pub start : engine_start saved ≡ engine_start e
  pub draws : draws_of saved ≡ draws_of e
  pub seen : seen_of saved ≡ seen_of e
  pub indexes : indexes_of saved ≡ indexes_of e
  -- all rows of the room are free again, and one at least was open where anything was asked
  pub room : IsFree (public_of e) saved.room
  pub high : high_of e ≤ high_of saved
  pub some : (t.asked ≡ s.asked → ⊥) → 1 ≤ high_of saved
  pub later : Later s t
  pub calm : Untampered (world_of state e s) → Untampered (world_of state saved t)
  -- and nothing comes to lie in clear
  pub sealed : (good : ℕ → List ℕ → Bool) → AcceptsRows good (public_of e).pack
      → AcceptsClosings good → Seals good (world_of state e s) (world_of state saved t)

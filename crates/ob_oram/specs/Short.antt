-- An access of an index that gave up, whatever the store answered.
use Rattle.std.specs.Prelude.{◌≡◌, ◌≢◌, ◌⊎◌, ◌<◌, ◌≤◌, ◌+◌, ℕ, length}
use Rattle.ob_base.specs.Counts.{Rises}
use Rattle.ob_store.specs.Runs.{Began}
use Rattle.ob_vault.specs.State.{World}
use Rattle.ob_vault.specs.Tied.{Untampered, EndsAt}
use Rattle.ob_vault.specs.Calls.{Lasts, EndsRead, two}
use Rattle.ob_oram.specs.declared.index.Index.{Index}
use Rattle.ob_oram.specs.declared.fault.OramErr.{OramErr}
use Rattle.ob_oram.specs.declared.fault.OramErr.TheVariants.{Failed, Tampered, StashFull}
use Rattle.ob_base.specs.Indexes.{path_blocks}
use Rattle.ob_oram.specs.Scripts.{access_script}

-- why it gave up: the store failed, the block that was read last is another, or the stash is full
abbrev pub ShortCause : OramErr → World → World → Type 0
ShortCause Failed old new = Rises old.store.faults new.store.faults × (Untampered old → Untampered new)
ShortCause (Tampered q x) old new =
    (new.store.faults ≡ old.store.faults) × EndsRead q x new
    × (Untampered old → Untampered new ⊎ EndsAt q x new)
ShortCause StashFull old new = (new.store.faults ≡ old.store.faults) × (Untampered old → Untampered new)

-- no more was asked than the reads of an access
abbrev pub AsksReads : Index → World → World → Type 0
AsksReads index old new =
    length new.store.asked ≤ length old.store.asked + (index.slots + path_blocks index.height)

-- a first part of its script was asked, one access at least, and no other region has changed
pub record AccessShort (e : OramErr) (index : Index) (leaf : ℕ) (old new : World) : Type 0 where
  pub lasts : Lasts (two index.tree index.stash) old new
  pub began : Began (access_script index leaf) old.store new.store
  pub asks : length old.store.asked < length new.store.asked
  pub cause : ShortCause e old new
  -- where the stash is full all was read, and nothing written
  pub full : e ≡ StashFull → length new.store.asked
      ≡ length old.store.asked + (index.slots + path_blocks index.height)
  -- a block that is another was found by a read
  pub reads : e ≢ Failed → AsksReads index old new

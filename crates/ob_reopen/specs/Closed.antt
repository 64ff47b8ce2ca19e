-- What a run leaves that is closed, and why it isn't.
use Rattle.std.specs.Prelude.{◌≡◌, ◌||◌, ◌^◌, ℕ, Bool, List, nat_le}
use Rattle.ob_base.specs.Counts.{Rises}
use Rattle.ob_base.specs.declared.access.Access.{Access}
use Rattle.ob_reopen.specs.declared.mark.Mark.{Mark}
use Rattle.ob_reopen.specs.declared.mark.Mark.TheVariants.{InUse}
use Rattle.ob_store.specs.Runs.{Began, Did}
use Rattle.ob_store.specs.State.{StoreState}
use Rattle.ob_reopen.specs.declared.closing.Closing.{Closing}
use Rattle.ob_reopen.specs.declared.fault.CloseErr.{CloseErr}
use Rattle.ob_reopen.specs.declared.fault.CloseErr.TheVariants.{Failed, NoMemory}
use Rattle.ob_reopen.specs.Closings.{mark_of}
use Rattle.ob_reopen.specs.Keepers.{IsMark}

-- whether its numbers are above what a mark may name
abbrev pub is_used_up : Closing → Bool
is_used_up closing = nat_le (2 ^ 63) closing.region || nat_le (2 ^ 63) closing.number

-- why an engine wasn't closed: `Failed` comes only where the store's faults rose, and no other error where they did
abbrev pub ClosingCause : CloseErr → (s t : StoreState) → Type 0
ClosingCause Failed s t = Rises s.faults t.faults
ClosingCause NoMemory s t = t.faults ≡ s.faults

-- it was not closed: a first part was asked
pub record NotClosed (script : List Access) (e : CloseErr) (s t : StoreState) : Type 0 where
  pub began : Began script s t
  pub cause : ClosingCause e s t

-- where the numbers are used up the run stays in use, and nothing was asked
pub record StaysInUse (mark : Mark) (s t : StoreState) : Type 0 where
  pub is : mark ≡ InUse
  pub same : t ≡ s

-- the closing was written, and the mark names it
pub record IsClosedAs (closing : Closing) (script : List Access) (mark : Mark)
    (s t : StoreState) : Type 0 where
  pub is : mark ≡ mark_of closing
  pub within : IsMark mark
  pub did : Did script s t

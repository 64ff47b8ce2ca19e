-- The numbers of the draws whose leaves are read over many runs of one index after the other, of which any may be killed. All
-- draws of all runs are numbered on, in the order in which they were taken; a key of an index has a number of its own among all
-- keys, in the order in which the indexes were made.
use Rattle.std.specs.Prelude.{◌≢◌, ◌<◌, ℕ, suc, ◌+◌, List, [], ◌∷◌, ◌++◌, length, Option, Some, None, slice_index_or, slice_set}
use Rattle.ob_tree.specs.Scripts.{numbers}

pub data Event : Type 0 where
  -- an index of so many keys was made and saved, each of which takes a draw
  Made : ℕ → Event
  -- so many draws were taken in vain: a making that failed or wasn't saved, a renewal that wasn't saved
  Failed : ℕ → Event
  -- a key was accessed, which is none of the keys where its number is past all of them, and that was saved; it takes a draw
  Accessed : ℕ → Event
  -- a key's access had begun to read when its run was killed, before it was saved: in the run after it the key has the draw that
  -- it had
  Killed : ℕ → Event
  -- a run that went on after a kill gave these keys a new draw each
  Renewed : List ℕ → Event

-- these keys take the draws from the next on
abbrev pub renewed : (given : List ℕ) → (keys : List ℕ) → (next : ℕ) → List ℕ
renewed given [] next = given
renewed given (k ∷ ks) next = renewed (slice_set given k next) ks (suc next)

-- next is the number of the next draw, and given those of the draws that the keys' leaves are of
abbrev pub numbers_read : (next : ℕ) → (given : List ℕ) → List Event → List ℕ
numbers_read next given [] = []
numbers_read next given (Made n ∷ events) = numbers_read (next + n) (given ++ numbers next n) events
numbers_read next given (Failed n ∷ events) = numbers_read (next + n) given events
numbers_read next given (Accessed k ∷ events) = slice_index_or given k next ∷ numbers_read (next + 1) (slice_set given k next) events
numbers_read next given (Killed k ∷ events) = slice_index_or given k next ∷ numbers_read (next + 1) given events
numbers_read next given (Renewed ks ∷ events) = numbers_read (next + length ks) (renewed given ks next) events

-- no key has this draw
pub record NoneHas (draw : ℕ) (given : List ℕ) : Type 0 where
  pub none : (j : ℕ) → j < length given → slice_index_or given j 0 ≢ draw

-- after each kill keys are renewed until none has the draw that was read, before any key is accessed again
abbrev pub IsMended : (next : ℕ) → (given : List ℕ) → (pending : Option ℕ) → List Event → Type 0
IsMended next given pending [] = Unit {0}
IsMended next given None (Made n ∷ events) = IsMended (next + n) (given ++ numbers next n) None events
IsMended next given None (Failed n ∷ events) = IsMended (next + n) given None events
IsMended next given None (Accessed k ∷ events) = IsMended (next + 1) (slice_set given k next) None events
IsMended next given None (Killed k ∷ events) = IsMended (next + 1) given (Some (slice_index_or given k next)) events
IsMended next given None (Renewed ks ∷ events) = IsMended (next + length ks) (renewed given ks next) None events
IsMended next given (Some draw) (Made n ∷ events) = ⊥
IsMended next given (Some draw) (Failed n ∷ events) = IsMended (next + n) given (Some draw) events
IsMended next given (Some draw) (Accessed k ∷ events) = ⊥
IsMended next given (Some draw) (Killed k ∷ events) = ⊥
IsMended next given (Some draw) (Renewed ks ∷ events) =
    NoneHas draw (renewed given ks next) × IsMended (next + length ks) (renewed given ks next) None events

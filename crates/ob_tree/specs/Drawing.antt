-- The numbers of the draws that a session of several indexes reads. A key of an index has a number of its own among all
-- keys of the session, in the order in which the indexes were made.
use Rattle.std.specs.Prelude.{ℕ, ◌+◌, List, [], ◌∷◌, ◌++◌, slice_index_or, slice_set}
use Rattle.ob_tree.specs.Scripts.{numbers}

pub data Event : Type 0 where
  -- an index of so many keys was made, each of which takes a draw; or its making failed after its draws
  Made : ℕ → Event
  Failed : ℕ → Event
  -- a key was accessed, which is none of the keys where its number is past all of them; it takes a draw
  Accessed : ℕ → Event

-- next is the number of the next draw, and given those of the draws that the keys' leaves are of
abbrev pub numbers_read : (next : ℕ) → (given : List ℕ) → List Event → List ℕ
numbers_read next given [] = []
numbers_read next given (Made n ∷ events) = numbers_read (next + n) (given ++ numbers next n) events
numbers_read next given (Failed n ∷ events) = numbers_read (next + n) given events
numbers_read next given (Accessed k ∷ events) = slice_index_or given k next ∷ numbers_read (next + 1) (slice_set given k next) events

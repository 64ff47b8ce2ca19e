-- What an emitter takes.
use Rattle.std.specs.Prelude.{◌≡◌, ℕ, ◌+◌, List, ◌++◌, map, length, Result, Ok, Err}
use Rattle.ob_base.specs.declared.emit.EmitErr.{EmitErr}
use Rattle.ob_base.specs.declared.emit.EmitErr.TheVariants.{Failed, NoMemory}
use Rattle.ob_base.specs.declared.shown.Shown.{Shown}
use Rattle.ob_base.specs.Counts.{Rises}

-- the labels of an answer's columns, a row of it, and the number of its rows
pub data Event : Type 0 where
  Head : (labels : List (List ℕ)) → Event
  Row : (cells : List Shown) → Event
  Close : (k : ℕ) → Event

-- `Failed` comes only where the count rose, and any other answer leaves it
abbrev pub EmitCause : {T : Type 0} → Result T EmitErr → ℕ → ℕ → Type 0
EmitCause (Ok x) old new = new ≡ old
EmitCause (Err NoMemory) old new = new ≡ old
EmitCause (Err Failed) old new = Rises old new

abbrev pub row_events : List (List Shown) → List Event
row_events rows = map Row rows

-- an emitter that took some events took these after them
abbrev pub Leads : {E : Type 0} → (E → E → List Event → Type 0) → (E → E → List Event → Type 0) → E → E → List Event → Type 0
Leads {E} grew to old new more = (s : E) (events : List Event) → grew s old events → to s new (events ++ more)

-- rows were emitted after these events, `to - from` of them, and they are those of each source
pub record IsEmitted {E Source : Type 0} (grew : E → E → List Event → Type 0) (head : List Event) (shown : Source → List (List Shown)) (from to : ℕ) (old new : E) : Type 0 where
  pub rows : List (List Shown)
  pub count : to ≡ from + length rows
  pub leads : Leads grew grew old new (head ++ row_events rows)
  pub told : (source : Source) → rows ≡ shown source

-- some rows were emitted after these events, and they are the first of those of each source
pub record IsBegun {E Source : Type 0} (grew : E → E → List Event → Type 0) (head : List Event) (shown : Source → List (List Shown)) (old new : E) : Type 0 where
  pub rows : List (List Shown)
  pub leads : Leads grew grew old new (head ++ row_events rows)
  pub told : (source : Source) → (rest : List (List Shown)) × (rows ++ rest ≡ shown source)

-- the output ends within these events, or with them, as `to` says, and they are the first of those of each source
pub record IsHalted {E Source : Type 0} (grew to : E → E → List Event → Type 0) (all : Source → List Event) (old new : E) : Type 0 where
  pub events : List Event
  pub ends : Leads grew to old new events
  pub told : (source : Source) → (rest : List Event) × (events ++ rest ≡ all source)

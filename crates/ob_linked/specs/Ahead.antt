-- Texts on one index over many runs, of which any may be killed at any call: each operation is named by the mark before it is
-- done, and a run that goes on from a mark does it again.
use Rattle.std.specs.Prelude.{ℕ, Bool, List, [], ◌∷◌, ◌++◌, Option, Some, None, if◌then◌else◌}
use Rattle.ob_path.specs.Access.{Op, Got, Went, access}
use Rattle.ob_path.specs.States.{State}

pub data Text (R : Type 0) : Type 0 where
  -- its run was killed, or stopped, before the mark named it
  Unnamed : Op R → Text R
  -- the mark named it with its draw, and it was answered, or its run was killed before that, in the midst of its access or after it
  Named : Op R → (draw : ℕ) → (answered : Bool) → Text R

-- what rests: an index, and the operation that the mark names with its draw
pub record Rested (R : Type 0) : Type 0 where
  pub before : State R
  pub last : Option (Op R × ℕ)

abbrev pub state_behind : {R : Type 0} → Option (Went R) → Option (State R)
state_behind None = None
state_behind (Some w) = Some w.state

abbrev pub behind_last : {R : Type 0} → (R → ℕ) → ℕ → State R → Option (Op R × ℕ) → Option (State R)
behind_last key h s None = Some s
behind_last key h s (Some x) = state_behind (access key h s x.0 x.1)

-- the index that a run has once it has done that again; none where that fills the stash
abbrev pub woken : {R : Type 0} → (R → ℕ) → ℕ → Rested R → Option (State R)
woken key h r = behind_last key h r.before r.last

abbrev pub if_answered : {R : Type 0} → Bool → Option (Went R) → List (Got R)
if_answered answered None = []
if_answered answered (Some w) = if answered then w.got ∷ [] else []

-- what is answered, and what rests then, where each text is served by a run of its own, which goes on from what rests
pub record Served (R : Type 0) : Type 0 where
  pub answers : List (Got R)
  pub rested : Rested R

abbrev pub then_served : {R : Type 0} → List (Got R) → Served R → Served R
then_served answers more = record { answers = answers ++ more.answers; rested = more.rested }

abbrev pub unless_full : {R : Type 0} → Rested R → Option (State R) → (State R → Served R) → Served R
unless_full r None next = record { answers = []; rested = r }
unless_full r (Some s) next = next s

abbrev pub served : {R : Type 0} → (R → ℕ) → ℕ → Rested R → List (Text R) → Served R
served key h r [] = record { answers = []; rested = r }
served key h r (Unnamed op ∷ texts) = served key h r texts
served key h r (Named op draw answered ∷ texts) = unless_full r (woken key h r)
    (λ s. then_served (if_answered answered (access key h s op draw)) (served key h (record { before = s; last = Some (op, draw) }) texts))

-- the operations that the mark named
abbrev pub named : {R : Type 0} → List (Text R) → List (Op R × ℕ)
named [] = []
named (Unnamed op ∷ texts) = named texts
named (Named op draw answered ∷ texts) = (op, draw) ∷ named texts

-- of the answers to these, those that were given
abbrev pub given : {R : Type 0} → List (Text R) → List (Got R) → List (Got R)
given [] gots = []
given (Unnamed op ∷ texts) gots = given texts gots
given (Named op draw answered ∷ texts) [] = []
given (Named op draw answered ∷ texts) (got ∷ gots) = (if answered then got ∷ [] else []) ++ given texts gots

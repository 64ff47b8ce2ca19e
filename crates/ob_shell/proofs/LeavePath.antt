-- The machines along the statements that were answered, and the one begun.
use Rattle.ob_shell.proofs.Words.{after, Agrees, Answer, AreDraws, asked_of, by_fault, Does, Draws, drop, Ending, engine_keys, engine_start, Err, false, How, is_fault, is_full_now, length, List, Machine, map, None, Ok, Option, Outcome, public_of, Ran, RevState, RunStop, Position, seen_of, seen_or_cut, Session, session_of, session_stop, Since, Spelt, Stmt, Tables, ℕ, [], ⊤, ◌++◌, ◌<◌, ◌∷◌, ◌≡◌, ◌≤◌, ◌⊎◌}
use Rattle.ob_base.specs.declared.refusal.Stop.TheVariants.{SinkFault}
use Rattle.ob_headline.specs.SavedHeadline.{left_by}
use Rattle.ob_mean.specs.Replay.{Broken, head_of, rest_of}
use Rattle.ob_shell.specs.Steps.{GoTogether, Holds, Owes, StaysAs, TakesOwed, has_failed, tables_behind}
use Rattle.ob_tables.specs.Telling.{ReadsTrue}

module _ {R : Type 0} (state : R → RevState) where
  -- a statement was answered, and maybe others were carried out with it
  pub record IsDone (m0 m1 : Machine R) (stmt : Stmt) (outcome : Outcome) : Type 0 where
    pub does : Does state m0 m1 stmt (Ok outcome)
    pub owes : (tables : Tables) (d : Draws) → AreDraws m0.engine d → ReadsTrue state m0.engine m0.store m1.store tables → by_fault (is_fault outcome) (m1.owed ≡ []) (Owes m0 m1 stmt d tables)

  -- or it was carried out with the one before it
  pub record IsWith (m0 m1 : Machine R) (stmt : Stmt) (outcome : Outcome) : Type 0 where
    pub same : StaysAs m0 m1
    pub along : GoTogether (public_of m0.engine) stmt m1.owed
    pub owed : TakesOwed (has_failed m0.gathered.batch) (record { stmt = stmt; outcome = outcome }) m0.owed m1.owed

  -- a statement was stopped, and with it the session
  pub record IsStopped (ending : Ending) (m0 m2 : Machine R) (stmt : Stmt) : Type 0 where
    pub run : RunStop
    pub ends : ending ≡ Ran (Err (session_stop run))
    pub does : Does state m0 m2 stmt (Err run)

  -- it was answered, and then a sink failed
  pub record IsLast (ending : Ending) (m0 m2 : Machine R) (stmt : Stmt) : Type 0 where
    pub ends : ending ≡ Ran (Err SinkFault)
    pub outcome : Outcome
    pub done : IsDone m0 m2 stmt outcome ⊎ IsWith m0 m2 stmt outcome

  -- nothing was carried out, of those that come next neither
  pub record IsPassed (m0 m1 : Machine R) : Type 0 where
    pub same : StaysAs m0 m1
    pub free : m0.owed ≡ []
    pub owed : m1.owed ≡ []

  -- at the end no more was carried out
  pub record IsOver (m0 m2 : Machine R) : Type 0 where
    pub same : m2 ≡ m0
    pub free : m0.owed ≡ []

  abbrev pub EndsAlong : Ending → (m0 m2 : Machine R) → Spelt → Type 0
  EndsAlong ending m0 m2 (Err at) = IsPassed m0 m2
  EndsAlong ending m0 m2 (Ok stmt) = IsStopped ending m0 m2 stmt ⊎ IsLast ending m0 m2 stmt

  -- several flew: the tables, and what is saved of them, are as they were
  pub record HaveFlown (m0 m1 : Machine R) : Type 0 where
    pub free : m0.owed ≡ []
    pub owed : m1.owed ≡ []
    pub keeper : m1.keeper ≡ m0.keeper
    pub later : Since m0.store m1.store
    pub kept : (q : ℕ) → q < (public_of m0.engine).next_region → m1.store.kept q ≡ m0.store.kept q

  -- and the session goes on
  pub record HaveLanded (m0 m1 : Machine R) : Type 0 where
    pub flown : HaveFlown m0 m1
    pub agrees : Agrees state m1.engine m1.store
    pub public : public_of m1.engine ≡ record (public_of m0.engine) { next_region = (public_of m1.engine).next_region }
    pub more : (public_of m0.engine).next_region ≤ (public_of m1.engine).next_region
    pub keys : engine_keys m1.engine ≡ engine_keys m0.engine
    pub start : engine_start m1.engine ≡ engine_start m0.engine

  -- ---- and where the model stands beside them
  -- a statement's position is that of the machine
  pub record IsPositionOf (m : Machine R) (v : Position) : Type 0 where
    pub public : v.public ≡ public_of m.engine
    pub asked : v.asked ≡ asked_of m

  -- so is the first of these, if the text begun spells a statement
  abbrev pub BeginsPositions : (m : Machine R) → Spelt → List Position → Type 0
  BeginsPositions m (Err at) positions = ⊤
  BeginsPositions m (Ok stmt) [] = ⊥
  BeginsPositions m (Ok stmt) (v ∷ positions) = IsPositionOf m v

  -- a statement was answered by itself, and seen so
  pub record ServesSo (m0 m1 : Machine R) (d : Draws) (tables : Tables) (stmt : Stmt) (one : Answer) (how : How) : Type 0 where
    pub done : IsDone m0 m1 stmt one.outcome
    pub seen : seen_of m1.engine ≡ seen_or_cut how (session_of m0 d tables) stmt

  -- or with the one before it, and the engine's tables are as they were
  pub record JoinsSo (m0 m1 : Machine R) (d : Draws) (tables : Tables) (stmt : Stmt) (how : How) : Type 0 where
    pub same : StaysAs m0 m1
    pub draws : (after how (session_of m0 d tables) stmt).draws ≡ d
    pub still : tables_behind m1 d (after how (session_of m0 d tables) stmt).tables ≡ tables_behind m0 d tables

  pub record StandsSo (m0 m1 : Machine R) (d : Draws) (tables : Tables) (stmt : Stmt) (one : Answer) (how : How) : Type 0 where
    pub room : is_full_now (session_of m0 d tables) stmt ≡ false
    pub served : ServesSo m0 m1 d tables stmt one how ⊎ JoinsSo m0 m1 d tables stmt how
    pub drawn : AreDraws m1.engine (after how (session_of m0 d tables) stmt).draws
    pub holds : Holds state m1 (after how (session_of m0 d tables) stmt).draws (after how (session_of m0 d tables) stmt).tables

  -- after a flight the model stands where it stood, by what is public then
  pub record LandsSo (m0 m1 : Machine R) (d : Draws) (tables : Tables) : Type 0 where
    pub landed : HaveLanded m0 m1
    pub drawn : AreDraws m1.engine d
    pub holds : Holds state m1 d tables

-- ---- what a flight leaves of a session's tables and draws
-- those that were answered in a flight that was left leave the tables
abbrev pub LeavesKept : (d : Draws) (tables : Tables) → List Position → List Spelt → List Answer → Broken → Type 0
LeavesKept d tables positions spelt kept broken = (s : Session) → s.tables ≡ tables → s.draws ≡ d → left_by None positions s spelt kept broken ≡ tables

-- after these that flew, and were all answered, a session goes on from the same tables and draws
pub record GoesOn (s : Session) (flown positions : List Position) (stmts : List Stmt) (more : List Spelt) (given answers : List Answer) (broken : Broken) : Type 0 where
  pub behind : Session
  pub tables : behind.tables ≡ s.tables
  pub draws : behind.draws ≡ s.draws
  pub left : (o : Option (List Stmt)) → left_by o (flown ++ positions) s (map Ok stmts ++ more) (given ++ answers) broken ≡ left_by o positions behind more answers (drop (length stmts) broken)

abbrev pub LeavesFlown : (d : Draws) (tables : Tables) → (flown positions : List Position) → List Stmt → (more : List Spelt) → (given answers : List Answer) → Broken → Type 0
LeavesFlown d tables flown positions stmts more given answers broken = (s : Session) → s.tables ≡ tables → s.draws ≡ d → GoesOn s flown positions stmts more given answers broken

-- from the first machine to the last these were answered, and the one after them begun, or the flight
pub data Along {R : Type 0} (state : R → RevState) (ending : Ending) : Machine R → Machine R → List Spelt → List Answer → Type 0 where
  over_along : {m0 m2 : Machine R} → IsOver state m0 m2 → Along state ending m0 m2 [] []
  ended_along : {m0 m2 : Machine R} {x : Spelt} → EndsAlong state ending m0 m2 x → Along state ending m0 m2 (x ∷ []) []
  in_flight_along : {m0 m2 : Machine R} {spelt : List Spelt} {kept : List Answer} → HaveFlown state m0 m2 → Along state ending m0 m2 spelt kept
  passed_along : {m0 m1 m2 : Machine R} {at : ℕ} {one : Answer} {spelt : List Spelt} {answers : List Answer} → IsPassed state m0 m1 → Along state ending m1 m2 spelt answers
      → Along state ending m0 m2 (Err at ∷ spelt) (one ∷ answers)
  answered_along : {m0 m1 m2 : Machine R} {stmt : Stmt} {one : Answer} {spelt : List Spelt} {answers : List Answer} → IsDone state m0 m1 stmt one.outcome ⊎ IsWith state m0 m1 stmt one.outcome → Along state ending m1 m2 spelt answers
      → Along state ending m0 m2 (Ok stmt ∷ spelt) (one ∷ answers)
  together_along : {m0 m1 m2 : Machine R} (spelt : List Spelt) {more : List Spelt} (given : List Answer) {answers : List Answer} → HaveLanded state m0 m1 → Along state ending m1 m2 more answers → Along state ending m0 m2 (spelt ++ more) (given ++ answers)

-- and where the model stands beside them, by the positions of the statements
pub data Path {R : Type 0} (state : R → RevState) (ending : Ending) : Machine R → Machine R → Draws → Tables → List Position → List Spelt → List Answer → Broken → Type 0 where
  over_so : {m0 m2 : Machine R} {d : Draws} {tables : Tables} {positions : List Position} {broken : Broken} → IsOver state m0 m2 → Path state ending m0 m2 d tables positions [] [] broken
  ends_so : {m0 m2 : Machine R} {d : Draws} {tables : Tables} {positions : List Position} {x : Spelt} {broken : Broken} → BeginsPositions state m0 x positions → EndsAlong state ending m0 m2 x → Path state ending m0 m2 d tables positions (x ∷ []) [] broken
  in_flight_so : {m0 m2 : Machine R} {d : Draws} {tables : Tables} {positions : List Position} {spelt : List Spelt} {kept : List Answer} {broken : Broken} → HaveFlown state m0 m2 → LeavesKept d tables positions spelt kept broken
      → Path state ending m0 m2 d tables positions spelt kept broken
  passed_so : {m0 m1 m2 : Machine R} {d : Draws} {tables : Tables} {positions : List Position} {at : ℕ} {one : Answer} {spelt : List Spelt} {answers : List Answer} {broken : Broken} → IsPassed state m0 m1
      → Path state ending m1 m2 d tables positions spelt answers (rest_of broken) → Path state ending m0 m2 d tables positions (Err at ∷ spelt) (one ∷ answers) broken
  answered_so : {m0 m1 m2 : Machine R} {d : Draws} {tables : Tables} {v : Position} {positions : List Position} {stmt : Stmt} {one : Answer} {spelt : List Spelt} {answers : List Answer} {broken : Broken} → IsPositionOf state m0 v → StandsSo state m0 m1 d tables stmt one (head_of broken)
      → Path state ending m1 m2 (after (head_of broken) (session_of m0 d tables) stmt).draws (after (head_of broken) (session_of m0 d tables) stmt).tables positions spelt answers (rest_of broken)
      → Path state ending m0 m2 d tables (v ∷ positions) (Ok stmt ∷ spelt) (one ∷ answers) broken
  together_so : {m0 m1 m2 : Machine R} {d : Draws} {tables : Tables} (flown : List Position) {positions : List Position} (stmts : List Stmt) {more : List Spelt} (given : List Answer) {answers : List Answer} {broken : Broken} → LandsSo state m0 m1 d tables → length given ≡ length stmts
      → LeavesFlown d tables flown positions stmts more given answers broken
      → Path state ending m1 m2 d tables positions more answers (drop (length stmts) broken) → Path state ending m0 m2 d tables (flown ++ positions) (map Ok stmts ++ more) (given ++ answers) broken

-- What texts do to an engine, its store and the keeper after it, one after the other, and what is printed of them.
use Rattle.std.specs.Prelude.{ℕ, Bool, ◌≡◌, ◌⊎◌, ◌+◌, ◌<◌, ◌≤◌, ⊤, true, false, List, [], ◌∷◌, ◌++◌, length, map, slice_get, Option, None, Some, Result, Ok, Err}
use Rattle.std.specs.List.{All}
use Rattle.std.specs.Option.{option_map_or}
use Rattle.std.specs.Io.KnownBytes.{Appends}
use Rattle.ob_base.specs.Events.{Event}
use Rattle.ob_base.specs.Stored.{headings, headings_of}
use Rattle.ob_base.specs.declared.config.Plan.{Plan}
use Rattle.ob_base.specs.declared.config.Public.{Public}
use Rattle.ob_base.specs.declared.refusal.Refusal.{Refusal}
use Rattle.ob_base.specs.declared.refusal.Refusal.TheVariants.{Syntax}
use Rattle.ob_base.specs.declared.seen.End.{End}
use Rattle.ob_base.specs.declared.seen.End.TheVariants.{Static, Whole, Batched}
use Rattle.ob_base.specs.declared.seen.Seen.{Seen}
use Rattle.ob_base.specs.declared.skeleton.Skeleton.{Skeleton}
use Rattle.ob_tables.specs.Agreeing.{Agrees, AreDraws, count_of, has_ended, indexes_of, public_of, replaced_of, seen_of, world_of}
use Rattle.ob_tables.specs.Indexed.{FillsStash}
use Rattle.ob_tables.specs.Batch.{IsServedWith}
use Rattle.ob_tables.specs.Running.{RefusedEarly, is_fault}
use Rattle.ob_verdict.specs.Outcomes.{by_fault, outcome_of, refusal_now, Emits, MayEmit, Partly}
use Rattle.ob_tables.specs.Serving.{Means}
use Rattle.ob_tables.specs.Stops.{session_stop}
use Rattle.ob_tables.specs.Telling.{ReadsTrue, ReadsTrueUntil, Represents, Emitted, answer_labels}
use Rattle.ob_tables.specs.declared.engine.Engine.{Engine}
use Rattle.ob_verdict.specs.declared.outcome.Outcome.{Outcome}
use Rattle.ob_verdict.specs.declared.outcome.Outcome.TheVariants.{Refused}
use Rattle.ob_tables.specs.declared.stop.RunStop.{RunStop}
use Rattle.ob_tables.specs.declared.stop.RunStop.TheVariants.{SinkFault, NoMemory, StashFull}
use Rattle.ob_exec.specs.Ran.{CountsKeeper, KeeperBehind, RanWhole, WantsMemory}
use Rattle.ob_exec.specs.Saving.{MaySave}
use Rattle.ob_gen.specs.declared.tally.Tally.{Tally}
use Rattle.ob_headline.specs.Closing.{closing_line}
use Rattle.ob_headline.specs.Words.{Answer, printed}
use Rattle.ob_headline.specs.Batches.{AllInsert}
use Rattle.ob_headline.specs.Flights.{gathered_then, may_fly, most_flown, place_now}
use Rattle.ob_headline.specs.Statements.{SpellFirst, Spells}
use Rattle.ob_headline.specs.Meaning.{PrintsUntil}
use Rattle.ob_headline.specs.declared.flight.FlightSettings.{FlightSettings}
use Rattle.ob_mean.specs.Batches.{Gathering, batch_most, gathering_after, goes_into, settle_all}
use Rattle.ob_mean.specs.Lawful.{Lawful}
use Rattle.ob_mean.specs.Replay.{Session, draws_taken, is_access}
use Rattle.ob_mean.specs.Settle.{settle}
use Rattle.ob_mean.specs.Verdict.{Draws, Tables, next_draw, verdict}
use Rattle.ob_print.specs.Cuts.{Outputs}
use Rattle.ob_print.specs.Rows.{events_text}
use Rattle.ob_reopen.specs.Keepers.{KeeperState}
use Rattle.ob_reopen.specs.Resting.{AcceptsClosings}
use Rattle.ob_select.specs.Selecting.{AcceptsRows}
use Rattle.ob_shell.specs.FlightAnswers.{FlewUntil, FlewWhole}
use Rattle.ob_shell.specs.Tallies.{tally_with}
use Rattle.ob_sql.specs.Skeleton.{skeleton}
use Rattle.ob_sql.specs.declared.stmt.Stmt.{Stmt}
use Rattle.ob_store.specs.State.{StoreState}
use Rattle.ob_vault.specs.Calls.{Seals}
use Rattle.ob_vault.specs.State.{RevState}

-- an INSERT that was carried out with the one before it, and how it is to be answered
pub record Owed : Type 0 where
  pub stmt : Stmt
  pub outcome : Outcome

abbrev pub statements_of : List Owed → List Stmt
statements_of owed = map (λ (one : Owed). one.stmt) owed

-- each of these texts spells the statement beside it
abbrev pub AreSpelt : List (List ℕ) → List Stmt → Type 0
AreSpelt [] [] = ⊤
AreSpelt [] (stmt ∷ stmts) = ⊥
AreSpelt (text ∷ texts) [] = ⊥
AreSpelt (text ∷ texts) (stmt ∷ stmts) = Spells text (Ok stmt) × AreSpelt texts stmts

-- ---- what is gathered
-- after a text: INSERTs into one table, if it was one of these, and how many SELECTs that fly together
pub record Gathered : Type 0 where
  pub batch : Option Gathering
  pub flown : ℕ

abbrev pub none_gathered : Gathered
none_gathered = record { batch = None; flown = 0 }

-- how SELECTs fly, if they do, and the words of the flights to come
pub record Flights : Type 0 where
  pub settings : Option FlightSettings
  pub words : ℕ → ℕ

-- none fly
abbrev pub no_flights : Flights
no_flights = record { settings = None; words = λ i. 0 }

-- one that was served by itself goes into nothing that was gathered before it
pub record IsApartFrom (settings : Option FlightSettings) (p : Public) (gathered : Gathered)
    (outline : Skeleton) : Type 0 where
  pub batch : goes_into p gathered.batch outline ≡ false
  pub flown : place_now (most_flown settings p) p gathered.flown outline ≡ 0

-- what is gathered after a statement that was, by itself, and after one that is no INSERT
abbrev pub gathered_after : Public → (m : ℕ) → Gathered → Stmt → End → Gathered
gathered_after p m gathered stmt end = record {
  batch = gathering_after p m gathered.batch stmt end;
  flown = gathered_then p 0 (skeleton stmt);
}

abbrev pub gathered_by : Public → Skeleton → Gathered
gathered_by p outline = record { batch = None; flown = gathered_then p 0 outline }

-- ---- machines
-- an engine, what its store has come to, and what the keeper has that its tables are saved with; the flights to come; those
-- that come next and were carried out, and what is gathered
pub record Machine (R : Type 0) : Type 0 where
  pub engine : Engine R
  pub store : StoreState
  pub keeper : KeeperState
  pub flights : Flights
  pub owed : List Owed
  pub gathered : Gathered

-- nothing else was carried out, and nothing is gathered
abbrev pub machine_of : {R : Type 0} → Engine R → StoreState → KeeperState → Flights → Machine R
machine_of engine store keeper flights = record {
  engine = engine;
  store = store;
  keeper = keeper;
  flights = flights;
  owed = [];
  gathered = none_gathered;
}

-- the same one with these carried out, and this gathered
abbrev pub standing : {R : Type 0} → Machine R → List Owed → Gathered → Machine R
standing m owed gathered = record {
  engine = m.engine;
  store = m.store;
  keeper = m.keeper;
  flights = m.flights;
  owed = owed;
  gathered = gathered;
}

-- nothing is asked of its engine, its store and its keeper
abbrev pub StaysAs : {R : Type 0} → (m0 m1 : Machine R) → Type 0
StaysAs m0 m1 = m1 ≡ standing m0 m1.owed m1.gathered

-- what is known of a keeper where no tables are saved
abbrev pub told_nothing : KeeperState
told_nothing = record { held = None; faults = 0; drawn = None }

-- the engine may be given a statement over this store, and what commits it can save tables where they are to be saved
pub record IsReady {R : Type 0} (state : R → RevState) (Saves : Type 0) (m : Machine R)
    : Type 0 where
  pub agrees : Agrees state m.engine m.store
  pub lives : has_ended m.engine ≡ false
  pub settled : replaced_of m.engine ≡ None
  pub saves : MaySave Saves m.engine

-- the text is no statement, and ends what is gathered
pub record Misspelt {R : Type 0} (m0 m1 : Machine R) (text : List ℕ)
    (answer : Answer) : Type 0 where
  pub free : m0.owed ≡ []
  pub owed : m1.owed ≡ []
  pub gathered : m1.gathered ≡ none_gathered
  pub at : ℕ
  pub spells : Spells text (Err at)
  pub refused : answer.outcome ≡ Refused (Syntax at)
  pub line : answer.bytes ≡ closing_line answer.outcome
  pub unplanned : answer.plan ≡ None

-- how many accesses were asked of a machine's store, counted on from where an earlier run's numbers are
abbrev pub asked_of : {R : Type 0} → Machine R → ℕ
asked_of m = count_of m.engine m.store

-- the session of the model at which a machine stands that holds these tables and draws so
abbrev pub session_of : {R : Type 0} → Machine R → Draws → Tables → Session
session_of m d tables = record {
  public = public_of m.engine;
  tables = tables;
  asked = asked_of m;
  draws = d;
}

-- those that come next were answered as they are meant, from these tables on
abbrev pub AreOwed : Draws → Public → (m : ℕ) → List Owed → Tables → Type 0
AreOwed d p m [] tables = ⊤
AreOwed d p m (one ∷ owed) tables =
    (one.outcome ≡ outcome_of one.stmt (verdict p m tables one.stmt))
    × AreOwed d p m owed (settle d p m tables one.stmt)

-- the tables of a machine's engine, after those that come next and were carried out
abbrev pub tables_behind : {R : Type 0} → Machine R → Draws → Tables → Tables
tables_behind m d tables =
    settle_all d (public_of m.engine) (asked_of m) (statements_of m.owed) tables

-- a machine stands at these tables: after those that come next and were carried out its engine and its store hold what is meant
pub record Holds {R : Type 0} (state : R → RevState) (m : Machine R) (d : Draws) (tables : Tables)
    : Type 0 where
  pub listed : headings tables ≡ headings_of (public_of m.engine).tables
  pub held : Represents state m.engine m.store (tables_behind m d tables)
  pub owed : AreOwed d (public_of m.engine) (asked_of m) m.owed tables

-- they are INSERTs into the table of this one, fewer than a batch may have
pub record GoTogether (p : Public) (stmt : Stmt) (owed : List Owed) : Type 0 where
  pub few : length owed < batch_most p
  pub alike : (owed ≡ []) ⊎ ((table : List ℕ) × AllInsert table (stmt ∷ statements_of owed))

-- the engine, which agreed with its store, carried out a statement by itself, and maybe others with it, whatever it answered
pub record Does {R : Type 0} (state : R → RevState) (m0 m1 : Machine R) (stmt : Stmt)
    (result : Result Outcome RunStop) : Type 0 where
  pub free : m0.owed ≡ []
  pub alone : IsApartFrom m0.flights.settings (public_of m0.engine) m0.gathered (skeleton stmt)
  pub flights : m1.flights ≡ m0.flights
  pub along : GoTogether (public_of m0.engine) stmt m1.owed
  pub agrees : Agrees state m0.engine m0.store
  pub ran : RanWhole state (skeleton stmt) result m0.engine m0.store m1.engine m1.store
  pub early : RefusedEarly (refusal_now (public_of m0.engine) (asked_of m0) stmt) result
      (seen_of m1.engine)
  pub lawful : Lawful (public_of m0.engine) (asked_of m0) stmt (seen_of m1.engine)
  -- want of memory shows how far it got, and no rows except those that are emitted
  pub memory : result ≡ Err NoMemory
      → WantsMemory (public_of m0.engine) stmt (seen_of m1.engine) m0.store m1.store ⊤
  -- a stash is full only where an access read more rows than fit
  pub full : result ≡ Err StashFull → (d : Draws) → AreDraws m0.engine d
      → FillsStash (next_draw d) (public_of m0.engine) (asked_of m0) stmt (indexes_of m0.engine)
      (seen_of m1.engine).leaf m0.store.asked (world_of state m1.engine m1.store)
  -- a sink's fault stops nothing except a SELECT
  pub emits : result ≡ Err SinkFault → MayEmit stmt
  -- nothing comes to lie in clear
  pub seals : (good : ℕ → List ℕ → Bool) → AcceptsRows good (public_of m0.engine).pack
      → AcceptsRows good 1 → ((public_of m0.engine).save ≡ true → AcceptsClosings good)
      → Seals good (world_of state m0.engine m0.store) (world_of state m1.engine m1.store)
  pub means : Means state stmt (statements_of m1.owed) result m0.engine m0.store
      m1.engine m1.store
  -- where tables are to be saved they are so after a change, and the keeper holds the mark; else it is as it was
  pub keeper : KeeperBehind state stmt (statements_of m1.owed) result m0.engine m0.store
      m1.engine m1.store m0.keeper m1.keeper
  pub counts : CountsKeeper result m0.keeper m1.keeper
  pub drawn : m1.keeper.drawn ≡ m0.keeper.drawn

-- the numbers that are drawn after a statement
abbrev pub draws_behind : {R : Type 0} → (m0 m1 : Machine R) → Stmt → Draws → Draws
draws_behind m0 m1 stmt d = record d {
  drawn = d.drawn + draws_taken (public_of m0.engine) (skeleton stmt) (seen_of m1.engine).end;
}

-- the tables after it
abbrev pub settled_by : {R : Type 0} → Machine R → Stmt → Draws → Tables → Tables
settled_by m stmt d tables = settle d (public_of m.engine) (asked_of m) tables stmt

-- those that were carried out with a statement mean the same by what is public after it as before it, and were answered so
pub record Owes {R : Type 0} (m0 m1 : Machine R) (stmt : Stmt) (d : Draws) (tables : Tables)
    : Type 0 where
  pub whole : (m1.owed ≡ []) ⊎ ((seen_of m1.engine).end ≡ Whole)
  pub listed : headings (settled_by m0 stmt d tables) ≡ headings_of (public_of m1.engine).tables
  pub same : tables_behind m1 (draws_behind m0 m1 stmt d) (settled_by m0 stmt d tables)
      ≡ settle_all d (public_of m0.engine) (asked_of m0) (statements_of m1.owed)
      (settled_by m0 stmt d tables)
  pub answered : AreOwed (draws_behind m0 m1 stmt d) (public_of m1.engine) (asked_of m1) m1.owed
      (settled_by m0 stmt d tables)

-- the engine answered a statement, and its header and rows were printed before the closing line
pub record ServedStatement {R : Type 0} (state : R → RevState) (m0 m1 : Machine R) (text : List ℕ)
    (answer : Answer) : Type 0 where
  pub stmt : Stmt
  pub spells : Spells text (Ok stmt)
  pub does : Does state m0 m1 stmt (Ok answer.outcome)
  pub events : List Event
  pub emits : Emits stmt (answer_labels stmt (public_of m0.engine)) answer.outcome events
  pub emitted : (tables : Tables) → ReadsTrue state m0.engine m0.store m1.store tables
      → Emitted stmt (public_of m0.engine) (asked_of m0) tables answer.outcome events
  pub printed : answer.bytes ≡ events_text events ++ closing_line answer.outcome
  pub planned : answer.plan ≡ (seen_of m1.engine).plan
  pub gathered : m1.gathered ≡ gathered_after (public_of m0.engine) (asked_of m0) m0.gathered
      stmt (seen_of m1.engine).end
  -- where the store didn't fail
  pub owes : (tables : Tables) (d : Draws) → AreDraws m0.engine d
      → ReadsTrue state m0.engine m0.store m1.store tables
      → by_fault (is_fault answer.outcome) (m1.owed ≡ []) (Owes m0 m1 stmt d tables)

-- ---- one that was carried out with the INSERT before it
-- whether the store failed that one
abbrev pub has_failed : Option Gathering → Bool
has_failed gathered = option_map_or (λ (g : Gathering). g.failed) gathered false

-- nothing is owed where the store failed; else it is the next one
abbrev pub TakesOwed : (failed : Bool) → Owed → (old new : List Owed) → Type 0
TakesOwed failed one old new = by_fault failed ((old ≡ []) × (new ≡ [])) (old ≡ one ∷ new)

-- what is seen of it
abbrev pub end_with : Option Refusal → End
end_with (Some r) = Static
end_with None = Batched

-- nothing was asked for it, and its answer is its line
pub record ServedWith {R : Type 0} (m0 m1 : Machine R) (text : List ℕ) (answer : Answer)
    : Type 0 where
  pub stmt : Stmt
  pub spells : Spells text (Ok stmt)
  pub joins : goes_into (public_of m0.engine) m0.gathered.batch (skeleton stmt) ≡ true
  pub along : GoTogether (public_of m0.engine) stmt m1.owed
  pub unindexed : is_access (public_of m0.engine) (skeleton stmt) ≡ false
  pub answered : IsServedWith (refusal_now (public_of m0.engine) (asked_of m0) stmt)
      (has_failed m0.gathered.batch) answer.outcome
  pub owed : TakesOwed (has_failed m0.gathered.batch)
      (record { stmt = stmt; outcome = answer.outcome }) m0.owed m1.owed
  pub gathered : m1.gathered ≡ gathered_after (public_of m0.engine) (asked_of m0) m0.gathered
      stmt (end_with (refusal_now (public_of m0.engine) (asked_of m0) stmt))
  pub line : answer.bytes ≡ closing_line answer.outcome
  pub unplanned : answer.plan ≡ None

-- a text was answered for which nothing was asked
pub record Unasked {R : Type 0} (m0 m1 : Machine R) (text : List ℕ) (answer : Answer)
    : Type 0 where
  pub same : StaysAs m0 m1
  pub why : Misspelt m0 m1 text answer ⊎ ServedWith m0 m1 text answer

-- from the first machine to the second this text was answered
pub record Step {R : Type 0} (state : R → RevState) (m0 m1 : Machine R) (text : List ℕ)
    (answer : Answer) : Type 0 where
  pub done : Unasked m0 m1 text answer ⊎ ServedStatement state m0 m1 text answer

-- from the first machine to the second this text was answered so, of which this plan was seen, and all except the closing
-- line was written
pub record HasBody {R : Type 0} (state : R → RevState) (written0 written1 : Option (List ℕ))
    (text : List ℕ) (outcome : Outcome) (plan : Option Plan) (m0 m1 : Machine R) : Type 0 where
  pub body : List ℕ
  pub appends : Appends written0 written1 body
  pub step : Step state m0 m1 text
      (record { outcome = outcome; bytes = body ++ closing_line outcome; plan = plan })

-- the engine was stopped in the statement of this text, of whose header and rows a first part was emitted, also where a
-- changed block stopped it
pub record CutStep {R : Type 0} (state : R → RevState) (m0 m1 : Machine R) (text : List ℕ)
    (stop : RunStop) (bytes : List ℕ) : Type 0 where
  pub stmt : Stmt
  pub spells : Spells text (Ok stmt)
  pub does : Does state m0 m1 stmt (Err stop)
  pub events : List Event
  pub emitted : (tables : Tables)
      → ReadsTrueUntil state m0.engine m0.store m1.engine m1.store tables
      → Partly (answer_labels stmt (public_of m0.engine))
      (verdict (public_of m0.engine) (asked_of m0) tables stmt) events
  -- an access of an index emits nothing before it gives up for a full stash
  pub silent : stop ≡ StashFull → events ≡ []
  pub printed : PrintsUntil (session_stop stop) bytes (events_text events)

-- ---- those that flew together
-- the engine, which agreed with its store, may have these statements fly, after which so many are gathered
pub record MayFly {R : Type 0} (state : R → RevState) (m0 m1 : Machine R) (stmts : List Stmt)
    : Type 0 where
  pub free : m0.owed ≡ []
  pub owed : m1.owed ≡ []
  pub fly : All (λ (stmt : Stmt). may_fly (public_of m0.engine) (skeleton stmt) ≡ true) stmts
  pub some : 2 ≤ length stmts
  pub few : length stmts ≤ most_flown m0.flights.settings (public_of m0.engine)
  pub begins : (first : Stmt) → slice_get stmts 0 ≡ Some first
      → IsApartFrom m0.flights.settings (public_of m0.engine) m0.gathered (skeleton first)
  pub gathered : m1.gathered ≡ record { batch = None; flown = length stmts }
  pub settings : m1.flights.settings ≡ m0.flights.settings
  pub keeper : m1.keeper ≡ m0.keeper
  pub agrees : Agrees state m0.engine m0.store

-- from the first machine to the second these texts were answered together
pub record StepTogether {R : Type 0} (state : R → RevState) (m0 m1 : Machine R)
    (texts : List (List ℕ)) (answers : List Answer) : Type 0 where
  pub stmts : List Stmt
  pub spelt : AreSpelt texts stmts
  pub may : MayFly state m0 m1 stmts
  pub seens : List Seen
  pub flew : FlewWhole state m0.flights.words m1.flights.words stmts seens answers
      m0.engine m0.store m1.engine m1.store

-- these texts were answered, in order, each by itself, or several together
pub data Steps {R : Type 0} (state : R → RevState)
    : Machine R → Machine R → List (List ℕ) → List Answer → Type 0 where
  at_rest : {m : Machine R} → Steps state m m [] []
  one_more : {m0 m1 m2 : Machine R} {text : List ℕ} {one : Answer} {texts : List (List ℕ)}
      {answers : List Answer} → Step state m0 m1 text one → Steps state m1 m2 texts answers
      → Steps state m0 m2 (text ∷ texts) (one ∷ answers)
  more_together : {m0 m1 m2 : Machine R} {flown texts : List (List ℕ)} {given answers : List Answer}
      → StepTogether state m0 m1 flown given → Steps state m1 m2 texts answers
      → Steps state m0 m2 (flown ++ texts) (given ++ answers)

-- nothing was done
pub record IsUndone {R : Type 0} (m0 m1 : Machine R) (bytes : List ℕ) : Type 0 where
  pub machine : m1 ≡ m0
  pub free : m0.owed ≡ []
  pub none : bytes ≡ []

-- it was answered, and a sink failed within its last line or after it
pub record Finished {R : Type 0} (state : R → RevState) (m0 m1 : Machine R) (text : List ℕ)
    (stop : RunStop) (bytes : List ℕ) : Type 0 where
  pub answer : Answer
  pub step : Step state m0 m1 text answer
  pub whole : bytes ≡ answer.bytes
  pub fault : stop ≡ SinkFault

-- statements that the first of these texts spell flew until a stop
pub record CutTogether {R : Type 0} (state : R → RevState) (m0 m1 : Machine R)
    (texts : List (List ℕ)) (stop : RunStop) (bytes : List ℕ) : Type 0 where
  pub flown : List (List ℕ)
  pub more : List (List ℕ)
  pub parts : texts ≡ flown ++ more
  pub stmts : List Stmt
  pub spelt : AreSpelt flown stmts
  pub may : MayFly state m0 m1 stmts
  pub seens : List Seen
  pub flew : FlewUntil state m0.flights.words m1.flights.words stmts seens stop bytes
      m0.engine m0.store m1.engine m1.store

-- they were answered, and a sink failed within their answers or after them
pub record FinishedTogether {R : Type 0} (state : R → RevState) (m0 m1 : Machine R)
    (texts : List (List ℕ)) (stop : RunStop) (bytes : List ℕ) : Type 0 where
  pub flown : List (List ℕ)
  pub more : List (List ℕ)
  pub parts : texts ≡ flown ++ more
  pub answers : List Answer
  pub step : StepTogether state m0 m1 flown answers
  pub whole : bytes ≡ printed answers
  pub fault : stop ≡ SinkFault

-- nothing was done before a stop for want of memory
pub record Idle {R : Type 0} (m0 m1 : Machine R) (stop : RunStop) (bytes : List ℕ) : Type 0 where
  pub rests : IsUndone m0 m1 bytes
  pub memory : stop ≡ NoMemory

-- the texts after the first spell those that come next and were carried out
abbrev pub Follow : (texts : List (List ℕ)) → List Owed → Type 0
Follow texts [] = ⊤
Follow [] (one ∷ owed) = ⊥
Follow (text ∷ texts) (one ∷ owed) = SpellFirst texts (map Ok (statements_of (one ∷ owed)))

-- what a stop left of the first of these texts
abbrev pub PartlyAt : {R : Type 0} → (R → RevState) → Machine R → Machine R → List (List ℕ)
    → RunStop → List ℕ → Type 0
PartlyAt state m0 m1 [] stop bytes = Idle m0 m1 stop bytes
PartlyAt state m0 m1 (text ∷ texts) stop bytes =
    Idle m0 m1 stop bytes ⊎ (CutStep state m0 m1 text stop bytes
    ⊎ (Finished state m0 m1 text stop bytes
    ⊎ (CutTogether state m0 m1 (text ∷ texts) stop bytes
    ⊎ FinishedTogether state m0 m1 (text ∷ texts) stop bytes)))

-- a sink took the answer of this text, which was counted
pub record AnswersText {R : Type 0} (state : R → RevState) (written0 written1 : Option (List ℕ))
    (tally0 : Tally) (text : List ℕ) (tally1 : Tally) (m0 m1 : Machine R) : Type 0 where
  pub answer : Answer
  pub step : Step state m0 m1 text answer
  pub appends : Appends written0 written1 answer.bytes
  pub counted : tally1 ≡ tally_with tally0 answer.outcome answer.plan

-- a stop came within the first of these texts, or before it, and a sink took what was printed, or for this cause less
pub record StopsIn {R : Type 0} (state : R → RevState) (written0 written1 : Option (List ℕ))
    (Lost : Type 0) (texts : List (List ℕ)) (stop : RunStop) (m0 m1 : Machine R) : Type 0 where
  pub bytes : List ℕ
  pub partly : PartlyAt state m0 m1 texts stop bytes
  pub cut : Outputs written0 written1 Lost bytes

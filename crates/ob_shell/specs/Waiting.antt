-- Statements that wait to be served together, and what is served before them.
use Rattle.std.specs.Prelude.{ℕ, ◌≡◌, ◌<◌, ◌≤◌, ◌+◌, ◌⊎◌, ◌&&◌, ◌||◌, ⊤, Bool, true, false, nat_le, List, [], ◌∷◌, ◌++◌, bytes_eq, length, Option, None}
use Rattle.std.specs.List.{All}
use Rattle.std.specs.Option.{option_map_or}
use Rattle.std.specs.Io.KnownBytes.{Appends}
use Rattle.ob_base.specs.declared.config.Public.{Public}
use Rattle.ob_base.specs.declared.skeleton.Skeleton.{Skeleton}
use Rattle.ob_gen.specs.declared.tally.Tally.{Tally}
use Rattle.ob_headline.specs.Flights.{may_fly, most_flown}
use Rattle.ob_headline.specs.declared.flight.FlightSettings.{FlightSettings}
use Rattle.ob_headline.specs.Words.{Answer, Took, printed}
use Rattle.ob_mean.specs.Batches.{batch_most, begins_batch, inserts_into}
use Rattle.ob_print.specs.Cuts.{Outputs}
use Rattle.ob_shell.specs.Steps.{AreSpelt, Follow, Gathered, IsApartFrom, Machine, Owed, PartlyAt, Steps, standing}
use Rattle.ob_shell.specs.Tallies.{tally_after}
use Rattle.ob_shell.specs.Traces.{TracedTo}
use Rattle.ob_sql.specs.Skeleton.{skeleton}
use Rattle.ob_sql.specs.declared.stmt.Stmt.{Stmt}
use Rattle.ob_tables.specs.Batch.{AreBatch}
use Rattle.ob_tables.specs.declared.stop.RunStop.{RunStop}
use Rattle.ob_vault.specs.State.{RevState}

-- ---- which ones wait
-- SELECTs without a join, of tables that are no index, as many as may be in flight together, or one
pub record AreFlown (settings : Option FlightSettings) (p : Public) (stmts : List Stmt)
    : Type 0 where
  pub fly : All (λ (stmt : Stmt). may_fly p (skeleton stmt) ≡ true) stmts
  pub few : length stmts ≤ most_flown settings p

-- they are a batch, or fly, or none waits
abbrev pub AreBatched : Option FlightSettings → Public → (m : ℕ) → List Stmt → Type 0
AreBatched settings p m [] = ⊤
AreBatched settings p m (first ∷ rest) =
    AreBatch p m first rest ⊎ AreFlown settings p (first ∷ rest)

-- both insert into one table
abbrev pub are_alike : (a b : Skeleton) → Bool
are_alike a b =
    option_map_or (λ table. option_map_or (bytes_eq table) (inserts_into b) false) (inserts_into a)
    false

-- a statement goes along with these, of which the first began it: an INSERT into one table, or a SELECT that may be in flight
abbrev pub goes_along : Public → List Stmt → Stmt → Bool
goes_along p [] stmt = false
goes_along p (first ∷ rest) stmt =
    option_map_or (λ table. are_alike (skeleton first) (skeleton stmt))
    (inserts_into (skeleton first)) (may_fly p (skeleton stmt))

-- as many are served together at most as this one begins
abbrev pub gather_most : Option FlightSettings → Public → Skeleton → ℕ
gather_most settings p outline =
    option_map_or (λ table. batch_most p) (inserts_into outline) (most_flown settings p)

-- it waits for others to fly with it
abbrev pub begins_flight : Option FlightSettings → Public → Skeleton → Bool
begins_flight settings p outline = nat_le 2 (most_flown settings p) && may_fly p outline

-- it waits for others, to be served together with them
abbrev pub begins : Option FlightSettings → Public → (m : ℕ) → Stmt → Bool
begins settings p m stmt = begins_batch p m stmt || begins_flight settings p (skeleton stmt)

-- they are a batch to which one more may come
pub record AwaitsMore (p : Public) (m : ℕ) (first : Stmt) (rest : List Stmt) : Type 0 where
  pub batch : AreBatch p m first rest
  pub room : length rest + 1 < batch_most p

-- or one more may fly with them
pub record AwaitsFlown (settings : Option FlightSettings) (p : Public) (stmts : List Stmt)
    : Type 0 where
  pub fly : All (λ (stmt : Stmt). may_fly p (skeleton stmt) ≡ true) stmts
  pub room : length stmts < most_flown settings p

abbrev pub AreWaiting : Option FlightSettings → Public → (m : ℕ) → List Stmt → Type 0
AreWaiting settings p m [] = ⊤
AreWaiting settings p m (first ∷ rest) =
    AwaitsMore p m first rest ⊎ AwaitsFlown settings p (first ∷ rest)

-- a statement may come to them: it begins a batch or a flight, or goes into that of those that wait
abbrev pub GoesAlong : Option FlightSettings → Public → (m : ℕ) → List Stmt → Stmt → Type 0
GoesAlong settings p m [] stmt =
    (begins_batch p m stmt ≡ true) ⊎ (begins_flight settings p (skeleton stmt) ≡ true)
GoesAlong settings p m (first ∷ rest) stmt =
    (AwaitsMore p m first rest × (inserts_into (skeleton stmt) ≡ inserts_into (skeleton first)))
    ⊎ (AwaitsFlown settings p (first ∷ rest) × (may_fly p (skeleton stmt) ≡ true))

-- ---- what is gathered beside them
-- the first that waits doesn't go into what is gathered
abbrev pub ComesFree : Option FlightSettings → Public → List Stmt → Gathered → Type 0
ComesFree settings p [] gathered = ⊤
ComesFree settings p (first ∷ rest) gathered = IsApartFrom settings p gathered (skeleton first)

-- and where none waits nothing does
abbrev pub IsFree : Option FlightSettings → Public → List Stmt → Gathered → Type 0
IsFree settings p [] gathered = (outline : Skeleton) → IsApartFrom settings p gathered outline
IsFree settings p (first ∷ rest) gathered = IsApartFrom settings p gathered (skeleton first)

-- a statement doesn't go along with these: it is no INSERT into their table, or they are as many as a batch may have; and it may
-- not be in flight with them, or they are as many as may
pub record IsApart (settings : Option FlightSettings) (p : Public) (first : Stmt)
    (rest : List Stmt) (outline : Skeleton) : Type 0 where
  pub batch : (inserts_into outline ≡ None)
      ⊎ ((inserts_into outline ≡ inserts_into (skeleton first) → ⊥)
      ⊎ (batch_most p ≤ length rest + 1))
  pub flown : (may_fly p outline ≡ false) ⊎ ((may_fly p (skeleton first) ≡ false)
      ⊎ (most_flown settings p ≤ length rest + 1))

-- nor into what is gathered, once they were served; where none waited that is as it was
abbrev pub IsClosed : Option FlightSettings → (p q : Public) → List Stmt → (old new : Gathered)
    → Type 0
IsClosed settings p q [] old new = new ≡ old
IsClosed settings p q (first ∷ rest) old new =
    (outline : Skeleton) → IsApart settings p first rest outline
    → IsApartFrom settings q new outline

-- the first of these texts were answered, which were counted, a sink took their answers, and the others wait, and spell these
-- statements; this is so of what is gathered then
pub record ServedSo {R : Type 0} (state : R → RevState) (written0 written1 : Option (List ℕ))
    (texts : List (List ℕ)) (batch : List Stmt) (Then : Gathered → Type 0)
    (tally0 tally1 : Tally) (m0 m1 : Machine R) : Type 0 where
  pub served : List (List ℕ)
  pub held : List (List ℕ)
  pub parts : texts ≡ served ++ held
  pub spelt : AreSpelt held batch
  pub gathered : Gathered
  pub then : Then gathered
  pub answers : List Answer
  pub steps : Steps state m0 (standing m1 [] gathered) served answers
  pub appends : Appends written0 written1 (printed answers)
  pub counted : tally1 ≡ tally_after tally0 answers

-- a stop came within one of these texts, or before it: those before it were answered and traced, and a sink took what was
-- printed, or for this cause less
pub record BreaksIn {R : Type 0} (state : R → RevState) (tracing : Bool)
    (written0 written1 traced0 traced1 : Option (List ℕ)) (Lost : Type 0)
    (texts : List (List ℕ)) (stop : RunStop) (m0 m1 : Machine R) : Type 0 where
  pub served : List (List ℕ)
  pub more : List (List ℕ)
  pub parts : texts ≡ served ++ more
  pub answers : List Answer
  pub middle : Machine R
  pub steps : Steps state m0 middle served answers
  pub owed : List Owed
  pub gathered : Gathered
  pub follow : Follow more owed
  pub bytes : List ℕ
  pub partly : PartlyAt state middle (standing m1 owed gathered) more stop bytes
  pub cut : Outputs written0 written1 Lost (printed answers ++ bytes)
  pub whole : Took written0 written1 (printed answers)
  pub traced : TracedTo tracing m0.store.asked middle.store.asked traced0 traced1

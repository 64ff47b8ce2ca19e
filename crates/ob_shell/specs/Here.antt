-- What texts are served over, as contracts see it.
use Rattle.std.specs.Prelude.{ℕ, Bool, List, [], Option, Result}
use Rattle.ob_base.specs.declared.access.Access.{Access}
use Rattle.ob_base.specs.declared.refusal.Stop.{Stop}
use Rattle.ob_gen.specs.declared.tally.Tally.{Tally}
use Rattle.ob_headline.specs.Words.{Faults}
use Rattle.ob_shell.specs.Serving.{TakesTexts, TakesUntil}
use Rattle.ob_shell.specs.Steps.{IsReady, Machine, asked_of}
use Rattle.ob_shell.specs.Waiting.{AreBatched, AreWaiting, ComesFree, GoesAlong, IsClosed, IsFree}
use Rattle.ob_shell.specs.declared.session.TextHalted.{TextHalted}
use Rattle.ob_sql.specs.declared.stmt.Stmt.{Stmt}
use Rattle.ob_tables.specs.Agreeing.{public_of}
use Rattle.ob_vault.specs.State.{RevState}

-- a machine, what the sinks have taken, how many calls of them failed, what waits, and what was counted
pub record Here (R : Type 0) : Type 0 where
  pub machine : Machine R
  pub written : Option (List ℕ)
  pub traced : Option (List ℕ)
  pub faults : Faults
  pub batch : List Stmt
  pub tally : Tally

-- the engine may be given the next text, and the digest has taken what was asked
pub record IsReadyHere {R : Type 0} (state : R → RevState) (Saves : Type 0)
    (Took : List Access → Type 0) (h : Here R) : Type 0 where
  pub ready : IsReady state Saves h.machine
  pub took : Took h.machine.store.asked

-- those that wait may be served together, one more may come to them, or this one may
abbrev pub BatchedHere : {R : Type 0} → Here R → Type 0
BatchedHere h = AreBatched h.machine.flights.settings (public_of h.machine.engine)
    (asked_of h.machine) h.batch

abbrev pub WaitsHere : {R : Type 0} → Here R → Type 0
WaitsHere h = AreWaiting h.machine.flights.settings (public_of h.machine.engine)
    (asked_of h.machine) h.batch

abbrev pub GoesHere : {R : Type 0} → Here R → Stmt → Type 0
GoesHere h stmt = GoesAlong h.machine.flights.settings (public_of h.machine.engine)
    (asked_of h.machine) h.batch stmt

-- these texts were taken, where the first of these statements goes into nothing that is gathered, or a stop came, which leaves
-- what comes next unread for one of these causes
abbrev pub TakesHere : {R : Type 0} (state : R → RevState) (Saves : Type 0) (tracing : Bool)
    (firsts : List Stmt) (texts : List (List ℕ)) (Why : Stop → Type 0) (h0 h1 : Here R)
    → Result (Option Stop) TextHalted → Type 0
TakesHere state Saves tracing firsts texts Why h0 h1 result =
    TakesUntil state Saves tracing
    (IsFree h0.machine.flights.settings (public_of h0.machine.engine) firsts)
    (λ old new. IsFree h0.machine.flights.settings (public_of h1.machine.engine) h1.batch new)
    h0.batch h1.batch texts Why h0.tally h1.tally h0.written h1.written h0.traced h1.traced
    h0.faults h1.faults h0.machine h1.machine result

-- those that waited were served, or a stop came
abbrev pub FlushesHere : {R T : Type 0} (state : R → RevState) (Saves : Type 0) (tracing : Bool)
    (h0 h1 : Here R) → Result T TextHalted → Type 0
FlushesHere state Saves tracing h0 h1 result =
    TakesTexts state Saves tracing
    (ComesFree h0.machine.flights.settings (public_of h0.machine.engine) h0.batch)
    (IsClosed h0.machine.flights.settings (public_of h0.machine.engine)
    (public_of h1.machine.engine) h0.batch)
    h0.batch h1.batch [] h0.tally h1.tally h0.written h1.written h0.traced h1.traced
    h0.faults h1.faults h0.machine h1.machine result

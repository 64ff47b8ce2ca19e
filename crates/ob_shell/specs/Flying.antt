-- What becomes of statements that fly.
use Rattle.std.specs.Prelude.{ℕ, ◌≡◌, ◌⊎◌, List, [], Option, Result, IfErr, IfOk}
use Rattle.std.specs.Io.KnownBytes.{Appends}
use Rattle.std.specs.Option.{option_map_or}
use Rattle.ob_base.specs.declared.seen.Seen.{Seen}
use Rattle.ob_gen.specs.declared.tally.Tally.{Tally}
use Rattle.ob_headline.specs.Words.{Answer, Faults, printed}
use Rattle.ob_headline.specs.declared.flight.FlightSettings.{FlightSettings}
use Rattle.ob_script.specs.Flights.{drawn}
use Rattle.ob_shell.specs.FlightAnswers.{AnswersFlight, CutsFlight, FlewWhole}
use Rattle.ob_shell.specs.Running.{OutFailed, Silenced, StopCause, halted_of, is_quiet, stop_of}
use Rattle.ob_shell.specs.Steps.{Flights}
use Rattle.ob_shell.specs.Tallies.{tally_after}
use Rattle.ob_shell.specs.declared.session.TextHalted.{TextHalted}
use Rattle.ob_sql.specs.declared.stmt.Stmt.{Stmt}
use Rattle.ob_store.specs.State.{StoreState}
use Rattle.ob_tables.specs.declared.engine.Engine.{Engine}
use Rattle.ob_tables.specs.declared.stop.RunStop.{RunStop}
use Rattle.ob_tables.specs.declared.stop.RunStop.TheVariants.{NoMemory}
use Rattle.ob_turns.specs.Kept.{outcomes_of}
use Rattle.ob_vault.specs.State.{RevState}
use Rattle.ob_verdict.specs.declared.outcome.Outcome.{Outcome}

-- so SELECTs fly by these settings, with the words after this number
abbrev pub flights_of : Option FlightSettings → (last : ℕ) → Flights
flights_of settings last = record { settings = settings; words = drawn last }

-- and the words of a run begin after this one
abbrev pub start_of : Option FlightSettings → ℕ
start_of settings = option_map_or (λ (f : FlightSettings). f.start) settings 0

abbrev pub flights_at : Option FlightSettings → Flights
flights_at settings = flights_of settings (start_of settings)

-- ---- they were answered, or a stop came
-- of each this was seen, and these are their answers, which a sink took
pub record PrintsWhole {R : Type 0} (state : R → RevState) (words left : ℕ → ℕ)
    (stmts : List Stmt) (seens : List Seen) (outcomes : List Outcome)
    (written0 written1 : Option (List ℕ)) (old : Engine R) (s : StoreState) (new : Engine R)
    (t : StoreState) : Type 0 where
  pub answers : List Answer
  pub flew : FlewWhole state words left stmts seens answers old s new t
  pub counted : outcomes ≡ outcomes_of flew.ended
  pub appends : Appends written0 written1 (printed answers)

-- memory was wanting before anything was done
pub record RestsFlight {R : Type 0} (words left : ℕ → ℕ) (stop : RunStop)
    (written0 written1 : Option (List ℕ)) (old : Engine R) (s : StoreState) (new : Engine R)
    (t : StoreState) : Type 0 where
  pub engine : new ≡ old
  pub store : t ≡ s
  pub undrawn : left ≡ words
  pub memory : stop ≡ NoMemory
  pub none : Appends written0 written1 []

-- the answers were counted
pub record CountsFlight {R : Type 0} (state : R → RevState) (words left : ℕ → ℕ)
    (stmts : List Stmt) (tally0 tally1 : Tally) (written0 written1 : Option (List ℕ))
    (old : Engine R) (s : StoreState) (new : Engine R) (t : StoreState) : Type 0 where
  pub answers : List Answer
  pub answered : AnswersFlight state words left stmts answers written0 written1 old s new t
  pub counted : tally1 ≡ tally_after tally0 answers

pub record RunsFlight {R : Type 0} (state : R → RevState) (words left : ℕ → ℕ)
    (stmts : List Stmt) (tally : Tally) (written0 written1 : Option (List ℕ))
    (old new : Faults) (e0 : Engine R) (s0 : StoreState) (e1 : Engine R) (s1 : StoreState)
    (result : Result Tally TextHalted) : Type 0 where
  pub done : IfOk result (λ counted.
      CountsFlight state words left stmts tally counted written0 written1 e0 s0 e1 s1)
  pub stopped : IfErr result (λ halted.
      RestsFlight words left halted.stop written0 written1 e0 s0 e1 s1
      ⊎ CutsFlight state words left stmts halted.stop written0 written1
      (OutFailed halted.quiet old.out new.out) e0 s0 e1 s1)
  pub cause : StopCause (Unit {0}) old new (stop_of (halted_of result))
  pub quiet : Silenced (is_quiet (halted_of result)) old new

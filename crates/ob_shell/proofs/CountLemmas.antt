-- Counts that rise, one after the other.
use Rattle.ob_shell.proofs.Words.{arith, Bool, Err, false, Faults, faults_of, inl, inr, Rises, RunStop, session_stop, Silenced, SinksRose, Stop, StopCause, subst, Tally, true, ℕ, ◌≡◌, ◌≤◌}
use Rattle.ob_base.specs.declared.refusal.Stop.TheVariants.{Tampered, SourceFault, SinkFault, NoMemory, InputLimit, StoreFault, StashFull, KeeperFault}
use Rattle.ob_tables.specs.declared.stop.RunStop.TheVariants as Runs

pub rises_later : (a b c : ℕ) → Rises a b → b ≤ c → Rises a c
rises_later a b c h l = omega arith

pub rises_earlier : (a b c : ℕ) → a ≤ b → Rises b c → Rises a c
rises_earlier a b c l h = omega arith

pub silenced_rose : (quiet : Bool) (old new : Faults) → Silenced quiet old new → quiet ≡ true → SinksRose old new
silenced_rose true old new silenced is = silenced
silenced_rose false old new silenced is = absurd (cc is)

pub silenced_kept : (quiet : Bool) (old new : Faults) → Silenced quiet old new → quiet ≡ false → new.trace ≡ old.trace
silenced_kept true old new silenced is = absurd (cc is)
silenced_kept false old new silenced is = silenced.1

-- the cause of a stop, whatever was counted until then
pub same_cause : (Alone A B : Type 0) (stop : Stop) (old new : Faults) → StopCause {T = A} Alone old new (Err stop) → StopCause {T = B} Alone old new (Err stop)
same_cause Alone A B (Tampered region place) old new cause = cause
same_cause Alone A B SourceFault old new cause = cause
same_cause Alone A B SinkFault old new cause = cause
same_cause Alone A B NoMemory old new cause = cause
same_cause Alone A B InputLimit old new cause = cause
same_cause Alone A B StoreFault old new cause = cause
same_cause Alone A B StashFull old new cause = cause
same_cause Alone A B KeeperFault old new cause = cause

-- a stop, and what was traced after it
pub traced_cause : (told stop : RunStop) (out0 out1 trace0 trace1 : ℕ) → told ≡ stop → StopCause {T = Tally} (Unit {0}) (faults_of 0 out0 0) (faults_of 0 out1 0) (Err (session_stop told)) → trace0 ≤ trace1
    → StopCause {T = Tally} (Unit {0}) (faults_of 0 out0 trace0) (faults_of 0 out1 trace1) (Err (session_stop stop))
traced_cause told stop out0 out1 trace0 trace1 is cause later =
    subst (λ (s : RunStop). StopCause {T = Tally} (Unit {0}) (faults_of 0 out0 trace0) (faults_of 0 out1 trace1) (Err (session_stop s))) is (go told cause)
  where
    go : (s : RunStop) → StopCause {T = Tally} (Unit {0}) (faults_of 0 out0 0) (faults_of 0 out1 0) (Err (session_stop s)) → StopCause {T = Tally} (Unit {0}) (faults_of 0 out0 trace0) (faults_of 0 out1 trace1) (Err (session_stop s))
    go (Runs.Tampered region place) cause = (cause.0, cause.1, later)
    go Runs.NoMemory cause = (cause.0, cause.1, later)
    go Runs.StoreFault cause = (cause.0, cause.1, later)
    go Runs.StashFull cause = (cause.0, cause.1, later)
    go Runs.KeeperFault cause = (cause.0, cause.1, later)
    go Runs.SinkFault cause = (cause.0, elim cause.1 [ inl rose ↦ inl rose | inr none ↦ absurd (omega (arith, none)) ])

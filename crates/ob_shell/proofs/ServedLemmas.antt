-- How a session ends after its reading, once those that waited were served.
use Rattle.ob_shell.proofs.Words.{ap, arith, asked_of, batch_most, begins, Bool, Err, false, Faults, faults_of, Fetch, FlightSettings, inl, inr, length, List, Machine, most_flown, None, Ok, Option, option_map_or, Public, public_of, refl, RevState, Rises, RunStop, ServesAlone, session_stop, Silenced, Some, standing, Stmt, Stop, stop_of, StopCause, subst, sym, Tally, true, ℕ, [], ◌+◌, ◌-◌, ◌∙◌, ◌∷◌, ◌≡◌, ◌≢◌, ◌⊎◌}
use Rattle.std.specs.Prelude.{max, min}
use Rattle.ob_base.specs.declared.refusal.Stop.TheVariants as Stops
use Rattle.ob_headline.specs.Status.{StaysAlone}
use Rattle.ob_shell.proofs.CountLemmas.{rises_earlier}
use Rattle.ob_shell.proofs.WaitLemmas.{steps_flown, steps_most}
use Rattle.ob_shell.specs.Running.{is_quiet}
use Rattle.ob_shell.specs.Serving.{HasRead, read_end}
use Rattle.ob_shell.specs.Waiting.{AreWaiting}
use Rattle.ob_tables.specs.declared.stop.RunStop.TheVariants as Runs

-- the count of the source's faults stays or rises
pub source_later : (T Alone : Type 0) (stop : Stop) (old new : Faults) → StopCause {T = T} Alone old new (Err stop) → (new.source ≡ old.source) ⊎ Rises old.source new.source
source_later T Alone (Stops.Tampered q x) old new cause = cause.0.1
source_later T Alone Stops.SourceFault old new cause = inr cause.0
source_later T Alone Stops.SinkFault old new cause = cause.0.1
source_later T Alone Stops.NoMemory old new cause = cause.0.1
source_later T Alone Stops.InputLimit old new cause = inl cause.source
source_later T Alone Stops.StoreFault old new cause = cause.0.1
source_later T Alone Stops.StashFull old new cause = cause.0.1
source_later T Alone Stops.KeeperFault old new cause = cause.0.1

-- the same where the input may have ended
pub read_later : (Alone : Type 0) (left : Option Stop) (old new : Faults) → StopCause Alone old new (stop_of (read_end (Ok left))) → (new.source ≡ old.source) ⊎ Rises old.source new.source
read_later Alone None old new cause = inl cause.source
read_later Alone (Some stop) old new cause = source_later (Unit {0}) Alone stop old new cause

-- after either a line may be written
pub unsilenced : (left : Option Stop) (old new : Faults) → Silenced (is_quiet (read_end (Ok left))) old new → Silenced false old new
unsilenced None old new told = told
unsilenced (Some stop) old new told = told

-- ---- the counts
-- the reading's stop, after which those that waited were served
pub stop_stays : (T Alone : Type 0) (stop : Stop) (s0 s1 : ℕ) (old mid new : ℕ × ℕ) → new.0 ≡ mid.0 → new.1 ≡ mid.1 → StopCause {T = T} Alone (faults_of s0 old.0 old.1) (faults_of s1 mid.0 mid.1) (Err stop) → StopCause {T = T} Alone (faults_of s0 old.0 old.1) (faults_of s1 new.0 new.1) (Err stop)
stop_stays T Alone stop s0 s1 old mid new out trace cause =
    let same : faults_of s1 mid.0 mid.1 ≡ faults_of s1 new.0 new.1 = λ i. faults_of s1 (sym out i) (sym trace i) in
    subst (λ (f : Faults). StopCause {T = T} Alone (faults_of s0 old.0 old.1) f (Err stop)) same cause

-- one of those that waited was stopped
pub waited_stops : (T U Alone : Type 0) (stop : RunStop) (s0 s1 : ℕ) (old mid new : ℕ × ℕ) → StaysAlone Alone s0 s1 → mid.0 ≡ old.0 → mid.1 ≡ old.1 → StopCause {T = T} (Unit {0}) (faults_of 0 mid.0 mid.1) (faults_of 0 new.0 new.1) (Err (session_stop stop))
    → StopCause {T = U} Alone (faults_of s0 old.0 old.1) (faults_of s1 new.0 new.1) (Err (session_stop stop))
waited_stops T U Alone (Runs.Tampered q x) s0 s1 old mid new same out trace cause = (same, omega (arith, out, cause.1), omega (arith, trace, cause.2))
waited_stops T U Alone Runs.SinkFault s0 s1 old mid new same out trace cause = (same, elim cause.1 [ inl rose ↦ inl (rises_earlier old.0 mid.0 new.0 (omega (arith, out)) rose) | inr rose ↦ inr (rises_earlier old.1 mid.1 new.1 (omega (arith, trace)) rose) ])
waited_stops T U Alone Runs.NoMemory s0 s1 old mid new same out trace cause = (same, omega (arith, out, cause.1), omega (arith, trace, cause.2))
waited_stops T U Alone Runs.StoreFault s0 s1 old mid new same out trace cause = (same, omega (arith, out, cause.1), omega (arith, trace, cause.2))
waited_stops T U Alone Runs.StashFull s0 s1 old mid new same out trace cause = (same, omega (arith, out, cause.1), omega (arith, trace, cause.2))
waited_stops T U Alone Runs.KeeperFault s0 s1 old mid new same out trace cause = (same, omega (arith, out, cause.1), omega (arith, trace, cause.2))

-- and whether a line may still be written
pub waited_quiet : (quiet : Bool) (s0 s1 : ℕ) (old mid new : ℕ × ℕ) → mid.0 ≡ old.0 → mid.1 ≡ old.1 → Silenced quiet (faults_of 0 mid.0 mid.1) (faults_of 0 new.0 new.1) → Silenced quiet (faults_of s0 old.0 old.1) (faults_of s1 new.0 new.1)
waited_quiet true s0 s1 old mid new out trace told = elim told [ inl rose ↦ inl (rises_earlier old.0 mid.0 new.0 (omega (arith, out)) rose) | inr rose ↦ inr (rises_earlier old.1 mid.1 new.1 (omega (arith, trace)) rose) ]
waited_quiet false s0 s1 old mid new out trace told = (told.0 ∙ out, told.1 ∙ trace)

-- ---- where statements are served alone none waits
alone_waits : (settings0 settings1 : Option FlightSettings) (p0 p1 : Public) (m : ℕ) (batch : List Stmt) → batch_most p1 ≡ batch_most p0 → most_flown settings1 p1 ≡ most_flown settings0 p0 → ServesAlone settings0 p0 → AreWaiting settings1 p1 m batch → batch ≡ []
alone_waits settings0 settings1 p0 p1 m [] same flown alone waits = refl
alone_waits settings0 settings1 p0 p1 m (first ∷ rest) same flown alone (inl waits) =
    let most = (begins p1 m first waits.batch.begins).most in
    let one : batch_most p0 ≡ 1 = ap (λ (o : Option ℕ). option_map_or (λ (n : ℕ). max 1 (min n (p0.buffer - p0.pack))) o 1) alone.0 in
    absurd (omega (arith, most, one, same))
alone_waits settings0 settings1 p0 p1 m (first ∷ rest) same flown alone (inr waits) =
    let room = waits.room in let one = alone.1 in let long : length (first ∷ rest) ≡ length rest + 1 = omega arith in absurd (omega (arith, room, one, flown, long))

-- so none of them was stopped
pub alone_read : {R : Type 0} {state : R → RevState} {on : Bool} {f0 f1 : Fetch} {l0 l1 : Option (List ℕ)} {gave : ℕ} {w0 w1 t0 t1 : Option (List ℕ)} {batch : List Stmt} {r : Tally} {m0 m1 : Machine R} {ends : Option Stop}
    → HasRead state on f0 f1 l0 l1 gave w0 w1 t0 t1 batch r m0 m1 ends → AreWaiting m1.flights.settings (public_of m1.engine) (asked_of m1) batch → batch ≢ [] → ServesAlone m0.flights.settings (public_of m0.engine) → ⊥
alone_read {state = state} {batch = batch} {m0 = m0} {m1 = m1} read waits some alone =
    some (alone_waits m0.flights.settings m1.flights.settings (public_of m0.engine) (public_of m1.engine) (asked_of m1) batch (steps_most state m0 (standing m1 [] read.so.gathered) read.so.served read.so.answers read.so.steps)
    (steps_flown state m0 (standing m1 [] read.so.gathered) read.so.served read.so.answers read.so.steps) alone waits)

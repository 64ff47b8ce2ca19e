-- The statements of a flight, of whichever kind, stand as a flight asks.
use Rattle.ob_exec.proofs.Words.{answer_labels, ap, Bool, count_end, Cut, Draws, Emits, Emitted, Event, false, flight_kind, flight_progress, HoldsSeen, IfSome, if◌then◌else◌, Index, inl, is_cut, is_of_access, is_some, IsMeant, IsUnfit, List, None, OpErr, Option, Outcome, Partly, refl, RowsAt, Seen, selection_seen, Served, skeleton, Slots, Some, Stage, subst, sym, Tables, true, verdict, Whole, World, ℕ, ◌++◌, ◌∙◌, ◌≡◌, ◌≤◌}
use Rattle.ob_flat.specs.Flats.{Represents}
use Rattle.ob_flat.specs.declared.fault.OpErr.TheVariants as OpErrs
use Rattle.ob_stages.specs.Flying.{FlightHalts, FlightHolds, MayFly, flight_acts, flight_served}
use Rattle.ob_stages.specs.Reading.{end_now}
use Rattle.ob_stages.specs.Refusing.{refused_progress}
use Rattle.ob_stages.specs.RowsHolds.{Holds, HoldsAt}
use Rattle.ob_stages.specs.RowsStates.{MayServe, is_over, rows_at}
use Rattle.ob_stages.proofs.RowsKnown.{rows_end, rows_meant, rows_meant_cut, rows_way, rows_within}
use Rattle.ob_stages.proofs.RowsLeft.{rows_at_make, rows_left}
use Rattle.ob_stages.specs.declared.flight.Flight.{Flight}
use Rattle.ob_stages.specs.declared.flight.Flight.TheVariants.{Refused, Rows, Totals, Groups}
use Rattle.ob_stages.specs.declared.rows.Stage.TheVariants as Stages
use Rattle.ob_vault.specs.Words.{IsHonest}
use Rattle.ob_exec.proofs.FlightStage.{closed_of, HoldNow, IsSet, IsStage, shown_of, LacksHere}
use Rattle.ob_verdict.specs.declared.outcome.Outcome.TheVariants as AnOutcome
use Rattle.ob_exec.specs.InFlight.{IsFlown}
use Rattle.ob_exec.specs.Sources.{rows_skeleton}
use Rattle.ob_exec.proofs.StageReading.{cut_now, reading_emits, reading_emitted, reading_halted, reading_honest, reading_means, reading_memory, reading_partly, reading_stands, reading_stays, reading_told}
use Rattle.ob_exec.proofs.StageRefused.{emits_refused, emitted_refused, meant_refused, partly_refused, stands_refused, told_refused}
use Rattle.ob_exec.proofs.StageRows.{rows_emit, rows_stand}
use Rattle.ob_exec.proofs.StageRowsHalts.{rows_memory, rows_stay}
use Rattle.ob_exec.proofs.StageRowsTold.{rows_emitted, rows_halted, rows_honest, rows_mean, rows_partly_now, rows_told}

-- what it means may turn out to be served, and cut off where the store failed it
meant_now : (g : RowsAt) (kept : List (List ℕ)) (events : List Event) (w : World) → Holds g kept events w → g.failed ≡ false
    → (slots : Slots) → Represents g.q.public.pack g.q.flat slots w → IsHonest w w → MayServe g (record { skeleton = rows_skeleton g.select; seen = selection_seen g.q slots })
meant_now g kept events w is unfailed slots held honest = rows_meant g kept events w is slots held honest unfailed

meant_cut : (g : RowsAt) (kept : List (List ℕ)) (events : List Event) (w : World) → Holds g kept events w → g.failed ≡ true
    → (slots : Slots) → Represents g.q.public.pack g.q.flat slots w → IsHonest w w → (y : Seen) → HoldsSeen g.q slots true g.asked y → y.leaf ≡ None → y.end ≡ Cut g.asked
    → MayServe g (record { skeleton = rows_skeleton g.select; seen = y })
meant_cut g kept events w is failed slots held honest = rows_meant_cut g kept events w is slots held honest failed

-- a region that it made is gone once it has ended
rows_gone : (g : RowsAt) (kept : List (List ℕ)) (events : List Event) (w : World) (stage : Stage) → (is_over stage ≡ false → g.outcome ≡ None) → HoldsAt stage g kept events w
    → is_some g.outcome ≡ true → (q : ℕ) → g.region ≡ Some q → w.vault.revs.live q ≡ None
rows_gone g kept events w Stages.Over unended holds over q made = holds.0.gone q made
rows_gone g kept events w other unended holds over q made = absurd (let none = ap is_some (unended refl) in cc (none, over))

cut_end : (failed : Bool) (n : ℕ) → is_cut (if failed then Cut n else Whole) ≡ failed
cut_end true n = refl
cut_end false n = refl

cut_rows : (failed : Bool) (n : ℕ) → failed ≡ true → (if failed then Cut n else Whole) ≡ Cut n
cut_rows true n is = refl
cut_rows false n is = absurd (cc is)

-- the same of a reading's end
cut_reading : (failed : Bool) (n : ℕ) → failed ≡ true → end_now failed n ≡ Cut n
cut_reading true n is = refl
cut_reading false n is = absurd (cc is)

module _ (m : ℕ) where
  stage_outline : (f : Flight) (x : Served) → MayFly f x → x.skeleton ≡ skeleton (flight_progress f).stmt
  stage_outline (Refused f) x may = ap (λ (y : Served). y.skeleton) may
  stage_outline (Rows f) x may = may.same
  stage_outline (Totals f) x may = may.skeleton
  stage_outline (Groups f) x may = may.skeleton

  stage_single : (f : Flight) (x : Served) → MayFly f x → x.seen.then ≡ None
  stage_single (Refused f) x may = ap (λ (y : Served). y.seen.then) may
  stage_single (Rows f) x may = may.second
  stage_single (Totals f) x may = ap (λ (y : Seen). y.then) may.plain
  stage_single (Groups f) x may = ap (λ (y : Seen). y.then) may.plain

  stage_stands : (f : Flight) (kept : List (List ℕ)) (events : List Event) (w : World) (is : FlightHolds f kept events w) (set : IsSet m (flight_progress f)) → IsFlown (flight_progress f).public m (flight_progress f).asked (flight_progress f).stmt (flight_progress f).served.seen (closed_of (flight_progress f).outcome events)
  stage_stands (Refused f) kept events w is set = stands_refused (refused_progress f).public m f.stmt.now f.refusal (sym set.refusal) f.outcome events is.answered
  stage_stands (Rows f) kept events w is set = rows_stand (rows_at f) m kept events w is set refl is.placed.own.condition is.placed.own.cols (rows_within (rows_at f) is.placed)
  stage_stands (Totals f) kept events w is set = reading_stands f.reading m events w is.reading set
  stage_stands (Groups f) kept events w is set = reading_stands f.reading m events w is.reading set

  stage_emits : (f : Flight) (kept : List (List ℕ)) (events : List Event) (w : World) (is : FlightHolds f kept events w) (set : IsSet m (flight_progress f)) (o : Outcome) (at : (flight_progress f).outcome ≡ Some o) → Emits (flight_progress f).stmt (answer_labels (flight_progress f).stmt (flight_progress f).public) o events
  stage_emits (Refused f) kept events w is set o at = emits_refused (refused_progress f).public m f.stmt.now f.refusal (sym set.refusal) o events (subst (λ (x : Option Outcome). IfSome x (λ (y : Outcome). y ≡ AnOutcome.Refused f.refusal)) at is.answered) is.silent
  stage_emits (Rows f) kept events w is set o at = rows_emit (rows_at f) m kept events w is set refl is.placed.own.condition is.placed.own.cols (rows_within (rows_at f) is.placed) o at
  stage_emits (Totals f) kept events w is set o at = reading_emits f.reading m events w is.reading set o at
  stage_emits (Groups f) kept events w is set o at = reading_emits f.reading m events w is.reading set o at

  stage_told : (f : Flight) (kept : List (List ℕ)) (events : List Event) (w : World) (is : FlightHolds f kept events w) (set : IsSet m (flight_progress f)) (indexes : List Index) (tables : Tables) (d : Draws) (held : HoldNow (flight_progress f).public indexes tables w) → IsMeant d (flight_progress f).public m (flight_progress f).asked (flight_progress f).asked tables (flight_progress f).stmt (flight_progress f).served.seen (closed_of (flight_progress f).outcome events)
  stage_told (Refused f) kept events w is set indexes tables d held = told_refused (refused_progress f).public m f.stmt.now f.refusal (sym set.refusal) indexes tables w held d f.outcome events is.answered
  stage_told (Rows f) kept events w is set indexes tables d held = rows_told (rows_at f) m kept events w is set refl is.placed.own.condition is.placed.own.cols (rows_within (rows_at f) is.placed) (rows_way (rows_at f) kept events w is) (meant_now (rows_at f) kept events w is) (meant_cut (rows_at f) kept events w is) indexes tables held d
  stage_told (Totals f) kept events w is set indexes tables d held = reading_told f.reading m events w is.reading set indexes tables held d
  stage_told (Groups f) kept events w is set indexes tables d held = reading_told f.reading m events w is.reading set indexes tables held d

  stage_emitted : (f : Flight) (kept : List (List ℕ)) (events : List Event) (w : World) (is : FlightHolds f kept events w) (set : IsSet m (flight_progress f)) (indexes : List Index) (tables : Tables) (held : HoldNow (flight_progress f).public indexes tables w) (o : Outcome) (at : (flight_progress f).outcome ≡ Some o) → Emitted (flight_progress f).stmt (flight_progress f).public m tables o events
  stage_emitted (Refused f) kept events w is set indexes tables held o at = emitted_refused (refused_progress f).public m f.stmt.now f.refusal (sym set.refusal) indexes tables w held o events (subst (λ (x : Option Outcome). IfSome x (λ (y : Outcome). y ≡ AnOutcome.Refused f.refusal)) at is.answered) is.silent
  stage_emitted (Rows f) kept events w is set indexes tables held o at = rows_emitted (rows_at f) m kept events w is set refl is.placed.own.condition is.placed.own.cols (rows_within (rows_at f) is.placed) (rows_way (rows_at f) kept events w is) (meant_now (rows_at f) kept events w is) (meant_cut (rows_at f) kept events w is) indexes tables held o at
  stage_emitted (Totals f) kept events w is set indexes tables held o at = reading_emitted f.reading m events w is.reading set indexes tables held o at
  stage_emitted (Groups f) kept events w is set indexes tables held o at = reading_emitted f.reading m events w is.reading set indexes tables held o at

  stage_partly : (f : Flight) (kept : List (List ℕ)) (events : List Event) (w : World) (is : FlightHolds f kept events w) (set : IsSet m (flight_progress f)) (indexes : List Index) (tables : Tables) (held : HoldNow (flight_progress f).public indexes tables w) → Partly (answer_labels (flight_progress f).stmt (flight_progress f).public) (verdict (flight_progress f).public m tables (flight_progress f).stmt) events
  stage_partly (Refused f) kept events w is set indexes tables held = partly_refused (refused_progress f).public m f.stmt.now f.refusal (sym set.refusal) indexes tables w held events is.silent
  stage_partly (Rows f) kept events w is set indexes tables held = rows_partly_now (rows_at f) m kept events w is set refl is.placed.own.condition is.placed.own.cols (rows_within (rows_at f) is.placed) (rows_way (rows_at f) kept events w is) (meant_now (rows_at f) kept events w is) (meant_cut (rows_at f) kept events w is) indexes tables held
  stage_partly (Totals f) kept events w is set indexes tables held = reading_partly f.reading m events w is.reading set indexes tables held
  stage_partly (Groups f) kept events w is set indexes tables held = reading_partly f.reading m events w is.reading set indexes tables held

  stage_means : (f : Flight) (kept : List (List ℕ)) (events : List Event) (w : World) (is : FlightHolds f kept events w) (set : IsSet m (flight_progress f)) (indexes : List Index) (tables : Tables) (d : Draws) (held : HoldNow (flight_progress f).public indexes tables w) → MayFly f (record { skeleton = skeleton (flight_progress f).stmt; seen = shown_of (flight_progress f).failed d m tables (flight_progress f) })
  stage_means (Refused f) kept events w is set indexes tables d held = ap (λ (x : Seen). record { skeleton = skeleton f.stmt.now; seen = x }) (meant_refused (refused_progress f).public m f.stmt.now f.refusal (sym set.refusal) indexes tables w held d)
  stage_means (Rows f) kept events w is set indexes tables d held = rows_mean (rows_at f) m kept events w is set refl is.placed.own.condition is.placed.own.cols (rows_within (rows_at f) is.placed) (rows_way (rows_at f) kept events w is) (meant_now (rows_at f) kept events w is) (meant_cut (rows_at f) kept events w is) indexes tables held d
  stage_means (Totals f) kept events w is set indexes tables d held = reading_means f.reading m events w is.reading set indexes tables held d
  stage_means (Groups f) kept events w is set indexes tables d held = reading_means f.reading m events w is.reading set indexes tables held d

  stage_halted : (f : Flight) (kept : List (List ℕ)) (events : List Event) (w : World) (is : FlightHolds f kept events w) (part : List Event) (e : OpErr) (v : World) (halts : FlightHalts f events part e w v) (set : IsSet m (flight_progress f)) (indexes : List Index) (tables : Tables) (held : HoldNow (flight_progress f).public indexes tables w) (unfit : IsUnfit v) → Partly (answer_labels (flight_progress f).stmt (flight_progress f).public) (verdict (flight_progress f).public m tables (flight_progress f).stmt) (events ++ part)
  stage_halted (Refused f) kept events w is part e v halts set indexes tables held unfit = absurd halts
  stage_halted (Rows f) kept events w is part e v halts set indexes tables held unfit = rows_halted (rows_at f) m kept events w is set refl is.placed.own.condition is.placed.own.cols (rows_within (rows_at f) is.placed) (rows_way (rows_at f) kept events w is) (meant_now (rows_at f) kept events w is) (meant_cut (rows_at f) kept events w is) indexes tables held part e v halts unfit
  stage_halted (Totals f) kept events w is part e v halts set indexes tables held unfit = reading_halted f.reading m events w is.reading set indexes tables held part e v halts unfit
  stage_halted (Groups f) kept events w is part e v halts set indexes tables held unfit = reading_halted f.reading m events w is.reading set indexes tables held part e v halts unfit

  stage_honest : (f : Flight) (kept : List (List ℕ)) (events : List Event) (w : World) (is : FlightHolds f kept events w) (part : List Event) (e : OpErr) (v : World) (halts : FlightHalts f events part e w v) (set : IsSet m (flight_progress f)) (indexes : List Index) (tables : Tables) (held : HoldNow (flight_progress f).public indexes tables w) (q x : ℕ) (tampered : e ≡ OpErrs.Tampered q x) (nolie : v.store.lie ≡ None) → ⊥
  stage_honest (Refused f) kept events w is part e v halts set indexes tables held q x tampered nolie = halts
  stage_honest (Rows f) kept events w is part e v halts set indexes tables held q x tampered nolie = rows_honest (rows_at f) m kept events w is set refl is.placed.own.condition is.placed.own.cols (rows_within (rows_at f) is.placed) (rows_way (rows_at f) kept events w is) (meant_now (rows_at f) kept events w is) (meant_cut (rows_at f) kept events w is) indexes tables held part e v halts q x tampered nolie
  stage_honest (Totals f) kept events w is part e v halts set indexes tables held q x tampered nolie = reading_honest f.reading m events w is.reading set indexes tables held part e v halts q x tampered nolie
  stage_honest (Groups f) kept events w is part e v halts set indexes tables held q x tampered nolie = reading_honest f.reading m events w is.reading set indexes tables held part e v halts q x tampered nolie

  stage_stays : (f : Flight) (kept : List (List ℕ)) (events : List Event) (w : World) (is : FlightHolds f kept events w) (part : List Event) (e : OpErr) (v : World) (halts : FlightHalts f events part e w v) (set : IsSet m (flight_progress f)) (access : is_of_access e ≡ false) → count_end (flight_progress f).public (skeleton (flight_progress f).stmt) ≤ (flight_progress f).asked
  stage_stays (Refused f) kept events w is part e v halts set access = absurd halts
  stage_stays (Rows f) kept events w is part e v halts set access = rows_stay (rows_at f) m kept events w is set refl is.placed.own.condition is.placed.own.cols (rows_within (rows_at f) is.placed) part e v halts access
  stage_stays (Totals f) kept events w is part e v halts set access = reading_stays f.reading m events w is.reading set part e v halts access
  stage_stays (Groups f) kept events w is part e v halts set access = reading_stays f.reading m events w is.reading set part e v halts access

  stage_memory : (f : Flight) (kept : List (List ℕ)) (events : List Event) (w : World) (is : FlightHolds f kept events w) (part : List Event) (e : OpErr) (v : World) (halts : FlightHalts f events part e w v) (set : IsSet m (flight_progress f)) (memory : e ≡ OpErrs.NoMemory) (going : (flight_progress f).outcome ≡ None) → LacksHere (flight_progress f) w v
  stage_memory (Refused f) kept events w is part e v halts set memory going = absurd halts
  stage_memory (Rows f) kept events w is part e v halts set memory going = rows_memory (rows_at f) m kept events w is set refl is.placed.own.condition is.placed.own.cols (rows_within (rows_at f) is.placed) (rows_at_make (rows_at f) is.placed) (rows_left (rows_at f) is.placed) going part e v halts memory
  stage_memory (Totals f) kept events w is part e v halts set memory going = reading_memory f.reading m events w is.reading set part e v halts memory
  stage_memory (Groups f) kept events w is part e v halts set memory going = reading_memory f.reading m events w is.reading set part e v halts memory

  stage_cut : (f : Flight) (kept : List (List ℕ)) (events : List Event) (w : World) (is : FlightHolds f kept events w) → is_cut (flight_progress f).served.seen.end ≡ (flight_progress f).failed
  stage_cut (Refused f) kept events w is = refl
  stage_cut (Rows f) kept events w is = ap is_cut (rows_end (rows_at f) is.placed) ∙ cut_end (rows_at f).failed (rows_at f).asked
  stage_cut (Totals f) kept events w is = cut_now f.reading.failed f.reading.asked
  stage_cut (Groups f) kept events w is = cut_now f.reading.failed f.reading.asked

  stage_ends : (f : Flight) (kept : List (List ℕ)) (events : List Event) (w : World) (is : FlightHolds f kept events w) (failed : (flight_progress f).failed ≡ true) → (flight_progress f).served.seen.end ≡ Cut (flight_progress f).asked
  stage_ends (Refused f) kept events w is failed = absurd (cc failed)
  stage_ends (Rows f) kept events w is failed = rows_end (rows_at f) is.placed ∙ cut_rows (rows_at f).failed (rows_at f).asked failed
  stage_ends (Totals f) kept events w is failed = cut_reading f.reading.failed f.reading.asked failed
  stage_ends (Groups f) kept events w is failed = cut_reading f.reading.failed f.reading.asked failed

  stage_gone : (f : Flight) (kept : List (List ℕ)) (events : List Event) (w : World) (is : FlightHolds f kept events w) (over : is_some (flight_progress f).outcome ≡ true) (q : ℕ) (made : (flight_progress f).region ≡ Some q) → w.vault.revs.live q ≡ None
  stage_gone (Rows f) kept events w is over q made = rows_gone (rows_at f) kept events w (rows_at f).stage is.placed.unended is.at over q made
  stage_gone other kept events w is over q made = absurd (cc made)

  pub flight_stage : IsStage flight_kind m
  flight_stage = record {
    served = flight_served;
    outline = stage_outline;
    single = stage_single;
    failed = stage_cut;
    cut = stage_ends;
    over = λ f kept events w is over n. (flight_acts f (flight_progress f).served n (flight_served f kept events w is)).over over;
    gone = stage_gone;
    stands = stage_stands;
    emits = stage_emits;
    told = λ f kept events w is set indexes tables d held. stage_told f kept events w is set indexes tables d held;
    emitted = stage_emitted;
    partly = stage_partly;
    means = λ f kept events w is set indexes tables d held. stage_means f kept events w is set indexes tables d held;
    halted = λ f kept events part e w v is halts set indexes tables held unfit. stage_halted f kept events w is part e v halts set indexes tables held unfit;
    honest = λ f kept events part q x w v is halts set indexes tables held nolie.
        stage_honest f kept events w is part (OpErrs.Tampered q x) v halts set indexes tables held q x refl nolie;
    stays = λ f kept events part e w v is halts set access. inl (stage_stays f kept events w is part e v halts set access);
    memory = λ f kept events part w v is halts set going. stage_memory f kept events w is part OpErrs.NoMemory v halts set refl going;
  }

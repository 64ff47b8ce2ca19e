-- What becomes of texts that waited, once they are served together.
use Rattle.ob_shell.proofs.Words.{Access, Agrees, ap, append-nil, Appends, Appends-nil, AreBatch, AreSpelt, arith, begins, Bool, count_of, Engine, Err, events_text, faults_of, Flights, Gathered, HasCause, inl, inr, inserts_into, is_err, KeeperState, List, Machine, machine_of, Ok, Option, Outcome, Outputs, Outputs-by, Outputs-whole, printed, PrintsUntil, public_of, RanBatch, refl, Result, RevState, RunStop, session_stop, Silenced, skeleton, Some, standing, Stmt, StopCause, StoreState, subst, sym, Tally, Took, true, ℕ, [], ◌++◌, ◌∙◌, ◌∷◌, ◌≡◌, ◌≤◌, ◌⊎◌}
use Rattle.std.specs.Prelude.{IsErr, IsSome}
use Rattle.ob_shell.proofs.BatchSteps.{StandsAt, batch_closed, batch_lost, batch_steps, follow_unanswered, stopped_does, unanswered}
use Rattle.ob_shell.proofs.StepLemmas.{PartlyAt-none, Steps-none, printed-nil}
use Rattle.ob_shell.proofs.TookLemmas.{took_whole, traced_to_none}
use Rattle.ob_shell.proofs.WithLemmas.{events_none, insert_of, insert_prints}
use Rattle.ob_shell.specs.Lines.{LinesCut, line_answer, line_answers}
use Rattle.ob_shell.specs.Steps.{Follow, IsApartFrom, none_gathered}
use Rattle.ob_shell.specs.Tallies.{tally_after}
use Rattle.ob_shell.specs.Traces.{TracedTo}
use Rattle.ob_shell.specs.Waiting.{BreaksIn, IsClosed, ServedSo}
use Rattle.ob_sql.specs.declared.stmt.Stmt.TheVariants as S
use Rattle.ob_tables.specs.declared.stop.RunStop.TheVariants as Runs
use Rattle.ob_verdict.specs.Outcomes.{MayEmit}

-- nothing is printed of a statement that emits nothing
none_printed : (stop : RunStop) → PrintsUntil (session_stop stop) [] (events_text [])
none_printed Runs.NoMemory = record { lost = []; whole = events_none }
none_printed other = sym events_none

module _ {R : Type 0} (state : R → RevState) (e0 e1 : Engine R) (s0 s1 : StoreState) (k0 k1 : KeeperState) (flights : Flights) (first : Stmt) (rest : List Stmt) (agrees : Agrees state e0 s0) (batch : AreBatch (public_of e0) (count_of e0 s0) first rest)
    (on : Bool) (g : Gathered) (off : IsApartFrom flights.settings (public_of e0) g (skeleton first)) (held : List (List ℕ)) (spelt : AreSpelt held (first ∷ rest)) where
  abbrev start : Machine R
  start = standing (machine_of e0 s0 k0 flights) [] g

  abbrev m1 : Machine R
  m1 = machine_of e1 s1 k1 flights

  -- each was answered, and every line written
  pub served_batch : {w0 w1 : Option (List ℕ)} (t0 t1 : Tally) (outcome : Outcome) (outcomes : List Outcome) → RanBatch state first rest (Ok outcome) outcomes e0 s0 e1 s1 k0 k1 → Appends w0 w1 (printed (line_answers (outcome ∷ outcomes)))
      → t1 ≡ tally_after t0 (line_answers (outcome ∷ outcomes)) → ServedSo state w0 w1 (held ++ []) [] (IsClosed flights.settings (public_of e0) (public_of e1) (first ∷ rest) g) t0 t1 start m1
  served_batch t0 t1 outcome outcomes ran appends counted = record {
    served = held;
    held = [];
    parts = refl;
    spelt = tt;
    gathered = record { batch = Some _; flown = 0 };
    then = batch_closed state e0 e1 s0 s1 k0 k1 flights first rest agrees batch outcome outcomes ran g off;
    answers = line_answers (outcome ∷ outcomes);
    steps = batch_steps state e0 e1 s0 s1 k0 k1 flights first rest agrees batch outcome outcomes ran g off held spelt;
    appends = appends;
    counted = counted;
  }

  -- a sink failed in the lines, or in the trace after the first
  pub lost_batch : {w0 w1 t0 t1 : Option (List ℕ)} {Lost : Type 0} (outcome : Outcome) (outcomes : List Outcome) → RanBatch state first rest (Ok outcome) outcomes e0 s0 e1 s1 k0 k1 → (cut : LinesCut (outcome ∷ outcomes) w0 w1 Lost)
      → {text : List ℕ} {Fault : Type 0} → Outputs t0 t1 Fault text → (cut.done ≡ []) ⊎ TracedTo on s0.asked s1.asked t0 t1 → BreaksIn state on w0 w1 t0 t1 Lost (held ++ []) Runs.SinkFault start m1
  lost_batch {w0 = w0} {w1 = w1} {t0 = t0} {t1 = t1} outcome outcomes ran cut {text = text} traces all =
      let lost = batch_lost state e0 e1 s0 s1 k0 k1 flights first rest agrees batch outcome outcomes ran g off held cut.done cut.one cut.rest cut.parts spelt in
      record {
        served = lost.front;
        more = lost.text ∷ lost.behind;
        parts = append-nil held ∙ lost.parts;
        answers = line_answers cut.done;
        middle = lost.middle;
        steps = lost.steps;
        owed = lost.owed_then;
        gathered = record { batch = Some _; flown = 0 };
        follow = lost.follow;
        bytes = (line_answer cut.one).bytes;
        partly = inr (inr (inl (record { answer = line_answer cut.one; step = lost.step; whole = refl; fault = refl })));
        cut = cut.cut;
        whole = cut.whole;
        traced = traced_at cut.done lost.middle.store.asked lost.stands all;
      }
    where
      traced_at : (done : List Outcome) (asked : List Access) → StandsAt done s0.asked s1.asked asked → (done ≡ []) ⊎ TracedTo on s0.asked s1.asked t0 t1 → TracedTo on s0.asked asked t0 t1
      traced_at [] asked is all = subst (λ (l : List Access). TracedTo on s0.asked l t0 t1) (sym is) (traced_to_none on s0.asked t0 t1 traces.grown traces.appends)
      traced_at (one ∷ done) asked is (inl none) = absurd (cc none)
      traced_at (one ∷ done) asked is (inr to) = subst (λ (l : List Access). TracedTo on s0.asked l t0 t1) (sym is) to

  -- it was stopped before any was answered
  pub stopped_batch : {w t0 t1 : Option (List ℕ)} {Lost : Type 0} (stop : RunStop) (outcomes : List Outcome) → RanBatch state first rest (Err stop) outcomes e0 s0 e1 s1 k0 k1 → {text : List ℕ} {Fault : Type 0} → Outputs t0 t1 Fault text
      → BreaksIn state on w w t0 t1 Lost (held ++ []) stop start m1
  stopped_batch {w = w} {t0 = t0} {t1 = t1} {Lost = Lost} stop outcomes ran traces = by_held held spelt
    where
      by_held : (texts : List (List ℕ)) → AreSpelt texts (first ∷ rest) → BreaksIn state on w w t0 t1 Lost (texts ++ []) stop start m1
      by_held [] spelt = absurd spelt
      by_held (text ∷ texts) spelt = record {
        served = [];
        more = (text ∷ texts) ++ [];
        parts = refl;
        answers = [];
        middle = start;
        steps = Steps-none state start;
        owed = unanswered rest;
        gathered = none_gathered;
        follow = subst (λ (l : List (List ℕ)). Follow (text ∷ l) (unanswered rest)) (sym (append-nil texts)) (follow_unanswered text texts rest spelt.1);
        bytes = [];
        partly = inr (inl (record {
          stmt = first;
          spells = spelt.0;
          does = stopped_does state e0 e1 s0 s1 k0 k1 flights first rest agrees batch g off stop outcomes ran;
          events = [];
          emitted = λ tables reads. record {
            whole = [];
            prints = (insert_prints (public_of e0) (count_of e0 s0) tables first (insert_of first (begins (public_of e0) (count_of e0 s0) first batch.begins).inserts) _).0;
            begun = ([], refl);
          };
          silent = λ full. refl;
          printed = none_printed stop;
        }));
        cut = subst (λ (l : List ℕ). Outputs w w Lost (l ++ [])) (sym printed-nil) (Outputs-whole w w Lost [] (Appends-nil w));
        whole = subst (λ (l : List ℕ). Took w w l) (sym printed-nil) (took_whole (Appends-nil w));
        traced = traced_to_none on s0.asked t0 t1 traces.grown traces.appends;
      }

-- memory was wanting before
pub idle_batch : {R : Type 0} {state : R → RevState} {w t : Option (List ℕ)} {Lost : Type 0} (on : Bool) (texts : List (List ℕ)) (stop : RunStop) (m : Machine R) (g : Gathered) → stop ≡ Runs.NoMemory → BreaksIn state on w w t t Lost texts stop (standing m [] g) m
idle_batch {state = state} {w = w} {t = t} {Lost = Lost} on texts stop m g memory = record {
  served = [];
  more = texts;
  parts = refl;
  answers = [];
  middle = standing m [] g;
  steps = Steps-none state (standing m [] g);
  owed = [];
  gathered = g;
  follow = tt;
  bytes = [];
  partly = PartlyAt-none state (standing m [] g) texts stop refl memory;
  cut = subst (λ (l : List ℕ). Outputs w w Lost (l ++ [])) (sym printed-nil) (Outputs-whole w w Lost [] (Appends-nil w));
  whole = subst (λ (l : List ℕ). Took w w l) (sym printed-nil) (took_whole (Appends-nil w));
  traced = traced_to_none on m.store.asked t t [] (Appends-nil t);
}

-- ---- a batch that was stopped
abbrev pub lost_with : {w0 w1 : Option (List ℕ)} {outcomes : List Outcome} {F G : Type 0} → (F → G) → LinesCut outcomes w0 w1 F → LinesCut outcomes w0 w1 G
lost_with by cut = record { done = cut.done; one = cut.one; rest = cut.rest; parts = cut.parts; whole = cut.whole; cut = Outputs-by by cut.cut }

-- an INSERT emits nothing
unemitted : (stmt : Stmt) → IsSome (inserts_into (skeleton stmt)) → MayEmit stmt → ⊥
unemitted (S.Insert table columns values) some emits = emits
unemitted other some emits = cc some

-- so no sink stops it
pub batch_unsunk : {R : Type 0} {state : R → RevState} {first : Stmt} {rest : List Stmt} {outcomes : List Outcome} {e0 e1 : Engine R} {s0 s1 : StoreState} {k0 k1 : KeeperState} (stop : RunStop) → AreBatch (public_of e0) (count_of e0 s0) first rest → RanBatch state first rest (Err stop) outcomes e0 s0 e1 s1 k0 k1 → stop ≡ Runs.SinkFault → ⊥
batch_unsunk {first = first} {e0 = e0} {s0 = s0} stop batch ran is =
    unemitted first (begins (public_of e0) (count_of e0 s0) first batch.begins).inserts (ran.carried.emits (ap Err is))

-- its stop, and the trace after it
pub traced_only : (T : Type 0) (stop : RunStop) → (stop ≡ Runs.SinkFault → ⊥) → (out t0 t1 : ℕ) → t0 ≤ t1 → StopCause {T = T} (Unit {0}) (faults_of 0 out t0) (faults_of 0 out t1) (Err (session_stop stop))
traced_only T (Runs.Tampered q x) not out t0 t1 later = ((λ alone. refl, inl refl), omega arith, later)
traced_only T Runs.SinkFault not out t0 t1 later = absurd (not refl)
traced_only T Runs.NoMemory not out t0 t1 later = ((λ alone. refl, inl refl), omega arith, later)
traced_only T Runs.StoreFault not out t0 t1 later = ((λ alone. refl, inl refl), omega arith, later)
traced_only T Runs.StashFull not out t0 t1 later = ((λ alone. refl, inl refl), omega arith, later)
traced_only T Runs.KeeperFault not out t0 t1 later = ((λ alone. refl, inl refl), omega arith, later)

pub traced_quiet : {T E : Type 0} (r : Result T E) (quiet : Bool) (out t0 t1 : ℕ) → quiet ≡ is_err r → HasCause t0 t1 r → Silenced quiet (faults_of 0 out t0) (faults_of 0 out t1)
traced_quiet (Ok x) quiet out t0 t1 is cause = rw is (refl, cause.kept)
traced_quiet (Err e) quiet out t0 t1 is cause = rw is (inr cause.failed)

pub lost_quiet : {T E : Type 0} (r : Result T E) (quiet : Bool) → quiet ≡ is_err r → IsErr r → quiet ≡ true
lost_quiet (Ok x) quiet is failed = absurd (cc failed)
lost_quiet (Err e) quiet is failed = is

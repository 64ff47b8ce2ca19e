-- How the reading of a session's texts ends.
use Rattle.ob_shell.proofs.Words.{Access, AnsweredExcept, ap, append-nil, append_assoc, AreSpelt, arith, asked_of, before_read, Bool, empty_tally, Err, false, Faults, faults_of, Fed, Fetch, Gathered, inl, inr, IsAtEnd, length, List, Machine, None, Ok, Option, OutFailed, public_of, refl, Result, RevState, RunStop, session_stop, Silenced, Some, standing, Stmt, Stop, stop_of, StopCause, subst, sym, Tally, Traced, TracedAll, true, ℕ, [], ◌++◌, ◌<◌, ◌∙◌, ◌∷◌, ◌≡◌, ◌⊎◌}
use Rattle.ob_base.specs.declared.refusal.Stop.TheVariants as Stops
use Rattle.ob_headline.proofs.PromptLemmas.{prompt_all, prompt_by}
use Rattle.ob_headline.proofs.TextLemmas.{rest_of-append, rest_of-cons, rest_of-nil, rest_of-over, texts_of-append, texts_of-cons, texts_of-nil, texts_of-over}
use Rattle.ob_headline.specs.Texts.{rest_after, rest_of, tail_text, text_max, texts_at, texts_in, texts_of}
use Rattle.ob_headline.specs.Status.{StaysAlone}
use Rattle.ob_shell.proofs.FeedLemmas.{Fed-then}
use Rattle.ob_shell.proofs.GatherLemmas.{comes_free}
use Rattle.ob_shell.proofs.RunLemmas.{below_is_not_over, ran_broken, ran_turn}
use Rattle.ob_shell.proofs.TraceLemmas.{traced_cut, traced_then, traced_whole}
use Rattle.ob_shell.proofs.WaitLemmas.{answered_except, break_then, so_then, steps_flown, steps_most, steps_tables}
use Rattle.ob_shell.specs.Running.{IsQuiet, SoFar, is_quiet}
use Rattle.ob_shell.specs.Serving.{EndsReading, HasRead, IsNotTaken, ReadsTexts, TakesUntil, WantsRoom, read_end}
use Rattle.ob_shell.specs.Waiting.{AreWaiting, BreaksIn, ComesFree, IsFree, ServedSo}
use Rattle.ob_shell.specs.declared.session.TextHalted.{TextHalted}
use Rattle.ob_tables.specs.declared.stop.RunStop.TheVariants as Runs

-- the source ended, or failed, with no further byte
pub so_far_end : {R : Type 0} {state : R → RevState} {f0 f1 f2 : Fetch} {l0 l1 l2 w0 w1 : Option (List ℕ)} {p : List ℕ} {batch : List Stmt} {r : Tally} {m0 m1 : Machine R} → SoFar state f0 f1 l0 l1 w0 w1 p batch r m0 m1 → Fed f1 f2 l1 l2 [] → SoFar state f0 f2 l0 l2 w0 w1 p batch r m0 m1
so_far_end {f0 = f0} {f2 = f2} {l0 = l0} {l2 = l2} so fed = record {
  passed = so.passed;
  fed = subst (λ (xs : List ℕ). Fed f0 f2 l0 l2 xs) (append-nil so.passed) (Fed-then so.fed fed);
  pending_is = so.pending_is;
  so = so.so;
}

-- what is free comes free
comes_so : {R : Type 0} {state : R → RevState} {w0 w1 : Option (List ℕ)} {texts : List (List ℕ)} (batch : List Stmt) {r : Tally} {m0 m1 : Machine R} → ServedSo state w0 w1 texts batch (IsFree m1.flights.settings (public_of m1.engine) batch) empty_tally r m0 m1 → ServedSo state w0 w1 texts batch (ComesFree m1.flights.settings (public_of m1.engine) batch) empty_tally r m0 m1
comes_so batch {m1 = m1} so = record {
  served = so.served;
  held = so.held;
  parts = so.parts;
  spelt = so.spelt;
  gathered = so.gathered;
  then = comes_free m1.flights.settings (public_of m1.engine) batch so.gathered so.then;
  answers = so.answers;
  steps = so.steps;
  appends = so.appends;
  counted = so.counted;
}

-- a byte that isn't taken ends the reading so
ends_untaken : (f2 : Fetch) (passed p : List ℕ) (b : ℕ) → p ≡ rest_of [] passed → (stop : Stop) (bytes : List ℕ) → bytes ≡ (passed ++ b ∷ []) ++ f2.unread → IsNotTaken p b stop → EndsReading f2 false bytes (texts_at p b ++ texts_of (rest_after p b) f2.unread) (Some stop)
ends_untaken f2 passed p b pending Stops.NoMemory bytes is why = tt
ends_untaken f2 passed p b pending Stops.InputLimit bytes is why =
    let rest : rest_of [] (passed ++ b ∷ []) ≡ rest_after p b = rw (rest_of-append, ← pending, rest_of-cons, rest_of-nil) refl in (
      refl,
      ap (λ (l : List (List ℕ)). l ++ texts_of (rest_after p b) f2.unread) why.0 ∙ texts_of-over (rest_after p b) f2.unread why.1,
      refl,
      inl (rw (is, rest_of-append, rest, rest_of-over (rest_after p b) f2.unread why.1) why.1),
    )
ends_untaken f2 passed p b pending other bytes is why = absurd why

-- all that came was passed on
all_passed : {R : Type 0} {state : R → RevState} {f0 f2 : Fetch} {l0 l2 w0 w1 : Option (List ℕ)} {p : List ℕ} {batch : List Stmt} {r : Tally} {m0 m1 : Machine R} (so : SoFar state f0 f2 l0 l2 w0 w1 p batch r m0 m1) → f2.unread ≡ [] → f0.unread ++ so.fed.piece ≡ so.passed
all_passed so none = so.fed.joined ∙ rw none (append-nil so.passed)

-- its texts are those that were passed on, and what came of the last
all_parts : {R : Type 0} {state : R → RevState} {f0 f2 : Fetch} {l0 l2 w0 w1 : Option (List ℕ)} {p : List ℕ} {batch : List Stmt} {r : Tally} {m0 m1 : Machine R} (so : SoFar state f0 f2 l0 l2 w0 w1 p batch r m0 m1) → f2.unread ≡ [] → texts_in true (f0.unread ++ so.fed.piece) ≡ texts_of [] so.passed ++ tail_text p
all_parts so none = rw (all_passed so none, ← so.pending_is) refl

module _ {R : Type 0} {state : R → RevState} {on : Bool} {f0 f2 : Fetch} (gave : ℕ) {l0 l2 : Option (List ℕ)} where
  -- it stopped at the source's fault or at a limit
  read_halted : {w0 w2 t0 t2 : Option (List ℕ)} {p : List ℕ} {batch : List Stmt} {r : Tally} {m0 m1 : Machine R} (stop : Stop) → (so : SoFar state f0 f2 l0 l2 w0 w2 p batch r m0 m1) → f2.unread ≡ [] → EndsReading f2 false (so.passed ++ f2.unread) [] (Some stop) → TracedAll on m0.store.asked m1.store.asked t0 t2
      → HasRead state on f0 f2 l0 l2 gave w0 w2 t0 t2 batch r m0 m1 (Some stop)
  read_halted {p = p} {batch = batch} stop so none ends traced = record {
    piece = so.fed.piece;
    consumed = so.fed.consumed;
    taken = so.fed.taken;
    limit = so.fed.limit;
    ended = false;
    at_end = λ (h : false ≡ true). absurd (cc);
    texts = texts_of [] so.passed;
    more = [];
    parts =
        rw so.fed.joined (texts_of-append [] so.passed f2.unread ∙ ap (λ (l : List (List ℕ)). texts_of [] so.passed ++ l) (rw (← so.pending_is, none) (texts_of-nil p)));
    before = prompt_all (f0.unread ++ so.fed.piece) so.passed f2.unread gave so.fed.joined (rw none (omega arith));
    so = comes_so batch so.so;
    traced = traced;
    ends = subst (λ (l : List ℕ). EndsReading f2 false l [] (Some stop)) (sym so.fed.joined) ends;
  }

  pub read_source_fault : {w0 w2 t0 t2 : Option (List ℕ)} {p : List ℕ} {batch : List Stmt} {r : Tally} {m0 m1 : Machine R} → SoFar state f0 f2 l0 l2 w0 w2 p batch r m0 m1 → f2.unread ≡ [] → length p < text_max → TracedAll on m0.store.asked m1.store.asked t0 t2
      → HasRead state on f0 f2 l0 l2 gave w0 w2 t0 t2 batch r m0 m1 (Some Stops.SourceFault)
  read_source_fault {p = p} so none short traced = read_halted Stops.SourceFault so none (refl, refl, refl, rw (none, append-nil, ← so.pending_is) (below_is_not_over p short)) traced

  pub read_input_limit : {w0 w2 t0 t2 : Option (List ℕ)} {p : List ℕ} {batch : List Stmt} {r : Tally} {m0 m1 : Machine R} → SoFar state f0 f2 l0 l2 w0 w2 p batch r m0 m1 → f2.unread ≡ [] → f2.taken ≡ f2.limit → TracedAll on m0.store.asked m1.store.asked t0 t2
      → HasRead state on f0 f2 l0 l2 gave w0 w2 t0 t2 batch r m0 m1 (Some Stops.InputLimit)
  read_input_limit so none full traced = read_halted Stops.InputLimit so none (refl, refl, refl, inr full) traced

  -- ---- a byte wasn't taken
  module _ {f1 : Fetch} {l1 w0 w1 : Option (List ℕ)} (w2 : Option (List ℕ)) {t0 t1 : Option (List ℕ)} (t2 : Option (List ℕ)) {p : List ℕ} {batch : List Stmt} (batch' : List Stmt) {r : Tally} (r' : Tally) {b : ℕ} {m0 m1 : Machine R} (m2 : Machine R) (so : SoFar state f0 f1 l0 l1 w0 w1 p batch r m0 m1) (fed : Fed f1 f2 l1 l2 (b ∷ [])) (late : length f2.unread < gave)
      (before : TracedAll on m0.store.asked m1.store.asked t0 t1) where
    pub read_untaken : (stop : Stop) → ((g : Gathered) (held : List (List ℕ)) → IsFree m1.flights.settings (public_of m1.engine) batch g → AreSpelt held batch → ServedSo state w1 w2 (held ++ []) batch' (ComesFree m2.flights.settings (public_of m2.engine) batch') r r' (standing m1 [] g) m2) → TracedAll on m1.store.asked m2.store.asked t1 t2 → IsNotTaken p b stop
        → HasRead state on f0 f2 l0 l2 gave w0 w2 t0 t2 batch' r' m0 m2 (Some stop)
    read_untaken stop done traced why =
        let all = Fed-then so.fed fed in
        let joined : f0.unread ++ all.piece ≡ so.passed ++ (b ∷ f2.unread) = all.joined ∙ append_assoc so.passed (b ∷ []) f2.unread in
        record {
          piece = all.piece;
          consumed = all.consumed;
          taken = all.taken;
          limit = all.limit;
          ended = false;
          at_end = λ (h : false ≡ true). absurd (cc);
          texts = texts_of [] so.passed;
          more = texts_at p b ++ texts_of (rest_after p b) f2.unread;
          parts =
              ap (texts_in false) joined
              ∙ texts_of-append [] so.passed (b ∷ f2.unread)
              ∙ ap (λ (l : List (List ℕ)). texts_of [] so.passed ++ l) (rw (← so.pending_is) (texts_of-cons p b f2.unread));
          before = prompt_all (f0.unread ++ all.piece) so.passed (b ∷ f2.unread) gave joined (omega (arith, late));
          so = subst (λ (ts : List (List ℕ)). ServedSo state w0 w2 ts batch' (ComesFree m2.flights.settings (public_of m2.engine) batch') empty_tally r' m0 m2) (append-nil (texts_of [] so.passed))
              (so_then {Later = λ old new. ComesFree m2.flights.settings (public_of m2.engine) batch' new} so.so done (λ old new then free. free));
          traced = traced_then before traced;
          ends = ends_untaken f2 so.passed p b so.pending_is stop (f0.unread ++ all.piece) all.joined why;
        }

    -- it ended a text that was stopped
    pub read_stopped : (old new : ℕ × ℕ) (Saves : Type 0) {k0 : ℕ} (halted : TextHalted) → AreWaiting m1.flights.settings (public_of m1.engine) (asked_of m1) batch → old.0 ≡ k0
        → TakesUntil state Saves on (IsFree m1.flights.settings (public_of m1.engine) batch) (λ old new. IsFree m2.flights.settings (public_of m2.engine) batch' new) batch batch' (texts_at p b) (IsNotTaken p b) r r' w1 w2 t1 t2 (faults_of 0 old.0 old.1) (faults_of 0 new.0 new.1) m1 m2 (Err halted)
        → ReadsTexts state on f0 f2 l0 l2 gave w0 w2 t0 t2 batch' r' m0 m2 k0 new.0 (Err halted)
    read_stopped old new Saves halted waits same takes =
        ran_turn halted.stop so fed late waits before
        (subst (λ (k : ℕ). (g : Gathered) (held : List (List ℕ)) → IsFree m1.flights.settings (public_of m1.engine) batch g → AreSpelt held batch → BreaksIn state on w1 w2 t1 t2 (OutFailed halted.quiet k new.0) (held ++ texts_at p b) halted.stop (standing m1 [] g) m2) same takes.stopped)

  -- ---- the input ended
  module _ {w0 w1 : Option (List ℕ)} (w2 : Option (List ℕ)) {t0 t1 : Option (List ℕ)} (t2 : Option (List ℕ)) {p : List ℕ} {batch : List Stmt} (batch' : List Stmt) {r : Tally} (r' : Tally) {m0 m1 : Machine R} (m2 : Machine R) (so : SoFar state f0 f2 l0 l2 w0 w1 p batch r m0 m1) (none : f2.unread ≡ []) (at_end : IsAtEnd l2) (below : f2.taken < f2.limit) (short : length p < text_max)
      (before : TracedAll on m0.store.asked m1.store.asked t0 t1) where
    pub finish_reads : (old new : ℕ × ℕ) (Saves : Type 0) {k0 : ℕ} (result : Result (Option Stop) TextHalted) → AreWaiting m1.flights.settings (public_of m1.engine) (asked_of m1) batch → old.0 ≡ k0
        → TakesUntil state Saves on (IsFree m1.flights.settings (public_of m1.engine) batch) (λ old new. IsFree m2.flights.settings (public_of m2.engine) batch' new) batch batch' (tail_text p) WantsRoom r r' w1 w2 t1 t2 (faults_of 0 old.0 old.1) (faults_of 0 new.0 new.1) m1 m2 result
        → ReadsTexts state on f0 f2 l0 l2 gave w0 w2 t0 t2 batch' r' m0 m2 k0 new.0 result
    unfolding break_then
    finish_reads old new Saves (Ok None) waits same takes = record {
      piece = so.fed.piece;
      consumed = so.fed.consumed;
      taken = so.fed.taken;
      limit = so.fed.limit;
      ended = true;
      at_end = λ _. at_end;
      texts = texts_of [] so.passed ++ tail_text p;
      more = [];
      parts = all_parts so none ∙ sym (append-nil (texts_of [] so.passed ++ tail_text p));
      before = prompt_by (f0.unread ++ so.fed.piece) so.passed f2.unread gave (tail_text p) so.fed.joined (rw none (omega arith));
      so = so_then {Later = λ old new. IsFree m2.flights.settings (public_of m2.engine) batch' new} so.so takes.done (λ old new then free. comes_free m2.flights.settings (public_of m2.engine) batch' new free);
      traced = traced_then before takes.traced;
      ends = (refl, refl, refl, rw (all_passed so none, ← so.pending_is) (below_is_not_over p short), below);
    }
    finish_reads old new Saves (Err halted) waits same takes =
        let stopped = subst (λ (k : ℕ). (g : Gathered) (held : List (List ℕ)) → IsFree m1.flights.settings (public_of m1.engine) batch g → AreSpelt held batch → BreaksIn state on w1 w2 t1 t2 (OutFailed halted.quiet k new.0) (held ++ tail_text p) halted.stop (standing m1 [] g) m2) same takes.stopped in
        let now = stopped so.so.gathered so.so.held so.so.then so.so.spelt in
        let begins = prompt_all (f0.unread ++ so.fed.piece) so.passed f2.unread gave so.fed.joined (rw none (omega arith)) in
        let most = sym (steps_most state m0 (standing m1 [] so.so.gathered) so.so.served so.so.answers so.so.steps) in
        let flown = sym (steps_flown state m0 (standing m1 [] so.so.gathered) so.so.served so.so.answers so.so.steps) in
        ran_broken halted.stop so.fed.piece true (texts_of [] so.passed ++ tail_text p) [] so.fed.consumed so.fed.taken so.fed.limit (λ _. at_end) (all_parts so none ∙ sym (append-nil (texts_of [] so.passed ++ tail_text p))) (break_then so.so before stopped)
        (subst (λ (two : ℕ × ℕ). AnsweredExcept (public_of now.middle.engine) two.0 two.1 (texts_in false (before_read gave (f0.unread ++ so.fed.piece))) (so.so.served ++ now.served)) (λ i. (sym most i, sym flown i))
        (answered_except m1.flights.settings (public_of m1.engine) (asked_of m1) batch (texts_of [] so.passed) so.so.served so.so.held now.served now.more (tail_text p) _ waits so.so.spelt so.so.parts now.parts begins
        (public_of now.middle.engine) (λ rest spelt all. steps_tables state (standing m1 [] so.so.gathered) now.middle now.served now.answers now.steps rest batch spelt all)))
    finish_reads old new Saves (Ok (Some stop)) waits same takes = record {
      piece = so.fed.piece;
      consumed = so.fed.consumed;
      taken = so.fed.taken;
      limit = so.fed.limit;
      ended = true;
      at_end = λ _. at_end;
      texts = texts_of [] so.passed;
      more = tail_text p;
      parts = all_parts so none;
      before = prompt_all (f0.unread ++ so.fed.piece) so.passed f2.unread gave so.fed.joined (rw none (omega arith));
      so = subst (λ (ts : List (List ℕ)). ServedSo state w0 w2 ts batch' (ComesFree m2.flights.settings (public_of m2.engine) batch') empty_tally r' m0 m2) (append-nil (texts_of [] so.passed))
          (so_then {Later = λ old new. ComesFree m2.flights.settings (public_of m2.engine) batch' new} so.so takes.0.done (λ old new then free. free));
      traced = traced_then before takes.0.traced;
      ends = subst (λ (s : Stop). EndsReading f2 true (f0.unread ++ so.fed.piece) (tail_text p) (Some s)) (sym takes.1) tt;
    }

-- the counts, beside that of a source which didn't fail
served_cause : (T U Alone : Type 0) (s0 s1 : ℕ) (old new : ℕ × ℕ) (stop : RunStop) → StaysAlone Alone s0 s1 → StopCause {T = T} (Unit {0}) (faults_of 0 old.0 old.1) (faults_of 0 new.0 new.1) (Err (session_stop stop))
    → StopCause {T = U} Alone (faults_of s0 old.0 old.1) (faults_of s1 new.0 new.1) (Err (session_stop stop))
served_cause T U Alone s0 s1 old new (Runs.Tampered q x) same cause = (same, cause.1, cause.2)
served_cause T U Alone s0 s1 old new Runs.SinkFault same cause = (same, cause.1)
served_cause T U Alone s0 s1 old new Runs.NoMemory same cause = (same, cause.1, cause.2)
served_cause T U Alone s0 s1 old new Runs.StoreFault same cause = (same, cause.1, cause.2)
served_cause T U Alone s0 s1 old new Runs.StashFull same cause = (same, cause.1, cause.2)
served_cause T U Alone s0 s1 old new Runs.KeeperFault same cause = (same, cause.1, cause.2)

unread_cause : (T Alone : Type 0) (s0 s1 : ℕ) (old new : ℕ × ℕ) (stop : Stop) → s1 ≡ s0 → (stop ≡ Stops.NoMemory) ⊎ (stop ≡ Stops.InputLimit) → new.0 ≡ old.0 → new.1 ≡ old.1 → StopCause {T = T} Alone (faults_of s0 old.0 old.1) (faults_of s1 new.0 new.1) (Err stop)
unread_cause T Alone s0 s1 old new stop same why out trace = elim why [
  | inl is ↦ subst (λ (s : Stop). StopCause {T = T} Alone (faults_of s0 old.0 old.1) (faults_of s1 new.0 new.1) (Err s)) (sym is) ((λ alone. same, inl same), omega (arith, out), omega (arith, trace))
  | inr is ↦ subst (λ (s : Stop). StopCause {T = T} Alone (faults_of s0 old.0 old.1) (faults_of s1 new.0 new.1) (Err s)) (sym is) (record { source = same; out = out; trace = trace })
]

quiet_by : (s0 s1 : ℕ) (old new : ℕ × ℕ) (quiet : Bool) → Silenced quiet (faults_of 0 old.0 old.1) (faults_of 0 new.0 new.1) → Silenced quiet (faults_of s0 old.0 old.1) (faults_of s1 new.0 new.1)
quiet_by s0 s1 old new true told = told
quiet_by s0 s1 old new false told = told

-- ---- what else is known of a part after which no more is read
module _ {R : Type 0} (state : R → RevState) (Saves : Type 0) (on : Bool) (May : Gathered → Type 0) (Then : (old new : Gathered) → Type 0) (b0 b1 : List Stmt) (texts : List (List ℕ)) (Why : Stop → Type 0) (r0 r1 : Tally) (w0 w1 t1 t2 : Option (List ℕ)) (m1 m2 : Machine R) where
  pub more_traced : (t0 : Option (List ℕ)) (old new : ℕ × ℕ) {a0 : List Access} (result : Result (Option Stop) TextHalted) → TracedAll on a0 m1.store.asked t0 t1 → TakesUntil state Saves on May Then b0 b1 texts Why r0 r1 w0 w1 t1 t2 (faults_of 0 old.0 old.1) (faults_of 0 new.0 new.1) m1 m2 result → Traced on a0 m2.store.asked t0 t2 (IsQuiet (read_end result))
  more_traced t0 old new (Ok None) before takes = traced_whole _ (traced_then before takes.traced)
  more_traced t0 old new (Err halted) before takes = traced_cut before takes.traced_stop
  more_traced t0 old new (Ok (Some stop)) before takes = traced_whole _ (traced_then before takes.0.traced)

  cause_here : (Alone : Type 0) (s0 s1 : ℕ) (old new : ℕ × ℕ) → s1 ≡ s0 → (result : Result (Option Stop) TextHalted) → ((stop : Stop) → Why stop → (stop ≡ Stops.NoMemory) ⊎ (stop ≡ Stops.InputLimit))
      → TakesUntil state Saves on May Then b0 b1 texts Why r0 r1 w0 w1 t1 t2 (faults_of 0 old.0 old.1) (faults_of 0 new.0 new.1) m1 m2 result → StopCause Alone (faults_of s0 old.0 old.1) (faults_of s1 new.0 new.1) (stop_of (read_end result))
  cause_here Alone s0 s1 old new same (Ok None) why takes = record { source = same; out = takes.cause.out; trace = takes.cause.trace }
  cause_here Alone s0 s1 old new same (Err halted) why takes = served_cause (Option Stop) (Unit {0}) Alone s0 s1 old new halted.stop (λ alone. same, inl same) takes.cause
  cause_here Alone s0 s1 old new same (Ok (Some stop)) why takes = unread_cause (Unit {0}) Alone s0 s1 old new stop same (why stop takes.1) takes.0.cause.out takes.0.cause.trace

  quiet_here : (s0 s1 : ℕ) (old new : ℕ × ℕ) (result : Result (Option Stop) TextHalted) → TakesUntil state Saves on May Then b0 b1 texts Why r0 r1 w0 w1 t1 t2 (faults_of 0 old.0 old.1) (faults_of 0 new.0 new.1) m1 m2 result
      → Silenced (is_quiet (read_end result)) (faults_of s0 old.0 old.1) (faults_of s1 new.0 new.1)
  quiet_here s0 s1 old new (Ok None) takes = takes.quiet
  quiet_here s0 s1 old new (Err halted) takes = quiet_by s0 s1 old new halted.quiet takes.quiet
  quiet_here s0 s1 old new (Ok (Some stop)) takes = takes.0.quiet

  -- where no count of a sink rose before
  pub more_cause : (Alone : Type 0) (s0 s1 out trace : ℕ) (old new : ℕ × ℕ) → s1 ≡ s0 → old.0 ≡ out → old.1 ≡ trace → (result : Result (Option Stop) TextHalted) → ((stop : Stop) → Why stop → (stop ≡ Stops.NoMemory) ⊎ (stop ≡ Stops.InputLimit))
      → TakesUntil state Saves on May Then b0 b1 texts Why r0 r1 w0 w1 t1 t2 (faults_of 0 old.0 old.1) (faults_of 0 new.0 new.1) m1 m2 result → StopCause Alone (faults_of s0 out trace) (faults_of s1 new.0 new.1) (stop_of (read_end result))
  more_cause Alone s0 s1 out trace old new same by_out by_trace result why takes =
      let earlier : faults_of s0 old.0 old.1 ≡ faults_of s0 out trace = λ i. faults_of s0 (by_out i) (by_trace i) in
      subst (λ (f : Faults). StopCause Alone f (faults_of s1 new.0 new.1) (stop_of (read_end result))) earlier (cause_here Alone s0 s1 old new same result why takes)

  pub more_quiet : (s0 s1 out trace : ℕ) (old new : ℕ × ℕ) → old.0 ≡ out → old.1 ≡ trace → (result : Result (Option Stop) TextHalted) → TakesUntil state Saves on May Then b0 b1 texts Why r0 r1 w0 w1 t1 t2 (faults_of 0 old.0 old.1) (faults_of 0 new.0 new.1) m1 m2 result
      → Silenced (is_quiet (read_end result)) (faults_of s0 out trace) (faults_of s1 new.0 new.1)
  more_quiet s0 s1 out trace old new by_out by_trace result takes =
      let earlier : faults_of s0 old.0 old.1 ≡ faults_of s0 out trace = λ i. faults_of s0 (by_out i) (by_trace i) in
      subst (λ (f : Faults). Silenced (is_quiet (read_end result)) f (faults_of s1 new.0 new.1)) earlier (quiet_here s0 s1 old new result takes)

-- for want of memory or at a limit
pub by_room : (stop : Stop) → WantsRoom stop → (stop ≡ Stops.NoMemory) ⊎ (stop ≡ Stops.InputLimit)
by_room stop is = inl is

pub by_byte : (p : List ℕ) (b : ℕ) (stop : Stop) → IsNotTaken p b stop → (stop ≡ Stops.NoMemory) ⊎ (stop ≡ Stops.InputLimit)
by_byte p b Stops.NoMemory why = inl refl
by_byte p b Stops.InputLimit why = inr refl
by_byte p b other why = absurd why

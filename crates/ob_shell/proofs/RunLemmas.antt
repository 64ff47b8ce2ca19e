-- What a session has done, byte by byte, and how it ends.
use Rattle.ob_shell.proofs.Words.{AnsweredExcept, ap, append-nil, append_assoc, Appends, AreSpelt, arith, asked_of, batch_most, before_read, Begins, Bool, empty_tally, EndsBy, Engine, Err, false, Fed, Fetch, Flights, flights_at, flights_of, FlightSettings, Gathered, IsAtEnd, KeeperState, length, List, Machine, machine_of, most_flown, most_some, Option, OutFailed, Outputs, Outputs-whole, printed, public_of, refl, Result, RevState, RunStop, session_stop, SessionRan, standing, Stmt, Stop, StoreState, subst, sym, Tally, TracedAll, true, ℕ, [], ⊤, ◌++◌, ◌+◌, ◌<◌, ◌∙◌, ◌∷◌, ◌≡◌}
use Rattle.std.specs.Io.KnownBytes.{Consumes}
use Rattle.ob_headline.proofs.PromptLemmas.{all_answered, prompt_all}
use Rattle.ob_headline.proofs.TextLemmas.{rest_of-append, rest_of-cons, rest_of-nil, texts_of-append, texts_of-cons, texts_of-nil}
use Rattle.ob_headline.specs.Texts.{is_over, rest_after, text_max, texts_at, texts_in, texts_of}
use Rattle.ob_shell.proofs.FeedLemmas.{Fed-none, Fed-then}
use Rattle.ob_shell.proofs.StepLemmas.{PartlyAt-more, last_stopped}
use Rattle.ob_shell.proofs.PlaceLemmas.{none_free}
use Rattle.ob_shell.proofs.TookLemmas.{took_whole, traces_all, traces_to}
use Rattle.ob_shell.proofs.TraceLemmas.{traced_then}
use Rattle.ob_shell.proofs.WaitLemmas.{answered_except, break_then, ends_end, follow_more, last_idle, none_held, so_idle, so_then, steps_flown, steps_most, steps_tables, tally_end}
use Rattle.ob_shell.specs.Flying.{start_of}
use Rattle.ob_shell.specs.Running.{SoFar}
use Rattle.ob_shell.specs.Serving.{HasRead, ended_with}
use Rattle.ob_shell.specs.Steps.{none_gathered}
use Rattle.ob_shell.specs.Waiting.{AreWaiting, BreaksIn, ComesFree, IsFree, ServedSo}
use Rattle.ob_tables.specs.declared.stop.RunStop.TheVariants as Runs

-- ---- the session
pub run_ends : (f : Fetch) (ended : Bool) (bytes : List ℕ) (more : List (List ℕ)) (part : List ℕ) (run : RunStop) → EndsBy f ended bytes more part (Err (session_stop run))
run_ends f ended bytes more part (Runs.Tampered region place) = tt
run_ends f ended bytes more part other = tt

pub below_is_not_over : (p : List ℕ) → length p < text_max → is_over p ≡ false
below_is_not_over p h = grind arith

pub at_limit_is_over : (new rest : List ℕ) → new ≡ rest → length new ≡ text_max → is_over rest ≡ true
at_limit_is_over new rest e h = rw (← e) (grind arith)

pub so_far_start : {R : Type 0} {state : R → RevState} (f : Fetch) (l w : Option (List ℕ)) (p : List ℕ) (batch : List Stmt) (tally : Tally) (e : Engine R) (s : StoreState) (k : KeeperState) (flights : Flights) → p ≡ [] → batch ≡ [] → tally ≡ empty_tally
    → SoFar state f f l l w w p batch tally (machine_of e s k flights) (machine_of e s k flights)
so_far_start {state = state} f l w p batch tally e s k flights none free fresh = record {
  passed = [];
  fed = Fed-none f l;
  pending_is = none ∙ sym (rest_of-nil []);
  so = rw (free, fresh, texts_of-nil) (so_idle w [] [] [] (λ old new. IsFree flights.settings (public_of e) [] new) empty_tally (machine_of e s k flights) none_gathered refl tt (none_free flights.settings (public_of e)));
}

-- one more byte, and the text that it ended
pub so_far_turn : {R : Type 0} {state : R → RevState} {f0 f1 f2 : Fetch} {l0 l1 l2 w0 w1 w2 : Option (List ℕ)} {p p' : List ℕ} {batch batch' : List Stmt} {r r' : Tally} {b : ℕ} {m0 m1 m2 : Machine R}
    → SoFar state f0 f1 l0 l1 w0 w1 p batch r m0 m1 → Fed f1 f2 l1 l2 (b ∷ []) → p' ≡ rest_after p b
    → ((gathered : Gathered) (held : List (List ℕ)) → IsFree m1.flights.settings (public_of m1.engine) batch gathered → AreSpelt held batch
    → ServedSo state w1 w2 (held ++ texts_at p b) batch' (λ new. IsFree m2.flights.settings (public_of m2.engine) batch' new) r r' (standing m1 [] gathered) m2) → SoFar state f0 f2 l0 l2 w0 w2 p' batch' r' m0 m2
so_far_turn {state = state} {w0 = w0} {w2 = w2} {p = p} {batch' = batch'} {r' = r'} {b = b} {m0 = m0} {m2 = m2} so fed rest now =
    let all : texts_of [] (so.passed ++ (b ∷ [])) ≡ texts_of [] so.passed ++ texts_at p b =
    texts_of-append [] so.passed (b ∷ []) ∙ ap (λ (l : List (List ℕ)). texts_of [] so.passed ++ l) (rw (← so.pending_is, texts_of-cons, texts_of-nil, append-nil) refl) in
    record {
      passed = so.passed ++ (b ∷ []);
      fed = Fed-then so.fed fed;
      pending_is = rest ∙ rw (rest_of-append, ← so.pending_is, rest_of-cons, rest_of-nil);
      so = subst (λ (ts : List (List ℕ)). ServedSo state w0 w2 ts batch' (IsFree m2.flights.settings (public_of m2.engine) batch') empty_tally r' m0 m2) (sym all)
          (so_then {Later = λ old new. IsFree m2.flights.settings (public_of m2.engine) batch' new} so.so now (λ old new then free. free));
    }

-- ---- a text that was served stopped it
-- where all that was whole before the last read is among these texts
pub ran_broken : {R : Type 0} {state : R → RevState} {Lost : Type 0} {on : Bool} {t0 t2 : Option (List ℕ)} {f0 f2 : Fetch} {gave : ℕ} {l0 l2 w0 w2 : Option (List ℕ)} {m0 m2 : Machine R} (run : RunStop) (piece : List ℕ) (ended : Bool) (texts more : List (List ℕ))
    → Consumes l0 l2 piece → f2.taken ≡ f0.taken + length piece → f2.limit ≡ f0.limit → (ended ≡ true → IsAtEnd l2) → texts_in ended (f0.unread ++ piece) ≡ texts ++ more
    → (broke : BreaksIn state on w0 w2 t0 t2 Lost texts run m0 m2) → AnsweredExcept (public_of broke.middle.engine) (batch_most (public_of m0.engine)) (most_flown m0.flights.settings (public_of m0.engine)) (texts_in false (before_read gave (f0.unread ++ piece))) broke.served
    → SessionRan state on f0 f2 l0 l2 gave w0 w2 t0 t2 m0 m2 Lost (Err (session_stop run))
ran_broken {f2 = f2} run piece ended texts more consumed taken limit at_end parts broke prompt = record {
  piece = piece;
  consumed = consumed;
  taken = taken;
  limit = limit;
  ended = ended;
  at_end = at_end;
  served = broke.served;
  more = broke.more ++ more;
  texts = parts ∙ ap (λ (l : List (List ℕ)). l ++ more) broke.parts ∙ append_assoc broke.served broke.more more;
  middle = broke.middle;
  prompt = prompt;
  answers = broke.answers;
  steps = broke.steps;
  part = broke.bytes;
  owed = broke.owed;
  gathered = broke.gathered;
  follow = follow_more broke.more more broke.owed broke.follow;
  last = last_stopped _ _ _ _ _ run (PartlyAt-more _ _ _ _ _ run _ broke.partly);
  cut = broke.cut;
  whole = broke.whole;
  traced = traces_to broke.traced;
  counted = tt;
  ends = run_ends f2 ended _ _ _ run;
}

-- one that a byte ended, or that came before it
pub ran_turn : {R : Type 0} {state : R → RevState} {Lost : Type 0} {on : Bool} {t0 t1 t2 : Option (List ℕ)} {f0 f1 f2 : Fetch} {gave : ℕ} {l0 l1 l2 w0 w1 w2 : Option (List ℕ)} {p : List ℕ} {batch : List Stmt} {r : Tally} {b : ℕ} {m0 m1 m2 : Machine R} (run : RunStop)
    → (so : SoFar state f0 f1 l0 l1 w0 w1 p batch r m0 m1) → Fed f1 f2 l1 l2 (b ∷ []) → length f2.unread < gave → AreWaiting m1.flights.settings (public_of m1.engine) (asked_of m1) batch → TracedAll on m0.store.asked m1.store.asked t0 t1
    → ((gathered : Gathered) (held : List (List ℕ)) → IsFree m1.flights.settings (public_of m1.engine) batch gathered → AreSpelt held batch
    → BreaksIn state on w1 w2 t1 t2 Lost (held ++ texts_at p b) run (standing m1 [] gathered) m2)
    → SessionRan state on f0 f2 l0 l2 gave w0 w2 t0 t2 m0 m2 Lost (Err (session_stop run))
unfolding break_then
ran_turn {state = state} {f0 = f0} {f2 = f2} {gave = gave} {p = p} {b = b} {m0 = m0} {m1 = m1} run so fed late waits before broke =
    let all = Fed-then so.fed fed in
    let now = broke so.so.gathered so.so.held so.so.then so.so.spelt in
    let whole = break_then so.so before broke in
    let same = sym (steps_most state m0 (standing m1 [] so.so.gathered) so.so.served so.so.answers so.so.steps) in
    let flown = sym (steps_flown state m0 (standing m1 [] so.so.gathered) so.so.served so.so.answers so.so.steps) in
    let begins = prompt_all (f0.unread ++ all.piece) so.passed (b ∷ f2.unread) gave (all.joined ∙ append_assoc so.passed (b ∷ []) f2.unread) (omega (arith, late)) in
    ran_broken run all.piece false (texts_of [] so.passed ++ texts_at p b) (texts_of (rest_after p b) f2.unread) all.consumed all.taken all.limit (λ (h : false ≡ true). absurd (cc))
    (ap (texts_in false) all.joined ∙ rw append_assoc
    (texts_of-append [] so.passed ((b ∷ []) ++ f2.unread)
    ∙ ap (λ (l : List (List ℕ)). texts_of [] so.passed ++ l) (rw (← so.pending_is) (texts_of-cons p b f2.unread)) ∙ sym (append_assoc (texts_of [] so.passed) (texts_at p b) (texts_of (rest_after p b) f2.unread))))
    whole
    (subst (λ (two : ℕ × ℕ). AnsweredExcept (public_of now.middle.engine) two.0 two.1 (texts_in false (before_read gave (f0.unread ++ all.piece))) (so.so.served ++ now.served)) (λ i. (sym same i, sym flown i))
    (answered_except m1.flights.settings (public_of m1.engine) (asked_of m1) _ (texts_of [] so.passed) so.so.served so.so.held now.served now.more (texts_at p b) _ waits so.so.spelt so.so.parts now.parts begins
    (public_of now.middle.engine) (λ rest spelt all. steps_tables state (standing m1 [] so.so.gathered) now.middle now.served now.answers now.steps rest _ spelt all)))

-- ---- no more is read, and then those that wait are served
-- once they are
pub ran_flushed : {R : Type 0} {state : R → RevState} {Lost : Type 0} {on : Bool} {t0 t1 t2 : Option (List ℕ)} {f0 f2 : Fetch} {gave : ℕ} {l0 l2 w0 w1 w2 : Option (List ℕ)} {batch : List Stmt} {r r' : Tally} {m0 m1 m2 : Machine R} (ends : Option Stop)
    → (read : HasRead state on f0 f2 l0 l2 gave w0 w1 t0 t1 batch r m0 m1 ends) → {Then : (old new : Gathered) → Type 0} → ((gathered : Gathered) (held : List (List ℕ)) → ComesFree m1.flights.settings (public_of m1.engine) batch gathered → AreSpelt held batch
    → ServedSo state w1 w2 (held ++ []) [] (Then gathered) r r' (standing m1 [] gathered) m2) → TracedAll on m1.store.asked m2.store.asked t1 t2
    → SessionRan state on f0 f2 l0 l2 gave w0 w2 t0 t2 m0 m2 Lost (ended_with ends r')
ran_flushed {state = state} {Lost = Lost} {on = on} {t0 = t0} {t2 = t2} {f0 = f0} {f2 = f2} {gave = gave} {w0 = w0} {w2 = w2} {r' = r'} {m0 = m0} {m1 = m1} {m2 = m2} ends read flushed traced =
    let now = so_then {Last = λ new. ⊤} read.so flushed (λ old new then closed. tt) in
    let none : now.held ≡ [] = none_held now.held now.spelt in
    let served : now.served ≡ read.texts = sym (append-nil now.served) ∙ ap (λ (l : List (List ℕ)). now.served ++ l) (sym none) ∙ sym now.parts ∙ append-nil read.texts in
    let whole : Appends w0 w2 (printed now.answers) = now.appends in
    record {
      piece = read.piece;
      consumed = read.consumed;
      taken = read.taken;
      limit = read.limit;
      ended = read.ended;
      at_end = read.at_end;
      served = now.served;
      more = read.more;
      texts = read.parts ∙ ap (λ (l : List (List ℕ)). l ++ read.more) (sym served);
      prompt = all_answered (public_of m2.engine) (batch_most (public_of m0.engine)) (most_flown m0.flights.settings (public_of m0.engine)) _ now.served (most_some (public_of m0.engine)) (subst (Begins (texts_in false (before_read gave (f0.unread ++ read.piece)))) (sym served) read.before);
      middle = standing m2 [] now.gathered;
      answers = now.answers;
      steps = now.steps;
      part = [];
      owed = [];
      gathered = now.gathered;
      follow = tt;
      last = last_idle f2 read.ended (f0.unread ++ read.piece) read.more r' state (standing m2 [] now.gathered) refl ends read.ends;
      cut = subst (λ (l : List ℕ). Outputs w0 w2 Lost l) (sym (append-nil (printed now.answers))) (Outputs-whole w0 w2 Lost (printed now.answers) whole);
      whole = took_whole whole;
      traced = traces_all (traced_then read.traced traced);
      counted = tally_end ends r' now.answers now.counted;
      ends = ends_end f2 read.ended (f0.unread ++ read.piece) read.more r' ends read.ends;
    }

-- or one of them stopped it
pub ran_unflushed : {R : Type 0} {state : R → RevState} {Lost : Type 0} {on : Bool} {t0 t1 t2 : Option (List ℕ)} {f0 f2 : Fetch} {gave : ℕ} {l0 l2 w0 w1 w2 : Option (List ℕ)} {batch : List Stmt} {r : Tally} {m0 m1 m2 : Machine R} (ends : Option Stop) (run : RunStop)
    → (read : HasRead state on f0 f2 l0 l2 gave w0 w1 t0 t1 batch r m0 m1 ends) → AreWaiting m1.flights.settings (public_of m1.engine) (asked_of m1) batch
    → ((gathered : Gathered) (held : List (List ℕ)) → ComesFree m1.flights.settings (public_of m1.engine) batch gathered → AreSpelt held batch → BreaksIn state on w1 w2 t1 t2 Lost (held ++ []) run (standing m1 [] gathered) m2)
    → SessionRan state on f0 f2 l0 l2 gave w0 w2 t0 t2 m0 m2 Lost (Err (session_stop run))
unfolding break_then
ran_unflushed {state = state} {f0 = f0} {gave = gave} {m0 = m0} {m1 = m1} ends run read waits broke =
    let now = broke read.so.gathered read.so.held read.so.then read.so.spelt in
    let same = sym (steps_most state m0 (standing m1 [] read.so.gathered) read.so.served read.so.answers read.so.steps) in
    let flown = sym (steps_flown state m0 (standing m1 [] read.so.gathered) read.so.served read.so.answers read.so.steps) in
    ran_broken run read.piece read.ended (read.texts ++ []) read.more read.consumed read.taken read.limit read.at_end (read.parts ∙ ap (λ (l : List (List ℕ)). l ++ read.more) (sym (append-nil read.texts))) (break_then read.so read.traced broke)
    (subst (λ (two : ℕ × ℕ). AnsweredExcept (public_of now.middle.engine) two.0 two.1 (texts_in false (before_read gave (f0.unread ++ read.piece))) (read.so.served ++ now.served)) (λ i. (sym same i, sym flown i))
    (answered_except m1.flights.settings (public_of m1.engine) (asked_of m1) _ read.texts read.so.served read.so.held now.served now.more [] _ waits read.so.spelt read.so.parts now.parts read.before
    (public_of now.middle.engine) (λ rest spelt all. steps_tables state (standing m1 [] read.so.gathered) now.middle now.served now.answers now.steps rest _ spelt all)))

-- ---- the words that it begins with
pub ran_from : {R : Type 0} {state : R → RevState} {Lost : Type 0} {on : Bool} {t0 t2 : Option (List ℕ)} {f0 f2 : Fetch} {gave : ℕ} {l0 l2 w0 w2 : Option (List ℕ)} {m2 : Machine R} {stop : Result Tally Stop} (e : Engine R) (s : StoreState) (k : KeeperState) (settings : Option FlightSettings) (last : ℕ) → last ≡ start_of settings
    → SessionRan state on f0 f2 l0 l2 gave w0 w2 t0 t2 (machine_of e s k (flights_of settings last)) m2 Lost stop → SessionRan state on f0 f2 l0 l2 gave w0 w2 t0 t2 (machine_of e s k (flights_at settings)) m2 Lost stop
ran_from {state = state} {Lost = Lost} {on = on} {t0 = t0} {t2 = t2} {f0 = f0} {f2 = f2} {gave = gave} {l0 = l0} {l2 = l2} {w0 = w0} {w2 = w2} {m2 = m2} {stop = stop} e s k settings last is ran = subst (λ (n : ℕ). SessionRan state on f0 f2 l0 l2 gave w0 w2 t0 t2 (machine_of e s k (flights_of settings n)) m2 Lost stop) is ran

-- and what it was served over is the same by these names
pub ran_over : {R S B K T : Type 0} {state : R → RevState} {on quiet : Bool} {f0 f2 : Fetch} {gave : ℕ} {l0 l2 w0 t0 : Option (List ℕ)} {e0 e1 e2 : Engine R} {s0 : StoreState} {b0 : KeeperState} {settings : Option FlightSettings} {last : ℕ} {left : Flights} {stop : Result Tally Stop} {s1 s2 : S} {b1 b2 : B} {k1 k2 : K} {t1 t2 : T} (store : S → StoreState) (keeper : B → KeeperState) (written : K → Option (List ℕ)) (faults : K → ℕ) (traced : T → Option (List ℕ)) (n0 : ℕ)
    → e1 ≡ e2 → s1 ≡ s2 → b1 ≡ b2 → k1 ≡ k2 → t1 ≡ t2 → last ≡ start_of settings
    → SessionRan state on f0 f2 l0 l2 gave w0 (written k1) t0 (traced t1) (machine_of e0 s0 b0 (flights_of settings last)) (machine_of e1 (store s1) (keeper b1) left) (OutFailed quiet n0 (faults k1)) stop
    → (left : Flights) × SessionRan state on f0 f2 l0 l2 gave w0 (written k2) t0 (traced t2) (machine_of e0 s0 b0 (flights_at settings)) (machine_of e2 (store s2) (keeper b2) left) (OutFailed quiet n0 (faults k2)) stop
ran_over {e0 = e0} {s0 = s0} {b0 = b0} {settings = settings} {last = last} {left = left} store keeper written faults traced n0 engine_is store_is behind_is out_is trace_is started ran =
    (left, ran_from e0 s0 b0 settings last started (rw (← engine_is, ← store_is, ← behind_is, ← out_is, ← trace_is) ran))

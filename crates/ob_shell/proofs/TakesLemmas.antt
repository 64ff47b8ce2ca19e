-- Texts that are taken, part by part: some are answered, and some wait.
use Rattle.ob_shell.proofs.Words.{ap, append-nil, append_assoc, Appends, AreSpelt, asked_of, Bool, closing_line, Engine, Err, false, Faults, Flights, Gathered, inl, inr, IsReady, KeeperState, List, Machine, machine_of, may_fly, None, Ok, Option, OutFailed, Outputs, Outputs-by, public_of, refl, Refused, Result, RevState, RunStop, session_stop, Silenced, Some, skeleton, Spells, standing, Stmt, Stop, stop_of, StopCause, StoreState, subst, sym, Tally, TextHalted, Took, Traced, TracedAll, true, ℕ, [], ◌++◌, ◌∙◌, ◌∷◌, ◌≡◌}
use Rattle.std.specs.Prelude.{OnErr, OnOk}
use Rattle.ob_base.specs.declared.refusal.Refusal.TheVariants.{Syntax}
use Rattle.ob_headline.specs.Texts.{texts_at}
use Rattle.ob_headline.specs.Words.{NoneRose}
use Rattle.ob_shell.proofs.CountLemmas.{same_cause}
use Rattle.ob_shell.proofs.PlaceLemmas.{alone_free, none_free, single_closed}
use Rattle.ob_shell.proofs.ServeLemmas.{misspelt}
use Rattle.ob_shell.proofs.StepLemmas.{PartlyAt-more, Steps-none, counts_one, one_step, printed-nil}
use Rattle.ob_shell.proofs.TookLemmas.{traced_to_none}
use Rattle.ob_shell.proofs.TraceLemmas.{traced_cut, traced_none, traced_then, traced_whole}
use Rattle.ob_shell.proofs.WaitLemmas.{break_then, follow_more, none_held, so_idle, so_then}
use Rattle.ob_shell.specs.Lines.{line_answer}
use Rattle.ob_shell.specs.Running.{IsQuiet, halted_of}
use Rattle.ob_shell.specs.Serving.{IsNotTaken, ServesStmt, TakesTexts, TakesUntil, WantsRoom, counted_by}
use Rattle.ob_shell.proofs.TallyLemmas.{tally_after-one}
use Rattle.ob_shell.specs.Steps.{AnswersText, StopsIn, none_gathered}
use Rattle.ob_shell.specs.Tallies.{tally_with}
use Rattle.ob_shell.specs.Waiting.{AreWaiting, BreaksIn, IsClosed, IsFree, ServedSo, begins_flight}
use Rattle.ob_tables.specs.declared.stop.RunStop.TheVariants.{SinkFault}

-- ---- one part after the other
same_faults : (old mid : Faults) → NoneRose old mid → mid ≡ old
same_faults old mid none = λ i. record { source = none.source i; out = none.out i; trace = none.trace i }

module _ {R S : Type 0} {state : R → RevState} {Saves Saves' : Type 0} {on : Bool} {May May' : Gathered → Type 0} {Then Then' : (old new : Gathered) → Type 0} {b0 b1 b2 : List Stmt} {xs : List (List ℕ)} {t0 t1 t2 : Tally} {w0 w1 w2 s0 s1 s2 : Option (List ℕ)} {old mid new : Faults}
    {m0 m1 m2 : Machine R} {x : S} (first : TakesTexts state Saves on May Then b0 b1 xs t0 t1 w0 w1 s0 s1 old mid m0 m1 (Ok x)) (may : (g h : Gathered) → May g → Then g h → May' h) where
  -- where no count rose before
  joined : {T : Type 0} {Last : (old new : Gathered) → Type 0} (ys : List (List ℕ)) (result : Result T TextHalted) → ((g h k : Gathered) → May g → Then g h → Then' h k → Last g k)
      → TakesTexts state Saves' on May' Then' b1 b2 ys t1 t2 w1 w2 s1 s2 old new m1 m2 result → TakesTexts state Saves' on May Last b0 b2 (xs ++ ys) t0 t2 w0 w2 s0 s2 old new m0 m2 result
  joined {Last = Last} ys (Ok y) last next = record {
    ready = next.ready;
    waits = next.waits;
    done = λ g held comes spelt. subst (λ (l : List (List ℕ)). ServedSo state w0 w2 l b2 (Last g) t0 t2 (standing m0 [] g) m2) (append_assoc held xs ys)
        (so_then {Later = Then'} {Last = Last g} (first.done g held comes spelt) (λ h more then waits. next.done h more (may g h comes then) waits) (λ h k then later. last g h k comes then later));
    stopped = tt;
    traced = traced_then first.traced next.traced;
    traced_stop = tt;
    cause = next.cause;
    quiet = next.quiet;
  }
  joined ys (Err halted) last next = record {
    ready = tt;
    waits = tt;
    done = tt;
    stopped = λ g held comes spelt. subst (λ (l : List (List ℕ)). BreaksIn state on w0 w2 s0 s2 (OutFailed halted.quiet old.out new.out) l halted.stop (standing m0 [] g) m2) (append_assoc held xs ys)
        (break_then (first.done g held comes spelt) first.traced (λ h more then waits. next.stopped h more (may g h comes then) waits));
    traced = tt;
    traced_stop = traced_cut first.traced next.traced_stop;
    cause = next.cause;
    quiet = next.quiet;
  }

  pub takes_then : {T : Type 0} {Last : (old new : Gathered) → Type 0} (ys : List (List ℕ)) (result : Result T TextHalted) → ((g h k : Gathered) → May g → Then g h → Then' h k → Last g k)
      → TakesTexts state Saves' on May' Then' b1 b2 ys t1 t2 w1 w2 s1 s2 mid new m1 m2 result → TakesTexts state Saves' on May Last b0 b2 (xs ++ ys) t0 t2 w0 w2 s0 s2 old new m0 m2 result
  takes_then ys result last next = joined ys result last (subst (λ (f : Faults). TakesTexts state Saves' on May' Then' b1 b2 ys t1 t2 w1 w2 s1 s2 f new m1 m2 result) (same_faults old mid first.cause) next)

-- the same where the second part may leave what comes next unread, after those that waited
module _ {R S : Type 0} {state : R → RevState} {Saves : Type 0} {on : Bool} {May May' : Gathered → Type 0} {Then Then' Last : (old new : Gathered) → Type 0} {b0 b1 : List Stmt} {t0 t1 : Tally} {w0 w1 s0 s1 : Option (List ℕ)} {old mid : Faults}
    {m0 m1 : Machine R} {x : S} (first : TakesTexts state Saves on May Then b0 b1 [] t0 t1 w0 w1 s0 s1 old mid m0 m1 (Ok x)) (may : (g h : Gathered) → May g → Then g h → May' h) (last : (g h k : Gathered) → May g → Then g h → Then' h k → Last g k) (ys : List (List ℕ)) (Why : Stop → Type 0) where
  pub takes_until_then : (Saves' : Type 0) (b2 : List Stmt) (t2 : Tally) (w2 s2 : Option (List ℕ)) (new : Faults) (m2 : Machine R) (result : Result (Option Stop) TextHalted) → TakesUntil state Saves' on May' Then' b1 b2 ys Why t1 t2 w1 w2 s1 s2 mid new m1 m2 result → TakesUntil state Saves' on May Last b0 b2 ys Why t0 t2 w0 w2 s0 s2 old new m0 m2 result
  takes_until_then Saves' b2 t2 w2 s2 new m2 (Ok None) next = takes_then first may ys (Ok None) last next
  takes_until_then Saves' b2 t2 w2 s2 new m2 (Ok (Some stop)) next = (takes_then first may [] (Ok (Some stop)) (λ g h k comes then later. later) next.0, next.1)
  takes_until_then Saves' b2 t2 w2 s2 new m2 (Err halted) next = takes_then first may ys (Err halted) last next

-- ---- whichever flights are to come
pub ready_with : {R : Type 0} {state : R → RevState} {Saves : Type 0} {e : Engine R} {s : StoreState} {k : KeeperState} {f h : Flights} → IsReady state Saves (machine_of e s k f) → IsReady state Saves (machine_of e s k h)
ready_with ready = record { agrees = ready.agrees; lives = ready.lives; settled = ready.settled; saves = ready.saves }

-- ---- nothing was done
pub takes_idle : {R T : Type 0} {state : R → RevState} {Saves : Type 0} (on : Bool) {May : Gathered → Type 0} {Then : (old new : Gathered) → Type 0} (batch : List Stmt) (tally : Tally) (w t : Option (List ℕ)) (old : Faults) (m : Machine R) (x : T) → IsReady state Saves m
    → AreWaiting m.flights.settings (public_of m.engine) (asked_of m) batch → ((g : Gathered) → May g → Then g g) → TakesTexts state Saves on May Then batch batch [] tally tally w w t t old old m m (Ok x)
takes_idle on {Then = Then} batch tally w t old m x ready waits then = record {
  ready = ready;
  waits = waits;
  done = λ g held comes spelt. so_idle w (held ++ []) held batch Then tally m g (append-nil held) spelt (then g comes);
  stopped = tt;
  traced = traced_none on m.store.asked t;
  traced_stop = tt;
  cause = record { source = refl; out = refl; trace = refl };
  quiet = (refl, refl);
}

-- whatever it is answered with
pub takes_as : {R A B : Type 0} {state : R → RevState} {Saves : Type 0} {on : Bool} {May : Gathered → Type 0} {Then : (old new : Gathered) → Type 0} {b0 b1 : List Stmt} {xs : List (List ℕ)} {t0 t1 : Tally} {w0 w1 s0 s1 : Option (List ℕ)} {old new : Faults} {m0 m1 : Machine R} {x : A} (y : B)
    → TakesTexts state Saves on May Then b0 b1 xs t0 t1 w0 w1 s0 s1 old new m0 m1 (Ok x) → TakesTexts state Saves on May Then b0 b1 xs t0 t1 w0 w1 s0 s1 old new m0 m1 (Ok y)
takes_as y takes = record { ready = takes.ready; waits = takes.waits; done = takes.done; stopped = tt; traced = takes.traced; traced_stop = tt; cause = takes.cause; quiet = takes.quiet }

-- the same of a stop
pub halts_as : {R A : Type 0} (B : Type 0) {state : R → RevState} {Saves : Type 0} {on : Bool} {May : Gathered → Type 0} {Then : (old new : Gathered) → Type 0} {b0 b1 : List Stmt} {xs : List (List ℕ)} {t0 t1 : Tally} {w0 w1 s0 s1 : Option (List ℕ)} {old new : Faults} {m0 m1 : Machine R} (halted : TextHalted)
    → TakesTexts {T = A} state Saves on May Then b0 b1 xs t0 t1 w0 w1 s0 s1 old new m0 m1 (Err halted) → TakesTexts {T = B} state Saves on May Then b0 b1 xs t0 t1 w0 w1 s0 s1 old new m0 m1 (Err halted)
halts_as {A = A} B {old = old} {new = new} halted takes = record { ready = tt; waits = tt; done = tt; stopped = takes.stopped; traced = tt; traced_stop = takes.traced_stop; cause = same_cause (Unit {0}) A B (session_stop halted.stop) old new takes.cause; quiet = takes.quiet }

-- a stop came before the texts that come behind
pub takes_broken : {R T U : Type 0} {state : R → RevState} {Saves Saves' : Type 0} {on : Bool} {May May' : Gathered → Type 0} {Then Then' : (old new : Gathered) → Type 0} {b0 b1 c1 : List Stmt} {t0 t1 u1 : Tally} {w0 w1 s0 s1 : Option (List ℕ)} {old new : Faults} {m0 m1 : Machine R} (halted : TextHalted) (ys : List (List ℕ))
    → ((g : Gathered) → May' g → May g) → StopCause {T = U} (Unit {0}) old new (stop_of (halted_of (Err halted))) → TakesTexts {T = T} state Saves on May Then b0 b1 [] t0 t1 w0 w1 s0 s1 old new m0 m1 (Err halted)
    → TakesTexts {T = U} state Saves' on May' Then' b0 c1 ys t0 u1 w0 w1 s0 s1 old new m0 m1 (Err halted)
takes_broken {state = state} {on = on} {w0 = w0} {w1 = w1} {s0 = s0} {s1 = s1} {old = old} {new = new} {m0 = m0} {m1 = m1} halted ys may cause takes = record {
  ready = tt;
  waits = tt;
  done = tt;
  stopped = λ g held comes spelt. let broke = takes.stopped g held (may g comes) spelt in record {
    served = broke.served;
    more = broke.more ++ ys;
    parts = ap (λ (l : List (List ℕ)). l ++ ys) (sym (append-nil held) ∙ broke.parts) ∙ append_assoc broke.served broke.more ys;
    answers = broke.answers;
    middle = broke.middle;
    steps = broke.steps;
    owed = broke.owed;
    gathered = broke.gathered;
    follow = follow_more broke.more ys broke.owed broke.follow;
    bytes = broke.bytes;
    partly = PartlyAt-more state broke.middle (standing m1 broke.owed broke.gathered) broke.more ys halted.stop broke.bytes broke.partly;
    cut = broke.cut;
    whole = broke.whole;
    traced = broke.traced;
  };
  traced = tt;
  traced_stop = takes.traced_stop;
  cause = cause;
  quiet = takes.quiet;
}

-- ---- the same part, of which more or less is said
pub comes_by : {R U : Type 0} {state : R → RevState} {Saves : Type 0} {on : Bool} {May May' : Gathered → Type 0} {Later : (old new : Gathered) → Type 0} {b0 b1 : List Stmt} {xs : List (List ℕ)} {t0 t1 : Tally} {w0 w1 s0 s1 : Option (List ℕ)} {old new : Faults} {m0 m1 : Machine R} (result : Result U TextHalted)
    → ((g : Gathered) → May' g → May g) → TakesTexts state Saves on May Later b0 b1 xs t0 t1 w0 w1 s0 s1 old new m0 m1 result → TakesTexts state Saves on May' Later b0 b1 xs t0 t1 w0 w1 s0 s1 old new m0 m1 result
comes_by (Ok x) may takes = record { ready = takes.ready; waits = takes.waits; done = λ g held comes spelt. takes.done g held (may g comes) spelt; stopped = tt; traced = takes.traced; traced_stop = tt; cause = takes.cause; quiet = takes.quiet }
comes_by (Err halted) may takes = record { ready = tt; waits = tt; done = tt; stopped = λ g held comes spelt. takes.stopped g held (may g comes) spelt; traced = tt; traced_stop = takes.traced_stop; cause = takes.cause; quiet = takes.quiet }

module _ {R : Type 0} (state : R → RevState) (Saves : Type 0) (on : Bool) (Then : (old new : Gathered) → Type 0) (b0 b1 : List Stmt) (t0 t1 : Tally) (w0 w1 s0 s1 : Option (List ℕ)) (old new : Faults) (m0 m1 : Machine R) where
  -- it comes after what else may be gathered
  pub takes_until_by : {May May' : Gathered → Type 0} (xs : List (List ℕ)) (Why : Stop → Type 0) (result : Result (Option Stop) TextHalted) → ((g : Gathered) → May' g → May g) → TakesUntil state Saves on May Then b0 b1 xs Why t0 t1 w0 w1 s0 s1 old new m0 m1 result → TakesUntil state Saves on May' Then b0 b1 xs Why t0 t1 w0 w1 s0 s1 old new m0 m1 result
  takes_until_by xs Why (Ok None) may takes = comes_by (Ok None) may takes
  takes_until_by xs Why (Ok (Some stop)) may takes = (comes_by (Ok (Some stop)) may takes.0, takes.1)
  takes_until_by xs Why (Err halted) may takes = comes_by (Err halted) may takes

  -- the text that a byte ended
  pub turns_by : (May : Gathered → Type 0) (p : List ℕ) (b : ℕ) (text : List ℕ) → texts_at p b ≡ text ∷ [] → (result : Result (Option Stop) TextHalted) → TakesUntil state Saves on May Then b0 b1 (text ∷ []) WantsRoom t0 t1 w0 w1 s0 s1 old new m0 m1 result
      → TakesUntil state Saves on May Then b0 b1 (texts_at p b) (IsNotTaken p b) t0 t1 w0 w1 s0 s1 old new m0 m1 result
  turns_by May p b text is (Ok None) takes = subst (λ (l : List (List ℕ)). TakesTexts {T = Option Stop} state Saves on May Then b0 b1 l t0 t1 w0 w1 s0 s1 old new m0 m1 (Ok None)) (sym is) takes
  turns_by May p b text is (Ok (Some stop)) takes = (takes.0, subst (IsNotTaken p b) (sym takes.1) tt)
  turns_by May p b text is (Err halted) takes = subst (λ (l : List (List ℕ)). TakesTexts {T = Option Stop} state Saves on May Then b0 b1 l t0 t1 w0 w1 s0 s1 old new m0 m1 (Err halted)) (sym is) takes

  pub takes_of_text : (May : Gathered → Type 0) (xs : List (List ℕ)) (text : List ℕ) → xs ≡ text ∷ [] → (result : Result (Option Stop) TextHalted) → TakesUntil state Saves on May Then b0 b1 (text ∷ []) WantsRoom t0 t1 w0 w1 s0 s1 old new m0 m1 result → TakesUntil state Saves on May Then b0 b1 xs WantsRoom t0 t1 w0 w1 s0 s1 old new m0 m1 result
  takes_of_text May xs text is result takes = subst (λ (l : List (List ℕ)). TakesUntil state Saves on May Then b0 b1 l WantsRoom t0 t1 w0 w1 s0 s1 old new m0 m1 result) (sym is) takes

-- a stop of which nothing was lost
pub stops_unlost : {R : Type 0} {state : R → RevState} {w0 w1 : Option (List ℕ)} {quiet : Bool} {P G : Type 0} {texts : List (List ℕ)} {stop : RunStop} {m0 m1 : Machine R} → quiet ≡ false → StopsIn state w0 w1 ((quiet ≡ true) × P) texts stop m0 m1 → StopsIn state w0 w1 G texts stop m0 m1
stops_unlost not stops = record { bytes = stops.bytes; partly = stops.partly; cut = Outputs-by (λ lost. absurd (cc (not, lost.0))) stops.cut }

-- ---- a text after which none waits
-- of a stop within it
breaks_one : {R : Type 0} {state : R → RevState} {on : Bool} {w0 w1 s0 s1 : Option (List ℕ)} {m1 : Machine R} {Lost Fault : Type 0} (m0 : Machine R) (text : List ℕ) (stop : RunStop) (g h : Gathered) → StopsIn state w0 w1 Lost (text ∷ []) stop (standing m0 [] g) (standing m1 [] h) → Traced on m0.store.asked m1.store.asked s0 s1 Fault
    → BreaksIn state on w0 w1 s0 s1 Lost (text ∷ []) stop (standing m0 [] g) m1
breaks_one {state = state} {on = on} {w0 = w0} {w1 = w1} {s0 = s0} {s1 = s1} {Lost = Lost} m0 text stop g h stops traced = record {
  served = [];
  more = text ∷ [];
  parts = refl;
  answers = [];
  middle = standing m0 [] g;
  steps = Steps-none state (standing m0 [] g);
  owed = [];
  gathered = h;
  follow = tt;
  bytes = stops.bytes;
  partly = stops.partly;
  cut = subst (λ (l : List ℕ). Outputs w0 w1 Lost (l ++ stops.bytes)) (sym printed-nil) stops.cut;
  whole = subst (λ (l : List ℕ). Took w0 w1 l) (sym printed-nil) (record { after = stops.cut.grown; appends = stops.cut.appends });
  traced = traced_to_none on m0.store.asked s0 s1 traced.cut.grown traced.cut.appends;
}

-- of what was done of it
so_one : {R : Type 0} {state : R → RevState} {w0 w1 : Option (List ℕ)} {m1 : Machine R} {Then : Gathered → Type 0} (m0 : Machine R) (text : List ℕ) (tally counted : Tally) (g h : Gathered) → Then h → AnswersText state w0 w1 tally text counted (standing m0 [] g) (standing m1 [] h)
    → ServedSo state w0 w1 (text ∷ []) [] Then tally counted (standing m0 [] g) m1
so_one m0 text tally counted g h then all = record {
  served = text ∷ [];
  held = [];
  parts = refl;
  spelt = tt;
  gathered = h;
  then = then;
  answers = all.answer ∷ [];
  steps = one_step _ _ text all.answer all.step;
  appends = counts_one all;
  counted = all.counted ∙ sym (tally_after-one tally all.answer);
}

-- one that waited spells it
only_held : (P : List (List ℕ) → Type 0) (stmt : Stmt) (held : List (List ℕ)) → AreSpelt held (stmt ∷ []) → ((text : List ℕ) → Spells text (Ok stmt) → P (text ∷ [])) → P held
only_held P stmt [] spelt by = absurd spelt
only_held P stmt (text ∷ []) spelt by = by text spelt.0
only_held P stmt (text ∷ (more ∷ held)) spelt by = absurd spelt.1

module _ {R : Type 0} {state : R → RevState} {Saves : Type 0} {on : Bool} {May : Gathered → Type 0} {w0 w1 s0 s1 : Option (List ℕ)} {old new : Faults} {m0 m1 : Machine R} (stmt : Stmt) (tally : Tally) where
  -- it was answered as soon as it was read
  pub takes_one : {T : Type 0} (text : List ℕ) → Spells text (Ok stmt) → (x : T) (counted : Tally) → begins_flight m1.flights.settings (public_of m0.engine) (skeleton stmt) ≡ false
      → ServesStmt state Saves May stmt (AnswersText state w0 w1 tally) w0 w1 old new m0 m1 (Ok counted) → TracedAll on m0.store.asked m1.store.asked s0 s1
      → TakesTexts state Saves on May (λ old new. IsFree m1.flights.settings (public_of m1.engine) [] new) [] [] (text ∷ []) tally counted w0 w1 s0 s1 old new m0 m1 (Ok x)
  takes_one text spells x counted begins serves traced = record {
    ready = serves.ready;
    waits = tt;
    done = λ g held comes spelt.
        subst (λ (l : List (List ℕ)). ServedSo state w0 w1 (l ++ text ∷ []) [] (IsFree m1.flights.settings (public_of m1.engine) []) tally counted (standing m0 [] g) m1) (sym (none_held held spelt))
        (so_one {m1 = m1} m0 text tally counted g _ (alone_free m1.flights.settings (public_of m0.engine) (public_of m1.engine) (skeleton stmt) begins (serves.most m1.flights.settings)) (serves.done g text comes spells));
    stopped = tt;
    traced = traced;
    traced_stop = tt;
    cause = serves.cause;
    quiet = serves.quiet;
  }

  -- or stopped
  pub takes_halted : {T U : Type 0} {Done : List ℕ → T → (m0 m1 : Machine R) → Type 0} {Then : (old new : Gathered) → Type 0} {c1 : List Stmt} {u1 : Tally} (text : List ℕ) → Spells text (Ok stmt) → (halted : TextHalted) → StopCause {T = U} (Unit {0}) old new (stop_of (halted_of (Err halted)))
      → ServesStmt {T = T} state Saves May stmt Done w0 w1 old new m0 m1 (Err halted) → Traced on m0.store.asked m1.store.asked s0 s1 (IsQuiet (halted_of {T = U} (Err halted)))
      → TakesTexts {T = U} state Saves on May Then [] c1 (text ∷ []) tally u1 w0 w1 s0 s1 old new m0 m1 (Err halted)
  takes_halted text spells halted cause serves traced = record {
    ready = tt;
    waits = tt;
    done = tt;
    stopped = λ g held comes spelt. subst (λ (l : List (List ℕ)). BreaksIn state on w0 w1 s0 s1 (OutFailed halted.quiet old.out new.out) (l ++ text ∷ []) halted.stop (standing m0 [] g) m1) (sym (none_held held spelt))
        (breaks_one {m1 = m1} m0 text halted.stop g _ (serves.stopped g text comes spells) traced);
    traced = tt;
    traced_stop = traced;
    cause = cause;
    quiet = serves.quiet;
  }

  -- it had waited, and no other came to fly with it
  pub takes_single : (counted : Tally) → may_fly (public_of m0.engine) (skeleton stmt) ≡ true
      → ServesStmt state Saves May stmt (AnswersText state w0 w1 tally) w0 w1 old new m0 m1 (Ok counted) → TracedAll on m0.store.asked m1.store.asked s0 s1
      → TakesTexts state Saves on May (IsClosed m1.flights.settings (public_of m0.engine) (public_of m1.engine) (stmt ∷ [])) (stmt ∷ []) [] [] tally counted w0 w1 s0 s1 old new m0 m1 (Ok counted)
  takes_single counted flies serves traced = record {
    ready = serves.ready;
    waits = tt;
    done = λ g held comes spelt.
        subst (λ (l : List (List ℕ)). ServedSo state w0 w1 l [] (IsClosed m1.flights.settings (public_of m0.engine) (public_of m1.engine) (stmt ∷ []) g) tally counted (standing m0 [] g) m1) (sym (append-nil held))
        (only_held (λ l. ServedSo state w0 w1 l [] (IsClosed m1.flights.settings (public_of m0.engine) (public_of m1.engine) (stmt ∷ []) g) tally counted (standing m0 [] g) m1) stmt held spelt
        (λ text spells. so_one {m1 = m1} m0 text tally counted g _ (single_closed m1.flights.settings (public_of m0.engine) (public_of m1.engine) stmt g flies (serves.tables flies) (serves.most m1.flights.settings)) (serves.done g text comes spells)));
    stopped = tt;
    traced = traced;
    traced_stop = tt;
    cause = serves.cause;
    quiet = serves.quiet;
  }

  pub single_halted : (halted : TextHalted) {Then : (old new : Gathered) → Type 0} → ServesStmt {T = Tally} state Saves May stmt (AnswersText state w0 w1 tally) w0 w1 old new m0 m1 (Err halted) → Traced on m0.store.asked m1.store.asked s0 s1 (IsQuiet (halted_of {T = Tally} (Err halted)))
      → TakesTexts {T = Tally} state Saves on May Then (stmt ∷ []) [] [] tally tally w0 w1 s0 s1 old new m0 m1 (Err halted)
  single_halted halted serves traced = record {
    ready = tt;
    waits = tt;
    done = tt;
    stopped = λ g held comes spelt. subst (λ (l : List (List ℕ)). BreaksIn state on w0 w1 s0 s1 (OutFailed halted.quiet old.out new.out) l halted.stop (standing m0 [] g) m1) (sym (append-nil held))
        (only_held (λ l. BreaksIn state on w0 w1 s0 s1 (OutFailed halted.quiet old.out new.out) l halted.stop (standing m0 [] g) m1) stmt held spelt
        (λ text spells. breaks_one {m1 = m1} m0 text halted.stop g _ (serves.stopped g text comes spells) traced));
    traced = tt;
    traced_stop = traced;
    cause = serves.cause;
    quiet = serves.quiet;
  }

  pub single_served : (result : Result Tally TextHalted) → may_fly (public_of m0.engine) (skeleton stmt) ≡ true → ServesStmt state Saves May stmt (AnswersText state w0 w1 tally) w0 w1 old new m0 m1 result → OnOk result (TracedAll on m0.store.asked m1.store.asked s0 s1)
      → OnErr result (Traced on m0.store.asked m1.store.asked s0 s1 (IsQuiet (halted_of result)))
      → TakesTexts state Saves on May (IsClosed m1.flights.settings (public_of m0.engine) (public_of m1.engine) (stmt ∷ [])) (stmt ∷ []) [] [] tally (counted_by tally result) w0 w1 s0 s1 old new m0 m1 result
  single_served (Ok counted) flies serves traced stop = takes_single counted flies serves traced
  single_served (Err halted) flies serves traced stop = single_halted halted serves stop

-- a text that is no statement
module _ {R : Type 0} {state : R → RevState} {Saves : Type 0} (on : Bool) {May : Gathered → Type 0} {w0 w1 : Option (List ℕ)} (t : Option (List ℕ)) {old new : Faults} (m : Machine R) (owed : m ≡ standing m [] none_gathered) (text : List ℕ) (at : ℕ) (spells : Spells text (Err at)) (tally : Tally) where
  -- its line was written
  pub takes_misspelt : {T : Type 0} (x : T) → IsReady state Saves m → NoneRose old new → Appends w0 w1 (closing_line (Refused (Syntax at))) → Silenced false old new
      → TakesTexts state Saves on May (λ old new. IsFree m.flights.settings (public_of m.engine) [] new) [] [] (text ∷ []) tally (tally_with tally (Refused (Syntax at)) None) w0 w1 t t old new m m (Ok x)
  takes_misspelt x ready cause wrote quiet = record {
    ready = ready;
    waits = tt;
    done = λ g held comes spelt.
        subst (λ (l : List (List ℕ)). ServedSo state w0 w1 (l ++ text ∷ []) [] (IsFree m.flights.settings (public_of m.engine) []) tally (tally_with tally (Refused (Syntax at)) None) (standing m [] g) m) (sym (none_held held spelt))
        (so_one {m1 = m} m text tally (tally_with tally (Refused (Syntax at)) None) g none_gathered (none_free m.flights.settings (public_of m.engine))
        (record { answer = line_answer (Refused (Syntax at)); step = misspelt state m g text at spells; appends = wrote; counted = refl }));
    stopped = tt;
    traced = traced_none on m.store.asked t;
    traced_stop = tt;
    cause = cause;
    quiet = quiet;
  }

  -- a sink failed in it
  pub loses_misspelt : {T : Type 0} {Then : (old new : Gathered) → Type 0} {c1 : List Stmt} {u1 : Tally} (halted : TextHalted) → halted.stop ≡ SinkFault → StopCause {T = T} (Unit {0}) old new (stop_of (halted_of (Err halted))) → Outputs w0 w1 (OutFailed halted.quiet old.out new.out) (closing_line (Refused (Syntax at)))
      → Silenced halted.quiet old new → TakesTexts {T = T} state Saves on May Then [] c1 (text ∷ []) tally u1 w0 w1 t t old new m m (Err halted)
  loses_misspelt {T = T} halted fault cause cut quiet = record {
    ready = tt;
    waits = tt;
    done = tt;
    stopped = λ g held comes spelt. subst (λ (l : List (List ℕ)). BreaksIn state on w0 w1 t t (OutFailed halted.quiet old.out new.out) (l ++ text ∷ []) halted.stop (standing m [] g) m) (sym (none_held held spelt))
        (breaks_one {m1 = m} m text halted.stop g none_gathered (record {
          bytes = closing_line (Refused (Syntax at));
          partly = inr (inr (inl (record { answer = line_answer (Refused (Syntax at)); step = misspelt state m g text at spells; whole = refl; fault = fault })));
          cut = cut;
        }) (traced_whole (IsQuiet (halted_of {T = T} (Err halted))) (traced_none on m.store.asked t)));
    traced = tt;
    traced_stop = traced_whole (IsQuiet (halted_of {T = T} (Err halted))) (traced_none on m.store.asked t);
    cause = cause;
    quiet = quiet;
  }

-- Texts that are answered one after the other.
use Rattle.ob_shell.proofs.Words.{Answer, ap, append-nil, append_assoc, Appends, at_rest, Bool, CutTogether, Err, inl, inr, LastPart, List, Machine, more_together, Ok, one_more, Option, Outputs-whole, PartlyAt, printed, refl, Result, RevState, RunStop, session_stop, Step, Steps, StepTogether, Stop, subst, sym, Tally, ℕ, [], ◌++◌, ◌∙◌, ◌∷◌, ◌≡◌}
use Rattle.ob_base.specs.declared.refusal.Stop.TheVariants.{SourceFault, InputLimit}
use Rattle.ob_tables.specs.declared.stop.RunStop.TheVariants as Runs
use Rattle.ob_shell.proofs.StopLemmas.{by_stop, stopped_as}
use Rattle.ob_shell.specs.Steps.{AnswersText, CutStep, Idle, IsUndone, StopsIn}

pub printed-append : (xs ys : List Answer) → printed (xs ++ ys) ≡ printed xs ++ printed ys
unfolding printed
printed-append [] ys = refl
printed-append (x ∷ xs) ys = ap (λ (l : List ℕ). x.bytes ++ l) (printed-append xs ys) ∙ sym (append_assoc x.bytes (printed xs) (printed ys))

pub printed-nil : printed [] ≡ []
unfolding printed
printed-nil = refl

pub Steps-none : {R : Type 0} (state : R → RevState) (m : Machine R) → Steps state m m [] []
Steps-none state m = at_rest

pub Steps-append : {R : Type 0} (state : R → RevState) (m0 m1 m2 : Machine R) (ts us : List (List ℕ)) (xs ys : List Answer)
    → Steps state m0 m1 ts xs → Steps state m1 m2 us ys → Steps state m0 m2 (ts ++ us) (xs ++ ys)
Steps-append state m0 m1 m2 ts us xs ys at_rest q = q
Steps-append state m0 m1 m2 ts us xs ys (one_more {m1 = m} {texts = texts} {answers = answers} step p) q = one_more step (Steps-append state m m1 m2 texts us answers ys p q)
Steps-append {R = R} state m0 m1 m2 ts us xs ys (more_together {m1 = m} {flown = flown} {texts = texts} {given = given} {answers = answers} step p) q =
    let rest = Steps-append state m m1 m2 texts us answers ys p q in
    subst (λ (l : List (List ℕ)). Steps state m0 m2 l ((given ++ answers) ++ ys)) (sym (append_assoc flown texts us))
    (subst (λ (l : List Answer). Steps state m0 m2 (flown ++ (texts ++ us)) l) (sym (append_assoc given answers ys)) (more_together step rest))

-- of one text, and of those that flew together
pub one_step : {R : Type 0} {state : R → RevState} (m0 m1 : Machine R) (text : List ℕ) (answer : Answer) → Step state m0 m1 text answer → Steps state m0 m1 (text ∷ []) (answer ∷ [])
one_step m0 m1 text answer step = one_more step at_rest

pub steps_together : {R : Type 0} {state : R → RevState} (m0 m1 : Machine R) (texts : List (List ℕ)) (answers : List Answer) → StepTogether state m0 m1 texts answers → Steps state m0 m1 texts answers
steps_together {state = state} m0 m1 texts answers step =
    subst (λ (l : List (List ℕ)). Steps state m0 m1 l answers) (append-nil texts)
    (subst (λ (l : List Answer). Steps state m0 m1 (texts ++ []) l) (append-nil answers) (more_together step at_rest))

printed_one : (answer : Answer) → printed (answer ∷ []) ≡ answer.bytes
unfolding printed
printed_one answer = append-nil answer.bytes

-- a text that was answered, among others
pub counts_one : {R : Type 0} {state : R → RevState} {w0 w1 : Option (List ℕ)} {m0 m1 : Machine R} {text : List ℕ} {t counted : Tally} (all : AnswersText state w0 w1 t text counted m0 m1) → Appends w0 w1 (printed (all.answer ∷ []))
counts_one all = rw (printed_one all.answer) all.appends

pub PartlyAt-none : {R : Type 0} (state : R → RevState) (m : Machine R) (texts : List (List ℕ)) (stop : RunStop) → m.owed ≡ [] → stop ≡ Runs.NoMemory → PartlyAt state m m texts stop []
PartlyAt-none state m [] stop free fine = record { rests = record { machine = refl; free = free; none = refl }; memory = fine }
PartlyAt-none state m (t ∷ ts) stop free fine = inl (record { rests = record { machine = refl; free = free; none = refl }; memory = fine })

pub PartlyAt-rests : {R : Type 0} (state : R → RevState) (m0 m1 : Machine R) (texts : List (List ℕ)) (stop : RunStop) (bytes : List ℕ) → Idle m0 m1 stop bytes → PartlyAt state m0 m1 texts stop bytes
PartlyAt-rests state m0 m1 [] stop bytes r = r
PartlyAt-rests state m0 m1 (t ∷ ts) stop bytes r = inl r

pub PartlyAt-more : {R : Type 0} (state : R → RevState) (m0 m1 : Machine R) (texts more : List (List ℕ)) (stop : RunStop) (bytes : List ℕ)
    → PartlyAt state m0 m1 texts stop bytes → PartlyAt state m0 m1 (texts ++ more) stop bytes
PartlyAt-more state m0 m1 [] more stop bytes p = PartlyAt-rests state m0 m1 more stop bytes p
PartlyAt-more state m0 m1 (t ∷ ts) more stop bytes (inl idle) = inl idle
PartlyAt-more state m0 m1 (t ∷ ts) more stop bytes (inr (inl short)) = inr (inl short)
PartlyAt-more state m0 m1 (t ∷ ts) more stop bytes (inr (inr (inl done))) = inr (inr (inl done))
PartlyAt-more state m0 m1 (t ∷ ts) more stop bytes (inr (inr (inr (inl short)))) =
    inr (inr (inr (inl (record {
      flown = short.flown;
      more = short.more ++ more;
      parts = ap (λ (l : List (List ℕ)). l ++ more) short.parts ∙ append_assoc short.flown short.more more;
      stmts = short.stmts;
      spelt = short.spelt;
      may = short.may;
      seens = short.seens;
      flew = short.flew;
    }))))
PartlyAt-more state m0 m1 (t ∷ ts) more stop bytes (inr (inr (inr (inr done)))) =
    inr (inr (inr (inr (record {
      flown = done.flown;
      more = done.more ++ more;
      parts = ap (λ (l : List (List ℕ)). l ++ more) done.parts ∙ append_assoc done.flown done.more more;
      answers = done.answers;
      step = done.step;
      whole = done.whole;
      fault = done.fault;
    }))))

-- the whole answer was taken, and the stop came after it
pub stops_after : {R : Type 0} {state : R → RevState} {Lost : Type 0} {w0 w1 : Option (List ℕ)} {text : List ℕ} {r0 r1 : Tally} {m0 m1 : Machine R} (stop : RunStop) → stop ≡ Runs.SinkFault
    → AnswersText state w0 w1 r0 text r1 m0 m1 → StopsIn state w0 w1 Lost (text ∷ []) stop m0 m1
stops_after stop fault all = record {
  bytes = all.answer.bytes;
  partly = inr (inr (inl (record { answer = all.answer; step = all.step; whole = refl; fault = fault })));
  cut = Outputs-whole _ _ _ _ all.appends;
}

-- ---- what was done after the last text that was served whole
module _ {R : Type 0} (state : R → RevState) (m1 m2 : Machine R) (more : List (List ℕ)) (part : List ℕ) where
  pub last_stopped : (run : RunStop) → PartlyAt state m1 m2 more run part → LastPart state m1 m2 more part (Err (session_stop run))
  last_stopped = stopped_as (λ run. PartlyAt state m1 m2 more run part) (IsUndone m1 m2 part) (IsUndone m1 m2 part)

  -- something was done of a text, or nothing before a stop by the source or a limit
  pub by_last : (P : Stop → Type 0) (stop : Stop) → LastPart state m1 m2 more part (Err stop) → ((run : RunStop) → PartlyAt state m1 m2 more run part → P (session_stop run))
      → (IsUndone m1 m2 part → P SourceFault) → (IsUndone m1 m2 part → P InputLimit) → P stop
  by_last = by_stop (λ run. PartlyAt state m1 m2 more run part) (IsUndone m1 m2 part) (IsUndone m1 m2 part)

  -- what was done to the machine alone: nothing, a part of a text, or a text; or a part of a flight, or a flight
  pub last_by : (P : Type 0) (result : Result Bool Stop) → LastPart state m1 m2 more part result → (m2 ≡ m1 → P) → ((text : List ℕ) (run : RunStop) → CutStep state m1 m2 text run part → P)
      → ((text : List ℕ) (answer : Answer) → Step state m1 m2 text answer → P) → ((texts : List (List ℕ)) (run : RunStop) → CutTogether state m1 m2 texts run part → P)
      → ((texts : List (List ℕ)) (answers : List Answer) → StepTogether state m1 m2 texts answers → P) → P
  last_by P (Ok refused) rests none cut step short flown = none rests.machine
  last_by P (Err stop) last none cut step short flown = by_last (λ (s : Stop). P) stop last (go more) (λ rests. none rests.machine) (λ rests. none rests.machine)
    where
      go : (texts : List (List ℕ)) (run : RunStop) → PartlyAt state m1 m2 texts run part → P
      go [] run idle = none idle.rests.machine
      go (text ∷ texts) run (inl idle) = none idle.rests.machine
      go (text ∷ texts) run (inr (inl half)) = cut text run half
      go (text ∷ texts) run (inr (inr (inl done))) = step text done.answer done.step
      go (text ∷ texts) run (inr (inr (inr (inl half)))) = short (text ∷ texts) run half
      go (text ∷ texts) run (inr (inr (inr (inr done)))) = flown done.flown done.answers done.step

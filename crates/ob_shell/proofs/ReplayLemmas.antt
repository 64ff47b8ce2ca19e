-- One statement that was answered or cut off, by its meaning.
use Rattle.ob_shell.proofs.Words.{Access, after, Answer, ap, AreDraws, arith, asked_of, Bool, by_fault, Cut, Does, Draws, earlier, early_refusal, engine_start, false, Heading, headings, held_headings, How, inl, inr, is_fault, is_late, is_store_fault, length, length-append, FalseRead, limits_of, List, Machine, next, None, Option, Outcome, public_of, refl, Refusal, refusal_now, Refused, RefusedEarly, Represents, Result, RevState, RunStop, script, Seen, seen_of, seen_or_cut, Session, session_of, settle_all, Since, skeleton, Some, statements_of, Stmt, StoreState, subst, sym, Tables, true, whole_script, ℕ, [], ◌++◌, ◌+◌, ◌∙◌, ◌≡◌, ◌≤◌, ◌⊎◌}
use Rattle.ob_base.specs.declared.refusal.Refusal.TheVariants.{StoreFault}
use Rattle.ob_headline.proofs.CutLemmas.{cut_shorter}
use Rattle.ob_mean.specs.Lawful.{CutUpTo}
use Rattle.ob_mean.specs.Replay.{cut_at, draws_taken, seen_now}
use Rattle.ob_shell.specs.Steps.{AreOwed, Holds, Owed, ServedStatement, Unasked}

-- ---- an answer is none by the store, or the store's
pub record ByStore (outcome : Outcome) (cut also : Type 0) : Type 0 where
  pub is : outcome ≡ Refused StoreFault
  pub told : cut
  pub too : also

pub fault_refusal : (r : Refusal) → is_store_fault r ≡ true → r ≡ StoreFault
fault_refusal StoreFault h = refl
fault_refusal r h = absurd (cc h)

pub fault_is : (o : Outcome) → is_fault o ≡ true → o ≡ Refused StoreFault
fault_is (Refused r) h = ap Refused (fault_refusal r h)
fault_is other h = absurd (cc h)

pub outcome_cases : (o : Outcome) (whole cut with also : Type 0) → by_fault (is_fault o) cut whole → by_fault (is_fault o) also with → (whole × with) ⊎ ByStore o cut also
outcome_cases o whole cut with also a b = go (is_fault o) refl a b where
  go : (failed : Bool) → is_fault o ≡ failed → by_fault failed cut whole → by_fault failed also with → (whole × with) ⊎ ByStore o cut also
  go true e a b = inr (record { is = fault_is o e; told = a; too = b })
  go false e a b = inl (a, b)

-- ---- no lie is told before a state in which none is
pub no_lie : (o : Option FalseRead) (a b : StoreState) → a.lie ≡ o → Since a b → b.lie ≡ None → a.lie ≡ None
no_lie None a b is later none = is
no_lie (Some lie) a b is later none = absurd (cc (later.lie lie is, none))

-- what lasts over one text
pub record Goes (a b : StoreState) : Type 0 where
  pub tells : b.tells ≡ a.tells
  pub lie : b.lie ≡ None → a.lie ≡ None

pub step_goes : {R : Type 0} (state : R → RevState) (m0 m1 : Machine R) (text : List ℕ) (answer : Answer) → Unasked m0 m1 text answer ⊎ ServedStatement state m0 m1 text answer → Goes m0.store m1.store
step_goes {R} state m0 m1 text answer (inl bad) = record { tells = ap (λ (m : Machine R). m.store.tells) bad.same; lie = λ none. ap (λ (m : Machine R). m.store.lie) (sym bad.same) ∙ none }
step_goes state m0 m1 text answer (inr did) = record { tells = did.does.ran.later.tells; lie = no_lie m0.store.lie m0.store m1.store refl did.does.ran.later }

-- ---- what a machine holds by which nothing else was carried out
module _ {R : Type 0} (state : R → RevState) (m : Machine R) (d : Draws) (tables : Tables) (free : m.owed ≡ []) where
  pub free_holds : Holds state m d tables → Represents state m.engine m.store tables
  free_holds holds = subst (λ (owed : List Owed). Represents state m.engine m.store (settle_all d (public_of m.engine) (asked_of m) (statements_of owed) tables)) free holds.held

  pub holds_free : Represents state m.engine m.store tables → Holds state m d tables
  holds_free held = record {
    listed = held_headings _ _ _ tables _ held.held;
    held = subst (λ (owed : List Owed). Represents state m.engine m.store (settle_all d (public_of m.engine) (asked_of m) (statements_of owed) tables)) (sym free) held;
    owed = subst (λ (owed : List Owed). AreOwed d (public_of m.engine) (asked_of m) owed tables) (sym free) tt;
  }

-- ---- the session after a statement
-- what was asked counts on
pub counts_on : {R : Type 0} (m0 m1 : Machine R) (part : List Access) → engine_start m1.engine ≡ engine_start m0.engine → m1.store.asked ≡ m0.store.asked ++ part → asked_of m1 ≡ asked_of m0 + length part
counts_on m0 m1 part start grew = omega (arith, ap earlier start, ap length grew, length-append m0.store.asked part)

module _ {R : Type 0} (state : R → RevState) (m0 m1 : Machine R) (d : Draws) (tables : Tables) (text : List ℕ) (one : Answer) (did : ServedStatement state m0 m1 text one) (how : How)
    (seen_is : seen_of m1.engine ≡ seen_or_cut how (session_of m0 d tables) did.stmt) where
  abbrev behind : Session
  behind = after how (session_of m0 d tables) did.stmt

  pub stands_after : behind ≡ session_of m1 behind.draws behind.tables
  stands_after =
      let p = public_of m0.engine in
      let sk = skeleton did.stmt in
      let public_is : next p sk (seen_or_cut how (session_of m0 d tables) did.stmt) ≡ public_of m1.engine = ap (next p sk) (sym seen_is) ∙ sym did.does.ran.goes_on.public in
      let asked_is : asked_of m0 + length (script p sk (seen_or_cut how (session_of m0 d tables) did.stmt)) ≡ asked_of m1 =
      ap (λ (x : Seen). asked_of m0 + length (script p sk x)) (sym seen_is) ∙ sym (counts_on m0 m1 (script p sk (seen_of m1.engine)) did.does.ran.start did.does.ran.asked) in
      λ i. record { public = public_is i; tables = behind.tables; asked = asked_is i; draws = behind.draws }

  pub draws_after : AreDraws m0.engine d → AreDraws m1.engine behind.draws
  draws_after drawn =
      subst (λ (x : Seen). AreDraws m1.engine (record d { drawn = d.drawn + draws_taken (public_of m0.engine) (skeleton did.stmt) x.end })) seen_is
      (did.does.ran.goes_on.drawn d drawn)

-- ---- a statement that was cut off wasn't refused before its first access, and no more than all of it was asked
not_refused : (o : Option Refusal) (result : Result Outcome RunStop) (here : Seen) (n : ℕ) → RefusedEarly o result here → here.end ≡ Cut n → o ≡ None
not_refused None result here n early is = refl
not_refused (Some r) result here n early is = absurd (cc (is, ap (λ (x : Seen). x.end) early.1))

module _ {R : Type 0} (state : R → RevState) (m0 m1 : Machine R) (tables : Tables) (stmt : Stmt) (result : Result Outcome RunStop)
    (d : Draws) (does : Does state m0 m1 stmt result) (failed : Bool) (n : ℕ)
    (seen_is : seen_of m1.engine ≡ cut_at failed n (public_of m0.engine) (skeleton stmt) (seen_now (session_of m0 d tables) stmt)) where
  started : refusal_now (public_of m0.engine) (asked_of m0) stmt ≡ None
  started = not_refused _ result (seen_of m1.engine) n does.early (ap (λ (x : Seen). x.end) seen_is)

  pub cut_within : n ≤ length (whole_script (public_of m0.engine) (skeleton stmt) (seen_now (session_of m0 d tables) stmt))
  cut_within =
      let p = public_of m0.engine in
      let sk = skeleton stmt in
      let most : n ≤ length (whole_script p sk (cut_at failed n p sk (seen_now (session_of m0 d tables) stmt))) =
      subst (λ (x : Seen). CutUpTo (length (whole_script p sk x)) x.end) seen_is does.lawful.cut in
      let less = cut_shorter failed n p sk (seen_now (session_of m0 d tables) stmt) in
      omega (arith, most, less)

  pub cut_early : Represents state m0.engine m0.store tables
      → early_refusal (is_late (asked_of m0)) (limits_of (public_of m0.engine)) (headings tables) stmt ≡ None
  cut_early held =
      ap (λ (hs : List Heading). early_refusal (is_late (asked_of m0)) (limits_of (public_of m0.engine)) hs stmt) (held_headings _ _ _ tables _ held.held)
      ∙ started

-- Texts that are served while others wait, one part after the other.
use Rattle.ob_shell.proofs.Words.{All, All-cons, All-head, All-tail, All-weaker, AllInsert, Answer, AnsweredExcept, ap, append_assoc, Appends-nil, Appends-trans, AreSpelt, arith, at_rest, batch_most, Begins, begins, Bool, EndsBy, Fetch, flagged, FlightSettings, Gathered, inl, inr, inserts_into, LastPart, length, length-append, List, Machine, map, may_fly, more_together, most_flown, most_some, None, Ok, one_more, Option, Outputs, Outputs-after, printed, Public, public_of, refl, Result, RevState, RunStop, seen_of, SelectsFromOne, skeleton, Some, SpellFirst, Spells, standing, statements_of, Step, Steps, Stmt, Stop, subst, sym, Table, Tally, TracedAll, true, ℕ, [], ◌++◌, ◌∙◌, ◌∷◌, ◌≡◌, ◌⊎◌}
use Rattle.std.specs.Prelude.{IsSome}
use Rattle.ob_base.specs.declared.refusal.Stop.TheVariants as Stops
use Rattle.ob_headline.proofs.PromptLemmas.{all_answered, none_waits}
use Rattle.ob_headline.proofs.SameEntries.{may_by, selects_one, selects_stay}
use Rattle.ob_headline.specs.Batches.{Wait}
use Rattle.ob_headline.specs.Flights.{WaitToFly}
use Rattle.ob_parse.proofs.GoodStatements.{good_statement}
use Rattle.ob_shell.proofs.TookLemmas.{took_after, traced_on}
use Rattle.ob_shell.proofs.StepLemmas.{PartlyAt-none, Steps-append, Steps-none, printed-append, printed-nil}
use Rattle.ob_shell.proofs.TallyLemmas.{tally_after-nil, tally_more}
use Rattle.ob_shell.specs.Serving.{EndsReading, ended_with}
use Rattle.ob_shell.specs.Steps.{Follow, Owed}
use Rattle.ob_shell.specs.Tallies.{TallyIs}
use Rattle.ob_shell.specs.Waiting.{AreWaiting, AwaitsFlown, AwaitsMore, BreaksIn, ServedSo}
use Rattle.ob_tables.specs.Batch.{InsertAlike}
use Rattle.ob_tables.specs.declared.stop.RunStop.TheVariants as Runs
use Rattle.ob_token.specs.Tokens.{tokens_of}
use Rattle.ob_token.specs.declared.token.Token.{Token}

-- ---- texts that were served
-- none was: those that waited still do
pub so_idle : {R : Type 0} {state : R → RevState} (w : Option (List ℕ)) (texts held : List (List ℕ)) (batch : List Stmt) (Then : (old new : Gathered) → Type 0) (t : Tally) (m : Machine R) (g : Gathered)
    → texts ≡ held → AreSpelt held batch → Then g g → ServedSo state w w texts batch (Then g) t t (standing m [] g) m
so_idle {state = state} w texts held batch Then t m g is spelt then = record {
  served = [];
  held = held;
  parts = is;
  spelt = spelt;
  gathered = g;
  then = then;
  answers = [];
  steps = Steps-none state (standing m [] g);
  appends = rw printed-nil (Appends-nil w);
  counted = sym (tally_after-nil t);
}

-- two lists of texts, each cut in those that were served and the others
pub parts_then : {A : Type 0} (texts served held ys more_served rest : List A) → texts ≡ served ++ held → held ++ ys ≡ more_served ++ rest → texts ++ ys ≡ (served ++ more_served) ++ rest
parts_then texts served held ys more_served rest first second =
    ap (λ (l : List _). l ++ ys) first ∙ append_assoc served held ys ∙ ap (λ (l : List _). served ++ l) second ∙ sym (append_assoc served more_served rest)

pub so_then : {R : Type 0} {state : R → RevState} {w0 w1 w2 : Option (List ℕ)} {texts ys : List (List ℕ)} {batch batch' : List Stmt} {Then : Gathered → Type 0} {Later : (old new : Gathered) → Type 0} {Last : Gathered → Type 0} {t0 t1 t2 : Tally}
    {m0 m1 m2 : Machine R} → ServedSo state w0 w1 texts batch Then t0 t1 m0 m1
    → ((g : Gathered) (held : List (List ℕ)) → Then g → AreSpelt held batch → ServedSo state w1 w2 (held ++ ys) batch' (Later g) t1 t2 (standing m1 [] g) m2) → ((old new : Gathered) → Then old → Later old new → Last new)
    → ServedSo state w0 w2 (texts ++ ys) batch' Last t0 t2 m0 m2
so_then {state = state} {texts = texts} {ys = ys} {t0 = t0} {t1 = t1} {t2 = t2} {m0 = m0} {m1 = m1} {m2 = m2} so next last =
    let now = next so.gathered so.held so.then so.spelt in
    record {
      served = so.served ++ now.served;
      held = now.held;
      parts = parts_then texts so.served so.held ys now.served now.held so.parts now.parts;
      spelt = now.spelt;
      gathered = now.gathered;
      then = last so.gathered now.gathered so.then now.then;
      answers = so.answers ++ now.answers;
      steps = Steps-append state m0 (standing m1 [] so.gathered) (standing m2 [] now.gathered) so.served now.served so.answers now.answers so.steps now.steps;
      appends = rw printed-append (Appends-trans _ _ _ _ _ so.appends now.appends);
      counted = tally_more t0 t1 t2 so.answers now.answers so.counted now.counted;
    }

-- and then a stop came
unfoldable pub break_then : {R : Type 0} {state : R → RevState} {on : Bool} {w0 w1 w2 s0 s1 s2 : Option (List ℕ)} {Lost : Type 0} {texts ys : List (List ℕ)} {batch : List Stmt} {Then : Gathered → Type 0} {t0 t1 : Tally} {stop : RunStop} {m0 m1 m2 : Machine R}
    → ServedSo state w0 w1 texts batch Then t0 t1 m0 m1 → TracedAll on m0.store.asked m1.store.asked s0 s1
    → ((g : Gathered) (held : List (List ℕ)) → Then g → AreSpelt held batch → BreaksIn state on w1 w2 s1 s2 Lost (held ++ ys) stop (standing m1 [] g) m2) → BreaksIn state on w0 w2 s0 s2 Lost (texts ++ ys) stop m0 m2
break_then {state = state} {w0 = w0} {w2 = w2} {Lost = Lost} {texts = texts} {ys = ys} {m0 = m0} {m1 = m1} so traced next =
    let now = next so.gathered so.held so.then so.spelt in
    record {
      served = so.served ++ now.served;
      more = now.more;
      parts = parts_then texts so.served so.held ys now.served now.more so.parts now.parts;
      answers = so.answers ++ now.answers;
      middle = now.middle;
      steps = Steps-append state m0 (standing m1 [] so.gathered) now.middle so.served now.served so.answers now.answers so.steps now.steps;
      owed = now.owed;
      gathered = now.gathered;
      follow = now.follow;
      bytes = now.bytes;
      partly = now.partly;
      cut = subst (λ (l : List ℕ). Outputs w0 w2 Lost l) (sym (append_assoc (printed so.answers) (printed now.answers) now.bytes) ∙ ap (λ (l : List ℕ). l ++ now.bytes) (sym (printed-append so.answers now.answers)))
          (Outputs-after (printed so.answers) so.appends now.cut);
      whole = rw printed-append (took_after (printed so.answers) so.appends now.whole);
      traced = traced_on traced now.traced;
    }

-- ---- the texts behind
spell_more : (texts more : List (List ℕ)) (xs : List (Result Stmt ℕ)) → SpellFirst texts xs → SpellFirst (texts ++ more) xs
unfolding SpellFirst
spell_more texts more [] spell = tt
spell_more [] more (x ∷ xs) spell = absurd spell
spell_more (text ∷ texts) more (x ∷ xs) spell = (spell.0, spell_more texts more xs spell.1)

pub follow_more : (texts more : List (List ℕ)) (owed : List Owed) → Follow texts owed → Follow (texts ++ more) owed
follow_more texts more [] follow = tt
follow_more [] more (one ∷ owed) follow = absurd follow
follow_more (text ∷ texts) more (one ∷ owed) follow = spell_more texts more (map Ok (statements_of (one ∷ owed))) follow

-- what is spelt by none is none
pub none_held : (held : List (List ℕ)) → AreSpelt held [] → held ≡ []
none_held [] spelt = refl
none_held (text ∷ held) spelt = absurd spelt

-- ---- as many as a batch may have stay as many
module _ {R : Type 0} (state : R → RevState) where
  step_most : (m0 m1 : Machine R) (text : List ℕ) (answer : Answer) → Step state m0 m1 text answer → batch_most (public_of m1.engine) ≡ batch_most (public_of m0.engine)
  step_most m0 m1 text answer step = elim step.done [
    | inl still ↦ ap (λ (m : Machine R). batch_most (public_of m.engine)) still.same
    | inr did ↦ ap batch_most did.does.ran.goes_on.public
  ]

  pub steps_most : (m0 m2 : Machine R) (texts : List (List ℕ)) (answers : List Answer) → Steps state m0 m2 texts answers → batch_most (public_of m2.engine) ≡ batch_most (public_of m0.engine)
  steps_most m0 m2 texts answers at_rest = refl
  steps_most m0 m2 texts answers (one_more {m1 = m1} {text = text} {one = one} {texts = more} {answers = given} step rest) = steps_most m1 m2 more given rest ∙ step_most m0 m1 text one step
  steps_most m0 m2 texts answers (more_together {m1 = m1} {texts = more} {answers = given} step rest) = steps_most m1 m2 more given rest ∙ ap batch_most step.flew.ran.ran.goes_on.public

  -- nor do those that may fly together
  abbrev pub flown_most : Machine R → ℕ
  flown_most m = most_flown m.flights.settings (public_of m.engine)

  step_flown : (m0 m1 : Machine R) (text : List ℕ) (answer : Answer) → Step state m0 m1 text answer → flown_most m1 ≡ flown_most m0
  step_flown m0 m1 text answer step = elim step.done [
    | inl still ↦ ap flown_most still.same
    | inr did ↦ (λ i. most_flown (did.does.flights i).settings (public_of m1.engine)) ∙ ap (most_flown m0.flights.settings) did.does.ran.goes_on.public
  ]

  pub steps_flown : (m0 m2 : Machine R) (texts : List (List ℕ)) (answers : List Answer) → Steps state m0 m2 texts answers → flown_most m2 ≡ flown_most m0
  steps_flown m0 m2 texts answers at_rest = refl
  steps_flown m0 m2 texts answers (one_more {m1 = m1} {text = text} {one = one} {texts = more} {answers = given} step rest) = steps_flown m1 m2 more given rest ∙ step_flown m0 m1 text one step
  steps_flown m0 m2 texts answers (more_together {m1 = m1} {texts = more} {answers = given} step rest) =
      steps_flown m1 m2 more given rest ∙ (λ i. most_flown (step.may.settings i) (public_of m1.engine)) ∙ ap (most_flown m0.flights.settings) step.flew.ran.ran.goes_on.public

-- the last of the texts spell the last of the statements
spelt_last : (P : Stmt → Type 0) (front back : List (List ℕ)) (batch : List Stmt) → AreSpelt (front ++ back) batch → All P batch → (stmts : List Stmt) × AreSpelt back stmts × All P stmts
spelt_last P [] back batch spelt all = (batch, spelt, all)
spelt_last P (text ∷ front) back [] spelt all = absurd spelt
spelt_last P (text ∷ front) back (stmt ∷ batch) spelt all = spelt_last P front back batch spelt.1 (All-tail P stmt batch all)

-- ---- SELECTs of one table leave the tables
-- a text spells one statement
one_spelt : (text : List ℕ) (a b : Stmt) → Spells text (Ok a) → Spells text (Ok b) → a ≡ b
one_spelt text a b first second =
    let reads = good_statement text in
    let same = sym (reads.whole a (tokens_of text) first) ∙ reads.whole b (tokens_of text) second in
    let parts : ◌≡◌ {A = Stmt × List Token} (a, []) (b, []) = cc same in
    ap (λ (q : Stmt × List Token). q.0) parts

module _ {R : Type 0} (state : R → RevState) where
  abbrev tables_at : Machine R → List Table
  tables_at m = (public_of m.engine).tables

  step_tables : (m0 m1 : Machine R) (text : List ℕ) (answer : Answer) (stmt : Stmt) → Spells text (Ok stmt) → SelectsFromOne (skeleton stmt) → Step state m0 m1 text answer → tables_at m1 ≡ tables_at m0
  step_tables m0 m1 text answer stmt spells selects step = elim step.done [
    | inl still ↦ ap tables_at still.same
    | inr did ↦
        ap (λ (p : Public). p.tables) did.does.ran.goes_on.public
        ∙ selects_stay (public_of m0.engine) (record { skeleton = skeleton did.stmt; seen = seen_of m1.engine }) (subst (λ (s : Stmt). SelectsFromOne (skeleton s)) (one_spelt text stmt did.stmt spells did.spells) selects)
  ]

  pub steps_tables : (m0 m2 : Machine R) (texts : List (List ℕ)) (answers : List Answer) → Steps state m0 m2 texts answers → (rest : List (List ℕ)) (stmts : List Stmt) → AreSpelt (texts ++ rest) stmts → All (λ (stmt : Stmt). SelectsFromOne (skeleton stmt)) stmts → tables_at m2 ≡ tables_at m0
  steps_tables m0 m2 texts answers at_rest rest stmts spelt all = refl
  steps_tables m0 m2 texts answers (one_more step behind) rest [] spelt all = absurd spelt
  steps_tables m0 m2 texts answers (one_more {m1 = m1} {text = text} {one = one} {texts = more} {answers = given} step behind) rest (stmt ∷ stmts) spelt all =
      steps_tables m1 m2 more given behind rest stmts spelt.1 (All-tail (λ (s : Stmt). SelectsFromOne (skeleton s)) stmt stmts all)
      ∙ step_tables m0 m1 text one stmt spelt.0 (All-head (λ (s : Stmt). SelectsFromOne (skeleton s)) stmt stmts all) step
  steps_tables m0 m2 texts answers (more_together {m1 = m1} {flown = flown} {texts = more} {answers = given} step behind) rest stmts spelt all =
      let last = spelt_last (λ (s : Stmt). SelectsFromOne (skeleton s)) flown (more ++ rest) stmts (subst (λ (l : List (List ℕ)). AreSpelt l stmts) (append_assoc flown more rest) spelt) all in
      steps_tables m1 m2 more given behind rest last.0 last.1 last.2 ∙ ap (λ (p : Public). p.tables) step.flew.ran.ran.goes_on.public

-- ---- what waits
-- the last of those that wait do too
pub record WaitsIn (most : ℕ) (table : List ℕ) (texts : List (List ℕ)) : Type 0 where
  pub stmts : List Stmt
  pub whole : length stmts ≡ length texts
  pub spell : SpellFirst texts (map Ok stmts)
  pub insert : AllInsert table stmts

waits_all : (most : ℕ) (table : List ℕ) (texts : List (List ℕ)) (batch : List Stmt) → AreSpelt texts batch → All (λ (stmt : Stmt). inserts_into (skeleton stmt) ≡ Some table) batch → WaitsIn most table texts
unfolding SpellFirst AllInsert
waits_all most table [] [] spelt all = record { stmts = []; whole = refl; spell = tt; insert = tt }
waits_all most table [] (stmt ∷ batch) spelt all = absurd spelt
waits_all most table (text ∷ texts) [] spelt all = absurd spelt
waits_all most table (text ∷ texts) (stmt ∷ batch) spelt all =
    let rest = waits_all most table texts batch spelt.1 (All-tail (λ (s : Stmt). inserts_into (skeleton s) ≡ Some table) stmt batch all) in
    record {
      stmts = stmt ∷ rest.stmts;
      whole = let same = rest.whole in omega (arith, same);
      spell = (spelt.0, rest.spell);
      insert = (All-head (λ (s : Stmt). inserts_into (skeleton s) ≡ Some table) stmt batch all, rest.insert);
    }

waits_last : (most : ℕ) (table : List ℕ) (front back : List (List ℕ)) (batch : List Stmt) → AreSpelt (front ++ back) batch → All (λ (stmt : Stmt). inserts_into (skeleton stmt) ≡ Some table) batch → WaitsIn most table back
waits_last most table [] back batch spelt all = waits_all most table back batch spelt all
waits_last most table (text ∷ front) back [] spelt all = absurd spelt
waits_last most table (text ∷ front) back (stmt ∷ batch) spelt all =
    waits_last most table front back batch spelt.1 (All-tail (λ (s : Stmt). inserts_into (skeleton s) ≡ Some table) stmt batch all)

spelt_long : (texts : List (List ℕ)) (batch : List Stmt) → AreSpelt texts batch → length texts ≡ length batch
spelt_long [] [] spelt = refl
spelt_long [] (stmt ∷ batch) spelt = absurd spelt
spelt_long (text ∷ texts) [] spelt = absurd spelt
spelt_long (text ∷ texts) (stmt ∷ batch) spelt = let rest = spelt_long texts batch spelt.1 in omega (arith, rest)

named : (o : Option (List ℕ)) → IsSome o → (table : List ℕ) × (o ≡ Some table)
named (Some table) some = (table, refl)
named None some = absurd (cc some)

all_alike : (table : List ℕ) (first : Stmt) (rest : List Stmt) → inserts_into (skeleton first) ≡ Some table → InsertAlike first rest → All (λ (stmt : Stmt). inserts_into (skeleton stmt) ≡ Some table) (first ∷ rest)
all_alike table first rest is alike = All-cons (λ (stmt : Stmt). inserts_into (skeleton stmt) ≡ Some table) first rest is (All-weaker (λ (stmt : Stmt). inserts_into (skeleton stmt) ≡ inserts_into (skeleton first)) (λ (stmt : Stmt). inserts_into (skeleton stmt) ≡ Some table) (λ stmt same. same ∙ is) rest alike)

last_none : (xs ys : List (List ℕ)) → xs ++ ys ≡ [] → ys ≡ []
last_none [] ys is = is
last_none (x ∷ xs) ys is = absurd (cc is)

-- INSERTs that wait
waits_batched : (p : Public) (m : ℕ) (first : Stmt) (rest : List Stmt) (front back : List (List ℕ)) → AwaitsMore p m first rest → AreSpelt (front ++ back) (first ∷ rest) → Wait (batch_most p) back
waits_batched p m first rest front back gathered spelt =
    let name = named (inserts_into (skeleton first)) (begins p m first gathered.batch.begins).inserts in
    let waits = waits_last (batch_most p) name.0 front back (first ∷ rest) spelt (all_alike name.0 first rest name.1 gathered.batch.alike) in
    let long = spelt_long (front ++ back) (first ∷ rest) spelt in
    let parts = length-append front back in
    record {
      few = let room = gathered.room in omega (arith, room, long, parts);
      stmts = waits.stmts;
      whole = waits.whole;
      spell = waits.spell;
      table = name.0;
      insert = waits.insert;
    }

-- SELECTs that wait
spelt_first : (texts : List (List ℕ)) (batch : List Stmt) → AreSpelt texts batch → SpellFirst texts (map Ok batch)
unfolding SpellFirst
spelt_first [] [] spelt = tt
spelt_first [] (stmt ∷ batch) spelt = absurd spelt
spelt_first (text ∷ texts) [] spelt = absurd spelt
spelt_first (text ∷ texts) (stmt ∷ batch) spelt = (spelt.0, spelt_first texts batch spelt.1)

waits_flown : (settings : Option FlightSettings) (p : Public) (batch : List Stmt) (front back : List (List ℕ)) → AwaitsFlown settings p batch → AreSpelt (front ++ back) batch → WaitToFly p (most_flown settings p) back
waits_flown settings p batch front back gathered spelt =
    let last = spelt_last (λ (stmt : Stmt). may_fly p (skeleton stmt) ≡ true) front back batch spelt gathered.fly in
    let long = spelt_long (front ++ back) batch spelt in
    let parts = length-append front back in
    record { few = let room = gathered.room in omega (arith, room, long, parts); stmts = last.0; whole = sym (spelt_long back last.0 last.1); spell = spelt_first back last.0 last.1; select = last.2 }

-- by the tables alone
waits_alike : (p q : Public) (most : ℕ) (texts : List (List ℕ)) → q.tables ≡ p.tables → WaitToFly p most texts → WaitToFly q most texts
waits_alike p q most texts same wait = record {
  few = wait.few;
  stmts = wait.stmts;
  whole = wait.whole;
  spell = wait.spell;
  select = All-weaker (λ (stmt : Stmt). may_fly p (skeleton stmt) ≡ true) (λ (stmt : Stmt). may_fly q (skeleton stmt) ≡ true) (λ stmt may. may_by q p (skeleton stmt) same ∙ may) wait.stmts wait.select;
}

-- where all are SELECTs of one table, the tables are the same after the first of them
abbrev pub LeavesTables : (p q : Public) → List (List ℕ) → List Stmt → Type 0
LeavesTables p q served batch = (rest : List (List ℕ)) → AreSpelt (served ++ rest) batch → All (λ (stmt : Stmt). SelectsFromOne (skeleton stmt)) batch → q.tables ≡ p.tables

pub waits_gathered : (settings : Option FlightSettings) (p : Public) (m : ℕ) (batch : List Stmt) (front back : List (List ℕ)) → AreWaiting settings p m batch → AreSpelt (front ++ back) batch
    → (q : Public) → LeavesTables p q front batch → Wait (batch_most p) back ⊎ WaitToFly q (most_flown settings p) back
waits_gathered settings p m [] front back gathered spelt q leaves =
    let none = none_held (front ++ back) spelt in
    inl (subst (Wait (batch_most p)) (sym (last_none front back none)) (none_waits (batch_most p) (most_some p)))
waits_gathered settings p m (first ∷ rest) front back (inl more) spelt q leaves = inl (waits_batched p m first rest front back more spelt)
waits_gathered settings p m (first ∷ rest) front back (inr more) spelt q leaves =
    let all = All-weaker (λ (stmt : Stmt). may_fly p (skeleton stmt) ≡ true) (λ (stmt : Stmt). SelectsFromOne (skeleton stmt)) (λ stmt may. selects_one p (skeleton stmt) may) (first ∷ rest) more.fly in
    inr (waits_alike p q (most_flown settings p) back (leaves back spelt all) (waits_flown settings p (first ∷ rest) front back more spelt))

-- a list that is cut in two ways
pub cut_twice : {A : Type 0} (a b c e : List A) → a ++ b ≡ c ++ e → ((l : List A) × (c ≡ a ++ l)) ⊎ ((l : List A) × (a ≡ c ++ l))
cut_twice [] b c e is = inl (c, refl)
cut_twice (x ∷ a) b [] e is = inr (x ∷ a, refl)
cut_twice (x ∷ a) b (y ∷ c) e is =
    let same : x ≡ y = cc is in
    elim (cut_twice a b c e (cc is)) [
      | inl longer ↦ inl (longer.0, λ i. sym same i ∷ longer.1 i)
      | inr shorter ↦ inr (shorter.0, λ i. same i ∷ shorter.1 i)
    ]

-- of texts that were whole before the last read all were answered but for some that wait, where some of those that waited were
pub answered_except : (settings : Option FlightSettings) (p : Public) (m : ℕ) (batch : List Stmt) (texts served held more_served rest ys whole : List (List ℕ)) → AreWaiting settings p m batch → AreSpelt held batch → texts ≡ served ++ held → held ++ ys ≡ more_served ++ rest → Begins whole texts
    → (q : Public) → LeavesTables p q more_served batch → AnsweredExcept q (batch_most p) (most_flown settings p) whole (served ++ more_served)
answered_except settings p m batch texts served held more_served rest ys whole gathered spelt first second begins q leaves = elim (cut_twice held ys more_served rest second) [
  | inl longer ↦
      all_answered q (batch_most p) (most_flown settings p) whole (served ++ more_served) (most_some p)
      (record {
        rest = begins.rest ++ longer.0;
        joined =
            ap (λ (l : List (List ℕ)). served ++ l) longer.1 ∙ sym (append_assoc served held longer.0) ∙ ap (λ (l : List (List ℕ)). l ++ longer.0) (sym first ∙ begins.joined)
            ∙ append_assoc whole begins.rest longer.0;
      })
  | inr shorter ↦ record {
    waiting = shorter.0;
    wait = waits_gathered settings p m batch more_served shorter.0 gathered (subst (λ (l : List (List ℕ)). AreSpelt l batch) shorter.1 spelt) q leaves;
    answered = subst (λ (l : List (List ℕ)). Begins whole l) (first ∙ ap (λ (l : List (List ℕ)). served ++ l) shorter.1 ∙ sym (append_assoc served more_served shorter.0)) begins;
  }
]

-- ---- how a session ends after them
module _ (f : Fetch) (ended : Bool) (bytes : List ℕ) (more : List (List ℕ)) (t : Tally) where
  pub ends_end : (ends : Option Stop) → EndsReading f ended bytes more ends → EndsBy f ended bytes more [] (flagged (ended_with ends t))
  ends_end None reading = reading
  ends_end (Some Stops.NoMemory) reading = tt
  ends_end (Some Stops.SourceFault) reading = reading
  ends_end (Some Stops.InputLimit) reading = reading
  ends_end other reading = absurd reading

  pub last_idle : {R : Type 0} (state : R → RevState) (m : Machine R) → m.owed ≡ [] → (ends : Option Stop) → EndsReading f ended bytes more ends → LastPart state m m more [] (flagged (ended_with ends t))
  last_idle state m free None reading = record { machine = refl; free = free; none = refl }
  last_idle state m free (Some Stops.NoMemory) reading = PartlyAt-none state m more Runs.NoMemory free refl
  last_idle state m free (Some Stops.SourceFault) reading = record { machine = refl; free = free; none = refl }
  last_idle state m free (Some Stops.InputLimit) reading = record { machine = refl; free = free; none = refl }
  last_idle state m free other reading = absurd reading

pub tally_end : (ends : Option Stop) (t : Tally) (answers : List Answer) → TallyIs answers (Ok t) → TallyIs answers (ended_with ends t)
tally_end None t answers counted = counted
tally_end (Some stop) t answers counted = tt

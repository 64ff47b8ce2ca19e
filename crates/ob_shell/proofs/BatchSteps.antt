-- A batch that was carried out, text by text.
use Rattle.ob_shell.proofs.Words.{Access, access_public, AfterCount, Agrees, All, All-head, All-tail, AllInsert, ap, AreBatch, AreDraws, AreSpelt, arith, at_rest, batch_most, begins, begins_batch, Bool, by_fault, bytes_eq-Decides, closing_line, count_of, Cut, Does, Draws, early_refusal, End, end_cut, Engine, Err, false, Flights, Gathered, gathered_then, Heading, headings, headings_of, held_headings, if◌then◌else◌, inl, inr, inserts_into, is_cut, is_fault, is_index, is_joined, is_late, is_some, Batched, KeeperState, length, limits_of, List, Machine, machine_of, map, may_fly, most_flown, nat_lt, nat_tests, next, None, Ok, one_more, Option, option_map, option_map_or, Outcome, place_now, Public, public_of, RanBatch, refl, refusal_now, RefusedEarly, RevState, RunStop, script, Seen, seen_of, settle_all, Skeleton, skeleton, Some, SpellFirst, Spells, standing, statements_of, Static, Step, Steps, Stmt, StoreState, subst, sym, Tables, true, Whole, ℕ, [], ⊤, ◌&&◌, ◌++◌, ◌+◌, ◌-◌, ◌<◌, ◌^◌, ◌∙◌, ◌∷◌, ◌≡◌, ◌≤◌, ◌⊎◌}
use Rattle.std.specs.Prelude.{IsSome, bytes_eq}
use Rattle.std.proofs.lemmas.Bool.{false_from_ne_true}
use Rattle.ob_base.specs.declared.skeleton.Skeleton.TheVariants as K
use Rattle.ob_exec.specs.Ran.{CarriedOut, KeeperBehind, WantsMemory}
use Rattle.ob_mean.proofs.BatchLemmas.{Begins, Inserts, settle_all_like, soon, verdicts_like}
use Rattle.ob_mean.specs.Batches.{and_one, begun_by, gathering_after, goes_into, verdicts}
use Rattle.ob_mean.specs.Replay.{draws_taken, is_access}
use Rattle.ob_mean.specs.Settle.{settle}
use Rattle.ob_mean.specs.Lawful.{EndsUncounted, Holds}
use Rattle.ob_mean.specs.Verdict.{Accessed, accessed}
use Rattle.ob_script.specs.Tables.{tables_then}
use Rattle.ob_shell.proofs.FewLemmas.{insert_few}
use Rattle.ob_shell.proofs.ReplayLemmas.{counts_on}
use Rattle.ob_shell.proofs.LeaveSteps.{whole_own}
use Rattle.ob_shell.proofs.EndLemmas.{end_apart}
use Rattle.ob_shell.proofs.WithLemmas.{events_none, insert_headings, insert_of, insert_prints}
use Rattle.ob_shell.specs.Lines.{line_answer, line_answers}
use Rattle.ob_shell.proofs.GatherLemmas.{not_flying}
use Rattle.ob_shell.specs.Steps.{AreOwed, Follow, GoTogether, IsApartFrom, Owed, Owes, TakesOwed, draws_behind, end_with, gathered_after, none_gathered}
use Rattle.ob_shell.specs.Waiting.{IsApart}
use Rattle.ob_tables.proofs.BatchAlike.{served_alike}
use Rattle.ob_tables.proofs.ServeLemmas.{silent_emits}
use Rattle.ob_tables.specs.Batch.{AreServedWith, IsServedWith, outcomes_behind, outcomes_of}
use Rattle.ob_tables.specs.Serving.{Means}
use Rattle.ob_tables.specs.Telling.{Kept, Meant, ReadsTrue}
use Rattle.ob_verdict.proofs.MovingProof.{moves}
use Rattle.ob_verdict.specs.declared.outcome.Outcome.TheVariants.{Inserted}

-- ---- what is owed
-- each with its outcome, unless the store failed the first
abbrev pub owed_of : (failed : Bool) → List Stmt → List Outcome → List Owed
owed_of true stmts outcomes = []
owed_of false [] outcomes = []
owed_of false (stmt ∷ stmts) [] = []
owed_of false (stmt ∷ stmts) (outcome ∷ outcomes) = record { stmt = stmt; outcome = outcome } ∷ owed_of false stmts outcomes

owed_stmts : (p : Public) (m : ℕ) (stmts : List Stmt) (outcomes : List Outcome) (failed : Bool) → AreServedWith p m failed stmts outcomes → statements_of (owed_of false stmts outcomes) ≡ stmts
owed_stmts p m [] outcomes failed served = refl
owed_stmts p m (stmt ∷ stmts) [] failed served = absurd served
owed_stmts p m (stmt ∷ stmts) (outcome ∷ outcomes) failed served = ap (λ (l : List Stmt). stmt ∷ l) (owed_stmts p m stmts outcomes failed served.1)

owed_few : (failed : Bool) (stmts : List Stmt) (outcomes : List Outcome) → length (owed_of failed stmts outcomes) ≤ length stmts
owed_few true stmts outcomes = omega arith
owed_few false [] outcomes = omega arith
owed_few false (stmt ∷ stmts) [] = omega arith
owed_few false (stmt ∷ stmts) (outcome ∷ outcomes) = let rest = owed_few false stmts outcomes in omega (arith, rest)

-- where none was answered
abbrev pub unanswered : List Stmt → List Owed
unanswered stmts = map (λ (stmt : Stmt). record { stmt = stmt; outcome = Inserted }) stmts

pub unanswered_stmts : (stmts : List Stmt) → statements_of (unanswered stmts) ≡ stmts
unanswered_stmts [] = refl
unanswered_stmts (stmt ∷ stmts) = ap (λ (l : List Stmt). stmt ∷ l) (unanswered_stmts stmts)

unanswered_few : (stmts : List Stmt) → length (unanswered stmts) ≡ length stmts
unanswered_few [] = refl
unanswered_few (stmt ∷ stmts) = let rest = unanswered_few stmts in omega (arith, rest)

-- ---- INSERTs into one table
insert_all : (table : List ℕ) (stmts : List Stmt) → All (λ (stmt : Stmt). inserts_into (skeleton stmt) ≡ Some table) stmts → AllInsert table stmts
unfolding AllInsert
insert_all table [] all = tt
insert_all table (stmt ∷ stmts) all =
    (All-head (λ (s : Stmt). inserts_into (skeleton s) ≡ Some table) stmt stmts all, insert_all table stmts (All-tail (λ (s : Stmt). inserts_into (skeleton s) ≡ Some table) stmt stmts all))

insert_first : (table : List ℕ) (stmt : Stmt) (stmts : List Stmt) → inserts_into (skeleton stmt) ≡ Some table → AllInsert table stmts → AllInsert table (stmt ∷ stmts)
unfolding AllInsert
insert_first table stmt stmts is all = (is, all)

insert_none : (table : List ℕ) → AllInsert table []
unfolding AllInsert
insert_none table = tt

-- one of the table of a batch goes into it while it may have more
pub goes_true : (p : Public) (table : List ℕ) (count : ℕ) (failed : Bool) (outline : Skeleton) → IsSome p.batch → count < batch_most p → inserts_into outline ≡ Some table → goes_into p (Some (record { table = table; count = count; failed = failed })) outline ≡ true
goes_true p table count failed outline batched room is =
    let more : nat_lt count (batch_most p) ≡ true = grind (arith, nat_tests) in
    let same : bytes_eq table table ≡ true = (bytes_eq-Decides table table).1 refl in
    (λ i. batched i && more i && option_map_or (bytes_eq table) (is i) false) ∙ same

-- and another one doesn't
pub goes_false : (p : Public) (table : List ℕ) (count : ℕ) (failed : Bool) (outline : Skeleton) → (inserts_into outline ≡ Some table → ⊥) ⊎ (batch_most p ≤ count) → goes_into p (Some (record { table = table; count = count; failed = failed })) outline ≡ false
goes_false p table count failed outline (inl other) =
    ap (λ (b : Bool). is_some p.batch && nat_lt count (batch_most p) && b) (off (inserts_into outline) other) ∙ both (is_some p.batch) (nat_lt count (batch_most p))
  where
    off : (o : Option (List ℕ)) → (o ≡ Some table → ⊥) → option_map_or (bytes_eq table) o false ≡ false
    off None other = refl
    off (Some name) other = false_from_ne_true (bytes_eq table name) (λ same. other (ap Some (sym ((bytes_eq-Decides table name).0 same))))

    both : (a b : Bool) → (a && b && false) ≡ false
    both true true = refl
    both true false = refl
    both false b = refl
goes_false p table count failed outline (inr full) =
    let none : nat_lt count (batch_most p) ≡ false = grind (arith, nat_tests) in
    ap (λ (b : Bool). is_some p.batch && b && option_map_or (bytes_eq table) (inserts_into outline) false) none ∙ off (is_some p.batch)
  where
    off : (a : Bool) → (a && false && option_map_or (bytes_eq table) (inserts_into outline) false) ≡ false
    off true = refl
    off false = refl

-- what was asked where the first so many were answered
abbrev pub StandsAt : (done : List Outcome) → (first behind here : List Access) → Type 0
StandsAt [] first behind here = here ≡ first
StandsAt (one ∷ done) first behind here = here ≡ behind

-- ---- the texts behind
spelt_first : (texts : List (List ℕ)) (stmts : List Stmt) → AreSpelt texts stmts → SpellFirst texts (map Ok stmts)
unfolding SpellFirst
spelt_first texts [] spelt = tt
spelt_first [] (stmt ∷ stmts) spelt = absurd spelt
spelt_first (text ∷ texts) (stmt ∷ stmts) spelt = (spelt.0, spelt_first texts stmts spelt.1)

follow_by : (text : List ℕ) (texts : List (List ℕ)) (owed : List Owed) → SpellFirst texts (map Ok (statements_of owed)) → Follow (text ∷ texts) owed
follow_by text texts [] spell = tt
follow_by text texts (one ∷ owed) spell = spell

pub follow_unanswered : (text : List ℕ) (texts : List (List ℕ)) (stmts : List Stmt) → AreSpelt texts stmts → Follow (text ∷ texts) (unanswered stmts)
follow_unanswered text texts stmts spelt = follow_by text texts (unanswered stmts) (subst (λ (l : List Stmt). SpellFirst texts (map Ok l)) (sym (unanswered_stmts stmts)) (spelt_first texts stmts spelt))

-- where none is gathered the next one is the first
place_none : (most : ℕ) (p : Public) (outline : Skeleton) → place_now most p 0 outline ≡ 0
place_none most p outline = go (may_fly p outline && nat_lt 0 most)
  where
    go : (b : Bool) → ◌≡◌ {A = ℕ} (if b then 0 else 0) 0
    go true = refl
    go false = refl

-- no SELECT is gathered after an INSERT
gathered_none : (p : Public) (outline : Skeleton) → IsSome (inserts_into outline) → gathered_then p 0 outline ≡ 0
gathered_none p outline some = ap (λ (b : Bool). if b then 0 + 1 else 0) (not_flying p outline some)

-- ---- a batch
module _ {R : Type 0} (state : R → RevState) (e0 e1 : Engine R) (s0 s1 : StoreState) (k0 k1 : KeeperState) (flights : Flights) (first : Stmt) (rest : List Stmt) (agrees : Agrees state e0 s0) (batch : AreBatch (public_of e0) (count_of e0 s0) first rest) where
  abbrev m0 : Machine R
  m0 = machine_of e0 s0 k0 flights

  abbrev m1 : Machine R
  m1 = machine_of e1 s1 k1 flights

  abbrev p0 : Public
  p0 = public_of e0

  abbrev a0 : ℕ
  a0 = count_of e0 s0

  begun : Begins p0 a0 first
  begun = begins p0 a0 first batch.begins

  named : (o : Option (List ℕ)) → IsSome o → (table : List ℕ) × (o ≡ Some table)
  named (Some table) some = (table, refl)
  named None some = absurd (cc some)

  name : (table : List ℕ) × (inserts_into (skeleton first) ≡ Some table)
  name = named (inserts_into (skeleton first)) begun.inserts

  pub table : List ℕ
  table = name.0

  pub names : inserts_into (skeleton first) ≡ Some table
  unfolding table name
  names = name.1

  -- each of the others names it
  pub named_all : All (λ (stmt : Stmt). inserts_into (skeleton stmt) ≡ Some table) rest
  named_all = λ i d within. batch.alike i d within ∙ names

  inserts_all : All Inserts rest
  inserts_all = λ i d within. ap is_some (named_all i d within)

  -- with any of them first, and the others after it
  pub together : (stmt : Stmt) (owed : List Owed) → inserts_into (skeleton stmt) ≡ Some table → AllInsert table (statements_of owed) → length owed < batch_most p0 → GoTogether p0 stmt owed
  together stmt owed is all few = record { few = few; alike = inr (table, insert_first table stmt (statements_of owed) is all) }

  -- ---- the first
  module _ (g : Gathered) (off : IsApartFrom flights.settings p0 g (skeleton first)) where
    -- it was stopped
    pub stopped_does : (stop : RunStop) (outcomes : List Outcome) → RanBatch state first rest (Err stop) outcomes e0 s0 e1 s1 k0 k1 → Does state (standing m0 [] g) (standing m1 (unanswered rest) none_gathered) first (Err stop)
    stopped_does stop outcomes ran =
        let c = ran.carried in
        let same = sym (unanswered_stmts rest) in
        let long = unanswered_few rest in
        record {
          free = refl;
          alone = off;
          flights = refl;
          along = together first (unanswered rest) names (subst (AllInsert table) same (insert_all table rest named_all)) (let few = batch.few in omega (arith, few, long));
          agrees = agrees;
          ran = c.ran;
          early = c.early;
          lawful = c.lawful;
          memory = λ is. wants (c.memory is);
          full = c.full;
          emits = c.emits;
          seals = c.seals;
          means = subst (λ (l : List Stmt). Means state first l (Err stop) e0 s0 e1 s1) same c.means;
          keeper = subst (λ (l : List Stmt). KeeperBehind state first l (Err stop) e0 s0 e1 s1 k0 k1) same c.keeper;
          counts = c.counts;
          drawn = c.drawn;
        }
      where
        wants : WantsMemory p0 first (seen_of e1) s0 s1 ⊥ → WantsMemory p0 first (seen_of e1) s0 s1 ⊤
        wants lacks = record {
          done = lacks.done;
          rest = lacks.rest;
          split = lacks.split;
          asked = lacks.asked;
          place = elim lacks.place [ inl make ↦ inl make | inr (inl result) ↦ inr (inl result) | inr (inr (inl emits)) ↦ inr (inr (inl (emits.0, tt))) | inr (inr (inr closing)) ↦ inr (inr (inr closing)) ];
        }

  -- ---- they were answered
  module _ (outcome : Outcome) (outcomes : List Outcome) (ran : RanBatch state first rest (Ok outcome) outcomes e0 s0 e1 s1 k0 k1) where
    abbrev c : CarriedOut state first rest ⊥ (Ok outcome) e0 s0 e1 s1 k0 k1
    c = ran.carried

    abbrev pub failed : Bool
    failed = is_fault outcome

    abbrev pub owed : List Owed
    owed = owed_of failed rest outcomes

    abbrev p1 : Public
    p1 = public_of e1

    abbrev a1 : ℕ
    a1 = count_of e1 s1

    abbrev here : Seen
    here = seen_of e1

    public_is : p1 ≡ next p0 (skeleton first) here
    public_is = c.ran.goes_on.public

    most_is : batch_most p1 ≡ batch_most p0
    most_is = ap batch_most public_is

    batched_is : IsSome p1.batch
    batched_is = ap (λ (p : Public). is_some p.batch) public_is ∙ begun.batched

    -- neither late
    small : a0 < 2 ^ 63
    small = let room = begun.room in omega (arith, room)

    early_then : is_late a1 ≡ is_late a0
    early_then =
        let few = insert_few state e0 s0 (skeleton first) here agrees small begun.inserts begun.flat in
        let on = counts_on m0 m1 (script p0 (skeleton first) here) c.ran.start c.ran.asked in
        let none : is_late a0 ≡ false = (let room = small in grind (arith, nat_tests)) in
        ap is_late on ∙ soon a0 (length (script p0 (skeleton first) here)) begun.room (omega (arith, few)) ∙ sym none

    -- nor other headings
    headings_by : (outline : Skeleton) → inserts_into outline ≡ Some table → (end : End) → headings_of (tables_then p0 outline end) ≡ headings_of p0.tables
    headings_by (K.Insert name columns) is Whole = (moves name p0.next_region p0.tables).headings
    headings_by (K.Create name columns n shape) is Whole = absurd (cc is)
    headings_by (K.Update name columns) is Whole = absurd (cc is)
    headings_by (K.Delete name) is Whole = absurd (cc is)
    headings_by (K.Drop name) is Whole = absurd (cc is)
    headings_by (K.Rows source columns) is Whole = absurd (cc is)
    headings_by (K.Groups name columns key) is Whole = absurd (cc is)
    headings_by outline is other = refl

    headings_are : headings_of p1.tables ≡ headings_of p0.tables
    headings_are = ap (λ (p : Public). headings_of p.tables) public_is ∙ headings_by (skeleton first) names here.end

    -- the table is flat still
    flat_by : (outline : Skeleton) → inserts_into outline ≡ Some table → is_access p1 outline ≡ is_index (headings_of p0.tables) table
    flat_by (K.Insert name columns) is = let same : name ≡ table = cc is in λ i. is_index (headings_are i) (same i)
    flat_by other is = absurd (cc is)

    first_by : (outline : Skeleton) → inserts_into outline ≡ Some table → is_access p0 outline ≡ is_index (headings_of p0.tables) table
    first_by (K.Insert name columns) is = let same : name ≡ table = cc is in ap (is_index (headings_of p0.tables)) same
    first_by other is = absurd (cc is)

    flat_still : (stmt : Stmt) → inserts_into (skeleton stmt) ≡ Some table → is_access p1 (skeleton stmt) ≡ false
    flat_still stmt is = flat_by (skeleton stmt) is ∙ sym (first_by (skeleton first) names) ∙ begun.flat

    -- ---- it draws nothing
    undrawn_by : (outline : Skeleton) (end : End) → is_access p0 outline ≡ false → inserts_into outline ≡ Some table → draws_taken p0 outline end ≡ 0
    undrawn_by (K.Insert name columns) Static flat is = refl
    undrawn_by (K.Insert name columns) Whole flat is = ap (λ (b : Bool). if b then 1 else 0) flat
    undrawn_by (K.Insert name columns) AfterCount flat is = ap (λ (b : Bool). if b then 1 else 0) flat
    undrawn_by (K.Insert name columns) Batched flat is = refl
    undrawn_by (K.Insert name columns) (Cut n) flat is = ap (λ (b : Bool). if b then 1 else 0) flat
    undrawn_by other end flat is = absurd (cc is)

    draws_still : (d : Draws) → draws_behind m0 m1 first d ≡ d
    draws_still d = let none = undrawn_by (skeleton first) here.end begun.flat names in let same : d.drawn + draws_taken p0 (skeleton first) here.end ≡ d.drawn = omega (arith, none) in λ i. record d { drawn = same i }

    -- ---- what is owed
    owed_are : (own : is_fault outcome ≡ false) → statements_of owed ≡ rest
    owed_are own = ap (λ (b : Bool). statements_of (owed_of b rest outcomes)) own ∙ owed_stmts p0 a0 rest outcomes failed ran.others

    owed_inserts : AllInsert table (statements_of owed)
    owed_inserts = go failed refl
      where
        go : (b : Bool) → is_fault outcome ≡ b → AllInsert table (statements_of (owed_of b rest outcomes))
        go true is = insert_none table
        go false is = subst (AllInsert table) (sym (owed_stmts p0 a0 rest outcomes failed ran.others)) (insert_all table rest named_all)

    -- the answers by the meaning
    are_owed : (d : Draws) (stmts : List Stmt) (given : List Outcome) (ts : Tables) → given ≡ outcomes_of stmts (verdicts d p1 a1 stmts ts) → AreOwed d p1 a1 (owed_of false stmts given) ts
    are_owed d [] given ts is = tt
    are_owed d (stmt ∷ stmts) [] ts is = absurd (cc is)
    are_owed d (stmt ∷ stmts) (o ∷ given) ts is = (cc is, are_owed d stmts given (settle d p1 a1 ts stmt) (cc is))

    -- ---- by its meaning
    unkeyed_first : (tables : Tables) → headings tables ≡ headings_of p0.tables → accessed tables first ≡ None
    unkeyed_first tables listed =
        let early = ap (λ (hs : List Heading). early_refusal (is_late a0) (limits_of p0) hs first) listed ∙ begun.accepted in
        none_of (accessed tables first) (sym (access_public p0 tables listed (is_late a0) (limits_of p0) first early) ∙ begun.flat)
      where
        none_of : (o : Option Accessed) → is_some o ≡ false → o ≡ None
        none_of None is = refl
        none_of (Some a) is = absurd (cc is)

    either_of : (b : Bool) (x y : Type 0) → x → y → by_fault b x y
    either_of true x y a b = a
    either_of false x y a b = b

    whole_end : is_fault outcome ≡ false → here.end ≡ Whole
    whole_end own = go here.end refl
      where
        plain_holds : here.end ≡ AfterCount → ⊥
        plain_holds is = let holds = subst (λ (x : Seen). Holds p0 first x x.k x.plan x.then) ran.shows.plain c.lawful.holds in subst (λ (e : End). EndsUncounted p0 first e) is holds

        go : (end : End) → here.end ≡ end → end ≡ Whole
        go Whole is = refl
        go Static is = absurd (subst (λ (o : _). RefusedEarly o (Ok outcome) here) begun.accepted c.early is)
        go AfterCount is = absurd (plain_holds is)
        go Batched is = absurd (let apart = end_apart (Ok outcome) (length s1.asked - length s0.asked) in let joined = ap is_joined (sym c.ran.ends ∙ is) in cc (apart, joined))
        go (Cut n) is = absurd (let off = ap is_cut c.ran.ends ∙ end_cut outcome _ ∙ own in let on = ap is_cut is in cc (off, on))

    module _ (g : Gathered) (off : IsApartFrom flights.settings p0 g (skeleton first)) where
      -- what is gathered after so many of them
      abbrev pub gathered_at : (count : ℕ) → Gathered
      gathered_at count = record { batch = Some (record { table = table; count = count; failed = failed }); flown = 0 }

      abbrev pub behind_first : Machine R
      behind_first = standing m1 owed (gathered_at 1)

      gathers_first : gathered_at 1 ≡ gathered_after p0 a0 g first here.end
      gathers_first =
          let cut : is_cut here.end ≡ failed = ap is_cut c.ran.ends ∙ end_cut outcome _ in
          let as_batch : gathering_after p0 a0 g.batch first here.end ≡ Some (record { table = table; count = 1; failed = failed }) =
          (λ i. if off.batch i then option_map and_one g.batch else if batch.begins i then begun_by (skeleton first) here.end else None)
          ∙ (λ i. option_map (λ (t : List ℕ). record { table = t; count = 1; failed = cut i }) (names i)) in
          sym (λ i. record { batch = as_batch i; flown = gathered_none p0 (skeleton first) begun.inserts i })

      means_first : Means state first (statements_of owed) (Ok outcome) e0 s0 e1 s1
      means_first = go failed refl
        where
          go : (b : Bool) → is_fault outcome ≡ b → Means state first (statements_of owed) (Ok outcome) e0 s0 e1 s1
          go false own = subst (λ (l : List Stmt). Means state first l (Ok outcome) e0 s0 e1 s1) (sym (owed_are own)) c.means
          go true fault = record {
            told = λ tables d drawn reads.
                let told = c.means.told tables d drawn reads in
                subst (λ (b : Bool). by_fault b (Kept state first d tables e0 s0 e1 s1) (Meant state first (statements_of owed) a0 d tables outcome e0 e1 s1)) (sym fault)
                (subst (λ (b : Bool). by_fault b (Kept state first d tables e0 s0 e1 s1) (Meant state first rest a0 d tables outcome e0 e1 s1)) fault told);
            room = c.means.room;
            honest = c.means.honest;
            held = c.means.held;
            full = c.means.full;
            begun = c.means.begun;
          }

      keeper_first : KeeperBehind state first (statements_of owed) (Ok outcome) e0 s0 e1 s1 k0 k1
      keeper_first = go failed refl
        where
          go : (b : Bool) → is_fault outcome ≡ b → KeeperBehind state first (statements_of owed) (Ok outcome) e0 s0 e1 s1 k0 k1
          go false own = subst (λ (l : List Stmt). KeeperBehind state first l (Ok outcome) e0 s0 e1 s1 k0 k1) (sym (owed_are own)) c.keeper
          go true fault = elim c.keeper [
            | inl not ↦ inl not
            | inr was ↦ absurd (let own = whole_own was.outcome _ (sym was.ran.ends ∙ was.whole) in let same = ap is_fault was.answered in cc (own, same, fault))
          ]

      first_does : Does state (standing m0 [] g) behind_first first (Ok outcome)
      first_does = record {
        free = refl;
        alone = off;
        flights = refl;
        along = together first owed names owed_inserts (let few = batch.few in let less = owed_few failed rest outcomes in omega (arith, few, less));
        agrees = agrees;
        ran = c.ran;
        early = c.early;
        lawful = c.lawful;
        memory = λ is. absurd (cc is);
        full = λ is. absurd (cc is);
        emits = λ is. absurd (cc is);
        seals = c.seals;
        means = means_first;
        keeper = keeper_first;
        counts = c.counts;
        drawn = c.drawn;
      }

      owes_first : (own : is_fault outcome ≡ false) (tables : Tables) (d : Draws) → AreDraws e0 d → ReadsTrue state e0 s0 s1 tables → Owes (standing m0 [] g) behind_first first d tables
      owes_first own tables d drawn reads =
          let ts = settle d p0 a0 tables first in
          let told = subst (λ (b : Bool). by_fault b ⊤ (outcomes ≡ outcomes_behind d p0 a0 first rest tables)) own (ran.told tables d reads) in
          let turned : outcomes ≡ outcomes_of rest (verdicts d p1 a1 rest ts) = told ∙ ap (outcomes_of rest) (verdicts_like p0 p1 a0 a1 (sym early_then) d rest ts inserts_all) in
          let listed = held_headings _ _ _ tables _ reads.held.held in
          let unkeyed = unkeyed_first tables listed in
          record {
            whole = inr (whole_end own);
            listed = insert_headings d p0 a0 tables first (insert_of first begun.inserts) unkeyed ∙ listed ∙ sym headings_are;
            same =
                ap (λ (e : Draws). settle_all e p1 a1 (statements_of owed) ts) (draws_still d) ∙ ap (λ (l : List Stmt). settle_all d p1 a1 l ts) (owed_are own)
                ∙ settle_all_like p1 p0 a1 a0 early_then d rest ts inserts_all ∙ ap (λ (l : List Stmt). settle_all d p0 a0 l ts) (sym (owed_are own));
            answered = subst (λ (e : Draws). AreOwed e p1 a1 owed ts) (sym (draws_still d)) (subst (λ (b : Bool). AreOwed d p1 a1 (owed_of b rest outcomes) ts) (sym own) (are_owed d rest outcomes ts turned));
          }

      pub first_step : (text : List ℕ) → Spells text (Ok first) → Step state (standing m0 [] g) behind_first text (line_answer outcome)
      first_step text spells = record {
        done = inr (record {
          stmt = first;
          spells = spells;
          does = first_does;
          events = [];
          emits = silent_emits first _ outcome ran.shows.silent;
          emitted = λ tables reads. let prints = insert_prints p0 a0 tables first (insert_of first begun.inserts) _ in either_of (is_fault outcome) _ _ prints.1 prints.0;
          printed = ap (λ (l : List ℕ). l ++ closing_line outcome) (sym events_none);
          planned = ap (λ (x : Seen). x.plan) (sym ran.shows.plain);
          gathered = gathers_first;
          owes = λ tables d drawn reads. by_failed tables d drawn reads failed refl;
        });
      }
        where
          by_failed : (tables : Tables) (d : Draws) → AreDraws e0 d → ReadsTrue state e0 s0 s1 tables → (b : Bool) → is_fault outcome ≡ b → by_fault b (owed ≡ []) (Owes (standing m0 [] g) behind_first first d tables)
          by_failed tables d drawn reads true fault = ap (λ (b : Bool). owed_of b rest outcomes) fault
          by_failed tables d drawn reads false own = owes_first own tables d drawn reads

    -- ---- the others
    -- one of them, after so many
    other_step : (g : Gathered) (off : IsApartFrom flights.settings p0 g (skeleton first)) (count : ℕ) (stmt : Stmt) (stmts : List Stmt) (one : Outcome) (given : List Outcome) (text : List ℕ) → count < batch_most p0 → inserts_into (skeleton stmt) ≡ Some table
        → AllInsert table (statements_of (owed_of failed stmts given)) → length stmts < batch_most p0 → IsServedWith (refusal_now p1 a1 stmt) failed one → Spells text (Ok stmt)
        → Step state (standing m1 (owed_of failed (stmt ∷ stmts) (one ∷ given)) (gathered_at g off count)) (standing m1 (owed_of failed stmts given) (gathered_at g off (count + 1))) text (line_answer one)
    other_step g off count stmt stmts one given text room is all few served spells =
        let joins = goes_true p1 table count failed (skeleton stmt) batched_is (let most = most_is in omega (arith, room, most)) is in
        record {
          done = inl (record {
            same = refl;
            why = inr (record {
              stmt = stmt;
              spells = spells;
              joins = joins;
              along = record { few = let less = owed_few failed stmts given in let most = most_is in omega (arith, less, few, most); alike = inr (table, insert_first table stmt (statements_of (owed_of failed stmts given)) is all) };
              unindexed = flat_still stmt is;
              answered = served;
              owed = takes failed;
              gathered = sym (λ i. record {
                batch = if joins i then option_map and_one (gathered_at g off count).batch else if begins_batch p1 a1 stmt then begun_by (skeleton stmt) (end_with (refusal_now p1 a1 stmt)) else None;
                flown = gathered_none p1 (skeleton stmt) (subst (λ (o : Option (List ℕ)). IsSome o) (sym is) refl) i;
              });
              line = refl;
              unplanned = refl;
            });
          });
        }
      where
        takes : (b : Bool) → TakesOwed b (record { stmt = stmt; outcome = one }) (owed_of b (stmt ∷ stmts) (one ∷ given)) (owed_of b stmts given)
        takes true = (refl, refl)
        takes false = refl

    -- by what is public after the first
    served_all : AreServedWith p1 a1 failed rest outcomes
    served_all = served_alike p0 p1 a0 a1 (sym early_then) (sym headings_are) failed rest outcomes inserts_all ran.others

    owed_none : (b : Bool) (given : List Outcome) → owed_of b [] given ≡ []
    owed_none true given = refl
    owed_none false given = refl

    owed_insert : (stmts : List Stmt) (given : List Outcome) → All (λ (stmt : Stmt). inserts_into (skeleton stmt) ≡ Some table) stmts → AreServedWith p1 a1 failed stmts given → AllInsert table (statements_of (owed_of failed stmts given))
    owed_insert stmts given all served = go failed
      where
        go : (b : Bool) → AllInsert table (statements_of (owed_of b stmts given))
        go true = insert_none table
        go false = subst (AllInsert table) (sym (owed_stmts p1 a1 stmts given failed served)) (insert_all table stmts all)

    follow_behind : (text : List ℕ) (texts : List (List ℕ)) (stmts : List Stmt) (given : List Outcome) → AreServedWith p1 a1 failed stmts given → AreSpelt texts stmts → Follow (text ∷ texts) (owed_of failed stmts given)
    follow_behind text texts stmts given served spelt = go failed
      where
        go : (b : Bool) → Follow (text ∷ texts) (owed_of b stmts given)
        go true = tt
        go false = follow_by text texts (owed_of false stmts given) (subst (λ (l : List Stmt). SpellFirst texts (map Ok l)) (sym (owed_stmts p1 a1 stmts given failed served)) (spelt_first texts stmts spelt))

    module _ (g : Gathered) (off : IsApartFrom flights.settings p0 g (skeleton first)) where
      abbrev at : (owed : List Owed) (count : ℕ) → Machine R
      at owed count = standing m1 owed (gathered_at g off count)

      abbrev Named : List Stmt → Type 0
      Named stmts = All (λ (stmt : Stmt). inserts_into (skeleton stmt) ≡ Some table) stmts

      others_steps : (count : ℕ) (stmts : List Stmt) (given : List Outcome) (texts : List (List ℕ)) → count + length stmts ≤ batch_most p0 → 1 ≤ count → Named stmts → AreServedWith p1 a1 failed stmts given → AreSpelt texts stmts
          → Steps state (at (owed_of failed stmts given) count) (at [] (count + length stmts)) texts (line_answers given)
      others_steps count [] [] [] room some all served spelt =
          let same : count + 0 ≡ count = omega arith in
          subst (λ (m : Machine R). Steps state (at (owed_of failed [] []) count) m [] []) (λ i. at (owed_none failed [] i) (sym same i)) at_rest
      others_steps count [] (one ∷ given) texts room some all served spelt = absurd served
      others_steps count [] [] (text ∷ texts) room some all served spelt = absurd spelt
      others_steps count (stmt ∷ stmts) [] texts room some all served spelt = absurd served
      others_steps count (stmt ∷ stmts) (one ∷ given) [] room some all served spelt = absurd spelt
      others_steps count (stmt ∷ stmts) (one ∷ given) (text ∷ texts) room some all served spelt =
          let behind = All-tail (λ (s : Stmt). inserts_into (skeleton s) ≡ Some table) stmt stmts all in
          let same : (count + 1) + length stmts ≡ count + length (stmt ∷ stmts) = omega arith in
          one_more
          (other_step g off count stmt stmts one given text (omega (arith, room)) (All-head (λ (s : Stmt). inserts_into (skeleton s) ≡ Some table) stmt stmts all) (owed_insert stmts given behind served.1) (omega (arith, room, some)) served.0 spelt.0)
          (subst (λ (n : ℕ). Steps state (at (owed_of failed stmts given) (count + 1)) (at [] n) texts (line_answers given)) same
          (others_steps (count + 1) stmts given texts (omega (arith, room)) (omega arith) behind served.1 spelt.1))

      -- a line among them was lost; after the first one all was asked
      pub record LineLost (start : Machine R) (texts : List (List ℕ)) (done : List Outcome) (one : Outcome) : Type 0 where
        pub front : List (List ℕ)
        pub text : List ℕ
        pub behind : List (List ℕ)
        pub parts : texts ≡ front ++ text ∷ behind
        pub middle : Machine R
        pub owed_then : List Owed
        pub count : ℕ
        pub steps : Steps state start middle front (line_answers done)
        pub step : Step state middle (at owed_then count) text (line_answer one)
        pub follow : Follow (text ∷ behind) owed_then
        pub stands : StandsAt done start.store.asked s1.asked middle.store.asked

      others_lost : (count : ℕ) (stmts : List Stmt) (given : List Outcome) (texts : List (List ℕ)) (done : List Outcome) (one : Outcome) (back : List Outcome) → given ≡ done ++ one ∷ back → count + length stmts ≤ batch_most p0 → 1 ≤ count → Named stmts
          → AreServedWith p1 a1 failed stmts given → AreSpelt texts stmts → LineLost (at (owed_of failed stmts given) count) texts done one
      others_lost count [] [] texts [] one back is room some all served spelt = absurd (cc is)
      others_lost count [] [] texts (d ∷ done) one back is room some all served spelt = absurd (cc is)
      others_lost count [] (o ∷ given) texts done one back is room some all served spelt = absurd served
      others_lost count (stmt ∷ stmts) [] texts done one back is room some all served spelt = absurd served
      others_lost count (stmt ∷ stmts) (o ∷ given) [] done one back is room some all served spelt = absurd spelt
      others_lost count (stmt ∷ stmts) (o ∷ given) (text ∷ texts) [] one back is room some all served spelt =
          let behind = All-tail (λ (s : Stmt). inserts_into (skeleton s) ≡ Some table) stmt stmts all in
          let same : o ≡ one = cc is in
          record {
            front = [];
            text = text;
            behind = texts;
            parts = refl;
            middle = at (owed_of failed (stmt ∷ stmts) (o ∷ given)) count;
            owed_then = owed_of failed stmts given;
            count = count + 1;
            steps = at_rest;
            step = subst (λ (x : Outcome). Step state (at (owed_of failed (stmt ∷ stmts) (o ∷ given)) count) (at (owed_of failed stmts given) (count + 1)) text (line_answer x)) same
                (other_step g off count stmt stmts o given text (omega (arith, room)) (All-head (λ (s : Stmt). inserts_into (skeleton s) ≡ Some table) stmt stmts all) (owed_insert stmts given behind served.1) (omega (arith, room, some)) served.0 spelt.0);
            follow = follow_behind text texts stmts given served.1 spelt.1;
            stands = refl;
          }
      others_lost count (stmt ∷ stmts) (o ∷ given) (text ∷ texts) (d ∷ done) one back is room some all served spelt =
          let behind = All-tail (λ (s : Stmt). inserts_into (skeleton s) ≡ Some table) stmt stmts all in
          let same : o ≡ d = cc is in
          let step = subst (λ (x : Outcome). Step state (at (owed_of failed (stmt ∷ stmts) (o ∷ given)) count) (at (owed_of failed stmts given) (count + 1)) text (line_answer x)) same
          (other_step g off count stmt stmts o given text (omega (arith, room)) (All-head (λ (s : Stmt). inserts_into (skeleton s) ≡ Some table) stmt stmts all) (owed_insert stmts given behind served.1) (omega (arith, room, some)) served.0 spelt.0) in
          let there = others_lost (count + 1) stmts given texts done one back (cc is) (omega (arith, room)) (omega arith) behind served.1 spelt.1 in
          record {
            front = text ∷ there.front;
            text = there.text;
            behind = there.behind;
            parts = ap (λ (l : List (List ℕ)). text ∷ l) there.parts;
            middle = there.middle;
            owed_then = there.owed_then;
            count = there.count;
            steps = one_more step there.steps;
            step = there.step;
            follow = there.follow;
            stands = stands_on done there.stands;
          }
        where
          stands_on : (done : List Outcome) → {a : List Access} → StandsAt done s1.asked s1.asked a → a ≡ s1.asked
          stands_on [] is = is
          stands_on (e ∷ done) is = is

      -- ---- all of them
      few_all : 1 + length rest ≤ batch_most p0
      few_all = let few = batch.few in omega (arith, few)

      pub batch_steps : (held : List (List ℕ)) → AreSpelt held (first ∷ rest) → Steps state (standing m0 [] g) (at [] (1 + length rest)) held (line_answers (outcome ∷ outcomes))
      batch_steps [] spelt = absurd spelt
      batch_steps (text ∷ texts) spelt =
          one_more (first_step g off text spelt.0) (others_steps 1 rest outcomes texts few_all (omega arith) named_all served_all spelt.1)

      pub batch_lost : (held : List (List ℕ)) (done : List Outcome) (one : Outcome) (back : List Outcome) → outcome ∷ outcomes ≡ done ++ one ∷ back → AreSpelt held (first ∷ rest) → LineLost (standing m0 [] g) held done one
      batch_lost [] done one back is spelt = absurd spelt
      batch_lost (text ∷ texts) [] one back is spelt =
          let same : outcome ≡ one = cc is in
          record {
            front = [];
            text = text;
            behind = texts;
            parts = refl;
            middle = standing m0 [] g;
            owed_then = owed;
            count = 1;
            steps = at_rest;
            step = subst (λ (x : Outcome). Step state (standing m0 [] g) (behind_first g off) text (line_answer x)) same (first_step g off text spelt.0);
            follow = follow_behind text texts rest outcomes served_all spelt.1;
            stands = refl;
          }
      batch_lost (text ∷ texts) (d ∷ done) one back is spelt =
          let same : outcome ≡ d = cc is in
          let there = others_lost 1 rest outcomes texts done one back (cc is) few_all (omega arith) named_all served_all spelt.1 in
          record {
            front = text ∷ there.front;
            text = there.text;
            behind = there.behind;
            parts = ap (λ (l : List (List ℕ)). text ∷ l) there.parts;
            middle = there.middle;
            owed_then = there.owed_then;
            count = there.count;
            steps = one_more (subst (λ (x : Outcome). Step state (standing m0 [] g) (behind_first g off) text (line_answer x)) same (first_step g off text spelt.0)) there.steps;
            step = there.step;
            follow = there.follow;
            stands = stands_on done there.stands;
          }
        where
          stands_on : (done : List Outcome) → {a : List Access} → StandsAt done s1.asked s1.asked a → a ≡ s1.asked
          stands_on [] is = is
          stands_on (e ∷ done) is = is

      -- nothing else goes into it then
      pub batch_closed : (outline : Skeleton) → IsApart flights.settings p0 first rest outline → IsApartFrom flights.settings p1 (gathered_at g off (1 + length rest)) outline
      batch_closed outline apart = record {
        batch = elim apart.batch [
          | inl none ↦ goes_false p1 table (1 + length rest) failed outline (inl (λ same. cc (none, same)))
          | inr (inl other) ↦ goes_false p1 table (1 + length rest) failed outline (inl (λ same. other (same ∙ sym names)))
          | inr (inr full) ↦ goes_false p1 table (1 + length rest) failed outline (inr (let most = most_is in omega (arith, full, most)))
        ];
        flown = place_none (most_flown flights.settings p1) p1 outline;
      }

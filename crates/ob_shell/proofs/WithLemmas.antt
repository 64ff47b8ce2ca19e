-- One statement that was carried out with the INSERT before it, by its meaning.
use Rattle.ob_shell.proofs.Words.{access_public, after, Answer, ap, asked_of, begins_batch, Bool, closing_line, Draws, early_refusal, events_text, false, Gathered, Gathering, Heading, headings, headings_of, How, if◌then◌else◌, inserts_into, is_cut, is_fault, is_full_now, is_joined, is_late, is_some, IsTrue, Batched, limits_of, List, Machine, may_fly, next, None, Option, option_map, option_map_or, Outcome, outcome_of, place_now, Public, public_of, refl, Refusal, refusal_now, Refused, Represents, RevState, script, Seen, seen_or_cut, Session, session_of, settle_all, skeleton, Some, statements_of, Stmt, subst, sym, Tables, true, ℕ, [], ◌&&◌, ◌++◌, ◌∙◌, ◌≡◌}
use Rattle.std.specs.Prelude.{◌↔◌, IsSome}
use Rattle.std.specs.Option.{is_none}
use Rattle.ob_base.specs.declared.refusal.Refusal.TheVariants.{StoreFault}
use Rattle.ob_headline.specs.Accesses.{Says}
use Rattle.ob_headline.specs.Batches.{Joins, is_failed}
use Rattle.ob_headline.specs.Meaning.{AnswersIn, AnswersMeant}
use Rattle.ob_mean.proofs.BatchLemmas.{GoesIn, after_cut_with, after_refused, after_with, goes_in, settle_refused}
use Rattle.ob_mean.proofs.VerdictLemmas.{refused_early, seen_early}
use Rattle.ob_mean.specs.Batches.{and_one, begun_by, goes_into, is_unrefused}
use Rattle.ob_mean.specs.Lawful.{Lawful}
use Rattle.ob_mean.specs.Prints.{Prints, Unfinished}
use Rattle.ob_mean.specs.Replay.{Alone, CutWith, IsCutOff, IsMember, With, how_now}
use Rattle.ob_mean.specs.Settle.{settle, settle_served, settled}
use Rattle.ob_mean.specs.Step.{accepted_answer, answered, followed}
use Rattle.ob_mean.specs.Verdict.{Accessed, accessed, database, ended as seen_to, gone, refusal, verdict}
use Rattle.ob_mean.specs.declared.answer.Answer.TheVariants as A
use Rattle.ob_script.proofs.Unasked.{static_stays, stays_public}
use Rattle.ob_shell.specs.Steps.{AreOwed, Holds, Owed, ServedWith, StaysAs, TakesOwed, end_with, has_failed, tables_behind}
use Rattle.ob_sql.specs.declared.stmt.Literal.{Literal}
use Rattle.ob_sql.specs.declared.stmt.Stmt.TheVariants.{Insert}
use Rattle.ob_tables.proofs.LawfulLemmas.{lawful_refused}
use Rattle.ob_tables.proofs.ServeLemmas.{silent_emits}
use Rattle.ob_tables.proofs.ToldLemmas.{early_is}
use Rattle.ob_tables.specs.Batch.{AnswersRow, IsServedWith}
use Rattle.ob_tables.specs.Running.{HasNoRows, inserted_as}
use Rattle.ob_mutate.specs.declared.inserting.Inserted.{Inserted as InsertedAs}
use Rattle.ob_mutate.specs.declared.inserting.Inserted.TheVariants.{Done, Duplicate, Full}
use Rattle.ob_verdict.proofs.AlikeTables.{headings_changed}

-- ---- an INSERT
pub record IsInsert (stmt : Stmt) : Type 0 where
  pub table : List ℕ
  pub columns : Option (List (List ℕ))
  pub values : List Literal
  pub is : stmt ≡ Insert table columns values

pub insert_of : (stmt : Stmt) → IsSome (inserts_into (skeleton stmt)) → IsInsert stmt
insert_of (Insert table columns values) some = record { table = table; columns = columns; values = values; is = refl }
insert_of other some = absurd (cc some)

-- its answer by its meaning is no rows, and emits nothing
pub insert_prints : (p : Public) (m : ℕ) (ts : Tables) (stmt : Stmt) → IsInsert stmt → (labels : List (List ℕ)) → Prints labels (verdict p m ts stmt) [] × Unfinished labels (verdict p m ts stmt) []
insert_prints p m ts stmt insert labels = subst (λ (s : Stmt). Prints labels (verdict p m ts s) [] × Unfinished labels (verdict p m ts s) []) (sym insert.is) (go (refusal p m ts (Insert insert.table insert.columns insert.values)))
  where
    go : (o : Option Refusal) → Prints labels (answered o A.Done) [] × Unfinished labels (answered o A.Done) []
    go None = (refl, refl)
    go (Some r) = (refl, refl)

-- what it leaves has the same headings
pub insert_headings : (d : Draws) (p : Public) (m : ℕ) (ts : Tables) (stmt : Stmt) → IsInsert stmt → accessed ts stmt ≡ None → headings (settle d p m ts stmt) ≡ headings ts
insert_headings d p m ts stmt insert none = ap headings (settle_is ∙ ap (λ (s : Stmt). followed (refusal p m ts stmt) (settled d p ts s) ts) insert.is) ∙ go (refusal p m ts stmt)
  where
    now : (o : Option Refusal) → (if is_some o then None else accessed ts stmt) ≡ None
    now None = none
    now (Some r) = refl

    settle_is : settle d p m ts stmt ≡ followed (refusal p m ts stmt) (settled d p ts stmt) ts
    settle_is = ap (λ (o : Option Accessed). settle_served d o p m ts stmt) (now (early_refusal (is_late m) (limits_of p) (headings ts) stmt))

    go : (o : Option Refusal) → headings (followed o (settled d p ts (Insert insert.table insert.columns insert.values)) ts) ≡ headings ts
    go None = headings_changed insert.table _ ts
    go (Some r) = refl

-- ---- an answer for a row
row_own : (outcome : Outcome) → AnswersRow outcome → (is_fault outcome ≡ false) × HasNoRows outcome
row_own outcome row = subst (λ (o : Outcome). (is_fault o ≡ false) × HasNoRows o) (sym row.is) (go row.inserted)
  where
    go : (i : InsertedAs) → (is_fault (inserted_as i) ≡ false) × HasNoRows (inserted_as i)
    go Done = (refl, tt)
    go Duplicate = (refl, tt)
    go Full = (refl, tt)

pub events_none : events_text [] ≡ []
unfolding events_text
events_none = refl

module _ {R : Type 0} (state : R → RevState) (m0 m1 : Machine R) (text : List ℕ) (one : Answer) (with : ServedWith m0 m1 text one) where
  abbrev p : Public
  p = public_of m0.engine

  abbrev m : ℕ
  m = asked_of m0

  abbrev stmt : Stmt
  stmt = with.stmt

  abbrev pub seen_with : Seen
  seen_with = seen_to (end_with (refusal_now p m stmt))

  goes : GoesIn p m0.gathered.batch (skeleton stmt)
  goes = goes_in p m0.gathered.batch (skeleton stmt) with.joins

  pub inserts : IsSome (inserts_into (skeleton stmt))
  inserts = ap is_some goes.same

  pub batched : IsSome p.batch
  batched = goes.batched

  pub with_insert : IsInsert stmt
  with_insert = insert_of stmt inserts

  -- ---- by what is public
  -- it flies with none
  pub with_apart : (most gathered : ℕ) → place_now most p gathered (skeleton stmt) ≡ 0
  with_apart most gathered = ap (λ (x : Stmt). place_now most p gathered (skeleton x)) with_insert.is

  pub with_grounded : may_fly p (skeleton stmt) ≡ false
  with_grounded = ap (λ (x : Stmt). may_fly p (skeleton x)) with_insert.is

  pub with_lawful : Lawful p m stmt seen_with
  with_lawful = go (refusal_now p m stmt) refl
    where
      go : (o : Option Refusal) → refusal_now p m stmt ≡ o → Lawful p m stmt (seen_to (end_with o))
      go (Some r) is = lawful_refused p m stmt r is
      go None is = record {
        static = (λ f. absurd (cc f), λ f. absurd (let none = ap is_some is in cc (none, f)));
        holds = record { batched = goes.batched; inserts = inserts; flat = with.unindexed };
        leaf = λ yes. tt;
        cut = tt;
      }

  joins_by : (b : Bool) (o : Option Refusal) → b ≡ true → is_joined (end_with o) ≡ (b && is_none o)
  joins_by true None is = refl
  joins_by true (Some r) is = refl
  joins_by false o is = absurd (cc is)

  pub with_joins : Joins p m m0.gathered.batch stmt seen_with
  with_joins = joins_by (goes_into p m0.gathered.batch (skeleton stmt)) (refusal_now p m stmt) with.joins

  own_by : (o : Option Refusal) (failed : Bool) → refusal_now p m stmt ≡ o → IsServedWith o failed one.outcome → HasNoRows one.outcome
  own_by (Some r) failed is answer = subst HasNoRows (sym answer) tt
  own_by None true is answer = subst HasNoRows (sym answer) tt
  own_by None false is answer = (row_own one.outcome answer).1

  silent : HasNoRows one.outcome
  silent = own_by (refusal_now p m stmt) (has_failed m0.gathered.batch) refl with.answered

  printed : one.bytes ≡ events_text [] ++ closing_line one.outcome
  printed = with.line ∙ ap (λ (l : List ℕ). l ++ closing_line one.outcome) (sym events_none)

  pub with_says : Says (refusal_now p m stmt) p stmt one
  with_says = go (refusal_now p m stmt) with.answered
    where
      go : (o : Option Refusal) → IsServedWith o (has_failed m0.gathered.batch) one.outcome → Says o p stmt one
      go None answer = record { events = []; emits = silent_emits stmt _ one.outcome silent; bytes = printed }
      go (Some r) answer = λ i. record { outcome = answer i; bytes = (with.line ∙ ap closing_line answer) i; plan = with.unplanned i }

  pub with_failed : IsTrue (is_failed m0.gathered.batch seen_with.end) ↔ (one.outcome ≡ Refused StoreFault)
  with_failed = go (refusal_now p m stmt) (has_failed m0.gathered.batch) refl refl with.answered
    where
      go : (o : Option Refusal) (failed : Bool) → refusal_now p m stmt ≡ o → has_failed m0.gathered.batch ≡ failed → IsServedWith o failed one.outcome
          → IsTrue (is_failed m0.gathered.batch (end_with o)) ↔ (one.outcome ≡ Refused StoreFault)
      go (Some r) failed is has answer = (λ off. absurd (cc off), λ fault. absurd (let own = (early_is p m stmt r is).own in let same = ap is_fault (sym answer ∙ fault) in cc (own, same)))
      go None true is has answer = (λ on. answer, λ fault. has)
      go None false is has answer = (λ on. absurd (cc (on, has)), λ fault. absurd (let own = (row_own one.outcome answer).0 in let same = ap is_fault fault in cc (own, same)))

  pub with_plan : one.plan ≡ seen_with.plan
  with_plan = with.unplanned

  -- nothing is asked, and what is public stays
  pub script_with : script p (skeleton stmt) seen_with ≡ []
  script_with = go (refusal_now p m stmt)
    where
      go : (o : Option Refusal) → script p (skeleton stmt) (seen_to (end_with o)) ≡ []
      go None = refl
      go (Some r) = refl

  pub next_with : next p (skeleton stmt) seen_with ≡ p
  next_with = go (refusal_now p m stmt)
    where
      go : (o : Option Refusal) → next p (skeleton stmt) (seen_to (end_with o)) ≡ p
      go None = stays_public p (skeleton stmt) (seen_to Batched) refl
      go (Some r) = static_stays p (skeleton stmt)

  pub uncut_with : is_cut seen_with.end ≡ false
  uncut_with = go (refusal_now p m stmt)
    where
      go : (o : Option Refusal) → is_cut (end_with o) ≡ false
      go None = refl
      go (Some r) = refl

  -- the batch is as it was, with one more
  pub failed_with : has_failed m1.gathered.batch ≡ has_failed m0.gathered.batch
  failed_with =
      ap (λ (x : Gathered). has_failed x.batch) with.gathered
      ∙ ap (λ (b : Bool). has_failed (if b then option_map and_one m0.gathered.batch else if begins_batch p m stmt then begun_by (skeleton stmt) (end_with (refusal_now p m stmt)) else None)) with.joins
      ∙ go m0.gathered.batch
    where
      go : (o : Option Gathering) → has_failed (option_map and_one o) ≡ has_failed o
      go None = refl
      go (Some g) = refl

  -- ---- by the model
  module _ (same : StaysAs m0 m1) (d : Draws) (tables : Tables) (stood : Holds state m0 d tables) where
    abbrev s : Session
    s = session_of m0 d tables

    early_is_now : early_refusal (is_late m) (limits_of p) (headings tables) stmt ≡ refusal_now p m stmt
    early_is_now = ap (λ (hs : List Heading). early_refusal (is_late m) (limits_of p) hs stmt) stood.listed

    unkeyed_by : (o : Option Accessed) → accessed tables stmt ≡ o → is_some o ≡ false → accessed tables stmt ≡ None
    unkeyed_by None is none = is
    unkeyed_by (Some a) is none = absurd (cc none)

    -- where it isn't refused before any access
    unkeyed : refusal_now p m stmt ≡ None → accessed tables stmt ≡ None
    unkeyed none = unkeyed_by (accessed tables stmt) refl (sym (access_public p tables stood.listed (is_late m) (limits_of p) stmt (early_is_now ∙ none)) ∙ with.unindexed)

    member : refusal_now p m stmt ≡ None → IsMember s stmt
    member none = record { batched = goes.batched; inserts = inserts; early = early_is_now ∙ none; unkeyed = unkeyed none }

    room_is : is_full_now s stmt ≡ false
    room_is = go (refusal_now p m stmt) refl
      where
        at : (o : Option Accessed) → o ≡ None → option_map_or (λ a. is_none (gone d a)) o false ≡ false
        at None is = refl
        at (Some a) is = absurd (cc is)

        go : (o : Option Refusal) → refusal_now p m stmt ≡ o → is_full_now s stmt ≡ false
        go (Some r) is = at _ (ap (λ (q : Option Refusal). if is_some q then None else accessed tables stmt) (early_is_now ∙ is))
        go None is = at _ (ap (λ (q : Option Refusal). if is_some q then None else accessed tables stmt) (early_is_now ∙ is) ∙ unkeyed is)

    -- how the model answers it, and where it stands then
    pub record MeansWith : Type 0 where
      pub how : How
      pub cuts : IsCutOff how s stmt
      pub answer : AnswersIn how s stmt one
      pub seen : seen_with ≡ seen_or_cut how s stmt
      pub stands : after how s stmt ≡ session_of m0 d (after how s stmt).tables
      pub holds : Holds state m1 d (after how s stmt).tables
      pub still : tables_behind m1 d (after how s stmt).tables ≡ tables_behind m0 d tables
      pub plain : has_failed m0.gathered.batch ≡ false → how ≡ how_now m0.gathered.batch s stmt

    abbrev behind : Tables
    behind = settle d p m tables stmt

    -- from what was owed
    moved : (after_it : Tables) → headings after_it ≡ headings_of p.tables → Represents state m0.engine m0.store (settle_all d p m (statements_of m1.owed) after_it) → AreOwed d p m m1.owed after_it → Holds state m1 d after_it
    moved after_it listed held owed = subst (λ (x : Machine R). Holds state x d after_it) (sym same) (record { listed = listed; held = held; owed = owed })

    took : TakesOwed false (record { stmt = stmt; outcome = one.outcome }) m0.owed m1.owed → headings behind ≡ headings tables → Holds state m1 d behind
    took is listed =
        moved behind (listed ∙ stood.listed) (subst (λ (owed : List Owed). Represents state m0.engine m0.store (settle_all d p m (statements_of owed) tables)) is stood.held)
        (subst (λ (owed : List Owed). AreOwed d p m owed tables) is stood.owed).1

    still_as : (after_it : Tables) → settle_all d p m (statements_of m1.owed) after_it ≡ tables_behind m0 d tables → tables_behind m1 d after_it ≡ tables_behind m0 d tables
    still_as after_it is = ap (λ (x : Machine R). tables_behind x d after_it) same ∙ is

    took_still : TakesOwed false (record { stmt = stmt; outcome = one.outcome }) m0.owed m1.owed → tables_behind m1 d behind ≡ tables_behind m0 d tables
    took_still is = still_as behind (sym (ap (λ (owed : List Owed). settle_all d p m (statements_of owed) tables) is))

    stayed_still : TakesOwed true (record { stmt = stmt; outcome = one.outcome }) m0.owed m1.owed → tables_behind m1 d tables ≡ tables_behind m0 d tables
    stayed_still none = still_as tables (ap (λ (owed : List Owed). settle_all d p m (statements_of owed) tables) (none.1 ∙ sym none.0))

    answered_so : TakesOwed false (record { stmt = stmt; outcome = one.outcome }) m0.owed m1.owed → one.outcome ≡ outcome_of stmt (verdict p m tables stmt)
    answered_so is = (subst (λ (owed : List Owed). AreOwed d p m owed tables) is stood.owed).0

    stayed : TakesOwed true (record { stmt = stmt; outcome = one.outcome }) m0.owed m1.owed → Holds state m1 d tables
    stayed none =
        moved tables stood.listed
        (subst (λ (owed : List Owed). Represents state m0.engine m0.store (settle_all d p m (statements_of owed) tables)) (none.0 ∙ sym none.1) stood.held)
        (subst (λ (owed : List Owed). AreOwed d p m owed tables) (sym none.1) tt)

    how_by : (b : Bool) (o : Option Refusal) → b ≡ true → is_some o ≡ true → Alone ≡ (if b && is_none o then With else Alone)
    how_by true None is some = absurd (cc some)
    how_by true (Some r) is some = refl
    how_by false o is some = absurd (cc is)

    how_with : (b : Bool) (o : Option Refusal) → b ≡ true → o ≡ None → With ≡ (if b && is_none o then With else Alone)
    how_with b o is none = λ i. if (sym is) i && is_none (sym none i) then With else Alone

    prints : (labels : List (List ℕ)) → Prints labels (verdict p m tables stmt) [] × Unfinished labels (verdict p m tables stmt) []
    prints = insert_prints p m tables stmt with_insert

    refused_means : (r : Refusal) → refusal_now p m stmt ≡ Some r → (failed : Bool) → has_failed m0.gathered.batch ≡ failed → one.outcome ≡ Refused r → TakesOwed failed (record { stmt = stmt; outcome = one.outcome }) m0.owed m1.owed → MeansWith
    refused_means r is failed has answer owed =
        let early = early_is_now ∙ is in
        let still : behind ≡ tables = settle_refused d p m tables stmt r early in
        let verdict_is : verdict p m tables stmt ≡ A.Refused r = ap (λ (o : Option Refusal). answered o (accepted_answer (database tables) stmt)) (refused_early p m tables stmt r early) in
        record {
          how = Alone;
          cuts = tt;
          answer = record { outcome = answer ∙ ap (outcome_of stmt) (sym verdict_is); events = []; prints = (prints _).0; bytes = printed };
          seen = ap (λ (o : Option Refusal). seen_to (end_with o)) is ∙ sym (seen_early p m tables stmt r early d);
          stands = after_refused s stmt r early ∙ ap (session_of m0 d) (sym still);
          holds = by_failed failed owed still;
          still = still_by failed owed still;
          plain = λ own. how_by (goes_into p m0.gathered.batch (skeleton stmt)) (refusal_now p m stmt) with.joins (ap is_some is);
        }
      where
        by_failed : (failed : Bool) → TakesOwed failed (record { stmt = stmt; outcome = one.outcome }) m0.owed m1.owed → behind ≡ tables → Holds state m1 d behind
        by_failed true none still = subst (Holds state m1 d) (sym still) (stayed none)
        by_failed false is still = took is (ap headings still)

        still_by : (failed : Bool) → TakesOwed failed (record { stmt = stmt; outcome = one.outcome }) m0.owed m1.owed → behind ≡ tables → tables_behind m1 d behind ≡ tables_behind m0 d tables
        still_by true none still = ap (tables_behind m1 d) still ∙ stayed_still none
        still_by false is still = took_still is

    joined_means : refusal_now p m stmt ≡ None → has_failed m0.gathered.batch ≡ false → TakesOwed false (record { stmt = stmt; outcome = one.outcome }) m0.owed m1.owed → MeansWith
    joined_means none own owed = record {
      how = With;
      cuts = member none;
      answer = record { outcome = answered_so owed; events = []; prints = (prints _).0; bytes = printed };
      seen = ap (λ (o : Option Refusal). seen_to (end_with o)) none;
      stands = after_with s stmt;
      holds = took owed (insert_headings d p m tables stmt with_insert (unkeyed none));
      still = took_still owed;
      plain = λ own. how_with (goes_into p m0.gathered.batch (skeleton stmt)) (refusal_now p m stmt) with.joins none;
    }

    failed_means : refusal_now p m stmt ≡ None → has_failed m0.gathered.batch ≡ true → one.outcome ≡ Refused StoreFault → TakesOwed true (record { stmt = stmt; outcome = one.outcome }) m0.owed m1.owed → MeansWith
    failed_means none has answer owed = record {
      how = CutWith;
      cuts = member none;
      answer = record { outcome = answer; events = []; unfinished = (prints _).1; bytes = printed };
      seen = ap (λ (o : Option Refusal). seen_to (end_with o)) none;
      stands = after_cut_with s stmt;
      holds = stayed owed;
      still = stayed_still owed;
      plain = λ own. absurd (cc (has, own));
    }

    pub means_with : MeansWith
    means_with = go (refusal_now p m stmt) (has_failed m0.gathered.batch) refl refl with.answered with.owed
      where
        go : (o : Option Refusal) (failed : Bool) → refusal_now p m stmt ≡ o → has_failed m0.gathered.batch ≡ failed → IsServedWith o failed one.outcome
            → TakesOwed failed (record { stmt = stmt; outcome = one.outcome }) m0.owed m1.owed → MeansWith
        go (Some r) failed is has answer owed = refused_means r is failed has answer owed
        go None true is has answer owed = failed_means is has answer owed
        go None false is has answer owed = joined_means is has owed

    pub room_with : is_full_now s stmt ≡ false
    room_with = room_is

-- where no call fails it is answered as it is meant
pub meant_with : (g : Option Gathering) (s : Session) (stmt : Stmt) (one : Answer) (how : How) → how ≡ how_now g s stmt → AnswersIn how s stmt one → AnswersMeant s stmt one
meant_with g s stmt one how is answer = go (goes_into s.public g (skeleton stmt) && is_unrefused s.public s.asked stmt) (subst (λ (h : How). AnswersIn h s stmt one) is answer)
  where
    go : (b : Bool) → AnswersIn (if b then With else Alone) s stmt one → AnswersMeant s stmt one
    go true answer = answer
    go false answer = answer

-- Texts that take effect in a session do so in one that is alike, and are answered alike.
use Rattle.ob_headline.proofs.Words.{after, after_all, after_room, Answer, AnswersIn, AnswersMeant, ap, arith, Bool, Broken, by_shape, early_refusal, Ending, Err, false, Flat, Gathering, gathering_after, Heading, headings, headings-database, if◌then◌else◌, Indexed, is_failed, is_full_now, IsTrue, Joins, Lawful, length, length-append, limits_of, List, map, next, None, Ok, Option, option_map_or, option_or, plain, Public, refl, Refusal, refusal_now, Refused, script, Seen, seen_now, seen_or_cut, Served, served, Session, session_after, settle, Shape, skeleton, Some, Spelt, Stmt, Stored, stored_at, StoreFault, subst, suc, sym, Tables, take, trace, true, ℕ, [], ◌++◌, ◌+◌, ◌<◌, ◌==◌, ◌^◌, ◌∙◌, ◌∷◌, ◌≡◌}
use Rattle.std.specs.Prelude.{◌↔◌}
use Rattle.ob_base.specs.Refusals.{is_store_fault}
use Rattle.ob_base.specs.Limits.{buffered}
use Rattle.ob_base.specs.Schemas.{key_place}
use Rattle.ob_base.specs.declared.refusal.Refusal.TheVariants.{Duplicate, Full as FullTable, KeyRange}
use Rattle.ob_headline.proofs.AlikeSessions.{SessionsAlike, TablesAlike, after_alike, answers_alike, grows, parted_alike, settled_alike}
use Rattle.ob_headline.proofs.BatchLemmas.{sound_now}
use Rattle.ob_headline.specs.Accesses.{Says}
use Rattle.ob_headline.proofs.ServedAlone.{AnswersAlone, AreOf, SeenAlone, alone_from, behind_alone, head_taken, rest_taken}
use Rattle.ob_headline.specs.Flights.{Position, at_position}
use Rattle.ob_headline.specs.SavedHeadline.{answered_by, left_by, taken_by}
use Rattle.ob_headline.specs.SavedRuns.{AnsweredInOne, Effect, effects_of, has_failed, texts_of, unanswered}
use Rattle.ob_headline.specs.Statements.{statements}
use Rattle.ob_mean.proofs.FlatSessions.{room_flat}
use Rattle.ob_mean.specs.Batches.{settle_all}
use Rattle.ob_mean.specs.Replay.{How, Alone, CutAfter, With, CutWith, IsCutOff, IsMember, head_of, rest_of}
use Rattle.ob_mean.specs.Step.{Database, accepted_answer, answered, has_own_key, insert_refusal, late_refusal, new_row, room_refusal}
use Rattle.ob_mean.specs.Verdict.{Draws, database, is_late, verdict}
use Rattle.ob_row.specs.Rows.{Row, has_key}
use Rattle.ob_sql.specs.declared.stmt.Stmt.TheVariants.{Create, Insert, Update, Delete, Drop as DropTable, SelectRows as RowsStmt, SelectTotals as TotalsStmt}
use Rattle.ob_verdict.specs.Outcomes.{outcome_of}
use Rattle.ob_verdict.specs.declared.outcome.Outcome.{Outcome}
use Rattle.ob_verdict.specs.declared.outcome.Outcome.TheVariants.{Created, Inserted, Changed, Deleted, Dropped, Rows}

-- ---- an answer that the store had failed
fault_refusal : (r : Refusal) → is_store_fault r ≡ true → r ≡ StoreFault
fault_refusal StoreFault is = refl
fault_refusal r is = absurd (cc is)

failed_is : (o : Outcome) → has_failed o ≡ true → o ≡ Refused StoreFault
failed_is (Refused r) is = ap Refused (fault_refusal r is)
failed_is Created is = absurd (cc is)
failed_is Inserted is = absurd (cc is)
failed_is (Changed n) is = absurd (cc is)
failed_is (Deleted n) is = absurd (cc is)
failed_is Dropped is = absurd (cc is)
failed_is (Rows k) is = absurd (cc is)

-- what is seen of a statement by its meaning isn't that the store failed it, so its answer isn't that
unfailed : (g : Option Gathering) (s : Session) (stmt : Stmt) (o : Outcome) (here : Seen) → (IsTrue (is_failed g here.end) ↔ (o ≡ Refused StoreFault)) → here ≡ seen_now s stmt → has_failed o ≡ false
unfailed g s stmt o here cut seen = go (has_failed o) refl
  where
    go : (b : Bool) → has_failed o ≡ b → b ≡ false
    go true is =
        let broken = cut.1 (failed_is o is) in
        let same = ap (λ (x : Seen). is_failed g x.end) seen in
        absurd (cc (broken, same, sound_now g s stmt))
    go false is = refl

-- nor is that of an INSERT that is served with another: after the refusals that come before any access, its key is there or
-- no slot is left
room_sound : (t : Stored (List Row)) (row : Row) (r : Refusal) → insert_refusal t row ≡ Some r → is_store_fault r ≡ false
room_sound t row r is = by_key (has_key (key_place t.heading.schema) row t.held) is
  where
    by_full : (b : Bool) → (if b then Some FullTable else None) ≡ Some r → is_store_fault r ≡ false
    by_full true is = let full : FullTable ≡ r = cc is in ap is_store_fault (sym full)
    by_full false is = absurd (cc is)

    by_range : (b : Bool) → (if b then None else Some KeyRange) ≡ Some r → is_store_fault r ≡ false
    by_range true is = absurd (cc is)
    by_range false is = let range : KeyRange ≡ r = cc is in ap is_store_fault (sym range)

    by_room : (shape : Shape) → by_shape shape (if length t.held == t.heading.capacity then Some FullTable else None) (if has_own_key t.heading row then None else Some KeyRange) ≡ Some r → is_store_fault r ≡ false
    by_room Flat is = by_full (length t.held == t.heading.capacity) is
    by_room Indexed is = by_range (has_own_key t.heading row) is

    by_key : (b : Bool) → (if b then Some Duplicate else room_refusal t row) ≡ Some r → is_store_fault r ≡ false
    by_key true is = let duplicate : Duplicate ≡ r = cc is in ap is_store_fault (sym duplicate)
    by_key false is = by_room t.heading.shape is

member_sound : (s : Session) (stmt : Stmt) → IsMember s stmt → has_failed (outcome_of stmt (verdict s.public s.asked s.tables stmt)) ≡ false
member_sound s (Create table columns capacity shape) member = let inserts = member.inserts in absurd (cc inserts)
member_sound s (Update table sets cond) member = let inserts = member.inserts in absurd (cc inserts)
member_sound s (Delete table cond) member = let inserts = member.inserts in absurd (cc inserts)
member_sound s (DropTable table) member = let inserts = member.inserts in absurd (cc inserts)
member_sound s (RowsStmt q) member = let inserts = member.inserts in absurd (cc inserts)
member_sound s (TotalsStmt q) member = let inserts = member.inserts in absurd (cc inserts)
member_sound s (Insert table columns values) member = at (stored_at table (database s.tables)) refl
  where
    stmt : Stmt
    stmt = Insert table columns values

    db : Database
    db = database s.tables

    early : early_refusal (is_late s.asked) (limits_of s.public) (headings db) stmt ≡ None
    early = ap (λ (hs : List Heading). early_refusal (is_late s.asked) (limits_of s.public) hs stmt) (headings-database s.tables) ∙ member.early

    -- by the refusal after those
    sound : (o : Option Refusal) → ((r : Refusal) → o ≡ Some r → is_store_fault r ≡ false) → has_failed (outcome_of stmt (answered (option_or (option_or None o) None) (accepted_answer db stmt))) ≡ false
    sound None each = refl
    sound (Some r) each = each r refl

    by_late : (o : Option Refusal) → late_refusal (buffered s.public.pack s.public.buffer) db stmt ≡ o → ((r : Refusal) → o ≡ Some r → is_store_fault r ≡ false)
        → has_failed (outcome_of stmt (verdict s.public s.asked s.tables stmt)) ≡ false
    by_late o is each =
        (λ i. has_failed (outcome_of stmt (answered (option_or (option_or (early i) (is i)) None) (accepted_answer db stmt)))) ∙ sound o each

    at : (o : Option (Stored (List Row))) → stored_at table db ≡ o → has_failed (outcome_of stmt (verdict s.public s.asked s.tables stmt)) ≡ false
    at None is = by_late None (ap (λ (u : Option (Stored (List Row))). option_map_or (λ (t : Stored (List Row)). insert_refusal t (new_row t.heading.schema columns values)) u None) is) (λ r none. absurd (cc none))
    at (Some t) is =
        let row : Row = new_row t.heading.schema columns values in
        by_late (insert_refusal t row) (ap (λ (u : Option (Stored (List Row))). option_map_or (λ (t : Stored (List Row)). insert_refusal t (new_row t.heading.schema columns values)) u None) is) (room_sound t row)

-- the tables after these statements, from a session
abbrev left_from : Session → List Stmt → Tables
left_from u stmts = settle_all u.draws u.public u.asked stmts u.tables

taken_more : (more : Option (List Stmt)) (x : Spelt) (spelt : List Spelt) (one : Answer) (answers : List Answer) → taken_by more (x ∷ spelt) (one ∷ answers) ≡ taken_by more spelt answers
taken_more None x spelt one answers = refl
taken_more (Some behind) x spelt one answers = refl

-- after a text that was answered
module _ (more : Option (List Stmt)) (positions : List Position) (s : Session) (spelt : List Spelt) (one : Answer) (answers : List Answer) (broken : Broken) where
  abbrev n : ℕ
  n = length answers

  pub left_refused : (at : ℕ) → left_by more positions s (Err at ∷ spelt) (one ∷ answers) broken ≡ left_by more positions s spelt answers (rest_of broken)
  unfolding session_after
  left_refused at = λ i. left_from (session_after positions s (take n spelt) (rest_taken n broken i)) (taken_more more (Err at) spelt one answers i)

  pub left_served : (v : Position) (stmt : Stmt) → is_full_now (at_position v s) stmt ≡ false
      → left_by more (v ∷ positions) s (Ok stmt ∷ spelt) (one ∷ answers) broken ≡ left_by more positions (after (head_of broken) (at_position v s) stmt) spelt answers (rest_of broken)
  unfolding session_after
  left_served v stmt room =
      let first : Broken = take (suc n) broken in
      let behind : answered_by (v ∷ positions) s (Ok stmt ∷ spelt) (one ∷ answers) broken ≡ answered_by positions (after (head_of broken) (at_position v s) stmt) spelt answers (rest_of broken) =
      ap (λ (b : Bool). if b then at_position v s else session_after positions (after (head_of first) (at_position v s) stmt) (take n spelt) (rest_of first)) room
      ∙ (λ i. session_after positions (after (head_taken n broken i) (at_position v s) stmt) (take n spelt) (rest_taken n broken i)) in
      λ i. left_from (behind i) (taken_more more (Ok stmt) spelt one answers i)

-- the tables that are left where each statement is served alone
abbrev pub left_alone : (more : Option (List Stmt)) → Session → List Spelt → List Answer → Broken → Tables
left_alone more s spelt answers broken = left_from (after_all s (take (length answers) spelt) (take (length answers) broken)) (taken_by more spelt answers)

pub left_is : (words : ℕ → ℕ) (t : ℕ) (more : Option (List Stmt)) (ending : Ending) (s : Session) (spelt : List Spelt) (broken : Broken) (answers : List Answer) (seen : List Served) (part : List ℕ) → AreOf spelt seen
    → AnswersAlone ending s spelt broken answers seen part → left_by more (alone_from words t s seen) s spelt answers broken ≡ left_alone more s spelt answers broken
left_is words t more ending s spelt broken answers seen part of all = ap (λ (u : Session). left_from u (taken_by more spelt answers)) (behind_alone words t ending s spelt broken answers seen part of all)

module _ (more : Option (List Stmt)) (s : Session) (spelt : List Spelt) (one : Answer) (answers : List Answer) (broken : Broken) where
  alone_refused : (at : ℕ) → left_alone more s (Err at ∷ spelt) (one ∷ answers) broken ≡ left_alone more s spelt answers (rest_of broken)
  alone_refused at = λ i. left_from (after_all s (take (length answers) spelt) (rest_taken (length answers) broken i)) (taken_more more (Err at) spelt one answers i)

  alone_served : (stmt : Stmt) → is_full_now s stmt ≡ false → left_alone more s (Ok stmt ∷ spelt) (one ∷ answers) broken ≡ left_alone more (after (head_of broken) s stmt) spelt answers (rest_of broken)
  alone_served stmt room =
      let behind : after_all s (take (suc (length answers)) (Ok stmt ∷ spelt)) (take (suc (length answers)) broken) ≡ after_all (after (head_of broken) s stmt) (take (length answers) spelt) (take (length answers) (rest_of broken)) =
      after_room s stmt (take (length answers) spelt) (take (suc (length answers)) broken) room
      ∙ (λ i. after_all (after (head_taken (length answers) broken i) s stmt) (take (length answers) spelt) (rest_taken (length answers) broken i)) in
      λ i. left_from (behind i) (taken_more more (Ok stmt) spelt one answers i)

-- ---- a statement that the store cut off, alone or with another, has no effect
cut_alike : (s t : Session) (stmt : Stmt) (n : ℕ) → SessionsAlike s t → SessionsAlike (after (CutAfter n) s stmt) t
cut_alike s t stmt n alike = record {
  settings = alike.settings;
  kept = alike.kept;
  tables = alike.tables;
  flat = alike.flat;
  flat_too = alike.flat_too;
  here = alike.here;
  there = alike.there;
}

cut_with_alike : (s t : Session) (stmt : Stmt) → SessionsAlike s t → SessionsAlike (after CutWith s stmt) t
cut_with_alike s t stmt alike = record {
  settings = alike.settings;
  kept = alike.kept;
  tables = alike.tables;
  flat = alike.flat;
  flat_too = alike.flat_too;
  here = alike.here;
  there = alike.there;
}

-- ---- texts that took effect
-- they are answered alike, and what they leave is alike
abbrev Took : (t : Session) (left : Tables) → List Effect → Type 0
Took t left effects = AnsweredInOne t effects × TablesAlike left (after_all t (texts_of effects) [])

texts_unanswered : (xs : List Spelt) → texts_of (unanswered xs) ≡ xs
texts_unanswered [] = refl
texts_unanswered (x ∷ xs) = ap (λ (ys : List Spelt). x ∷ ys) (texts_unanswered xs)

-- statements that weren't answered, by settings that are the same, and not late
module _ (d : Draws) (p : Public) (m : ℕ) (kept : p.keep ≡ true) (soon : m < 2 ^ 63) where
  abbrev MoreTook : (left : Tables) (t : Session) → List Stmt → Type 0
  MoreTook left t stmts = AnsweredInOne t (unanswered (map Ok stmts)) × TablesAlike left (after_all t (map Ok stmts) [])

  more_on : (stmts : List Stmt) (ts : Tables) (t : Session) → plain p ≡ plain t.public → TablesAlike ts t → (after_all t (map Ok stmts) []).asked < 2 ^ 63 → MoreTook (settle_all d p m stmts ts) t stmts
  unfolding AnsweredInOne
  more_on [] ts t settings alike few = (tt, alike)
  more_on (stmt ∷ stmts) ts t settings alike few =
      let room = room_flat t stmt alike.flat_too in
      let first = after_room t stmt (map Ok stmts) [] room in
      let behind : (after_all (after Alone t stmt) (map Ok stmts) []).asked < 2 ^ 63 = subst (λ (u : Session). u.asked < 2 ^ 63) first few in
      let grown = grows (after Alone t stmt) (map Ok stmts) [] in
      let soon_too : t.asked < 2 ^ 63 = omega (arith, behind, grown) in
      let rest = more_on stmts (settle d p m ts stmt) (after Alone t stmt) settings (settled_alike d p m ts t alike settings kept soon soon_too stmt) behind in
      ((room, rest.0), subst (λ (u : Session). TablesAlike (settle_all d p m stmts (settle d p m ts stmt)) u) (sym first) rest.1)

-- from a session that is alike
module _ (s t : Session) (alike : SessionsAlike s t) (soon : s.asked < 2 ^ 63) where
  more_alike : (stmts : List Stmt) → (after_all t (texts_of (unanswered (map Ok stmts))) []).asked < 2 ^ 63 → Took t (left_from s stmts) (unanswered (map Ok stmts))
  more_alike stmts few =
      let texts = texts_unanswered (map Ok stmts) in
      let took =
      more_on s.draws s.public s.asked alike.kept soon stmts s.tables t alike.settings (record { tables = alike.tables; flat = alike.flat; flat_too = alike.flat_too; there = alike.there })
      (subst (λ (xs : List Spelt). (after_all t xs []).asked < 2 ^ 63) texts few) in
      (took.0, subst (λ (xs : List Spelt). TablesAlike (left_from s stmts) (after_all t xs [])) (sym texts) took.1)

  -- the texts that weren't answered
  one_more : (more : Option (List Stmt)) (spelt : List Spelt) (broken : Broken) → (after_all t (texts_of (effects_of more spelt [])) []).asked < 2 ^ 63 → Took t (left_alone more s spelt [] broken) (effects_of more spelt [])
  unfolding effects_of AnsweredInOne statements
  one_more None spelt broken few = more_alike [] few
  one_more (Some behind) [] broken few = more_alike behind few
  one_more (Some behind) (Ok stmt ∷ spelt) broken few = more_alike (stmt ∷ behind) few
  one_more (Some behind) (Err at ∷ spelt) broken few = let rest = more_alike behind few in ((tt, rest.0), rest.1)

-- a statement that was answered, and more after it
module _ (Leaves : Public → Stmt → Seen → Type 0) (g : Option Gathering) (ending : Ending) (more : Option (List Stmt)) (stmt : Stmt) (spelt : List Spelt) (s t : Session) (broken : Broken) (one : Answer) (answers : List Answer) (x : Served) (seen : List Served) (part : List ℕ)
    (alike : SessionsAlike s t)
    (lawful : (x.skeleton ≡ skeleton stmt) × Lawful s.public s.asked stmt x.seen
    × (Says (refusal_now s.public s.asked stmt) s.public stmt one × (IsTrue (is_failed g x.seen.end) ↔ (one.outcome ≡ Refused StoreFault)) × (one.plan ≡ x.seen.plan) × Joins s.public s.asked g stmt x.seen)
    × SeenAlone Leaves (next s.public x.skeleton x.seen) (s.asked + length (script s.public x.skeleton x.seen)) (gathering_after s.public s.asked g stmt x.seen.end) spelt answers seen)
    (few : s.asked + length (trace s.public (x ∷ seen)) < 2 ^ 63) where
  abbrev behind : List Effect
  behind = effects_of more spelt answers

  -- with it or without
  abbrev all : (failed : Bool) → List Effect
  all failed = if failed then behind else record { text = Ok stmt; answer = Some one } ∷ behind

  abbrev Told : How → Type 0
  Told how = (is_full_now s stmt ≡ false) × IsCutOff how s stmt × AnswersIn how s stmt one × (x.seen ≡ seen_or_cut how s stmt) × AnswersAlone ending (after how s stmt) spelt (rest_of broken) answers seen part

  -- what is gathered after it
  abbrev gathered : How → Option Gathering
  gathered how = gathering_after s.public s.asked g stmt (seen_or_cut how s stmt).end

  abbrev Follows : Type 0
  Follows = (h : Option Gathering) (u v : Session) → SessionsAlike u v → AnswersAlone ending u spelt (rest_of broken) answers seen part → SeenAlone Leaves u.public u.asked h spelt answers seen → u.asked + length (trace u.public seen) < 2 ^ 63
      → (after_all v (texts_of behind) []).asked < 2 ^ 63 → Took v (left_alone more u spelt answers (rest_of broken)) behind

  -- the accesses after it
  fewer : s.asked + length (script s.public x.skeleton x.seen) + length (trace (next s.public x.skeleton x.seen) seen) < 2 ^ 63
  fewer =
      let long = length-append (script s.public x.skeleton x.seen) (trace (next s.public x.skeleton x.seen) seen) in
      let whole : s.asked + length (script s.public x.skeleton x.seen ++ trace (next s.public x.skeleton x.seen) seen) < 2 ^ 63 = few in
      omega (arith, whole, long)

  seen_at : (how : How) → x.seen ≡ seen_or_cut how s stmt → SeenAlone Leaves (after how s stmt).public (after how s stmt).asked (gathered how) spelt answers seen
  seen_at how is =
      let entry : x ≡ served how s stmt = λ i. record { skeleton = lawful.0 i; seen = is i } in
      subst (λ (y : Served). SeenAlone Leaves (next s.public y.skeleton y.seen) (s.asked + length (script s.public y.skeleton y.seen)) (gathering_after s.public s.asked g stmt y.seen.end) spelt answers seen) entry lawful.3

  few_at : (how : How) → x.seen ≡ seen_or_cut how s stmt → (after how s stmt).asked + length (trace (after how s stmt).public seen) < 2 ^ 63
  few_at how is =
      let entry : x ≡ served how s stmt = λ i. record { skeleton = lawful.0 i; seen = is i } in
      subst (λ (y : Served). s.asked + length (script s.public y.skeleton y.seen) + length (trace (next s.public y.skeleton y.seen) seen) < 2 ^ 63) entry fewer

  left_at : (how : How) → head_of broken ≡ how → left_alone more s (Ok stmt ∷ spelt) (one ∷ answers) broken ≡ left_alone more (after how s stmt) spelt answers (rest_of broken)
  left_at how is =
      alone_served more s spelt one answers broken stmt (room_flat s stmt alike.flat)
      ∙ ap (λ (h : How). left_alone more (after h s stmt) spelt answers (rest_of broken)) is

  abbrev Done : Type 0
  Done = Took t (left_alone more s (Ok stmt ∷ spelt) (one ∷ answers) broken) (all (has_failed one.outcome))

  -- it was answered as it is meant
  took_effect : (how : How) → head_of broken ≡ how → has_failed one.outcome ≡ false → AnswersMeant s stmt one → (s.asked < 2 ^ 63 → t.asked < 2 ^ 63 → SessionsAlike (after how s stmt) (after Alone t stmt)) → Told how → Follows
      → (after_all t (texts_of (all (has_failed one.outcome))) []).asked < 2 ^ 63 → Done
  unfolding AnsweredInOne
  took_effect how is whole meant steps told follows few_too =
      let there = after_room t stmt (texts_of behind) [] (room_flat t stmt alike.flat_too) in
      let few_all : (after_all t (Ok stmt ∷ texts_of behind) []).asked < 2 ^ 63 = subst (λ (b : Bool). (after_all t (texts_of (all b)) []).asked < 2 ^ 63) whole few_too in
      let few_behind : (after_all (after Alone t stmt) (texts_of behind) []).asked < 2 ^ 63 = subst (λ (u : Session). u.asked < 2 ^ 63) there few_all in
      let grown = grows (after Alone t stmt) (texts_of behind) [] in
      let soon : s.asked < 2 ^ 63 = omega (arith, few) in
      let soon_too : t.asked < 2 ^ 63 = omega (arith, few_behind, grown) in
      let rest = follows (gathered how) (after how s stmt) (after Alone t stmt) (steps soon soon_too) told.4 (seen_at how told.3) (few_at how told.3) few_behind in
      subst (λ (b : Bool). Took t (left_alone more s (Ok stmt ∷ spelt) (one ∷ answers) broken) (all b)) (sym whole) (
        ((room_flat t stmt alike.flat_too, answers_alike s t alike soon soon_too stmt one meant), rest.0),
        subst (λ (ts : Tables). TablesAlike ts (after_all t (Ok stmt ∷ texts_of behind) [])) (sym (left_at how is))
            (subst (λ (v : Session). TablesAlike (left_alone more (after how s stmt) spelt answers (rest_of broken)) v) (sym there) rest.1),
      )

  -- the store had failed it
  took_none : (how : How) → head_of broken ≡ how → one.outcome ≡ Refused StoreFault → SessionsAlike (after how s stmt) t → Told how → Follows → (after_all t (texts_of (all (has_failed one.outcome))) []).asked < 2 ^ 63 → Done
  took_none how is outcome stays told follows few_too =
      let failed : has_failed one.outcome ≡ true = ap has_failed outcome in
      let few_behind : (after_all t (texts_of behind) []).asked < 2 ^ 63 = subst (λ (b : Bool). (after_all t (texts_of (all b)) []).asked < 2 ^ 63) failed few_too in
      let rest = follows (gathered how) (after how s stmt) t stays told.4 (seen_at how told.3) (few_at how told.3) few_behind in
      subst (λ (b : Bool). Took t (left_alone more s (Ok stmt ∷ spelt) (one ∷ answers) broken) (all b)) (sym failed) (
        rest.0,
        subst (λ (ts : Tables). TablesAlike ts (after_all t (texts_of behind) [])) (sym (left_at how is)) rest.1,
      )

  step_on : (how : How) → head_of broken ≡ how → Told how → Follows → (after_all t (texts_of (all (has_failed one.outcome))) []).asked < 2 ^ 63 → Done
  step_on Alone is told follows few_too =
      took_effect Alone is (unfailed g s stmt one.outcome x.seen lawful.2.1 told.3) told.2 (λ soon soon_too. after_alike s t alike soon soon_too stmt) told follows few_too
  step_on (CutAfter n) is told follows few_too = took_none (CutAfter n) is told.2.outcome (cut_alike s t stmt n alike) told follows few_too
  step_on With is told follows few_too =
      took_effect With is (ap has_failed told.2.outcome ∙ member_sound s stmt told.1) told.2 (λ soon soon_too. parted_alike s t alike soon soon_too stmt told.1) told follows few_too
  step_on CutWith is told follows few_too = took_none CutWith is told.2.outcome (cut_with_alike s t stmt alike) told follows few_too

pub effects_on : (Leaves : Public → Stmt → Seen → Type 0) (g : Option Gathering) (ending : Ending) (more : Option (List Stmt)) (spelt : List Spelt) (s t : Session) (broken : Broken) (answers : List Answer) (seen : List Served) (part : List ℕ)
    → SessionsAlike s t → AnswersAlone ending s spelt broken answers seen part → SeenAlone Leaves s.public s.asked g spelt answers seen → s.asked + length (trace s.public seen) < 2 ^ 63
    → (after_all t (texts_of (effects_of more spelt answers)) []).asked < 2 ^ 63 → Took t (left_alone more s spelt answers broken) (effects_of more spelt answers)
unfolding AnswersAlone SeenAlone effects_of AnsweredInOne
effects_on Leaves g ending more [] s t broken [] seen part alike told lawful few few_too = one_more s t alike (omega (arith, few)) more [] broken few_too
effects_on Leaves g ending more [] s t broken (one ∷ answers) seen part alike told lawful few few_too = absurd (cc told.0)
effects_on Leaves g ending more (x ∷ spelt) s t broken [] seen part alike told lawful few few_too = one_more s t alike (omega (arith, few)) more (x ∷ spelt) broken few_too
effects_on Leaves g ending more (Err at ∷ spelt) s t broken (one ∷ answers) seen part alike told lawful few few_too =
    let whole : has_failed one.outcome ≡ false = ap (λ (a : Answer). has_failed a.outcome) told.0 in
    let behind : List Effect = effects_of more spelt answers in
    let here : Effect = record { text = Err at; answer = Some one } in
    let rest = effects_on Leaves None ending more spelt s t (rest_of broken) answers seen part alike told.1 lawful.1 few
    (subst (λ (b : Bool). (after_all t (texts_of (if b then behind else here ∷ behind)) []).asked < 2 ^ 63) whole few_too) in
    subst (λ (b : Bool). Took t (left_alone more s (Err at ∷ spelt) (one ∷ answers) broken) (if b then behind else here ∷ behind)) (sym whole)
    ((told.0, rest.0), subst (λ (ts : Tables). TablesAlike ts (after_all t (texts_of behind) [])) (sym (alone_refused more s spelt one answers broken at)) rest.1)
effects_on Leaves g ending more (Ok stmt ∷ spelt) s t broken (one ∷ answers) [] part alike told lawful few few_too = absurd told
effects_on Leaves g ending more (Ok stmt ∷ spelt) s t broken (one ∷ answers) (x ∷ seen) part alike told lawful few few_too =
    step_on Leaves g ending more stmt spelt s t broken one answers x seen part alike lawful few (head_of broken) refl told
    (λ h u v same from are fewer enough. effects_on Leaves h ending more spelt u v (rest_of broken) answers seen part same from are fewer enough) few_too

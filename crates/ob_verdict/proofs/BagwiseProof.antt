-- A session over tables in place answers what the session over the same bags does.
use Rattle.std.proofs.Common.{◌≡◌, ◌⊎◌, inl, inr, ◌≤◌, ◌<◌, ◌^◌, ◌+◌, ℕ, Bool, true, false, List, [], ◌∷◌, length, refl, sym, ◌∙◌, ap, subst, cond, arith}
use Rattle.std.proofs.lemmas.Bool.Decides.{nat_tests}
use Rattle.std.specs.Prelude.{Option, Some, None, Ok, Err, IsSome, is_some, nat_lt, if◌then◌else◌}
use Rattle.std.specs.Option.{option_map, option_or}
use Rattle.ob_base.specs.declared.config.Plan.TheVariants.{Small, Large, Continuous, Hash}
use Rattle.ob_base.specs.declared.config.Planner.{Planner}
use Rattle.ob_base.specs.declared.config.Planner.TheVariants.{Auto, Cheapest, Forced}
use Rattle.ob_base.specs.declared.config.Public.{Public}
use Rattle.ob_base.specs.declared.refusal.Refusal.{Refusal}
use Rattle.ob_base.specs.declared.refusal.Refusal.TheVariants.{NotConsecutive, Overflow, PadPassed}
use Rattle.ob_row.specs.Slots.{is_consecutive}
use Rattle.ob_row.proofs.BagLemmas.{Same-trans}
use Rattle.ob_script.specs.Script.{script}
use Rattle.ob_sql.specs.declared.stmt.Stmt.{Stmt}
use Rattle.ob_sql.specs.declared.stmt.Stmt.TheVariants.{Create, Insert, Update, Delete, Drop as DropTable, SelectRows as RowsStmt, SelectTotals as TotalsStmt}
use Rattle.ob_sql.specs.Skeleton.{skeleton}
use Rattle.ob_mean.specs.declared.answer.Answer.{Answer}
use Rattle.ob_mean.specs.declared.answer.Answer.TheVariants.{Refused}
use Rattle.ob_mean.specs.Replay.{Alone, Broken, CutAfter, CutWith, How, Session, With, Spelt, after, after_all, answer_or_cut, answers, head_of, is_full_now, rest_of, seen_or_cut, settle_or_cut}
use Rattle.ob_mean.specs.SameMeaning.{SameAnswer, SameTables}
use Rattle.ob_mean.specs.Settle.{settle}
use Rattle.ob_mean.specs.Step.{Database, accepted_answer, accepted_next, answered, followed, refusal_of, step_answer, step_next}
use Rattle.ob_mean.specs.Verdict.{Accessed, Draws, Tables, accessed, database, first_unplaced, forced_refusal, is_full, is_late, last_refusal, refusal_by, rows_refusal, selected_places, verdict}
use Rattle.ob_mean.proofs.ReplayLemmas.{after_room, answers_room}
use Rattle.ob_mean.proofs.SameProof.{meaning_is_of_bags}
use Rattle.ob_mean.specs.Refusals.{limits_of}
use Rattle.ob_verdict.proofs.InPlaceProof.{keeps_in_place}
use Rattle.ob_verdict.proofs.SettleProof.{settles}
use Rattle.ob_verdict.specs.Bagwise.{AnswersMeant, NoneIsFull, IsByPlan, IsForced, SessionsAreBagwise, bag_answer, bag_answers, bag_next, bags_after}
use Rattle.ob_verdict.specs.Laws.{AreInPlace}

SameTables-trans : (a b c : Database) → SameTables a b → SameTables b c → SameTables a c
SameTables-trans [] b c s t = subst (λ (db : Database). SameTables db c) s t
SameTables-trans (x ∷ a) [] c s t = absurd s
SameTables-trans (x ∷ a) (y ∷ b) [] s t = absurd t
SameTables-trans (x ∷ a) (y ∷ b) (z ∷ c) s t = (s.0 ∙ t.0, Same-trans x.held y.held z.held s.1 t.1, SameTables-trans a b c s.2 t.2)

-- ---- the last refusal is the plan's or the padding's
consecutive_by : (b : Bool) (r : Refusal) → cond b None (Some NotConsecutive) ≡ Some r → NotConsecutive ≡ r
consecutive_by true r h = absurd (cc h)
consecutive_by false r h = cc h

forced_by_plan : (p : Public) (planner : Planner) (places : List ℕ) (r : Refusal) → p.planner ≡ planner → forced_refusal p planner places ≡ Some r → IsByPlan p (Refused r)
forced_by_plan p (Forced Continuous) places r is h = subst (λ q. IsByPlan p (Refused q)) (consecutive_by (is_consecutive places) r h) is
forced_by_plan p (Forced Hash) places r is h = go (first_unplaced p places) h
  where
    go : (left : Option ℕ) → option_map Overflow left ≡ Some r → IsByPlan p (Refused r)
    go None h = absurd (cc h)
    go (Some i) h = let same : Overflow i ≡ r = cc h in subst (λ q. IsByPlan p (Refused q)) same is
forced_by_plan p other places r is h = absurd (cc h)

padded_by : (b : Bool) (r : Refusal) → cond b (Some PadPassed) None ≡ Some r → PadPassed ≡ r
padded_by true r h = cc h
padded_by false r h = absurd (cc h)

by_plan : (p : Public) (pad : Option ℕ) (places : List ℕ) (r : Refusal) → p.pad ≡ pad → refusal_by pad p places ≡ Some r → IsByPlan p (Refused r)
by_plan p None [] r is h = absurd (cc h)
by_plan p None (i ∷ places) r is h = forced_by_plan p p.planner (i ∷ places) r refl h
by_plan p (Some pad) places r is h =
    subst (λ q. IsByPlan p (Refused q)) (padded_by (nat_lt pad (length places)) r h) (subst (λ (o : Option ℕ). IsSome o) (sym is) refl)

last_by_plan : (p : Public) (ts : Tables) (stmt : Stmt) (r : Refusal) → last_refusal p ts stmt ≡ Some r → IsByPlan p (Refused r)
last_by_plan p ts (RowsStmt q) r h = go (accessed ts (RowsStmt q)) h
  where
    go : (o : Option Accessed) → (if is_some o then None else rows_refusal p (selected_places p q ts)) ≡ Some r → IsByPlan p (Refused r)
    go None h = by_plan p p.pad (selected_places p q ts) r refl h
    go (Some a) h = absurd (cc h)
last_by_plan p ts other r h = absurd (cc h)

-- ---- one statement
-- as the meaning's, except for a refusal that comes last
answered_last : (p : Public) (r l : Option Refusal) (x y : Answer) → ((q : Refusal) → l ≡ Some q → IsByPlan p (Refused q)) → SameAnswer (answered r x) y
    → SameAnswer (answered (option_or r l) x) y ⊎ IsByPlan p (answered (option_or r l) x)
answered_last p None None x y by same = inl same
answered_last p None (Some q) x y by same = inr (by q refl)
answered_last p (Some q) l x y by same = inl same

verdict_meant : (p : Public) (m : ℕ) (ts : Tables) (db : Database) (stmt : Stmt) → m < 2 ^ 63 → SameTables (database ts) db
    → SameAnswer (verdict p m ts stmt) (step_answer p db stmt) ⊎ IsByPlan p (verdict p m ts stmt)
verdict_meant p m ts db stmt few same =
    let early : is_late m ≡ false = grind (arith, nat_tests) in
    subst (λ late. SameAnswer (answered (option_or (refusal_of late (limits_of p) (database ts) stmt) (last_refusal p ts stmt)) (accepted_answer (database ts) stmt)) (step_answer p db stmt)
    ⊎ IsByPlan p (answered (option_or (refusal_of late (limits_of p) (database ts) stmt) (last_refusal p ts stmt)) (accepted_answer (database ts) stmt))) (sym early)
    (answered_last p (refusal_of false (limits_of p) (database ts) stmt) (last_refusal p ts stmt) (accepted_answer (database ts) stmt) (step_answer p db stmt) (last_by_plan p ts stmt)
    (meaning_is_of_bags p (database ts) db stmt same).answer)

settle_meant : (d : Draws) (p : Public) (m : ℕ) (ts : Tables) (db : Database) (stmt : Stmt) → m < 2 ^ 63 → AreInPlace p.stash ts → is_full d p m ts stmt ≡ false → SameTables (database ts) db
    → SameTables (database (settle d p m ts stmt)) (step_next p db stmt)
settle_meant d p m ts db stmt few place room same =
    SameTables-trans _ (step_next p (database ts) stmt) _ (settles d p m ts stmt few place room) (meaning_is_of_bags p (database ts) db stmt same).next

module _ (s : Session) (db : Database) (stmt : Stmt) (few : s.asked < 2 ^ 63) (place : AreInPlace s.public.stash s.tables) (room : is_full_now s stmt ≡ false) (same : SameTables (database s.tables) db) where
  answer_meant : (how : How) → SameAnswer (answer_or_cut how s stmt) (bag_answer how s.public db stmt) ⊎ IsByPlan s.public (answer_or_cut how s stmt)
  answer_meant Alone = verdict_meant s.public s.asked s.tables db stmt few same
  answer_meant (CutAfter n) = inl refl
  answer_meant With = verdict_meant s.public s.asked s.tables db stmt few same
  answer_meant CutWith = inl refl

  next_meant : (how : How) → SameTables (database (settle_or_cut how s stmt)) (bag_next how s.public db stmt)
  next_meant Alone = settle_meant s.draws s.public s.asked s.tables db stmt few place room same
  next_meant (CutAfter n) = same
  next_meant With = settle_meant s.draws s.public s.asked s.tables db stmt few place room same
  next_meant CutWith = same

  next_in_place : (how : How) → AreInPlace s.public.stash (settle_or_cut how s stmt)
  next_in_place Alone = keeps_in_place s.draws s.public s.asked s.tables stmt place
  next_in_place (CutAfter n) = place
  next_in_place With = keeps_in_place s.draws s.public s.asked s.tables stmt place
  next_in_place CutWith = place

-- ---- all of them
asked_more : (s : Session) (texts : List Spelt) (bs : Broken) → NoneIsFull s texts bs → s.asked ≤ (after_all s texts bs).asked
asked_more s [] bs rooms = omega arith
asked_more s (Ok stmt ∷ texts) bs rooms =
    let rest = asked_more (after (head_of bs) s stmt) texts (rest_of bs) rooms.1 in
    let here : (after (head_of bs) s stmt).asked ≡ s.asked + length (script s.public (skeleton stmt) (seen_or_cut (head_of bs) s stmt)) = refl in
    let behind = ap (λ (t : Session). t.asked) (after_room s stmt texts bs rooms.0) in
    omega (arith, rest, here, behind)
asked_more s (Err at ∷ texts) bs rooms = asked_more s texts (rest_of bs) rooms

-- of two lots of settings that are the same except for tables and regions, as after each statement
record IsLike (p q : Public) : Type 0 where
  limits : limits_of p ≡ limits_of q
  planner : p.planner ≡ q.planner
  pad : p.pad ≡ q.pad

module _ (p q : Public) (like : IsLike p q) (db : Database) where
  by_plan_like : (x : Answer) → IsByPlan p x → IsByPlan q x
  by_plan_like x h = subst (λ (planner : Planner). IsForced planner q.pad x) like.planner (subst (λ (pad : Option ℕ). IsForced p.planner pad x) like.pad h)

  answer_like : (how : How) (stmt : Stmt) → bag_answer how p db stmt ≡ bag_answer how q db stmt
  answer_like Alone stmt = λ i. answered (refusal_of false (like.limits i) db stmt) (accepted_answer db stmt)
  answer_like (CutAfter n) stmt = refl
  answer_like With stmt = λ i. answered (refusal_of false (like.limits i) db stmt) (accepted_answer db stmt)
  answer_like CutWith stmt = refl

  next_like : (how : How) (stmt : Stmt) → bag_next how p db stmt ≡ bag_next how q db stmt
  next_like Alone stmt = λ i. followed (refusal_of false (like.limits i) db stmt) (accepted_next db stmt) db
  next_like (CutAfter n) stmt = refl
  next_like With stmt = λ i. followed (refusal_of false (like.limits i) db stmt) (accepted_next db stmt) db
  next_like CutWith stmt = refl

  meant_like : (how : How) (stmt : Stmt) (x : Answer) → SameAnswer x (bag_answer how p db stmt) ⊎ IsByPlan p x → SameAnswer x (bag_answer how q db stmt) ⊎ IsByPlan q x
  meant_like how stmt x (inl same) = inl (subst (SameAnswer x) (answer_like how stmt) same)
  meant_like how stmt x (inr forced) = inr (by_plan_like x forced)

bagwise : (p : Public) (s : Session) (db : Database) (texts : List Spelt) (bs : Broken) → IsLike s.public p → AreInPlace s.public.stash s.tables → SameTables (database s.tables) db
    → NoneIsFull s texts bs → (after_all s texts bs).asked < 2 ^ 63
    → AnswersMeant p (answers s texts bs) (bag_answers p db texts bs) × SameTables (database (after_all s texts bs).tables) (bags_after p db texts bs)
bagwise p s db [] bs like place same rooms few = (refl, same)
bagwise p s db (Ok stmt ∷ texts) bs like place same rooms few =
    let how = head_of bs in
    let behind = after_room s stmt texts bs rooms.0 in
    let few_behind : (after_all (after how s stmt) texts (rest_of bs)).asked < 2 ^ 63 = subst (λ (t : Session). t.asked < 2 ^ 63) behind few in
    let here : s.asked < 2 ^ 63 = omega (arith, few, asked_more s (Ok stmt ∷ texts) bs rooms) in
    let next = subst (SameTables (database (settle_or_cut how s stmt))) (next_like s.public p like db how stmt) (next_meant s db stmt here place rooms.0 same how) in
    let rest = bagwise p (after how s stmt) (bag_next how p db stmt) texts (rest_of bs)
    (record { limits = like.limits; planner = like.planner; pad = like.pad }) (next_in_place s db stmt here place rooms.0 same how) next rooms.1 few_behind in (
      subst (λ (xs : List Answer). AnswersMeant p xs (bag_answers p db (Ok stmt ∷ texts) bs)) (sym (answers_room s stmt texts bs rooms.0))
          (meant_like s.public p like db how stmt (answer_or_cut how s stmt) (answer_meant s db stmt here place rooms.0 same how), rest.0),
      subst (λ (t : Session). SameTables (database t.tables) (bags_after p db (Ok stmt ∷ texts) bs)) (sym behind) rest.1,
    )
bagwise p s db (Err at ∷ texts) bs like place same rooms few =
    let rest = bagwise p s db texts (rest_of bs) like place same rooms few in
    ((inl refl, rest.0), rest.1)

pub sessions_are_bagwise : SessionsAreBagwise
sessions_are_bagwise s db texts bs place same rooms few =
    let both = bagwise s.public s db texts bs (record { limits = refl; planner = refl; pad = refl }) place same rooms few in
    record { answers = both.0; after = both.1 }

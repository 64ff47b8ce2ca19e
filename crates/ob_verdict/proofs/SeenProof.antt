-- What the seen of a statement tells.
use Rattle.std.proofs.Common.{◌≡◌, ◌≢◌, ℕ, Bool, true, false, List, [], ◌∷◌, length, refl, sym, ◌∙◌, ap, subst, cond}
use Rattle.std.specs.Prelude.{Option, Some, None, IsSome, is_some, nat_le, ◌*◌, if◌then◌else◌}
use Rattle.ob_base.specs.declared.config.Public.{Public}
use Rattle.ob_base.specs.declared.config.Plan.{Plan}
use Rattle.ob_base.specs.declared.config.Plan.TheVariants.{Small, Large, Continuous, Hash}
use Rattle.ob_base.specs.declared.config.Planner.{Planner}
use Rattle.ob_base.specs.declared.config.Planner.TheVariants.{Auto, Cheapest, Forced}
use Rattle.ob_base.specs.declared.seen.Seen.{Seen}
use Rattle.ob_base.specs.declared.seen.End.{End}
use Rattle.ob_base.specs.declared.seen.End.TheVariants.{Static, Whole, AfterCount}
use Rattle.ob_base.specs.declared.refusal.Refusal.{Refusal}
use Rattle.ob_base.specs.declared.refusal.Refusal.TheVariants.{NotConsecutive, Duplicate, Full as FullTable, KeyRange, TooManyGroups, Overflow, PadPassed}
use Rattle.ob_base.specs.declared.schema.Shape.{Shape}
use Rattle.ob_base.specs.declared.schema.Shape.TheVariants.{Flat, Indexed}
use Rattle.ob_base.specs.Indexes.{by_shape}
use Rattle.ob_mean.specs.Step.{late_refusal, insert_refusal, new_row, Database, overgroups, totals_columns, totalled_rows}
use Rattle.ob_mean.proofs.VerdictLemmas.{headings-database}
use Rattle.ob_mean.specs.Verdict.{database, refusal, last_refusal, refusal_by, unpadded_refusal, forced_refusal, first_unplaced, fallback, source_slots, selected_places}
use Rattle.ob_base.specs.Plans.{choose, continuous_length, large_length, least, small_length}
use Rattle.ob_base.proofs.PlanLemmas.{by_least}
use Rattle.std.specs.Option.{option_map, option_map_or, option_or}
use Rattle.ob_sql.specs.declared.stmt.Stmt.{Stmt}
use Rattle.ob_sql.specs.declared.stmt.Stmt.TheVariants.{Create, Insert, Update, Delete, Drop as DropTable, SelectRows as RowsStmt, SelectTotals as TotalsStmt}
use Rattle.ob_row.specs.Slots.{is_consecutive}
use Rattle.ob_mean.specs.Verdict.{Accessed, Draws, Tables, accessed, rows_refusal, seen_rows, seen_served, seen, seen_started, seen_by, seen_unpadded, seen_with, ended, counted, is_late, plan_for}
use Rattle.ob_mean.specs.Refusals.{early_refusal, limits_of}
use Rattle.ob_base.specs.Limits.{buffered}
use Rattle.ob_base.specs.Stored.{Stored, headings, stored_at}
use Rattle.ob_row.specs.Rows.{Row}
use Rattle.ob_mean.specs.Lawful.{selects_rows}
use Rattle.ob_verdict.specs.Laws.{AccessShowsLeaf, IsStarted, ShowsKindAlone, PaddedShowsKind, PlanIsWhole, ShowsPlanAlone, CheapestAccepts, CheapestShows, ShowsNotConsecutive}

seen-started : (d : Draws) (p : Public) (m : ℕ) (ts : Tables) (stmt : Stmt) → IsStarted p m ts stmt → seen d p m ts stmt ≡ seen_served d (accessed ts stmt) p ts stmt
seen-started d p m ts stmt h = ap (λ r. cond (is_some r) (ended Static) (seen_served d (accessed ts stmt) p ts stmt)) h

seen-flat : (d : Draws) (p : Public) (m : ℕ) (ts : Tables) (stmt : Stmt) → IsStarted p m ts stmt → accessed ts stmt ≡ None → seen d p m ts stmt ≡ seen_started p ts stmt
seen-flat d p m ts stmt h unkeyed = seen-started d p m ts stmt h ∙ ap (λ o. seen_served d o p ts stmt) unkeyed

pub access_shows_leaf : AccessShowsLeaf
access_shows_leaf d p m ts stmt a h is = seen-started d p m ts stmt h ∙ ap (λ o. seen_served d o p ts stmt) is

started-kind : (p : Public) (ts : Tables) (stmt : Stmt) → selects_rows stmt ≡ false → seen_started p ts stmt ≡ ended Whole
started-kind p ts (RowsStmt q) h = cc
started-kind p ts other h = refl

pub shows_kind_alone : ShowsKindAlone
shows_kind_alone d p m ts stmt h unkeyed k = seen-flat d p m ts stmt h unkeyed ∙ started-kind p ts stmt k

-- ---- a padded result
seen_by-padded : (pad : Option ℕ) (p : Public) (n : ℕ) (places : List ℕ) → IsSome pad → seen_by pad p n places ≡ ended Whole
seen_by-padded None p n places h = absurd (cc)
seen_by-padded (Some pad) p n places h = refl

padded-kind : (p : Public) (ts : Tables) (stmt : Stmt) → IsSome p.pad → seen_started p ts stmt ≡ ended Whole
padded-kind p ts (RowsStmt q) h = seen_by-padded p.pad p _ _ h
padded-kind p ts other h = refl

pub padded_shows_kind : PaddedShowsKind
padded_shows_kind d p m ts stmt h unkeyed padded = seen-flat d p m ts stmt h unkeyed ∙ padded-kind p ts stmt padded

-- a fact of both choices
of_cond : (P : Seen → Type 0) (b : Bool) (x y : Seen) → P x → P y → P (cond b x y)
of_cond P true x y h k = h
of_cond P false x y h k = k

-- where a plan is taken the statement comes to its end, and no leaf is read
PlanEnds : Seen → Type 0
PlanEnds s = (x : Plan) → s.plan ≡ Some x → (s.end ≡ Whole) × (s.leaf ≡ None)

ended-plan : (end : End) → PlanEnds (ended end)
unfolding PlanEnds
ended-plan end x h = cc

seen_with-plan : (p : Public) (plan : Plan) (places : List ℕ) → PlanEnds (seen_with p plan places)
unfolding PlanEnds
seen_with-plan p Continuous places = of_cond PlanEnds (is_consecutive places) _ _ (λ x h. (refl, refl)) (λ x h. cc)
seen_with-plan p other places = λ x h. (refl, refl)

seen_unpadded-plan : (p : Public) (n : ℕ) (places : List ℕ) → PlanEnds (seen_unpadded p n places)
unfolding PlanEnds
seen_unpadded-plan p n [] = λ x h. (refl, refl)
seen_unpadded-plan p n (i ∷ is) = seen_with-plan p (plan_for p n (i ∷ is)) (i ∷ is)

seen_by-plan : (pad : Option ℕ) (p : Public) (n : ℕ) (places : List ℕ) → PlanEnds (seen_by pad p n places)
seen_by-plan None p n places = seen_unpadded-plan p n places
seen_by-plan (Some pad) p n places = ended-plan Whole

started-plan : (p : Public) (ts : Tables) (stmt : Stmt) → PlanEnds (seen_started p ts stmt)
started-plan p ts (RowsStmt q) = seen_by-plan p.pad p _ _
started-plan p ts other = ended-plan Whole

served-plan : (d : Draws) (o : Option Accessed) (p : Public) (ts : Tables) (stmt : Stmt) → PlanEnds (seen_served d o p ts stmt)
unfolding PlanEnds
served-plan d None p ts stmt = started-plan p ts stmt
served-plan d (Some a) p ts stmt = λ x h. cc

seen_with-unread : (p : Public) (plan : Plan) (places : List ℕ) → (seen_with p plan places).leaf ≡ None
seen_with-unread p Continuous places = of_cond (λ s. s.leaf ≡ None) (is_consecutive places) _ _ refl refl
seen_with-unread p other places = refl

seen_by-unread : (pad : Option ℕ) (p : Public) (n : ℕ) (places : List ℕ) → (seen_by pad p n places).leaf ≡ None
seen_by-unread None p n [] = refl
seen_by-unread None p n (i ∷ is) = seen_with-unread p (plan_for p n (i ∷ is)) (i ∷ is)
seen_by-unread (Some pad) p n places = refl

-- a statement that accesses no index reads no leaf
pub started-unread : (p : Public) (ts : Tables) (stmt : Stmt) → (seen_started p ts stmt).leaf ≡ None
started-unread p ts (RowsStmt q) = seen_by-unread p.pad p _ _
started-unread p ts other = refl

all-plan : (d : Draws) (p : Public) (m : ℕ) (ts : Tables) (stmt : Stmt) → PlanEnds (seen d p m ts stmt)
unfolding PlanEnds
all-plan d p m ts stmt = of_cond PlanEnds (is_some (early_refusal (is_late m) (limits_of p) (headings ts) stmt)) _ _ (ended-plan Static) (served-plan d (accessed ts stmt) p ts stmt)

pub plan_is_whole : PlanIsWhole
unfolding PlanEnds
plan_is_whole d p m ts stmt x h = (all-plan d p m ts stmt x h).0

NotSame : Option Refusal → Type 0
NotSame r = r ≡ Some NotConsecutive → ⊥

-- the end after the count and the refusal by rows stand together
Shows : Seen → Option Refusal → Type 0
Shows s r = (s.end ≡ AfterCount → r ≡ Some NotConsecutive) × (r ≡ Some NotConsecutive → s.end ≡ AfterCount)

neither : (end : End) (r : Option Refusal) → (end ≡ AfterCount → ⊥) → NotSame r → Shows (ended end) r
unfolding Shows NotSame
neither end r h k = (λ e. absurd (h e), λ e. absurd (k e))

insert-not : (a b c : Bool) (shape : Shape) → NotSame (cond a (Some Duplicate) (by_shape shape (cond b (Some FullTable) None) (cond c None (Some KeyRange))))
unfolding NotSame
insert-not true b c shape h = cc
insert-not false true c Flat h = cc
insert-not false false c Flat h = cc
insert-not false b true Indexed h = cc
insert-not false b false Indexed h = cc

groups-not : (a : Bool) → NotSame (cond a (Some TooManyGroups) None)
unfolding NotSame
groups-not true h = cc
groups-not false h = cc

stored-not : (f : Stored (List Row) → Row) (o : Option (Stored (List Row))) → NotSame (option_map_or (λ t. insert_refusal t (f t)) o None)
unfolding NotSame
stored-not f None h = cc
stored-not f (Some t) h = insert-not _ _ _ t.heading.shape h

late-not : (s : ℕ) (db : Database) (stmt : Stmt) → NotSame (late_refusal s db stmt)
unfolding NotSame
late-not s db (Insert table b c) h = stored-not (λ t. new_row t.heading.schema b c) (stored_at table db) h
late-not s db (TotalsStmt q) h = groups-not _ h
late-not s db other h = cc

-- a plan's refusal: Continuous where the places are not consecutive, and never another
overflow-not : (o : Option ℕ) → NotSame (option_map Overflow o)
unfolding NotSame
overflow-not None h = cc
overflow-not (Some i) h = cc

continuous-shows : (b : Bool) (k : ℕ) → Shows (cond b (counted k (Some Continuous) None Whole) (counted k None None AfterCount)) (cond b None (Some NotConsecutive))
unfolding Shows
continuous-shows true k = (λ e. cc, λ e. cc)
continuous-shows false k = (λ e. refl, λ e. refl)

-- a plan that isn't forced is Continuous only where the places are consecutive
unforced-shows : (p : Public) (places : List ℕ) (a d : Bool) → Shows (seen_with p (cond a Small (cond (is_consecutive places) Continuous (cond d Large Hash))) places) None
unfolding Shows
unforced-shows p places true d = (λ e. cc, λ e. cc)
unforced-shows p places false d = go (is_consecutive places) refl where
  last : (d : Bool) → Shows (seen_with p (cond d Large Hash) places) None
  last true = (λ e. cc, λ e. cc)
  last false = (λ e. cc, λ e. cc)

  go : (c : Bool) → is_consecutive places ≡ c → Shows (seen_with p (cond c Continuous (cond d Large Hash)) places) None
  go true e = subst (λ c. Shows (cond c (counted (length places) (Some Continuous) None Whole) (counted (length places) None None AfterCount)) None) (sym e) (λ e. cc, λ e. cc)
  go false e = last d

-- nor is the plan with the shortest script
cheapest-shows : (p : Public) (places : List ℕ) (small continuous large : ℕ) → Shows (seen_with p (least small continuous large (is_consecutive places)) places) None
unfolding Shows
cheapest-shows p places small continuous large =
    by_least (λ plan. Shows (seen_with p plan places) None) small continuous large (is_consecutive places) (λ e. cc, λ e. cc) (λ e. cc, λ e. cc)
    (λ is. subst (λ c. Shows (cond c (counted (length places) (Some Continuous) None Whole) (counted (length places) None None AfterCount)) None) (sym is) (λ e. cc, λ e. cc))

plan-shows : (p : Public) (pack rows n k : ℕ) (places : List ℕ) (planner : Planner)
    → Shows (seen_with p (choose planner pack rows n k (is_consecutive places)) places) (forced_refusal p planner places)
unfolding Shows NotSame
plan-shows p pack rows n k places (Forced Small) = (λ e. cc, λ e. cc)
plan-shows p pack rows n k places (Forced Large) = (λ e. cc, λ e. cc)
plan-shows p pack rows n k places (Forced Continuous) = continuous-shows (is_consecutive places) (length places)
plan-shows p pack rows n k places (Forced Hash) = (λ e. cc, λ e. absurd (overflow-not (first_unplaced p places) e))
plan-shows p pack rows n k places Auto = unforced-shows p places (nat_le k (4 * buffered pack rows)) (nat_le (3 * n) (4 * k))
plan-shows p pack rows n k places Cheapest = cheapest-shows p places (small_length pack rows n k) (continuous_length pack n k) (large_length pack n)

unpadded-shows : (p : Public) (n : ℕ) (places : List ℕ) → Shows (seen_unpadded p n places) (unpadded_refusal p places)
unfolding Shows
unpadded-shows p n [] = (λ e. cc, λ e. cc)
unpadded-shows p n (i ∷ is) = plan-shows p p.pack p.buffer n (length (i ∷ is)) (i ∷ is) p.planner

passed-not : (b : Bool) → NotSame (cond b (Some PadPassed) None)
unfolding NotSame
passed-not true h = cc
passed-not false h = cc

rows-shows : (pad : Option ℕ) (p : Public) (n : ℕ) (places : List ℕ) → Shows (seen_by pad p n places) (refusal_by pad p places)
rows-shows None p n places = unpadded-shows p n places
rows-shows (Some pad) p n places = neither Whole _ (λ e. cc) (passed-not _)

or_none : (a : Option Refusal) → a ≡ option_or a None
or_none None = refl
or_none (Some x) = refl

groups-not-either : (b : Bool) → NotSame (option_or (cond b (Some TooManyGroups) None) None)
unfolding NotSame
groups-not-either true h = cc
groups-not-either false h = cc

-- by what a statement accesses
late-shows : (p : Public) (ts : Tables) (stmt : Stmt) → accessed ts stmt ≡ None
    → Shows (seen_started p ts stmt) (option_or (late_refusal (buffered p.pack p.buffer) (database ts) stmt) (last_refusal p ts stmt))
unfolding Shows NotSame
late-shows p ts (Create a b c e) unkeyed = (λ e. cc, λ e. cc)
late-shows p ts (Insert a b c) unkeyed = (λ e. cc, λ e. absurd (late-not (buffered p.pack p.buffer) (database ts) (Insert a b c) (or_none _ ∙ e)))
late-shows p ts (RowsStmt q) unkeyed =
    subst (λ (o : Option Accessed). Shows (seen_rows p (length (source_slots p q.source ts)) (selected_places p q ts)) (if is_some o then None else rows_refusal p (selected_places p q ts))) (sym unkeyed)
    (rows-shows p.pad p (length (source_slots p q.source ts)) (selected_places p q ts))
late-shows p ts (TotalsStmt q) unkeyed =
    (λ e. cc, λ e. absurd (groups-not-either (overgroups (buffered p.pack p.buffer) q.group (totals_columns q (headings (database ts))) (totalled_rows q (database ts))) e))
late-shows p ts other unkeyed = (λ e. cc, λ e. cc)

access-not : (p : Public) (ts : Tables) (stmt : Stmt) (a : Accessed) → accessed ts stmt ≡ Some a → NotSame (option_or (late_refusal (buffered p.pack p.buffer) (database ts) stmt) (last_refusal p ts stmt))
unfolding NotSame
access-not p ts (Insert a b c) x is h = late-not (buffered p.pack p.buffer) (database ts) (Insert a b c) (or_none _ ∙ h)
access-not p ts (RowsStmt q) x is h =
    let none : None ≡ Some NotConsecutive = sym (ap (λ (o : Option Accessed). if is_some o then None else rows_refusal p (selected_places p q ts)) is) ∙ h in cc none
access-not p ts (TotalsStmt q) x is h = groups-not-either (overgroups (buffered p.pack p.buffer) q.group (totals_columns q (headings (database ts))) (totalled_rows q (database ts))) h
access-not p ts other x is h = cc

served-shows : (d : Draws) (p : Public) (ts : Tables) (stmt : Stmt) (o : Option Accessed) → accessed ts stmt ≡ o
    → Shows (seen_served d o p ts stmt) (option_or (late_refusal (buffered p.pack p.buffer) (database ts) stmt) (last_refusal p ts stmt))
unfolding Shows NotSame
served-shows d p ts stmt None unkeyed = late-shows p ts stmt unkeyed
served-shows d p ts stmt (Some a) is = (λ e. cc, λ e. absurd (access-not p ts stmt a is e))

pub shows_not_consecutive : ShowsNotConsecutive
unfolding Shows
shows_not_consecutive d p m ts stmt h =
    let hs : early_refusal (is_late m) (limits_of p) (headings (database ts)) stmt ≡ None = subst (λ w. early_refusal (is_late m) (limits_of p) w stmt ≡ None) (sym (headings-database ts)) h in
    let s : seen d p m ts stmt ≡ seen_served d (accessed ts stmt) p ts stmt = seen-started d p m ts stmt h in
    let r : refusal p m ts stmt ≡ option_or (late_refusal (buffered p.pack p.buffer) (database ts) stmt) (last_refusal p ts stmt) =
    ap (λ e. option_or (option_or e (late_refusal (buffered p.pack p.buffer) (database ts) stmt)) (last_refusal p ts stmt)) hs in
    let both = served-shows d p ts stmt (accessed ts stmt) refl in
    (λ e. r ∙ both.0 (sym (ap (λ x. x.end) s) ∙ e), λ e. ap (λ x. x.end) s ∙ both.1 (sym r ∙ e))

-- ---- a plan that is forced, or the one with the shortest script, has none after it
NoSecond : Planner → Seen → Type 0
NoSecond planner x = planner ≢ Auto → x.then ≡ None

fallback-none : (planner : Planner) (left : Option ℕ) → planner ≢ Auto → fallback planner left ≡ None
fallback-none Auto left other = absurd (other refl)
fallback-none Cheapest left other = refl
fallback-none (Forced plan) left other = refl

seen_with-second : (p : Public) (plan : Plan) (places : List ℕ) → NoSecond p.planner (seen_with p plan places)
unfolding NoSecond
seen_with-second p Small places = λ e. refl
seen_with-second p Large places = λ e. refl
seen_with-second p Continuous places = of_cond (λ s. p.planner ≢ Auto → s.then ≡ None) (is_consecutive places) _ _ (λ e. refl) (λ e. refl)
seen_with-second p Hash places = fallback-none p.planner (first_unplaced p places)

seen_unpadded-second : (p : Public) (n : ℕ) (places : List ℕ) → NoSecond p.planner (seen_unpadded p n places)
unfolding NoSecond
seen_unpadded-second p n [] = λ e. refl
seen_unpadded-second p n (i ∷ is) = seen_with-second p (plan_for p n (i ∷ is)) (i ∷ is)

seen_by-second : (pad : Option ℕ) (p : Public) (n : ℕ) (places : List ℕ) → NoSecond p.planner (seen_by pad p n places)
unfolding NoSecond
seen_by-second None p n places = seen_unpadded-second p n places
seen_by-second (Some pad) p n places = λ e. refl

started-second : (p : Public) (ts : Tables) (stmt : Stmt) → NoSecond p.planner (seen_started p ts stmt)
unfolding NoSecond
started-second p ts (RowsStmt q) = seen_by-second p.pad p _ _
started-second p ts other = λ e. refl

served-second : (d : Draws) (o : Option Accessed) (p : Public) (ts : Tables) (stmt : Stmt) → NoSecond p.planner (seen_served d o p ts stmt)
unfolding NoSecond
served-second d None p ts stmt = started-second p ts stmt
served-second d (Some a) p ts stmt = λ e. refl

all-second : (d : Draws) (p : Public) (m : ℕ) (ts : Tables) (stmt : Stmt) → NoSecond p.planner (seen d p m ts stmt)
unfolding NoSecond
all-second d p m ts stmt =
    of_cond (λ s. p.planner ≢ Auto → s.then ≡ None) (is_some (early_refusal (is_late m) (limits_of p) (headings ts) stmt)) _ _ (λ e. refl) (served-second d (accessed ts stmt) p ts stmt)

pub shows_plan_alone : ShowsPlanAlone
unfolding PlanEnds NoSecond
shows_plan_alone d e p m ts us a b plan other x y k =
    let s = seen d p m ts a in
    let t = seen e p m us b in
    let plans : s.plan ≡ t.plan = x ∙ sym y in
    let seconds : s.then ≡ t.then = all-second d p m ts a other ∙ sym (all-second e p m us b other) in
    let first = all-plan d p m ts a plan x in
    let second = all-plan e p m us b plan y in
    let leaves : s.leaf ≡ t.leaf = first.1 ∙ sym second.1 in
    let ends : s.end ≡ t.end = first.0 ∙ sym second.0 in
    λ i. record { k = k i; plan = plans i; then = seconds i; leaf = leaves i; end = ends i }

-- ---- the shortest script
-- no Hash, and no end after the count
IsPlain : Seen → Type 0
IsPlain x = (x.plan ≢ Some Hash) × (x.end ≢ AfterCount)

whole-plain : IsPlain (ended Whole)
unfolding IsPlain
whole-plain = (λ e. cc, λ e. cc)

least-plain : (p : Public) (places : List ℕ) (small continuous large : ℕ) → IsPlain (seen_with p (least small continuous large (is_consecutive places)) places)
unfolding IsPlain
least-plain p places small continuous large =
    by_least (λ plan. IsPlain (seen_with p plan places)) small continuous large (is_consecutive places) (λ e. cc, λ e. cc) (λ e. cc, λ e. cc)
    (λ is. subst (λ c. IsPlain (cond c (counted (length places) (Some Continuous) None Whole) (counted (length places) None None AfterCount))) (sym is) (λ e. cc, λ e. cc))

planned-plain : (p : Public) (pack rows n k : ℕ) (places : List ℕ) (planner : Planner) → planner ≡ Cheapest
    → IsPlain (seen_with p (choose planner pack rows n k (is_consecutive places)) places)
planned-plain p pack rows n k places Auto e = absurd (cc e)
planned-plain p pack rows n k places Cheapest e = least-plain p places (small_length pack rows n k) (continuous_length pack n k) (large_length pack n)
planned-plain p pack rows n k places (Forced plan) e = absurd (cc e)

unpadded-plain : (p : Public) (n : ℕ) (places : List ℕ) → p.planner ≡ Cheapest → IsPlain (seen_unpadded p n places)
unfolding IsPlain
unpadded-plain p n [] e = (λ e. cc, λ e. cc)
unpadded-plain p n (i ∷ is) e = planned-plain p p.pack p.buffer n (length (i ∷ is)) (i ∷ is) p.planner e

by-plain : (pad : Option ℕ) (p : Public) (n : ℕ) (places : List ℕ) → p.planner ≡ Cheapest → IsPlain (seen_by pad p n places)
by-plain None p n places e = unpadded-plain p n places e
by-plain (Some pad) p n places e = whole-plain

started-plain : (p : Public) (ts : Tables) (stmt : Stmt) → p.planner ≡ Cheapest → IsPlain (seen_started p ts stmt)
started-plain p ts (RowsStmt q) e = by-plain p.pad p _ _ e
started-plain p ts other e = whole-plain

served-plain : (d : Draws) (o : Option Accessed) (p : Public) (ts : Tables) (stmt : Stmt) → p.planner ≡ Cheapest → IsPlain (seen_served d o p ts stmt)
unfolding IsPlain
served-plain d None p ts stmt e = started-plain p ts stmt e
served-plain d (Some a) p ts stmt e = (λ e. cc, λ e. cc)

pub cheapest_shows : CheapestShows
unfolding IsPlain
cheapest_shows d p m ts stmt e =
    of_cond IsPlain (is_some (early_refusal (is_late m) (limits_of p) (headings ts) stmt)) (ended Static) (seen_served d (accessed ts stmt) p ts stmt) (λ e. cc, λ e. cc) (served-plain d (accessed ts stmt) p ts stmt e)

pub cheapest_accepts : CheapestAccepts
cheapest_accepts p places is unpadded = ap (λ (pad : Option ℕ). refusal_by pad p places) unpadded ∙ go places where
  go : (places : List ℕ) → unpadded_refusal p places ≡ None
  go [] = refl
  go (i ∷ more) = ap (λ (planner : Planner). forced_refusal p planner (i ∷ more)) is

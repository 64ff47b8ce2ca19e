-- What is seen of a statement is lawful.
use Rattle.std.proofs.Common.{◌≡◌, inl, inr, ◌≢◌, ℕ, suc, zero, ◌+◌, ◌-◌, ◌*◌, ◌≤◌, ◌<◌, Bool, true, false, List, [], ◌∷◌, ◌++◌, map, length, refl, sym, ◌∙◌, ap, subst, cond, arith}
use Rattle.std.specs.Prelude.{Option, Some, None, IsSome, is_some, nat_le, nat_lt, not, ◌&&◌, ◌^◌}
use Rattle.std.specs.Option.{option_and_then, option_map, option_map_or}
use Rattle.std.proofs.lemmas.Bool.Decides.{nat_tests}
use Rattle.std.proofs.lemmas.List.{length-append, length-map}
use Rattle.std.proofs.Math.Nat.{zero-mul, suc-mul, mul_assoc}
use Rattle.ob_base.specs.declared.access.Access.{Access}
use Rattle.ob_base.specs.declared.access.Access.TheVariants.{Discard}
use Rattle.ob_base.specs.declared.config.Public.{Public}
use Rattle.ob_base.specs.declared.config.Plan.{Plan}
use Rattle.ob_base.specs.declared.config.Plan.TheVariants.{Small, Large, Continuous, Hash}
use Rattle.ob_base.specs.declared.config.Planner.{Planner}
use Rattle.ob_base.specs.declared.config.Planner.TheVariants.{Auto, Cheapest, Forced}
use Rattle.ob_base.specs.declared.seen.Seen.{Seen}
use Rattle.ob_base.specs.declared.seen.End.{End}
use Rattle.ob_base.specs.declared.seen.End.TheVariants.{Static, Whole, AfterCount, Batched, Cut}
use Rattle.ob_base.specs.declared.refusal.Refusal.{Refusal}
use Rattle.ob_base.specs.declared.schema.Heading.{Heading}
use Rattle.ob_base.specs.declared.skeleton.ColumnName.{ColumnName}
use Rattle.ob_base.specs.declared.skeleton.Source.{Source}
use Rattle.ob_base.specs.declared.skeleton.Source.TheVariants.{Table as OneTable, Join}
use Rattle.ob_base.specs.declared.skeleton.Skeleton.{Skeleton}
use Rattle.ob_base.specs.declared.skeleton.Skeleton.TheVariants.{Create as CreateSkeleton, Insert as InsertSkeleton, Update as UpdateSkeleton, Delete as DeleteSkeleton, Drop as DropSkeleton, Rows, Groups}
use Rattle.ob_base.specs.Accesses.{discard_at}
use Rattle.ob_base.specs.Limits.{buffered, buffered_blocks}
use Rattle.ob_base.specs.Lists.{each, places_from}
use Rattle.ob_base.specs.Plans.{choose}
use Rattle.ob_base.proofs.PlanLemmas.{forced_apart}
use Rattle.ob_base.specs.Stored.{Stored, headings, headings_of, stored_at, stored_regions, heading_at}
use Rattle.ob_row.specs.Slots.{Slots, is_consecutive, rows, selected}
use Rattle.ob_row.specs.Results.{joined, joined_chunk, joined_slot, padded, chunk}
use Rattle.ob_sql.specs.declared.stmt.Stmt.{Stmt}
use Rattle.ob_sql.specs.declared.stmt.Stmt.TheVariants.{Create, Insert, Update, Delete, Drop as DropTable, SelectRows as RowsStmt, SelectTotals as TotalsStmt}
use Rattle.ob_sql.specs.Skeleton.{skeleton}
use Rattle.ob_mean.specs.Refusals.{early_refusal, is_indexed, limits_of}
use Rattle.ob_mean.specs.Step.{select_condition}
use Rattle.ob_row.specs.Truth.{is_true}
use Rattle.ob_mean.specs.Verdict.{Accessed, Draws, Held, IsIndexed, Tables, accessed, index_of, keyed_table, leaf_gone, next_draw, seen, seen_access, seen_served, seen_started, seen_by, seen_unpadded, seen_with, ended, counted, is_late, plan_for, fallback, first_unplaced, source_slots, slots_at, selected_places}
use Rattle.ob_mean.specs.Replay.{count_end, cut_at, has_index, is_access, walk_end, ending_len, done_of, held_if}
use Rattle.ob_script.specs.Script.{behind_change, whole_script, with_table, table_script, flat_script, shape_script, index_part_of, mutation_script, join_script, select_part, behind_count, extent_of, blocks_of, rows_width, joined_extent, plan_part, result_blocks}
use Rattle.ob_script.specs.Parts.{count_part, insert_part, join_part, rewrite_part}
use Rattle.ob_script.proofs.Lengths.{length-count_part}
use Rattle.ob_row.specs.Rows.{Row}
use Rattle.std.proofs.lemmas.Grind.{div_ceil_times}
use Rattle.std.proofs.lemmas.List.{length-replicate}
use Rattle.std.specs.Prelude.{replicate}
use Rattle.ob_base.specs.Joins.{chunks, joined_slots}
use Rattle.ob_base.specs.Numbers.{blocks_for}
use Rattle.ob_mean.specs.Lawful.{Lawful, Holds, HoldsLeaf, IsCount, IsPlan, EndsUnplanned, height_at, is_counted, selects_rows, statement_slots, counted_slots, capacity_at, CutUpTo}
use Rattle.ob_verdict.specs.Laws.{AreInPlace, HoldsByShape, SeenIsLawful, CutIsLawful, JoinedIsLawful}
use Rattle.ob_verdict.proofs.AccessedProof.{FlatAt, SourceFlat, access_public, flat_slots, not_index, source_flat}
use Rattle.ob_verdict.proofs.InPlaceProof.{place_at}
use Rattle.ob_verdict.proofs.SeenProof.{started-unread}
use Rattle.ob_mean.proofs.VerdictLemmas.{IsAccess, access_is, heading-stored}
use Rattle.ob_mean.proofs.FlatLemmas.{headings-regions}
use Rattle.ob_mean.specs.Keyed.{one_table, op_of}
use Rattle.ob_verdict.proofs.AccessProof.{next_of}
use Rattle.ob_path.specs.Access.{key_of}
use Rattle.ob_row.specs.Keys.{key_in}
use Rattle.ob_tree.proofs.AccessLemmas.{leaf_below}
use Rattle.ob_base.specs.Indexes.{by_shape, height_of}
use Rattle.ob_base.specs.declared.schema.Shape.{Shape}
use Rattle.ob_base.specs.declared.schema.Shape.TheVariants.{Flat, Indexed}

-- it isn't cut off
abbrev NotCut : End → Type 0
NotCut end = (m : ℕ) → CutUpTo m end

-- the laws of what is seen once a statement has made an access
record Started (p : Public) (stmt : Stmt) (x : Seen) : Type 0 where
  pub not_static : x.end ≢ Static
  pub not_cut : NotCut x.end
  pub holds : Holds p stmt x x.k x.plan x.then
  pub leaf : x.leaf ≡ None

kind_alone : (p : Public) (stmt : Stmt) → is_counted p stmt ≡ false → Started p stmt (ended Whole)
kind_alone p stmt e = record { not_static = λ e. cc; not_cut = λ m. tt; leaf = refl; holds = inl e }

padded_alone : (p : Public) (stmt : Stmt) → IsSome p.pad → Started p stmt (ended Whole)
padded_alone p stmt h = record { not_static = λ e. cc; not_cut = λ m. tt; leaf = refl; holds = inr h }

module _ (p : Public) (stmt : Stmt) (rows : is_counted p stmt ≡ true) (unpadded : p.pad ≡ None) where
  abbrev n : ℕ
  n = statement_slots p stmt

  count_of : (k : ℕ) → k ≤ n → IsCount p stmt k
  count_of k l = record { counted = rows; unpadded = unpadded; most = l }

  no_rows : Started p stmt (counted 0 None None Whole)
  no_rows = record { not_static = λ e. cc; not_cut = λ m. tt; leaf = refl; holds = (count_of 0 (omega arith), refl) }

  plan_of : (k : ℕ) (plan : Plan) (c : Bool) → 1 ≤ k → plan ≡ choose p.planner p.pack p.buffer n k c → IsPlan p stmt k plan
  plan_of k plan c h e = record { some = h; chosen = (c, e) }

  stopped : (k : ℕ) → 1 ≤ k → k ≤ n → p.planner ≡ Forced Continuous → Started p stmt (counted k None None AfterCount)
  stopped k h l e = record { not_static = λ e. cc; not_cut = λ m. tt; leaf = refl; holds = (count_of k l, (h, e)) }

  -- a plan after Hash is Small, where none is forced
  hash_holds : (k : ℕ) (planner : Planner) (left : Option ℕ) → p.planner ≡ planner → IsCount p stmt k → IsPlan p stmt k Hash
      → Holds p stmt (counted k (Some Hash) (fallback planner left) Whole) (Some k) (Some Hash) (fallback planner left)
  hash_holds k (Forced plan) left e count is = (count, is, tt)
  hash_holds k Cheapest left e count is = (count, is, tt)
  hash_holds k Auto None e count is = (count, is, tt)
  hash_holds k Auto (Some i) e count is = (count, is, tt, e)

module _ (p : Public) (stmt : Stmt) (counts : is_counted p stmt ≡ true) (unpadded : p.pad ≡ None) where
  abbrev slots : ℕ
  slots = statement_slots p stmt

  planned : (k : ℕ) (plan : Plan) (c : Bool) → 1 ≤ k → k ≤ slots → choose p.planner p.pack p.buffer slots k c ≡ plan → IsCount p stmt k × IsPlan p stmt k plan
  planned k plan c h l e = (count_of p stmt counts unpadded k l, plan_of p stmt counts unpadded k plan c h (sym e))

  with_plan : (plan : Plan) (places : List ℕ) → 1 ≤ length places → length places ≤ slots →
      choose p.planner p.pack p.buffer slots (length places) (is_consecutive places) ≡ plan → Started p stmt (seen_with p plan places)
  with_plan Small places h l e =
      let both = planned (length places) Small (is_consecutive places) h l e in record { not_static = λ e. cc; not_cut = λ m. tt; leaf = refl; holds = (both.0, both.1, tt) }
  with_plan Large places h l e =
      let both = planned (length places) Large (is_consecutive places) h l e in record { not_static = λ e. cc; not_cut = λ m. tt; leaf = refl; holds = (both.0, both.1, tt) }
  with_plan Hash places h l e =
      let both = planned (length places) Hash (is_consecutive places) h l e in
      record { not_static = λ e. cc; not_cut = λ m. tt; leaf = refl; holds = hash_holds p stmt counts unpadded (length places) p.planner (first_unplaced p places) refl both.0 both.1 }
  with_plan Continuous places h l e = at_answer (is_consecutive places) e where
    at_answer : (b : Bool) → choose p.planner p.pack p.buffer slots (length places) b ≡ Continuous →
        Started p stmt (cond b (counted (length places) (Some Continuous) None Whole) (counted (length places) None None AfterCount))
    at_answer true e =
        let both = planned (length places) Continuous true h l e in record { not_static = λ e. cc; not_cut = λ m. tt; leaf = refl; holds = (both.0, both.1, tt) }
    at_answer false e = stopped p stmt counts unpadded (length places) h l (forced_apart Continuous p.planner p.pack p.buffer slots (length places) false (sym e) refl refl)

  unpadded_started : (places : List ℕ) → length places ≤ slots → Started p stmt (seen_unpadded p slots places)
  unpadded_started [] l = no_rows p stmt counts unpadded
  unpadded_started (i ∷ is) l = with_plan (plan_for p slots (i ∷ is)) (i ∷ is) (omega arith) l refl

-- with the pad of p
rows_started : (p : Public) (stmt : Stmt) (pad : Option ℕ) (places : List ℕ) → is_counted p stmt ≡ true → p.pad ≡ pad → length places ≤ statement_slots p stmt →
    Started p stmt (seen_by pad p (statement_slots p stmt) places)
rows_started p stmt None places counts e l = unpadded_started p stmt counts e places l
rows_started p stmt (Some pad) places counts e l = padded_alone p stmt (ap is_some e)

length-places_from : {A : Type 0} (f : A → Bool) (n : ℕ) (xs : List A) → length (places_from n f xs) ≤ length xs
length-places_from f n [] = omega arith
length-places_from f n (x ∷ xs) =
    let h = length-places_from f (suc n) xs in
    elim (f x) as (λ b. length (cond b (n ∷ places_from (suc n) f xs) (places_from (suc n) f xs)) ≤ suc (length xs)) [ true ↦ omega arith | false ↦ omega arith ]

selected_few : (test : Row → Bool) (slots : Slots) → length (selected test slots) ≤ length slots
selected_few test slots = length-places_from _ 0 slots

-- the number of slots that a SELECT counts over is public
slots-capacity : (stash : ℕ) (name : List ℕ) (ts : Tables) → AreInPlace stash ts → FlatAt ts name → length (slots_at name ts) ≡ capacity_at name (headings ts)
slots-capacity stash name ts h flat = go (stored_at name ts) refl
  where
    named : (t : Stored Held) → stored_at name ts ≡ Some t → capacity_at name (headings ts) ≡ t.heading.capacity
    named t found =
        ap (λ (o : Option Heading). option_map_or (λ (g : Heading). g.capacity) o 0) (heading-stored name ts)
        ∙ ap (λ (o : Option (Stored Held)). option_map_or (λ (g : Heading). g.capacity) (option_map (λ u. u.heading) o) 0) found

    nothing : stored_at name ts ≡ None → capacity_at name (headings ts) ≡ 0
    nothing none =
        ap (λ (o : Option Heading). option_map_or (λ (g : Heading). g.capacity) o 0) (heading-stored name ts)
        ∙ ap (λ (o : Option (Stored Held)). option_map_or (λ (g : Heading). g.capacity) (option_map (λ u. u.heading) o) 0) none

    go : (o : Option (Stored Held)) → stored_at name ts ≡ o → length (slots_at name ts) ≡ capacity_at name (headings ts)
    go None none = ap (λ (o : Option (Stored Held)). length (option_map_or (λ (t : Stored Held). t.held.slots) o [])) none ∙ sym (nothing none)
    go (Some t) found =
        ap (λ (o : Option (Stored Held)). length (option_map_or (λ (t : Stored Held). t.held.slots) o [])) found
        ∙ (place_at stash name ts t found h).slots ∙ flat_slots stash t.heading (flat t found) ∙ sym (named t found)

length-each : {A : Type 0} (n m : ℕ) (f : ℕ → List A) → ((i : ℕ) → length (f i) ≡ m) → length (each n f) ≡ n * m
length-each zero m f h = sym (zero-mul m)
length-each (suc n) m f h = length-append (each n f) (f n) ∙ (λ t. length-each n m f h t + h n t) ∙ sym (suc-mul n m)

length-padded : (n : ℕ) (slots : Slots) → length slots ≤ n → length (padded n slots) ≡ n
length-padded n slots h =
    let a = length-append slots (replicate (n - length slots) None) in let b = length-replicate {A = Option Row} (n - length slots) None in omega (arith, a, b)

length-joined : (i j pack room : ℕ) (left right : Slots) → 1 ≤ pack → length (joined i j pack room left right) ≡ joined_slots pack room (length left) (length right)
length-joined i j pack room left right some =
    let m = blocks_for pack (length right) * pack in
    let all : length right ≤ m = (div_ceil_times (length right) pack some).0 in
    length-each (chunks pack room (length left)) m (λ q. joined_chunk i j m (chunk (buffered pack room) q left) right)
    (λ q. let rows' = map (joined_slot i j (rows (chunk (buffered pack room) q left))) right in
    length-padded m rows' (let e = length-map right (joined_slot i j (rows (chunk (buffered pack room) q left))) in omega arith))
    ∙ sym (mul_assoc (chunks pack room (length left)) (blocks_for pack (length right)) pack)

source-slots : (p : Public) (ts : Tables) (source : Source) → 1 ≤ p.pack → headings ts ≡ headings_of p.tables → AreInPlace p.stash ts → SourceFlat ts source
    → length (source_slots p source ts) ≡ counted_slots p source
source-slots p ts (OneTable name) some e h flat = slots-capacity p.stash name ts h flat ∙ ap (capacity_at name) e
source-slots p ts (Join a b on equals) some e h flat =
    length-joined _ _ p.pack p.buffer (slots_at a ts) (slots_at b ts) some
    ∙ (λ t. joined_slots p.pack p.buffer (slots-capacity p.stash a ts h flat.0 t) (slots-capacity p.stash b ts h flat.1 t))
    ∙ (λ t. joined_slots p.pack p.buffer (capacity_at a (e t)) (capacity_at b (e t)))

all_started : (p : Public) (late : Bool) (ts : Tables) (stmt : Stmt) → 1 ≤ p.pack → headings ts ≡ headings_of p.tables → AreInPlace p.stash ts
    → early_refusal late (limits_of p) (headings ts) stmt ≡ None → accessed ts stmt ≡ None → Started p stmt (seen_started p ts stmt)
all_started p late ts (Create a b c d) some e h early unkeyed = kind_alone p (Create a b c d) refl
all_started p late ts (Insert a b c) some e h early unkeyed = kind_alone p (Insert a b c) refl
all_started p late ts (Update a b c) some e h early unkeyed = kind_alone p (Update a b c) refl
all_started p late ts (Delete a b) some e h early unkeyed = kind_alone p (Delete a b) refl
all_started p late ts (DropTable a) some e h early unkeyed = kind_alone p (DropTable a) refl
all_started p late ts (TotalsStmt q) some e h early unkeyed = kind_alone p (TotalsStmt q) refl
all_started p late ts (RowsStmt q) some e h early unkeyed =
    let flat = source_flat late (limits_of p) ts q early unkeyed in
    let counts : is_counted p (RowsStmt q) ≡ true = ap not (access_public p ts e late (limits_of p) (RowsStmt q) early ∙ ap is_some unkeyed) in
    let size : length (source_slots p q.source ts) ≡ counted_slots p q.source = source-slots p ts q.source some e h flat in
    let few : length (selected_places p q ts) ≤ counted_slots p q.source = let l = selected_few (is_true (select_condition q (headings ts))) (source_slots p q.source ts) in omega (arith, l, size) in
    subst (λ n. Started p (RowsStmt q) (seen_by p.pad p n (selected_places p q ts))) (sym size) (rows_started p (RowsStmt q) p.pad (selected_places p q ts) counts refl few)

not_both : {b : Bool} → b ≡ true → b ≡ false → ⊥
not_both h k = cc

early-public : (p : Public) (m : ℕ) (ts : Tables) (stmt : Stmt) → headings ts ≡ headings_of p.tables
    → early_refusal (is_late m) (limits_of p) (headings ts) stmt ≡ early_refusal (is_late m) (limits_of p) (headings_of p.tables) stmt
early-public p m ts stmt e = ap (λ hs. early_refusal (is_late m) (limits_of p) hs stmt) e

-- the height of the index that a statement accesses is public
pub height_public : (p : Public) (ts : Tables) (stmt : Stmt) (a : Accessed) → headings ts ≡ headings_of p.tables → keyed_table ts stmt ≡ Some a.table
    → height_at p (skeleton stmt) ≡ height_of a.table.heading.capacity
height_public p ts stmt a e found = by stmt found
  where
    named : (name : List ℕ) → stored_at name ts ≡ Some a.table → height_of (capacity_at name (headings_of p.tables)) ≡ height_of a.table.heading.capacity
    named name is =
        ap height_of (ap (capacity_at name) (sym e)
        ∙ ap (λ (o : Option Heading). option_map_or (λ (g : Heading). g.capacity) o 0) (heading-stored name ts)
        ∙ ap (λ (o : Option (Stored Held)). option_map_or (λ (g : Heading). g.capacity) (option_map (λ u. u.heading) o) 0) is)

    by : (stmt : Stmt) → keyed_table ts stmt ≡ Some a.table → height_at p (skeleton stmt) ≡ height_of a.table.heading.capacity
    by (Insert table columns values) found = named table found
    by (Update table sets cond) found = named table found
    by (Delete table cond) found = named table found
    by (RowsStmt q) found = of_source q.source found
      where
        of_source : (source : Source) → option_and_then (λ name. stored_at name ts) (one_table source) ≡ Some a.table → height_at p (Rows source q.list) ≡ height_of a.table.heading.capacity
        of_source (OneTable name) found = named name found
        of_source (Join l r on equals) found = absurd (cc found)
    by other found = absurd (cc found)

and_no : (b : Bool) → (b && false) ≡ false
and_no true = refl
and_no false = refl

-- what is seen of an access
module _ (d : Draws) (p : Public) (m : ℕ) (ts : Tables) (stmt : Stmt) (e : headings ts ≡ headings_of p.tables) (h : AreInPlace p.stash ts)
    (early : early_refusal (is_late m) (limits_of p) (headings ts) stmt ≡ None) (a : Accessed) (is : accessed ts stmt ≡ Some a) where
  none : early_refusal (is_late m) (limits_of p) (headings_of p.tables) stmt ≡ None
  none = sym (early-public p m ts stmt e) ∙ early

  access : IsAccess ts stmt a
  access = access_is ts stmt a is

  yes : is_access p (skeleton stmt) ≡ true
  yes = access_public p ts e (is_late m) (limits_of p) stmt early ∙ ap is_some is

  uncounted_access : is_counted p stmt ≡ false
  uncounted_access = ap (λ (b : Bool). selects_rows stmt && not b) yes ∙ and_no (selects_rows stmt)

  stands : IsIndexed a.table
  stands = subst (λ (s : Shape). HoldsByShape s a.table) access.indexed
      (place_at p.stash a.table.heading.name ts a.table (next_of ts stmt a.table a.ask access.found access.asked).0 h).shaped

  below : leaf_gone d a < 2 ^ height_at p (skeleton stmt)
  below = subst (λ (n : ℕ). leaf_gone d a < 2 ^ n) (sym (height_public p ts stmt a e access.found))
      (leaf_below (key_in a.table.heading) (height_of a.table.heading.capacity) (index_of a.table.heading a.table.held) (next_draw d)
      (key_of (key_in a.table.heading) (op_of a.table.heading.capacity a.ask)) stands.stands.leaves)

  access_lawful : Lawful p m stmt (seen_access d a)
  access_lawful = record {
    static = (λ f. cc, λ f. absurd (not_both f (ap is_some none)));
    holds = inl uncounted_access;
    leaf = (yes, below, tt);
    cut = tt;
  }

  -- the leaf is held once more was asked than the stash
  leaf_cut : (n : ℕ) (more : Bool) → nat_lt p.stash n ≡ more → HoldsLeaf p (skeleton stmt) (held_if more (Some (leaf_gone d a))) (Cut n)
  leaf_cut n true is = (yes, below, (grind (arith, nat_tests)))
  leaf_cut n false is = λ _. grind (arith, nat_tests)

pub seen_is_lawful : SeenIsLawful
seen_is_lawful d p m ts stmt some e h = go (early_refusal (is_late m) (limits_of p) (headings ts) stmt) refl
  where
    same : early_refusal (is_late m) (limits_of p) (headings ts) stmt ≡ early_refusal (is_late m) (limits_of p) (headings_of p.tables) stmt
    same = early-public p m ts stmt e

    served : (o : Option Accessed) → accessed ts stmt ≡ o → early_refusal (is_late m) (limits_of p) (headings ts) stmt ≡ None → Lawful p m stmt (seen_served d o p ts stmt)
    served (Some a) is early = access_lawful d p m ts stmt e h early a is
    served None unkeyed early =
        let s = all_started p (is_late m) ts stmt some e h early unkeyed in
        let not_access = access_public p ts e (is_late m) (limits_of p) stmt early ∙ ap is_some unkeyed in
        record {
          static = (λ f. absurd (s.not_static f), λ f. absurd (not_both f (ap is_some (sym same ∙ early))));
          holds = s.holds;
          leaf = subst (λ (o : Option ℕ). HoldsLeaf p (skeleton stmt) o (seen_started p ts stmt).end) (sym s.leaf) (λ yes. absurd (not_both yes not_access));
          cut = s.not_cut (length (whole_script p (skeleton stmt) (seen_started p ts stmt)));
        }

    go : (r : Option Refusal) → early_refusal (is_late m) (limits_of p) (headings ts) stmt ≡ r → Lawful p m stmt (cond (is_some r) (ended Static) (seen_served d (accessed ts stmt) p ts stmt))
    go (Some r) early = record { static = (λ _. ap is_some (sym same ∙ early), λ _. refl); holds = tt; leaf = λ _. tt; cut = tt }
    go None early = served (accessed ts stmt) refl early

-- ---- the tables of a script
module _ (p : Public) (name : List ℕ) where
  pub heading_region : heading_at name (headings_of p.tables) ≡ option_map (λ t. t.heading) (stored_at name (stored_regions p.tables))
  heading_region = ap (heading_at name) (sym (headings-regions p.tables)) ∙ heading-stored name (stored_regions p.tables)

  pub region_index : (t : Stored ℕ) → stored_at name (stored_regions p.tables) ≡ Some t → has_index p name ≡ is_indexed t.heading.shape
  region_index t found = ap (λ (o : Option Heading). option_map_or (λ (h : Heading). is_indexed h.shape) o false) (heading_region ∙ ap (option_map (λ (u : Stored ℕ). u.heading)) found)

  pub no_region_index : stored_at name (stored_regions p.tables) ≡ None → has_index p name ≡ false
  no_region_index none = ap (λ (o : Option Heading). option_map_or (λ (h : Heading). is_indexed h.shape) o false) (heading_region ∙ ap (option_map (λ (u : Stored ℕ). u.heading)) none)

-- ---- a statement that was cut off
abbrev seen_of : Option ℕ → (plan second : Option Plan) → End → Seen
seen_of k plan second end = record { k = k; plan = plan; then = second; leaf = None; end = end }

-- a script is the same however it ended
same_behind : (pad : Option ℕ) (p : Public) (now : Seen) (end : End) (g : ℕ) (t : _) (ending : List Access)
    → behind_count pad p now g t ending ≡ behind_count pad p (record now { end = end }) g t ending
same_behind None p now end g t ending = refl
same_behind (Some pad) p now end g t ending = refl

same_select : (p : Public) (now : Seen) (end : End) (g : ℕ) (t : _) (ending : List Access) → select_part p now g t ending ≡ select_part p (record now { end = end }) g t ending
same_select p now end g t ending = ap (λ (x : List Access). count_part t.region (blocks_of p t) ++ x) (same_behind p.pad p now end g t ending)

pub same_script : (p : Public) (s : Skeleton) (now : Seen) (end : End) → whole_script p s now ≡ whole_script p s (record now { end = end })
same_script p (Rows (OneTable name) cs) now end =
    λ i. with_table name p (λ t. by_shape t.heading.shape (same_select p now end p.next_region (extent_of t) [] i) (index_part_of p now.leaf t))
same_script p (Rows (Join left right on equals) cs) now end =
    λ i. with_table left p (λ l. with_table right p (λ r.
    let t = joined_extent p l.heading r.heading in
    join_part l.held r.held p.next_region (blocks_of p (extent_of l)) (blocks_of p (extent_of r)) (buffered_blocks p.pack p.buffer) (rows_width p t)
    ++ same_select p now end (p.next_region + 1) t (discard_at p.next_region) i))
same_script p other now end = refl

-- the result of a plan is read back after the count, and a block at least is left to discard
behind : (counted plan back ending : List Access) (last : Access) → length (counted ++ []) + (length ending + 1) ≤ length (counted ++ ((plan ++ (back ++ last ∷ [])) ++ ([] ++ ending)))
behind counted plan back ending last =
    let a = length-append counted [] in
    let b = length-append counted ((plan ++ (back ++ last ∷ [])) ++ ([] ++ ending)) in
    let c = length-append (plan ++ (back ++ last ∷ [])) ([] ++ ending) in
    let d = length-append plan (back ++ last ∷ []) in
    let e = length-append back (last ∷ []) in
    omega (arith, a, b, c, d, e)

in_front : (front short long : List Access) (m : ℕ) → length short + m ≤ length long → length (front ++ short) ≤ length (front ++ long) - m
in_front front short long m h = let a = length-append front short in let b = length-append front long in omega (arith, a, b)

-- where results aren't padded
abbrev unpadded : Public → Public
unpadded p = record p { pad = None }

walk_of_flat : (p : Public) (k : ℕ) (plan : Plan) (end : End) (t : Stored ℕ)
    → length (flat_script (unpadded p) (ended Whole) t) ≤ length (flat_script (unpadded p) (seen_of (Some k) (Some plan) None end) t) - (0 + 1)
walk_of_flat p k plan end t =
    let from = extent_of t in
    let count = count_part from.region (blocks_of p from) in
    let result = plan_part p plan k p.next_region from in
    let back = count_part p.next_region (result_blocks p plan k from) in
    in_front [] (count ++ []) (count ++ ((result ++ (back ++ Discard p.next_region ∷ [])) ++ [])) 1 (behind count result back [] (Discard p.next_region))

walk_of_table : (p : Public) (k : ℕ) (plan : Plan) (end : End) (o : Option (Stored ℕ)) → ((t : Stored ℕ) → o ≡ Some t → t.heading.shape ≡ Flat)
    → length (option_map_or (table_script (unpadded p) (ended Whole)) o []) ≤ length (option_map_or (table_script (unpadded p) (seen_of (Some k) (Some plan) None end)) o []) - (0 + 1)
walk_of_table p k plan end None flat = omega arith
walk_of_table p k plan end (Some t) flat =
    subst (λ (shape : Shape). length (by_shape shape (flat_script (unpadded p) (ended Whole) t) (index_part_of (unpadded p) None t))
    ≤ length (by_shape shape (flat_script (unpadded p) (seen_of (Some k) (Some plan) None end) t) (index_part_of (unpadded p) None t)) - (0 + 1))
    (sym (flat t refl)) (walk_of_flat p k plan end t)

walk_of_join : (p : Public) (k : ℕ) (plan : Plan) (end : End) (l r : Option (Stored ℕ))
    → length (option_map_or (λ left. option_map_or (λ right. join_script (unpadded p) (ended Whole) left right) r []) l [])
    ≤ length (option_map_or (λ left. option_map_or (λ right. join_script (unpadded p) (seen_of (Some k) (Some plan) None end) left right) r []) l []) - (1 + 1)
walk_of_join p k plan end None r = omega arith
walk_of_join p k plan end (Some left) None = omega arith
walk_of_join p k plan end (Some left) (Some right) =
    let from = joined_extent p left.heading right.heading in
    let g = p.next_region + 1 in
    let pairs =
    join_part left.held right.held p.next_region (blocks_of p (extent_of left)) (blocks_of p (extent_of right)) (buffered_blocks p.pack p.buffer) (rows_width p from) in
    let count = count_part from.region (blocks_of p from) in
    let back = count_part g (result_blocks p plan k from) in
    let result = plan_part p plan k g from in
    in_front pairs (count ++ []) (count ++ ((result ++ (back ++ Discard g ∷ [])) ++ (Discard p.next_region ∷ []))) 2 (behind count result back (Discard p.next_region ∷ []) (Discard g))

-- a padded script has the count, too
counted_before : (p : Public) (g : ℕ) (t : _) (ending : List Access) → length (select_part (unpadded p) (ended Whole) g t ending) ≤ length (select_part p (ended Whole) g t ending)
counted_before p g t ending =
    let a = length-append (count_part t.region (blocks_of p t)) [] in
    let b = length-append (count_part t.region (blocks_of p t)) (behind_count p.pad p (ended Whole) g t ending) in
    omega (arith, a, b)

count_of_table : (p : Public) (o : Option (Stored ℕ)) → length (option_map_or (table_script (unpadded p) (ended Whole)) o []) ≤ length (option_map_or (table_script p (ended Whole)) o [])
count_of_table p None = omega arith
count_of_table p (Some t) =
    elim t.heading.shape as (λ (shape : Shape). length (by_shape shape (flat_script (unpadded p) (ended Whole) t) (index_part_of (unpadded p) None t))
    ≤ length (by_shape shape (flat_script p (ended Whole) t) (index_part_of p None t)))
    [ Flat ↦ counted_before p p.next_region (extent_of t) [] | Indexed ↦ omega arith ]

count_of_join : (p : Public) (l r : Option (Stored ℕ))
    → length (option_map_or (λ left. option_map_or (λ right. join_script (unpadded p) (ended Whole) left right) r []) l [])
    ≤ length (option_map_or (λ left. option_map_or (λ right. join_script p (ended Whole) left right) r []) l [])
count_of_join p None r = omega arith
count_of_join p (Some left) None = omega arith
count_of_join p (Some left) (Some right) =
    let t = joined_extent p left.heading right.heading in
    let pairs =
    join_part left.held right.held p.next_region (blocks_of p (extent_of left)) (blocks_of p (extent_of right)) (buffered_blocks p.pack p.buffer) (rows_width p t) in
    let h = counted_before p (p.next_region + 1) t (discard_at p.next_region) in
    let a = length-append pairs (select_part (unpadded p) (ended Whole) (p.next_region + 1) t (discard_at p.next_region)) in
    let b = length-append pairs (select_part p (ended Whole) (p.next_region + 1) t (discard_at p.next_region)) in
    omega (arith, h, a, b)

count_within : (p : Public) (s : Skeleton) → count_end p s ≤ length (whole_script p s (ended Whole))
count_within p (Rows (OneTable name) cs) = count_of_table p (stored_at name (stored_regions p.tables))
count_within p (Rows (Join a b on equals) cs) = count_of_join p (stored_at a (stored_regions p.tables)) (stored_at b (stored_regions p.tables))
count_within p other = omega arith

-- a table of which no index has the name
region_flat_by : (p : Public) (name : List ℕ) → has_index p name ≡ false → (t : Stored ℕ) → stored_at name (stored_regions p.tables) ≡ Some t → t.heading.shape ≡ Flat
region_flat_by p name none t found = not_index t.heading.shape (sym (region_index p name t found) ∙ none)

unpadded_walk : (p : Public) (source : Source) (cs : Option (List ColumnName)) (k : ℕ) (plan : Plan) (second : Option Plan) (end : End) → is_access p (Rows source cs) ≡ false
    → count_end p (Rows source cs) ≤ walk_end (unpadded p) (Rows source cs) (seen_of (Some k) (Some plan) second end)
unpadded_walk p (OneTable name) cs k plan second end flat = walk_of_table p k plan end (stored_at name (stored_regions p.tables)) (region_flat_by p name flat)
unpadded_walk p (Join a b on equals) cs k plan second end flat = walk_of_join p k plan end (stored_at a (stored_regions p.tables)) (stored_at b (stored_regions p.tables))

count_before_walk : (p : Public) (source : Source) (cs : Option (List ColumnName)) (k : ℕ) (plan : Plan) (second : Option Plan) (end : End) → p.pad ≡ None → is_access p (Rows source cs) ≡ false
    → count_end p (Rows source cs) ≤ walk_end p (Rows source cs) (seen_of (Some k) (Some plan) second end)
count_before_walk p source cs k plan second end e flat =
    subst (λ pad. count_end p (Rows source cs) ≤ walk_end (record p { pad = pad }) (Rows source cs) (seen_of (Some k) (Some plan) second end)) (sym e) (unpadded_walk p source cs k plan second end flat)

not_true : (b : Bool) → not b ≡ true → b ≡ false
not_true true h = absurd (cc h)
not_true false h = refl

not_second : (p : Public) (stmt : Stmt) (k : Option ℕ) (plan : Option Plan) (second : Plan) (end : End) → is_counted p stmt ≡ false
    → Holds p stmt (seen_of k plan (Some second) end) k plan (Some second) → ⊥
not_second p stmt (Some k) (Some Hash) Small end e h = not_both h.0.counted e
not_second p stmt (Some k) (Some plan) second end e h = h
not_second p stmt (Some k) None second end e h = h
not_second p stmt None (Some plan) second end e h = h
not_second p stmt None None second end e h = h

walks : (p : Public) (stmt : Stmt) (k : Option ℕ) (plan : Option Plan) (second : Plan) (end : End) → Holds p stmt (seen_of k plan (Some second) end) k plan (Some second)
    → count_end p (skeleton stmt) ≤ walk_end p (skeleton stmt) (seen_of k plan (Some second) end)
walks p (RowsStmt q) (Some k) (Some Hash) Small end h =
    count_before_walk p q.source q.list k Hash (Some Small) end h.0.unpadded (not_true (is_access p (Rows q.source q.list)) h.0.counted)
walks p (RowsStmt q) (Some k) (Some plan) second end h = absurd h
walks p (RowsStmt q) (Some k) None second end h = absurd h
walks p (RowsStmt q) None (Some plan) second end h = absurd h
walks p (RowsStmt q) None None second end h = absurd h
walks p (TotalsStmt q) k plan second end h = absurd (not_second p (TotalsStmt q) k plan second end refl h)
walks p (Create a b c d) k plan second end h = absurd (not_second p (Create a b c d) k plan second end refl h)
walks p (Insert a b c) k plan second end h = absurd (not_second p (Insert a b c) k plan second end refl h)
walks p (Update a b c) k plan second end h = absurd (not_second p (Update a b c) k plan second end refl h)
walks p (Delete a b) k plan second end h = absurd (not_second p (Delete a b) k plan second end refl h)
walks p (DropTable a) k plan second end h = absurd (not_second p (DropTable a) k plan second end refl h)

module _ (p : Public) (stmt : Stmt) (n done : ℕ) (within : done ≤ n) (last : n ≤ done + 1) where
  abbrev Cutting : Option ℕ → (plan second : Option Plan) → Type 0
  Cutting k plan second = Holds p stmt (seen_of k plan second (Cut n)) k plan second × (n ≤ length (whole_script p (skeleton stmt) (seen_of k plan second (Cut n))))

  abbrev IsLong : Option ℕ → (plan second : Option Plan) → End → Type 0
  IsLong k plan second end = n ≤ length (whole_script p (skeleton stmt) (seen_of k plan second end))

  long : (k : Option ℕ) (plan second : Option Plan) (end : End) → IsLong k plan second end → IsLong k plan second (Cut n)
  long k plan second end h = subst (λ (x : List Access). n ≤ length x) (same_script p (skeleton stmt) (seen_of k plan second end) (Cut n)) h

  unplanned : (k m : ℕ) (end : End) → m ≤ n → EndsUnplanned p k m end → EndsUnplanned p k m (Cut n)
  unplanned k m Static le h = absurd h
  unplanned k m Whole le h = (le, inl h)
  unplanned k m AfterCount le h = (le, inr h.1)
  unplanned k m Batched le h = absurd h
  unplanned k m (Cut j) le h = (le, h.1)

  uncounted : done < count_end p (skeleton stmt) → Cutting None None None
  uncounted less = (tt, long None None None Whole (let c = count_within p (skeleton stmt) in omega arith))

  kept_one : (k : Option ℕ) (plan : Option Plan) (end : End) → Holds p stmt (seen_of k plan None end) k plan None → IsLong k plan None end → count_end p (skeleton stmt) ≤ done → Cutting k plan None
  kept_one None None end h l le = (tt, long None None None end l)
  kept_one None (Some plan) end h l le = absurd h
  kept_one (Some k) None end h l le = ((h.0, unplanned k (count_end p (skeleton stmt)) end (omega arith) h.1), long (Some k) None None end l)
  kept_one (Some k) (Some plan) end h l le = ((h.0, h.1, omega arith), long (Some k) (Some plan) None end l)

  kept_two : (k : Option ℕ) (plan : Option Plan) (second : Plan) (end : End) → Holds p stmt (seen_of k plan (Some second) end) k plan (Some second) → IsLong k plan (Some second) end
      → walk_end p (skeleton stmt) (seen_of k plan (Some second) end) ≤ done → Cutting k plan (Some second)
  kept_two (Some k) (Some Hash) Small end h l le =
      let walk : walk_end p (skeleton stmt) (seen_of (Some k) (Some Hash) (Some Small) (Cut n)) ≤ n =
      subst (λ (x : List Access). length x - (ending_len (skeleton stmt) + 1) ≤ n) (same_script p (skeleton stmt) (seen_of (Some k) (Some Hash) None end) (Cut n)) (omega arith) in
      ((h.0, h.1, walk, h.3), long (Some k) (Some Hash) (Some Small) end l)
  kept_two (Some k) (Some plan) second end h l le = absurd h
  kept_two (Some k) None second end h l le = absurd h
  kept_two None (Some plan) second end h l le = absurd h
  kept_two None None second end h l le = absurd h

  unwalked : (k : Option ℕ) (plan : Option Plan) (second : Plan) (end : End) → Holds p stmt (seen_of k plan (Some second) end) k plan (Some second)
      → count_end p (skeleton stmt) ≤ done → done < walk_end p (skeleton stmt) (seen_of k plan (Some second) end) → Cutting k plan None
  unwalked (Some k) (Some Hash) Small end h le less = ((h.0, h.1, omega arith), long (Some k) (Some Hash) None end (omega arith))
  unwalked (Some k) (Some plan) second end h le less = absurd h
  unwalked (Some k) None second end h le less = absurd h
  unwalked None (Some plan) second end h le less = absurd h
  unwalked None None second end h le less = absurd h

  at_least : (m : ℕ) → nat_le m done ≡ true → m ≤ done
  at_least m e = grind (arith, nat_tests)

  above : (m : ℕ) → nat_le m done ≡ false → done < m
  above m e = grind (arith, nat_tests)

  cutting : (held walked : Bool) (k : Option ℕ) (plan second : Option Plan) (end : End) → nat_le (count_end p (skeleton stmt)) done ≡ held
      → nat_le (walk_end p (skeleton stmt) (seen_of k plan second end)) done ≡ walked → Holds p stmt (seen_of k plan second end) k plan second → IsLong k plan second end
      → Cutting (held_if held k) (held_if held plan) (held_if walked second)
  cutting false false k plan None end e f h l = uncounted (above _ e)
  cutting false true k plan None end e f h l = uncounted (above _ e)
  cutting false false k plan (Some s) end e f h l = uncounted (above _ e)
  cutting false true k plan (Some s) end e f h l =
      let a = above _ e in let b = at_least _ f in let c = walks p stmt k plan s end h in absurd (omega arith)
  cutting true false k plan None end e f h l = kept_one k plan end h l (at_least _ e)
  cutting true true k plan None end e f h l = kept_one k plan end h l (at_least _ e)
  cutting true false k plan (Some s) end e f h l = unwalked k plan s end h (at_least _ e) (above _ f)
  cutting true true k plan (Some s) end e f h l = kept_two k plan s end h l (at_least _ f)

done_within : (failed : Bool) (n : ℕ) → (done_of failed n ≤ n) × (n ≤ done_of failed n + 1)
done_within true n = (omega arith, omega arith)
done_within false n = (omega arith, omega arith)

-- nothing that isn't there is held
held_none : {A : Type 0} (b : Bool) → held_if {A = A} b None ≡ None
held_none true = refl
held_none false = refl

not_static : (n : ℕ) → Cut n ≡ Static → ⊥
not_static n e = cc

-- of what is held, where no index is accessed
cut_held : (p : Public) (m : ℕ) (stmt : Stmt) (failed : Bool) (n : ℕ) (k : Option ℕ) (plan second : Option Plan) (end : End)
    → early_refusal (is_late m) (limits_of p) (headings_of p.tables) stmt ≡ None → is_access p (skeleton stmt) ≡ false → Holds p stmt (seen_of k plan second end) k plan second
    → n ≤ length (whole_script p (skeleton stmt) (seen_of k plan second end)) → Lawful p m stmt (cut_at failed n p (skeleton stmt) (seen_of k plan second end))
cut_held p m stmt failed n k plan second end none flat holds long =
    let bounds = done_within failed n in
    let both = cutting p stmt n (done_of failed n) bounds.0 bounds.1 (nat_le (count_end p (skeleton stmt)) (done_of failed n))
    (nat_le (walk_end p (skeleton stmt) (seen_of k plan second end)) (done_of failed n)) k plan second end refl refl holds long in
    let unread = held_none (nat_lt p.stash n) in
    subst (λ (leaf : Option ℕ). Lawful p m stmt (record {
      k = held_if (nat_le (count_end p (skeleton stmt)) (done_of failed n)) k;
      plan = held_if (nat_le (count_end p (skeleton stmt)) (done_of failed n)) plan;
      then = held_if (nat_le (walk_end p (skeleton stmt) (seen_of k plan second end)) (done_of failed n)) second;
      leaf = leaf;
      end = Cut n;
    })) (sym unread)
    (record {
      static = (λ f. absurd (not_static n f), λ f. absurd (not_both f (ap is_some none)));
      holds = both.0;
      leaf = λ yes. absurd (not_both yes flat);
      cut = both.1;
    })

-- an access that holds no leaf asks for its stash alone
stash_of : (p : Public) (name : List ℕ) (f : Stored ℕ → List Access) → has_index p name ≡ true → length (with_table name p (shape_script p None f)) ≡ p.stash
stash_of p name f indexed = go (stored_at name (stored_regions p.tables)) refl
  where
    of_shape : (t : Stored ℕ) (shape : Shape) → is_indexed shape ≡ true → length (by_shape shape (f t) (index_part_of p None t)) ≡ p.stash
    of_shape t Flat yes = absurd (cc yes)
    of_shape t Indexed yes = length-count_part (t.held + 1) p.stash

    go : (o : Option (Stored ℕ)) → stored_at name (stored_regions p.tables) ≡ o → length (option_map_or (shape_script p None f) o []) ≡ p.stash
    go None none = absurd (not_both indexed (no_region_index p name none))
    go (Some t) found = of_shape t t.heading.shape (sym (region_index p name t found) ∙ indexed)

stash_alone : (p : Public) (s : Skeleton) (end : End) → is_access p s ≡ true → length (whole_script p s (seen_of None None None end)) ≡ p.stash
stash_alone p (InsertSkeleton table cs) end yes = stash_of p table (mutation_script p insert_part (behind_change p (InsertSkeleton table cs))) yes
stash_alone p (UpdateSkeleton table cs) end yes = stash_of p table (mutation_script p rewrite_part (behind_change p (UpdateSkeleton table cs))) yes
stash_alone p (DeleteSkeleton table) end yes = stash_of p table (mutation_script p rewrite_part (behind_change p (DeleteSkeleton table))) yes
stash_alone p (Rows (OneTable name) cs) end yes = stash_of p name (flat_script p (seen_of None None None end)) yes
stash_alone p other end yes = absurd (cc yes)

-- an access that was cut off asks for no more than what it held asks
access_long : (p : Public) (s : Skeleton) (leaf n : ℕ) (more : Bool) → is_access p s ≡ true → nat_lt p.stash n ≡ more → n ≤ length (whole_script p s (record (ended Whole) { leaf = Some leaf }))
    → n ≤ length (whole_script p s (record (ended (Cut n)) { leaf = held_if more (Some leaf) }))
access_long p s leaf n true yes is long = subst (λ (xs : List Access). n ≤ length xs) (same_script p s (record (ended Whole) { leaf = Some leaf }) (Cut n)) long
access_long p s leaf n false yes is long =
    let few : n ≤ p.stash = grind (arith, nat_tests) in
    subst (λ (m : ℕ). n ≤ m) (sym (stash_alone p s (Cut n) yes)) few

pub cut_is_lawful : CutIsLawful
cut_is_lawful d p m ts stmt failed n some e h early long = served (accessed ts stmt) refl (subst (λ (x : Seen). n ≤ length (whole_script p (skeleton stmt) x)) begun long) law
  where
    begun : seen d p m ts stmt ≡ seen_served d (accessed ts stmt) p ts stmt
    begun = ap (λ (r : Option Refusal). cond (is_some r) (ended Static) (seen_served d (accessed ts stmt) p ts stmt)) early

    none : early_refusal (is_late m) (limits_of p) (headings_of p.tables) stmt ≡ None
    none = sym (early-public p m ts stmt e) ∙ early

    law : Lawful p m stmt (seen_served d (accessed ts stmt) p ts stmt)
    law = subst (Lawful p m stmt) begun (seen_is_lawful d p m ts stmt some e h)

    cut : (o : Option Accessed) → accessed ts stmt ≡ o → n ≤ length (whole_script p (skeleton stmt) (seen_served d o p ts stmt)) → Lawful p m stmt (seen_served d o p ts stmt)
        → Lawful p m stmt (cut_at failed n p (skeleton stmt) (seen_served d o p ts stmt))
    cut (Some a) is long law =
        let held = done_of failed n in
        subst (Lawful p m stmt)
        (λ i. record {
          k = sym (held_none (nat_le (count_end p (skeleton stmt)) held)) i;
          plan = sym (held_none (nat_le (count_end p (skeleton stmt)) held)) i;
          then = sym (held_none (nat_le (walk_end p (skeleton stmt) (seen_access d a)) held)) i;
          leaf = held_if (nat_lt p.stash n) (Some (leaf_gone d a));
          end = Cut n;
        })
        (record {
          static = (λ f. absurd (not_static n f), λ f. absurd (not_both f (ap is_some none)));
          holds = tt;
          leaf = leaf_cut d p m ts stmt e h early a is n (nat_lt p.stash n) refl;
          cut = access_long p (skeleton stmt) (leaf_gone d a) n (nat_lt p.stash n) (access_public p ts e (is_late m) (limits_of p) stmt early ∙ ap is_some is) refl long;
        })
    cut None unkeyed long law =
        let x = seen_started p ts stmt in
        let unread : x ≡ seen_of x.k x.plan x.then x.end = λ i. record { k = x.k; plan = x.plan; then = x.then; leaf = started-unread p ts stmt i; end = x.end } in
        subst (λ (y : Seen). Lawful p m stmt (cut_at failed n p (skeleton stmt) y)) (sym unread)
        (cut_held p m stmt failed n x.k x.plan x.then x.end none (access_public p ts e (is_late m) (limits_of p) stmt early ∙ ap is_some unkeyed)
        (subst (λ (y : Seen). Holds p stmt y x.k x.plan x.then) unread law.holds)
        (subst (λ (y : Seen). n ≤ length (whole_script p (skeleton stmt) y)) unread long))

    served : (o : Option Accessed) → accessed ts stmt ≡ o → n ≤ length (whole_script p (skeleton stmt) (seen_served d (accessed ts stmt) p ts stmt)) → Lawful p m stmt (seen_served d (accessed ts stmt) p ts stmt)
        → Lawful p m stmt (cut_at failed n p (skeleton stmt) (seen d p m ts stmt))
    served o is long law =
        subst (λ (x : Seen). Lawful p m stmt (cut_at failed n p (skeleton stmt) x)) (sym begun)
        (subst (λ (q : Option Accessed). Lawful p m stmt (cut_at failed n p (skeleton stmt) (seen_served d q p ts stmt))) (sym is)
        (cut o is (subst (λ (q : Option Accessed). n ≤ length (whole_script p (skeleton stmt) (seen_served d q p ts stmt))) is long) (subst (λ (q : Option Accessed). Lawful p m stmt (seen_served d q p ts stmt)) is law)))

-- ---- an INSERT that was served with the one before it
pub joined_is_lawful : JoinedIsLawful
joined_is_lawful s stmt e member = record {
  static = (λ f. cc, λ f. absurd (not_both f (ap is_some (sym (early-public s.public s.asked s.tables stmt e) ∙ member.early))));
  holds = record {
    batched = member.batched;
    inserts = member.inserts;
    flat = access_public s.public s.tables e (is_late s.asked) (limits_of s.public) stmt member.early ∙ ap is_some member.unkeyed;
  };
  leaf = λ yes. tt;
  cut = tt;
}

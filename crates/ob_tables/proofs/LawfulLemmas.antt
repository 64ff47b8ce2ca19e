-- What is seen of a statement is lawful, whatever the store does.
use Rattle.ob_tables.proofs.Words.{Access, AfterCount, ap, arith, behind_run, blocks_for, Bool, by_shape, Changed, columns_of, copy_part, count_part, Created, Cut, Deleted, drop_script, Dropped, End, Err, false, Groups, height_of, if◌then◌else◌, Indexed, inl, insert_part, is_access, IsSome, Batched, Lawful, length, length-append, List, make_at, None, not, Ok, Option, option_map_or, Outcome, Public, refl, Refusal, refusal_now, Refused, refused_end, Result, rewrite_part, run_script, RunStop, Seen, selects_rows, Skeleton, skeleton, Some, Static, Stmt, Stored, stored_at, stored_regions, subst, sym, take, true, Whole, whole_run, width, with_table, ℕ, [], ◌&&◌, ◌*◌, ◌++◌, ◌+◌, ◌-◌, ◌∙◌, ◌≡◌, ◌≤◌}
use Rattle.std.proofs.lemmas.List.{length-take}
use Rattle.ob_base.specs.declared.refusal.Refusal.TheVariants.{Syntax, NoTable, NameTaken, NoColumn, WrongType, ValueRange, Limit, KeyRule, JoinKey, Duplicate, Full, TooManyGroups, NotConsecutive, Overflow, StoreFault, PadPassed, KeyRange, NeedsKey}
use Rattle.ob_base.specs.declared.schema.Shape.{Shape}
use Rattle.ob_base.specs.declared.schema.Shape.TheVariants.{Flat}
use Rattle.ob_base.specs.declared.skeleton.Skeleton.TheVariants.{Create, Insert, Update, Delete, Drop as DropTable, Rows as RowsOf}
use Rattle.ob_base.specs.Accesses.{discard_at}
use Rattle.ob_script.specs.Parts.{create_part, index_part}
use Rattle.ob_script.specs.Script.{FollowUp, behind_change, blocks_of, dropped_script, extent_of, index_part_of, mutation_script, rows_width, save_part, shape_script, whole_by, whole_script}
use Rattle.ob_mean.specs.Lawful.{is_counted, EndsUncounted, CutUpTo, HoldsLeaf}
use Rattle.ob_mean.specs.Verdict.{ended}
use Rattle.ob_verdict.specs.declared.outcome.Outcome.TheVariants.{Inserted, Rows}
use Rattle.ob_tables.specs.Running.{RefusedEarly, result_end}

-- ---- how it ends
refused_cut : (r : Refusal) (k n : ℕ) → Cut k ≡ refused_end r n → k ≡ n
refused_cut StoreFault k n is = cc is
refused_cut other k n is = absurd (cc is)

-- it is cut off after the accesses that it asked
pub ends_cut : (result : Result Outcome RunStop) (k n : ℕ) → Cut k ≡ result_end result n → k ≡ n
ends_cut (Ok (Refused r)) k n is = refused_cut r k n is
ends_cut (Err stop) k n is = cc is
ends_cut other k n is = absurd (cc is)

-- none was served with a statement before it
refused_alone : (r : Refusal) (n : ℕ) → Batched ≡ refused_end r n → ⊥
refused_alone StoreFault n is = cc is
refused_alone other n is = cc is

ends_alone : (result : Result Outcome RunStop) (n : ℕ) → Batched ≡ result_end result n → ⊥
ends_alone (Ok (Refused r)) n is = refused_alone r n is
ends_alone other n is = cc is

-- no more is asked than the whole script
take_short : (n : ℕ) (xs : List Access) → length (take n xs) ≤ length xs
take_short n xs = let is = length-take n xs in omega (arith, is)

-- ---- nor does the engine: what follows a change is no longer where a closing is written after it
-- a script is no longer than itself
itself : (xs : List Access) → length xs ≤ length xs
itself xs = omega (arith)

behind_less : (xs a b : List Access) → length a ≤ length b → length (xs ++ a) ≤ length (xs ++ b)
behind_less xs a b less = let one = length-append xs a in let two = length-append xs b in omega (arith, one, two, less)

shape_less : (shape : Shape) (a b c : List Access) → length a ≤ length b → length (by_shape shape a c) ≤ length (by_shape shape b c)
shape_less Flat a b c less = less
shape_less Indexed a b c less = itself c

insert_less : (t g blocks size : ℕ) (a b : List Access) → length a ≤ length b → length (insert_part t g blocks size a) ≤ length (insert_part t g blocks size b)
insert_less t g blocks size a b less =
    behind_less (make_at g blocks size) _ _ (behind_less (count_part t blocks) _ _ (behind_less (copy_part t g blocks) a b less))

rewrite_less : (t g blocks size : ℕ) (a b : List Access) → length a ≤ length b → length (rewrite_part t g blocks size a) ≤ length (rewrite_part t g blocks size b)
rewrite_less t g blocks size a b less = behind_less (make_at g blocks size) _ _ (behind_less (copy_part t g blocks) a b less)

module _ (p : Public) (few more : FollowUp) (less : (left : Option ℕ) → length (few left) ≤ length (more left)) where
  found_less : (f h : Stored ℕ → List Access) → ((t : Stored ℕ) → length (f t) ≤ length (h t)) → (o : Option (Stored ℕ)) → length (option_map_or f o []) ≤ length (option_map_or h o [])
  found_less f h each None = itself []
  found_less f h each (Some t) = each t

  changed_less : (name : List ℕ) (leaf : Option ℕ) (part : ℕ → ℕ → ℕ → ℕ → List Access → List Access)
      → ((t g blocks size : ℕ) (a b : List Access) → length a ≤ length b → length (part t g blocks size a) ≤ length (part t g blocks size b))
      → length (with_table name p (shape_script p leaf (mutation_script p part few))) ≤ length (with_table name p (shape_script p leaf (mutation_script p part more)))
  changed_less name leaf part each =
      found_less (shape_script p leaf (mutation_script p part few)) (shape_script p leaf (mutation_script p part more))
      (λ t. shape_less t.heading.shape (mutation_script p part few t) (mutation_script p part more t) (index_part_of p leaf t)
      (each t.held p.next_region (blocks_of p (extent_of t)) (rows_width p (extent_of t)) (few (Some t.held)) (more (Some t.held)) (less (Some t.held))))
      (stored_at name (stored_regions p.tables))

  whole_less : (s : Skeleton) (now : Seen) → length (whole_by few p s now) ≤ length (whole_by more p s now)
  whole_less (Create table cs n shape) now =
      let created = create_part p.next_region (blocks_for p.pack n) (p.pack * width (columns_of table cs)) in
      shape_less shape (created ++ few None) (created ++ more None) (index_part p.next_region (p.next_region + 1) p.stash (height_of n) (width (columns_of table cs)))
      (behind_less created (few None) (more None) (less None))
  whole_less (Insert table cs) now = changed_less table now.leaf insert_part insert_less
  whole_less (Update table cs) now = changed_less table now.leaf rewrite_part rewrite_less
  whole_less (Delete table) now = changed_less table now.leaf rewrite_part rewrite_less
  whole_less (DropTable table) now =
      found_less (dropped_script few) (dropped_script more)
      (λ t. shape_less t.heading.shape (few (Some t.held)) (more (Some t.held)) (discard_at t.held ++ discard_at (t.held + 1)) (less (Some t.held)))
      (stored_at table (stored_regions p.tables))
  whole_less (RowsOf source cs) now = itself (whole_by few p (RowsOf source cs) now)
  whole_less (Groups table cs key) now = itself (whole_by few p (Groups table cs key) now)

run_short : (p : Public) (s : Skeleton) (now : Seen) → length (whole_run p s now) ≤ length (whole_script p s now)
run_short p s now = whole_less p (behind_run p) (behind_change p s) (λ left. by_flag p.save left) s now
  where
    by_flag : (saves : Bool) (left : Option ℕ) → length (if saves then [] else drop_script left) ≤ length (if saves then save_part p s left else drop_script left)
    by_flag true left = omega (arith)
    by_flag false left = itself (drop_script left)

within : (p : Public) (sk : Skeleton) (result : Result Outcome RunStop) (end : End) (before after : List Access) → after ≡ before ++ run_script p sk (ended end)
    → end ≡ result_end result (length after - length before) → CutUpTo (length (whole_script p sk (ended end))) end
within p sk result (Cut k) before after asked ends =
    let is = ends_cut result k (length after - length before) ends in
    let sum = ap length asked in
    let parts = length-append before (take k (whole_run p sk (ended (Cut k)))) in
    let few = take_short k (whole_run p sk (ended (Cut k))) in
    let short = run_short p sk (ended (Cut k)) in
    omega (arith, is, sum, parts, few, short)
within p sk result other before after asked ends = tt

-- refused before any access exactly where it is seen so
static_as : (o : Option Refusal) (result : Result Outcome RunStop) (now : Seen) → RefusedEarly o result now → (now.end ≡ Static → IsSome o) × (IsSome o → now.end ≡ Static)
static_as None result now early = (λ is. absurd (early is), λ some. absurd (cc some))
static_as (Some r) result now early = (λ is. refl, λ some. ap (λ (x : Seen). x.end) early.1)

-- no rows are counted where none are selected
uncounted_is : (p : Public) (stmt : Stmt) → selects_rows stmt ≡ false → is_counted p stmt ≡ false
uncounted_is p stmt plain = ap (λ (b : Bool). b && not (is_access p (skeleton stmt))) plain

-- a statement that accesses no index holds no leaf
pub leaf_none : (p : Public) (stmt : Stmt) (leaf : Option ℕ) (end : End) → is_access p (skeleton stmt) ≡ false → leaf ≡ None → HoldsLeaf p (skeleton stmt) leaf end
leaf_none p stmt leaf end unkeyed none = subst (λ (l : Option ℕ). HoldsLeaf p (skeleton stmt) l end) (sym none) (λ keyed. absurd (cc (keyed, unkeyed)))

-- nothing is held
held_nothing : (p : Public) (stmt : Stmt) (end : End) → is_counted p stmt ≡ false → (end ≡ AfterCount → ⊥) → (end ≡ Batched → ⊥) → EndsUncounted p stmt end
held_nothing p stmt Static uncounted after alone = tt
held_nothing p stmt Whole uncounted after alone = inl uncounted
held_nothing p stmt AfterCount uncounted after alone = after refl
held_nothing p stmt Batched uncounted after alone = absurd (alone refl)
held_nothing p stmt (Cut n) uncounted after alone = tt

plain : (p : Public) (m : ℕ) (stmt : Stmt) (result : Result Outcome RunStop) (end : End) (before after : List Access) → selects_rows stmt ≡ false → is_access p (skeleton stmt) ≡ false → (end ≡ AfterCount → ⊥)
    → RefusedEarly (refusal_now p m stmt) result (ended end) → after ≡ before ++ run_script p (skeleton stmt) (ended end) → end ≡ result_end result (length after - length before)
    → Lawful p m stmt (ended end)
plain p m stmt result end before after uncounted unkeyed whole early asked ends = record {
  static = static_as (refusal_now p m stmt) result (ended end) early;
  holds = held_nothing p stmt end (uncounted_is p stmt uncounted) whole (λ joined. ends_alone result (length after - length before) (sym joined ∙ ends));
  leaf = leaf_none p stmt None end unkeyed refl;
  cut = within p (skeleton stmt) result end before after asked ends;
}

-- what is seen of a statement of which nothing is counted
pub lawful_now : (p : Public) (m : ℕ) (stmt : Stmt) (result : Result Outcome RunStop) (now : Seen) (before after : List Access) → selects_rows stmt ≡ false → is_access p (skeleton stmt) ≡ false → now ≡ ended now.end
    → (now.end ≡ AfterCount → ⊥) → RefusedEarly (refusal_now p m stmt) result now → after ≡ before ++ run_script p (skeleton stmt) now
    → now.end ≡ result_end result (length after - length before) → Lawful p m stmt now
lawful_now p m stmt result now before after uncounted unkeyed is whole early asked ends =
    subst (λ (x : Seen). Lawful p m stmt x) (sym is)
    (plain p m stmt result now.end before after uncounted unkeyed whole (subst (λ (x : Seen). RefusedEarly (refusal_now p m stmt) result x) is early)
    (asked ∙ ap (λ (x : Seen). before ++ run_script p (skeleton stmt) x) is) ends)

-- nor before any access
pub lawful_refused : (p : Public) (m : ℕ) (stmt : Stmt) (r : Refusal) → refusal_now p m stmt ≡ Some r → Lawful p m stmt (ended Static)
lawful_refused p m stmt r now = record {
  static = (λ is. subst (λ (o : Option Refusal). IsSome o) (sym now) refl, λ some. refl);
  holds = tt;
  leaf = λ keyed. tt;
  cut = tt;
}

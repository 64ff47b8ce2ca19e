-- The parts of a statement where tables are saved.
use Rattle.std.proofs.Common.{◌≡◌, ℕ, ◌+◌, ◌*◌, ◌++◌, length, Bool, true, false, if◌then◌else◌, List, [], Option, None, Some, refl, sym, ◌∙◌, ap, arith, append-nil}
use Rattle.std.specs.Prelude.{◌&&◌}
use Rattle.std.specs.Option.{option_map, option_map_or}
use Rattle.std.proofs.lemmas.List.{append_assoc}
use Rattle.ob_base.specs.declared.access.Access.{Access}
use Rattle.ob_base.specs.declared.config.Public.{Public}
use Rattle.ob_base.specs.declared.seen.Seen.{Seen}
use Rattle.ob_base.specs.declared.seen.End.{End}
use Rattle.ob_base.specs.declared.seen.End.TheVariants.{Static, Whole, AfterCount, Batched, Cut}
use Rattle.ob_base.specs.declared.schema.Shape.{Shape}
use Rattle.ob_base.specs.declared.skeleton.Skeleton.{Skeleton}
use Rattle.ob_base.specs.declared.skeleton.Skeleton.TheVariants.{Create, Insert, Update, Delete, Drop as DropTable, Rows, Groups}
use Rattle.ob_base.proofs.AccessLemmas.{makes-append}
use Rattle.ob_base.specs.Accesses.{discard_at, drop_script, make_at, makes}
use Rattle.ob_base.specs.Indexes.{by_shape}
use Rattle.ob_base.specs.Numbers.{blocks_for}
use Rattle.ob_base.specs.Schemas.{columns_of, width}
use Rattle.ob_base.specs.Stored.{Stored}
use Rattle.ob_script.specs.Parts.{closing_part, copy_part, count_part, create_part, insert_part, rewrite_part}
use Rattle.ob_script.specs.Saved.{ChangesFlat, HasFlat, left_by, left_region, region_at, run_next, run_script, saved_public, whole_run}
use Rattle.ob_script.specs.Script.{FollowUp, blocks_of, changes_tables, closing_behind, closing_then, created_script, dropped_script, extent_of, index_part_of, made_by, mutation_script, rows_width, save_part, script, shape_script, until_end, whole_by, whole_script, with_table}
use Rattle.ob_script.specs.Tables.{tables_after, tables_then}
use Rattle.ob_script.specs.Trace.{next}
use Rattle.ob_script.proofs.Makes.{makes-closing_part, makes-create_part, makes-drop_script, makes-insert_part, makes-rewrite_part}

-- ---- what follows a part
insert_more : (t g blocks width : ℕ) (behind : List Access) → insert_part t g blocks width behind ≡ insert_part t g blocks width [] ++ behind
insert_more t g blocks width behind =
    ap (λ (l : List Access). make_at g blocks width ++ (count_part t blocks ++ (l ++ behind))) (sym (append-nil (copy_part t g blocks)))
    ∙ ap (λ (l : List Access). make_at g blocks width ++ l) (sym (append_assoc (count_part t blocks) (copy_part t g blocks ++ []) behind))

rewrite_more : (t g blocks width : ℕ) (behind : List Access) → rewrite_part t g blocks width behind ≡ rewrite_part t g blocks width [] ++ behind
rewrite_more t g blocks width behind =
    ap (λ (l : List Access). make_at g blocks width ++ (l ++ behind)) (sym (append-nil (copy_part t g blocks)))

-- ---- of a flat table that there is
abbrev followed_by : List Access → FollowUp
followed_by l left = l

module _ (p : Public) (name : List ℕ) (has : HasFlat name p) where
  flat_is : (f : Stored ℕ → List Access) (leaf : Option ℕ) → with_table name p (shape_script p leaf f) ≡ f has.table
  flat_is f leaf =
      ap (λ (o : Option (Stored ℕ)). option_map_or (shape_script p leaf f) o []) has.found
      ∙ ap (λ (s : Shape). by_shape s (f has.table) (index_part_of p leaf has.table)) has.flat

  drop_is : (behind : FollowUp) → with_table name p (dropped_script behind) ≡ behind (Some has.table.held)
  drop_is behind =
      ap (λ (o : Option (Stored ℕ)). option_map_or (dropped_script behind) o []) has.found
      ∙ ap (λ (s : Shape). by_shape s (behind (Some has.table.held)) (discard_at has.table.held ++ discard_at (has.table.held + 1))) has.flat

  region_is : region_at name p ≡ Some has.table.held
  region_is = ap (option_map (λ (t : Stored ℕ). t.held)) has.found

-- ---- whole statements
none_saved : (b c : Bool) → c ≡ false → (b && c) ≡ false
none_saved true c is = is
none_saved false c is = refl

all_change : (p : Public) (s : Skeleton) → ChangesFlat p s → changes_tables s ≡ true
all_change p (Rows source cs) changes = absurd changes
all_change p (Groups table cs key) changes = absurd changes
all_change p other changes = refl

both_true : (b c : Bool) → b ≡ true → c ≡ true → (b && c) ≡ true
both_true true c first second = second
both_true false c first second = absurd (cc first)

-- where tables aren't saved nothing is other than it is elsewhere
module _ (p : Public) (s : Skeleton) (seen : Seen) (unsaved : p.save ≡ false) where
  pub whole_is : whole_run p s seen ≡ whole_script p s seen
  whole_is =
      ap (λ (b : Bool). whole_by (λ (left : Option ℕ). if b then [] else drop_script left) p s seen) unsaved
      ∙ sym (ap (λ (b : Bool). whole_by (λ (left : Option ℕ). if b then save_part p s left else drop_script left) p s seen) unsaved)

  pub run_is : run_script p s seen ≡ script p s seen
  run_is = ap (until_end seen.end) whole_is

  closing_stays : (end : End) → closing_then p s end ≡ p.closing
  closing_stays Whole = ap (λ (b : Bool). if b then Some (closing_behind p s) else p.closing) (none_saved (changes_tables s) p.save unsaved)
  closing_stays other = refl

  pub next_is : run_next p s seen ≡ next p s seen
  next_is = λ i. record p { tables = tables_then p s seen.end; next_region = p.next_region + makes (run_is i); closing = sym (closing_stays seen.end) i }

-- ---- where they are
module _ (p : Public) (seen : Seen) where
  rewritten : (table : List ℕ) (has : HasFlat table p) (s : Skeleton)
      → with_table table p (shape_script p seen.leaf (mutation_script p rewrite_part (save_part p s)))
      ≡ with_table table p (shape_script p seen.leaf (mutation_script p rewrite_part (followed_by []))) ++ save_part p s (region_at table p)
  rewritten table has s =
      let behind = save_part p s in
      let t = has.table in
      flat_is p table has (mutation_script p rewrite_part behind) seen.leaf
      ∙ rewrite_more t.held p.next_region (blocks_of p (extent_of t)) (rows_width p (extent_of t)) (behind (Some t.held))
      ∙ (λ i. sym (flat_is p table has (mutation_script p rewrite_part (followed_by [])) seen.leaf) i ++ behind (sym (region_is p table has) i))

  -- of a closing and what is discarded then, by what precedes it
  followed : (s : Skeleton) → ChangesFlat p s → whole_by (save_part p s) p s seen ≡ whole_by (followed_by []) p s seen ++ save_part p s (left_region p s)
  followed (Create table cs n shape) flat =
      let created = create_part p.next_region (blocks_for p.pack n) (p.pack * width (columns_of table cs)) in
      let behind = save_part p (Create table cs n shape) in
      ap (created_script p n (width (columns_of table cs)) behind) flat
      ∙ ap (λ (l : List Access). l ++ behind None) (sym (append-nil created))
      ∙ sym (ap (λ (x : Shape). created_script p n (width (columns_of table cs)) (followed_by []) x ++ behind None) flat)
  followed (Insert table cs) has =
      let behind = save_part p (Insert table cs) in
      let t = has.table in
      flat_is p table has (mutation_script p insert_part behind) seen.leaf
      ∙ insert_more t.held p.next_region (blocks_of p (extent_of t)) (rows_width p (extent_of t)) (behind (Some t.held))
      ∙ (λ i. sym (flat_is p table has (mutation_script p insert_part (followed_by [])) seen.leaf) i ++ behind (sym (region_is p table has) i))
  followed (Update table cs) has = rewritten table has (Update table cs)
  followed (Delete table) has = rewritten table has (Delete table)
  followed (DropTable table) has =
      let behind = save_part p (DropTable table) in
      drop_is p table has behind
      ∙ (λ i. sym (drop_is p table has (followed_by [])) i ++ behind (sym (region_is p table has) i))
  followed (Rows source cs) none = absurd none
  followed (Groups table cs key) none = absurd none

  -- how many regions the change makes
  nothing : makes [] ≡ 0
  unfolding makes
  nothing = refl

  mutated : (table : List ℕ) (has : HasFlat table p) (part : ℕ → ℕ → ℕ → ℕ → List Access → List Access)
      → ((t g blocks width : ℕ) (behind : List Access) → makes (part t g blocks width behind) ≡ 1 + makes behind)
      → makes (with_table table p (shape_script p seen.leaf (mutation_script p part (followed_by [])))) ≡ 1
  mutated table has part makes_one =
      let t = has.table in
      let is = ap makes (flat_is p table has (mutation_script p part (followed_by [])) seen.leaf) in
      let one = makes_one t.held p.next_region (blocks_of p (extent_of t)) (rows_width p (extent_of t)) [] in
      omega (arith, is, one, nothing)

  made_is : (s : Skeleton) → ChangesFlat p s → makes (whole_by (followed_by []) p s seen) ≡ made_by s
  made_is (Create table cs n shape) flat =
      let created = create_part p.next_region (blocks_for p.pack n) (p.pack * width (columns_of table cs)) in
      let is = ap (λ (x : Shape). makes (created_script p n (width (columns_of table cs)) (followed_by []) x)) flat in
      let nil = ap makes (append-nil created) in
      let one = makes-create_part p.next_region (blocks_for p.pack n) (p.pack * width (columns_of table cs)) in
      omega (arith, is, nil, one)
  made_is (Insert table cs) has = mutated table has insert_part makes-insert_part
  made_is (Update table cs) has = mutated table has rewrite_part makes-rewrite_part
  made_is (Delete table) has = mutated table has rewrite_part makes-rewrite_part
  made_is (DropTable table) has = ap makes (drop_is p table has (followed_by [])) ∙ nothing
  made_is (Rows source cs) none = absurd none
  made_is (Groups table cs key) none = absurd none

  module _ (s : Skeleton) (saves : p.save ≡ true) (changes : ChangesFlat p s) where
    run_whole : whole_run p s seen ≡ whole_by (followed_by []) p s seen
    run_whole = ap (λ (b : Bool). whole_by (λ (left : Option ℕ). if b then [] else drop_script left) p s seen) saves

    -- the engine's part makes as many regions as its change
    pub run_makes : makes (whole_run p s seen) ≡ made_by s
    run_makes = ap makes run_whole ∙ made_is s changes

    left_is : left_by p s ≡ left_region p s
    left_is = ap (λ (b : Bool). if b then left_region p s else None) saves

    whole_saved : whole_script p s seen ≡ whole_run p s seen ++ save_part p s (left_by p s)
    whole_saved =
        ap (λ (b : Bool). whole_by (λ (left : Option ℕ). if b then save_part p s left else drop_script left) p s seen) saves
        ∙ followed s changes
        ∙ (λ i. sym run_whole i ++ save_part p s (sym left_is i))

    module _ (ends : seen.end ≡ Whole) where
      -- a closing follows each whole change, and then what is discarded
      pub script_saved : script p s seen ≡ run_script p s seen ++ save_part p s (left_by p s)
      script_saved =
          ap (λ (e : End). until_end e (whole_script p s seen)) ends ∙ whole_saved
          ∙ ap (λ (l : List Access). l ++ save_part p s (left_by p s)) (sym (ap (λ (e : End). until_end e (whole_run p s seen)) ends))

      save_makes : makes (save_part p s (left_by p s)) ≡ 1
      save_makes =
          let closing = closing_part (closing_behind p s) (length (tables_after p s)) in
          let all = makes-append closing (drop_script (left_by p s) ++ drop_script p.closing) in
          let one = makes-closing_part (closing_behind p s) (length (tables_after p s)) in
          let two = makes-append (drop_script (left_by p s)) (drop_script p.closing) in
          omega (arith, all, one, two, makes-drop_script (left_by p s), makes-drop_script p.closing)

      -- and what is public then
      pub next_saved : next p s seen ≡ saved_public (run_next p s seen)
      next_saved =
          let sum = ap makes script_saved ∙ makes-append (run_script p s seen) (save_part p s (left_by p s)) in
          let made = ap (λ (e : End). makes (until_end e (whole_run p s seen))) ends ∙ run_makes in
          let region : p.next_region + makes (script p s seen) ≡ p.next_region + makes (run_script p s seen) + 1 = omega (arith, sum, save_makes) in
          let behind : p.next_region + made_by s ≡ p.next_region + makes (run_script p s seen) = omega (arith, made) in
          let closing : closing_then p s seen.end ≡ Some (p.next_region + makes (run_script p s seen)) =
          ap (closing_then p s) ends
          ∙ ap (λ (b : Bool). if b then Some (closing_behind p s) else p.closing) (both_true (changes_tables s) p.save (all_change p s changes) saves)
          ∙ ap (λ (n : ℕ). Some n) behind in
          λ i. record p { tables = tables_then p s seen.end; next_region = region i; closing = closing i }

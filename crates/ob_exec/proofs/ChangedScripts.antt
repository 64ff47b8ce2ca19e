-- The accesses of a statement that changes tables, where they are saved.
use Rattle.ob_exec.proofs.Words.{Access, AfterCount, allowed, ap, Bool, changes_tables, ChangesFlat, Create, Cut, Delete, early_refusal, End, false, has_table, Heading, headings_of, Insert, is_saved, is_there, Batched, left_by, length, limits_of, List, None, Option, Public, refl, run_script, Seen, Skeleton, skeleton, Some, Static, Stmt, Stored, stored_at, sym, true, until_end, Update, Whole, whole_script, ℕ, [], ◌&&◌, ◌++◌, ◌+◌, ◌||◌, ◌∙◌, ◌∷◌, ◌≡◌}
use Rattle.std.proofs.Common.{cond}
use Rattle.std.specs.Prelude.{bytes_eq}
use Rattle.ob_base.specs.declared.schema.Table.{Table}
use Rattle.ob_base.specs.declared.skeleton.Skeleton.TheVariants as K
use Rattle.ob_base.specs.Accesses.{makes}
use Rattle.ob_base.specs.Stored.{stored_region, stored_regions}
use Rattle.ob_mean.proofs.FlatLemmas.{makes_flat, region_flat}
use Rattle.ob_mean.specs.Flats.{AreFlat}
use Rattle.ob_mean.specs.Lawful.{selects_rows}
use Rattle.ob_script.proofs.SavedParts.{run_makes, script_saved}
use Rattle.ob_script.specs.Parts.{closing_part, insert_part, rewrite_part}
use Rattle.ob_script.specs.Saved.{HasFlat, behind_run, run_next, whole_run}
use Rattle.ob_script.specs.Script.{FollowUp, behind_change, closing_behind, mutation_script, save_part, shape_script, whole_by, with_table}
use Rattle.ob_script.specs.Tables.{tables_after, tables_then}
use Rattle.ob_sql.specs.declared.stmt.Stmt.TheVariants.{Drop as DropTable, SelectRows as RowsStmt, SelectTotals as TotalsStmt}
use Rattle.ob_exec.specs.Ran.{is_whole}

-- ---- whether tables are saved
pub both_are : (b c : Bool) → (b && c) ≡ true → (b ≡ true) × (c ≡ true)
both_are true true both = (refl, refl)
both_are true false both = absurd (cc both)
both_are false c both = absurd (cc both)

pub saved_changes : (p : Public) (s : Skeleton) → is_saved p s ≡ true → changes_tables s ≡ true
saved_changes p s saved = (both_are (changes_tables s) p.save saved).0

pub saved_saves : (p : Public) (s : Skeleton) → is_saved p s ≡ true → p.save ≡ true
saved_saves p s saved = (both_are (changes_tables s) p.save saved).1

pub whole_end : (end : End) → is_whole end ≡ true → end ≡ Whole
whole_end Whole is = refl
whole_end other is = absurd (cc is)

-- no rows are selected
pub changes_plain : (stmt : Stmt) → changes_tables (skeleton stmt) ≡ true → selects_rows stmt ≡ false
changes_plain (RowsStmt q) changes = absurd (cc changes)
changes_plain other changes = refl

-- ---- the table that it changes
-- the first of a name, after one that has it or hasn't
abbrev found : (name : List ℕ) (t : Table) (ts : List Table) → Bool → Option (Stored ℕ)
found name t ts b = cond b (Some (stored_region t)) (stored_at name (stored_regions ts))

found_in : (name : List ℕ) (ts : List Table) → has_table name (headings_of ts) ≡ true → (u : Stored ℕ) × (stored_at name (stored_regions ts) ≡ Some u)
found_in name [] has = absurd (cc has)
found_in name (t ∷ ts) has = head (bytes_eq t.heading.name name) refl (found_in name ts)
  where
    head : (b : Bool) → bytes_eq t.heading.name name ≡ b → (has_table name (headings_of ts) ≡ true → (u : Stored ℕ) × (stored_at name (stored_regions ts) ≡ Some u))
        → (u : Stored ℕ) × (stored_at name (stored_regions (t ∷ ts)) ≡ Some u)
    head true hit rest = (stored_region t, ap (found name t ts) hit)
    head false miss rest =
        let there = rest (sym (ap (λ (b : Bool). b || has_table name (headings_of ts)) miss) ∙ has) in
        (there.0, ap (found name t ts) miss ∙ there.1)

module _ (p : Public) (flat : AreFlat (headings_of p.tables)) where
  has_flat : (name : List ℕ) → has_table name (headings_of p.tables) ≡ true → HasFlat name p
  has_flat name has =
      let here = found_in name p.tables has in
      record { table = here.0; found = here.1; flat = region_flat name p.tables here.0 flat here.1 }

  module _ (late : Bool) (kept : p.keep ≡ true) where
    abbrev hs : List Heading
    hs = headings_of p.tables

    -- a statement that isn't refused before any access changes flat tables, where none is an index
    pub changes_flat : (stmt : Stmt) → changes_tables (skeleton stmt) ≡ true → early_refusal late (limits_of p) hs stmt ≡ None → ChangesFlat p (skeleton stmt)
    changes_flat (Create table columns capacity shape) changes now = makes_flat late (limits_of p) hs (Create table columns capacity shape) kept now
    changes_flat (Insert table columns values) changes now = has_flat table (is_there (has_table table hs) (allowed late (limits_of p) hs (Insert table columns values) now).tables)
    changes_flat (Update table sets search) changes now = has_flat table (is_there (has_table table hs) (allowed late (limits_of p) hs (Update table sets search) now).tables)
    changes_flat (Delete table search) changes now = has_flat table (is_there (has_table table hs) (allowed late (limits_of p) hs (Delete table search) now).tables)
    changes_flat (DropTable table) changes now = has_flat table (is_there (has_table table hs) (allowed late (limits_of p) hs (DropTable table) now).tables)
    changes_flat (RowsStmt q) changes now = absurd (cc changes)
    changes_flat (TotalsStmt q) changes now = absurd (cc changes)

-- ---- its accesses
-- nothing except its leaf shows in them
whole_same : (behind : FollowUp) (p : Public) (s : Skeleton) (a b : Seen) → changes_tables s ≡ true → a.leaf ≡ b.leaf → whole_by behind p s a ≡ whole_by behind p s b
whole_same behind p (K.Create table cs n shape) a b changes leaf = refl
whole_same behind p (K.Insert table cs) a b changes leaf = ap (λ (l : Option ℕ). with_table table p (shape_script p l (mutation_script p insert_part behind))) leaf
whole_same behind p (K.Update table cs) a b changes leaf = ap (λ (l : Option ℕ). with_table table p (shape_script p l (mutation_script p rewrite_part behind))) leaf
whole_same behind p (K.Delete table) a b changes leaf = ap (λ (l : Option ℕ). with_table table p (shape_script p l (mutation_script p rewrite_part behind))) leaf
whole_same behind p (K.Drop table) a b changes leaf = refl
whole_same behind p (K.Rows source cs) a b changes leaf = absurd (cc changes)
whole_same behind p (K.Groups table cs key) a b changes leaf = absurd (cc changes)

pub run_same : (p : Public) (s : Skeleton) (a b : Seen) → changes_tables s ≡ true → a.leaf ≡ b.leaf → whole_run p s a ≡ whole_run p s b
run_same p s a b changes leaf = whole_same (behind_run p) p s a b changes leaf

-- the closing follows the engine's share, and what is discarded then
pub whole_saved : (p : Public) (s : Skeleton) (now : Seen) → p.save ≡ true → ChangesFlat p s → changes_tables s ≡ true → whole_script p s now ≡ whole_run p s now ++ save_part p s (left_by p s)
whole_saved p s now saves flat changes =
    let done : Seen = record now { end = Whole } in
    whole_same (behind_change p s) p s now done changes refl
    ∙ script_saved p done s saves flat refl
    ∙ ap (λ (l : List Access). l ++ save_part p s (left_by p s)) (whole_same (behind_run p) p s done now changes refl)

-- of one that came to its end the engine has asked all of its share
pub run_whole : (p : Public) (s : Skeleton) (now : Seen) → now.end ≡ Whole → run_script p s now ≡ whole_run p s now
run_whole p s now whole = ap (λ (end : End). until_end end (whole_run p s now)) whole

-- the closing that is written then, by what is public there
pub closing_is : (p : Public) (s : Skeleton) (now : Seen) (q : Public) → p.save ≡ true → ChangesFlat p s → now.end ≡ Whole → q ≡ run_next p s now
    → closing_part q.next_region (length q.tables) ≡ closing_part (closing_behind p s) (length (tables_after p s))
closing_is p s now q saves flat whole is =
    let region : p.next_region + makes (run_script p s now) ≡ closing_behind p s =
    ap (λ (n : ℕ). p.next_region + n) (ap makes (run_whole p s now whole) ∙ run_makes p now s saves flat) in
    let tables : tables_then p s now.end ≡ tables_after p s = ap (tables_then p s) whole in
    ap (λ (x : Public). closing_part x.next_region (length x.tables)) is ∙ (λ i. closing_part (region i) (length (tables i)))

-- a statement that changes no table asks the engine's share alone
pub unsaved_whole : (p : Public) (s : Skeleton) (now : Seen) → changes_tables s ≡ false → whole_run p s now ≡ whole_script p s now
unsaved_whole p (K.Rows source cs) now none = refl
unsaved_whole p (K.Groups table cs key) now none = refl
unsaved_whole p other now none = absurd (cc none)

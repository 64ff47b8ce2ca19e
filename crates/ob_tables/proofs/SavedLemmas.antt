-- What waits in the store after a statement, where tables are saved.
use Rattle.ob_tables.proofs.Words.{AfterCount, Agrees, ap, arith, Bool, bytes_eq, bytes_eq-Decides, cond, Cut, End, Engine, Err, false, Groups, if◌then◌else◌, IsTableRegion, Batched, left_region, List, None, Ok, Option, option_map, Outcome, Public, RanStatement, refl, Result, RevState, RunStop, Skeleton, slice_get, Some, Static, Stored, stored_at, stored_region, stored_regions, StoreState, suc, sym, true, Whole, zero, ℕ, [], ◌<◌, ◌∙◌, ◌∷◌, ◌≡◌}
use Rattle.ob_base.specs.declared.schema.Table.{Table}
use Rattle.ob_base.specs.declared.skeleton.Skeleton.TheVariants.{Create, Insert, Update, Delete, Drop as DropTable, Rows}
use Rattle.ob_script.specs.Saved.{left_by, left_then, run_next}
use Rattle.ob_tables.specs.Agreeing.{replaced_of}
use Rattle.ob_tables.specs.Running.{GoesOn, LeftBehind}
use Rattle.ob_tables.specs.Saving.{Waits, WaitsAt}

-- the region of a name, after a first table that has it or hasn't
abbrev behind : (name : List ℕ) (t : Table) (ts : List Table) → Bool → Option ℕ
behind name t ts b = option_map (λ (u : Stored ℕ). u.held) (cond b (Some (stored_region t)) (stored_at name (stored_regions ts)))

-- it is that of a table
region_table : (name : List ℕ) (ts : List Table) (q : ℕ) → option_map (λ (u : Stored ℕ). u.held) (stored_at name (stored_regions ts)) ≡ Some q → IsTableRegion ts q
region_table name [] q is = absurd (cc is)
region_table name (t ∷ ts) q is = head (bytes_eq t.heading.name name) refl (region_table name ts q)
  where
    head : (b : Bool) → bytes_eq t.heading.name name ≡ b → (behind name t ts false ≡ Some q → IsTableRegion ts q) → IsTableRegion (t ∷ ts) q
    head true hit rest =
        let here = ap (behind name t ts) hit in
        record { place = 0; table = t; get = refl; region = cc (here, is) }
    head false miss rest =
        let there = rest (sym (ap (behind name t ts) miss) ∙ is) in
        record { place = suc there.place; table = there.table; get = there.get; region = there.region }

-- ---- the first table of a name is found by it
pub region_first : (name : List ℕ) (ts : List Table) (i : ℕ) (t : Table) → slice_get ts i ≡ Some t → t.heading.name ≡ name
    → ((j : ℕ) (u : Table) → j < i → slice_get ts j ≡ Some u → u.heading.name ≡ name → ⊥) → option_map (λ (u : Stored ℕ). u.held) (stored_at name (stored_regions ts)) ≡ Some t.region
region_first name [] zero t get named first = absurd (cc get)
region_first name [] (suc i) t get named first = absurd (cc get)
region_first name (x ∷ xs) zero t get named first =
    let same : x ≡ t = cc get in
    let hit = (bytes_eq-Decides x.heading.name name).1 (ap (λ (u : Table). u.heading.name) same ∙ named) in
    ap (behind name x xs) hit ∙ ap (λ (u : Table). Some u.region) same
region_first name (x ∷ xs) (suc i) t get named first =
    head (bytes_eq x.heading.name name) refl
    (region_first name xs i t get named (λ j u below at is. first (suc j) u (omega (arith, below)) at is))
  where
    head : (b : Bool) → bytes_eq x.heading.name name ≡ b → behind name x xs false ≡ Some t.region → option_map (λ (u : Stored ℕ). u.held) (stored_at name (stored_regions (x ∷ xs))) ≡ Some t.region
    head true hit rest = absurd (first 0 x (omega arith) refl ((bytes_eq-Decides x.heading.name name).0 hit))
    head false miss rest = ap (behind name x xs) miss ∙ rest

pub region_none : (name : List ℕ) (ts : List Table) → ((j : ℕ) (u : Table) → slice_get ts j ≡ Some u → u.heading.name ≡ name → ⊥) → option_map (λ (u : Stored ℕ). u.held) (stored_at name (stored_regions ts)) ≡ None
region_none name [] none = refl
region_none name (x ∷ xs) none = head (bytes_eq x.heading.name name) refl (region_none name xs (λ j u at is. none (suc j) u at is))
  where
    head : (b : Bool) → bytes_eq x.heading.name name ≡ b → behind name x xs false ≡ None → option_map (λ (u : Stored ℕ). u.held) (stored_at name (stored_regions (x ∷ xs))) ≡ None
    head true hit rest = absurd (none 0 x refl ((bytes_eq-Decides x.heading.name name).0 hit))
    head false miss rest = ap (behind name x xs) miss ∙ rest

module _ {R : Type 0} (state : R → RevState) (old : Engine R) (s : StoreState) (new : Engine R) (t : StoreState) (agrees : Agrees state old s) where
  -- a statement leaves that of a table
  left_table : (saves : Bool) (skeleton : Skeleton) (q : ℕ) → (if saves then left_region old.public skeleton else None) ≡ Some q → IsTableRegion old.public.tables q
  left_table false skeleton q is = absurd (cc is)
  left_table true (Create table cs n shape) q is = absurd (cc is)
  left_table true (Insert table cs) q is = region_table table old.public.tables q is
  left_table true (Update table cs) q is = region_table table old.public.tables q is
  left_table true (Delete table) q is = region_table table old.public.tables q is
  left_table true (DropTable table) q is = region_table table old.public.tables q is
  left_table true (Rows source cs) q is = absurd (cc is)
  left_table true (Groups table cs key) q is = absurd (cc is)

  module _ (skeleton : Skeleton) where
    -- which lies in the store then, until it is discarded
    left_waits : GoesOn state skeleton (run_next old.public skeleton new.seen) old new t → (q : ℕ) → left_by old.public skeleton ≡ Some q → LeftBehind state q s new t → WaitsAt state q new t
    left_waits on q is left =
        let at = left_table old.public.save skeleton q is in
        let live = (agrees.tables.each at.place at.table at.get).live in
        let here = (agrees.ready.tied.live at.table.region live.shape live.lives.live).live in
        let low = agrees.ready.below at.table.region live.shape live.lives.live in
        let was = agrees.next in
        let now = on.agrees.next in
        let made = ap (λ (p : Public). p.next_region) on.public in
        let region = at.region in
        record {
          live = record { shape = _; live = left.stored.live ∙ ap s.live (sym region) ∙ here };
          below = omega (arith, low, was, now, made, region);
          forgotten = left.forgotten;
        }

    left_at : (result : Result Outcome RunStop) (end : End) → new.seen.end ≡ end → RanStatement state skeleton result old s new t → (q : ℕ) → left_then old.public skeleton new.seen.end ≡ Some q → WaitsAt state q new t
    left_at (Err stop) end same ran q is = let none = ap (left_then old.public skeleton) ran.ends in absurd (cc (none, is))
    left_at (Ok outcome) Static same ran q is = let none = ap (left_then old.public skeleton) same in absurd (cc (none, is))
    left_at (Ok outcome) Whole same ran q is = left_waits ran.goes_on q (sym (ap (left_then old.public skeleton) same) ∙ is) (ran.stays q is)
    left_at (Ok outcome) AfterCount same ran q is = let none = ap (left_then old.public skeleton) same in absurd (cc (none, is))
    left_at (Ok outcome) Batched same ran q is = let none = ap (left_then old.public skeleton) same in absurd (cc (none, is))
    left_at (Ok outcome) (Cut n) same ran q is = let none = ap (left_then old.public skeleton) same in absurd (cc (none, is))

    pub waits_behind : (result : Result Outcome RunStop) → RanStatement state skeleton result old s new t → replaced_of old ≡ None → Waits state (left_then old.public skeleton new.seen.end) new t
    waits_behind result ran none = record {
      former = left_at result new.seen.end refl ran;
      replaced = λ q is. absurd (cc (none, ran.replaced, is));
      apart = λ q left is. absurd (cc (none, ran.replaced, is));
    }

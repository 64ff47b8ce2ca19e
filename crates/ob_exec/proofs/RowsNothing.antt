-- A SELECT of rows of which nothing was counted yet.
use Rattle.ob_exec.proofs.Words.{Access, answer_events, ap, arith, Bool, ChangesNothing, count_end, count_part, discard_at, done_of, End, Event, extent_of, false, from, HaltsRows, header, held_empty, held_if, HoldsRows, inl, inr, is_access, IsSome, LeavesNone, length, length-append, List, nat_le, None, Option, option_map_or, places, Plan, Public, refl, rows_script, seals_rests, Seen, selection, selection_seen, Slots, slots_of, Some, Source, SourceToHalt, Stored, stored_at, StoreState, subst, sym, walk_end, went_rests, Whole, ℕ, [], ◌++◌, ◌+◌, ◌-◌, ◌<◌, ◌∙◌, ◌≡◌, ◌≤◌}
use Rattle.ob_base.specs.declared.skeleton.Skeleton.TheVariants.{Rows as RowsSkeleton}
use Rattle.ob_base.specs.declared.skeleton.Source.TheVariants.{Table as OneTable, Join}
use Rattle.ob_base.specs.Plans.{choose_padded, padded_rows}
use Rattle.ob_select.proofs.UntilLemmas.{until_none}
use Rattle.ob_base.specs.Stored.{stored_regions}
use Rattle.ob_script.specs.Script.{behind_count, flat_script, join_script, plan_part, result_blocks, result_part, table_script, with_table}
use Rattle.ob_vault.specs.State.{VaultState}
use Rattle.ob_vault.specs.Tied.{Ready}
use Rattle.ob_vault.specs.declared.region.Region.{Region}
use Rattle.ob_flat.specs.declared.fault.OpErr.TheVariants as OpErrs
use Rattle.ob_sql.specs.declared.stmt.SelectRows.{SelectRows}
use Rattle.ob_mean.specs.Verdict.{ended as seen_to}
use Rattle.ob_exec.specs.Sources.{rows_skeleton}
use Rattle.ob_exec.proofs.RowsLawful.{seen_as}
use Rattle.ob_exec.proofs.RowsSeconded.{Seconded, alone, followed, held_none, rows_seconded}
use Rattle.ob_exec.proofs.RowsReach.{count_length, joined_part, joined_stored, part, part_length, table_asks, unpadded}
use Rattle.ob_tables.proofs.RunLemmas.{world}

-- ---- the first result is read back after the count
module _ (p : Public) (k : ℕ) (plan : Plan) (second : Option Plan) (end : End) where
  result_some : (taken : Plan) (rows g : ℕ) (t : Stored ℕ) → 1 ≤ length (result_part p (Some taken) rows g (extent_of t))
  result_some taken rows g t =
      let made = plan_part p taken rows g (extent_of t) in
      let back = count_part g (result_blocks p taken rows (extent_of t)) in
      let a = length-append made (back ++ discard_at g) in
      let b = length-append back (discard_at g) in
      omega (arith, a, b)

  behind_late : (pad : Option ℕ) (g : ℕ) (t : Stored ℕ) (ending : List Access)
      → length ending + 1 ≤ length (behind_count pad p (seen_as (Some k) (Some plan) None end) g (extent_of t) ending)
  behind_late None g t ending =
      let a = result_some plan k g t in
      let b = length-append (result_part p (Some plan) k g (extent_of t)) ending in
      omega (arith, a, b)
  behind_late (Some pad) g t ending =
      let rows = padded_rows pad t.heading.capacity in
      let taken = choose_padded p.planner p.pack p.buffer t.heading.capacity rows in
      let a = result_some taken rows g t in
      let b = length-append (result_part p (Some taken) rows g (extent_of t)) ending in
      omega (arith, a, b)

  pub part_late : (g : ℕ) (t : Stored ℕ) (pre ending : List Access)
      → length (part (unpadded p) g t pre ending (seen_to Whole)) ≤ length (part p g t pre ending (seen_as (Some k) (Some plan) None end)) - (length ending + 1)
  part_late g t pre ending =
      let a = count_length p g t pre ending in
      let b = part_length p g t pre ending (seen_as (Some k) (Some plan) None end) in
      let c = behind_late p.pad g t ending in
      omega (arith, a, b, c)

  table_late : (o : Option (Stored ℕ)) → length (option_map_or (flat_script (unpadded p) (seen_to Whole)) o []) ≤ length (option_map_or (flat_script p (seen_as (Some k) (Some plan) None end)) o []) - 1
  table_late None = omega arith
  table_late (Some t) = part_late p.next_region t [] []

  join_late : (o q : Option (Stored ℕ)) → length (option_map_or (λ left. option_map_or (λ right. join_script (unpadded p) (seen_to Whole) left right) q []) o [])
      ≤ length (option_map_or (λ left. option_map_or (λ right. join_script p (seen_as (Some k) (Some plan) None end) left right) q []) o []) - 2
  join_late None q = omega arith
  join_late (Some left) None = omega arith
  join_late (Some left) (Some right) = part_late (p.next_region + 1) (joined_stored p left right) (joined_part p left right) (discard_at p.next_region)

  walk_late : (select : SelectRows) → is_access p (rows_skeleton select) ≡ false → count_end p (rows_skeleton select) ≤ walk_end p (rows_skeleton select) (seen_as (Some k) (Some plan) second end)
  walk_late select unkeyed = go select.source unkeyed
    where
      go : (source : Source) → is_access p (RowsSkeleton source select.list) ≡ false → count_end p (RowsSkeleton source select.list) ≤ walk_end p (RowsSkeleton source select.list) (seen_as (Some k) (Some plan) second end)
      go (OneTable name) flat =
          let now = seen_as (Some k) (Some plan) None end in
          subst (λ (l : List Access). length l ≤ length (with_table name p (table_script p now)) - 1) (sym (table_asks (unpadded p) name (seen_to Whole) flat))
          (subst (λ (l : List Access). length (with_table name (unpadded p) (flat_script (unpadded p) (seen_to Whole))) ≤ length l - 1) (sym (table_asks p name now flat))
          (table_late (stored_at name (stored_regions p.tables))))
      go (Join a b on equals) flat = join_late (stored_at a (stored_regions p.tables)) (stored_at b (stored_regions p.tables))

-- what is held before the count has ended
module _ (p : Public) (select : SelectRows) (slots : Slots) (failed : Bool) (n : ℕ) (now : Seen) (fresh : now ≡ seen_to Whole)
    (less : done_of failed n < count_end p (rows_skeleton select)) (unkeyed : is_access p (rows_skeleton select) ≡ false) where
  second_nothing : Seconded (selection_seen (selection p select) slots)
      → None ≡ held_if (nat_le (walk_end p (rows_skeleton select) (selection_seen (selection p select) slots)) (done_of failed n)) (selection_seen (selection p select) slots).then
  second_nothing (alone is) = held_empty (nat_le (walk_end p (rows_skeleton select) (selection_seen (selection p select) slots)) (done_of failed n)) _ is
  second_nothing (followed k plan second end is) =
      let late = walk_late p k plan (Some second) end select unkeyed in
      let same = ap (walk_end p (rows_skeleton select)) is in
      held_none _ (walk_end p (rows_skeleton select) (selection_seen (selection p select) slots)) (done_of failed n) (omega (arith, late, same, less))

  pub holds_nothing : HoldsRows p select slots failed n now
  holds_nothing = record {
    k = ap (λ (x : Seen). x.k) fresh ∙ held_none _ (count_end p (rows_skeleton select)) (done_of failed n) less;
    plan = ap (λ (x : Seen). x.plan) fresh ∙ held_none _ (count_end p (rows_skeleton select)) (done_of failed n) less;
    second = ap (λ (x : Seen). x.then) fresh ∙ second_nothing (rows_seconded p (length slots) (places (selection p select) slots));
  }

-- no region from the next one on is live
pub leaves_ready : (v : VaultState) (s t : StoreState) → Ready (world v s) → LeavesNone (world v s) (world v t)
leaves_ready v s t ready = record { gone = λ r above. go r above (v.revs.live r) refl }
  where
    go : (r : ℕ) → v.next ≤ r → (o : Option Region) → v.revs.live r ≡ o → v.revs.live r ≡ None
    go r above None is = is
    go r above (Some shape) is = let below = ready.below r shape is in absurd (omega (arith, below, above))

-- memory was wanted before the first access
module _ {E : Type 0} (grew cut : E → E → List Event → Type 0) (p : Public) (select : SelectRows) (now : Seen) (v : VaultState) (s t : StoreState) (out : E)
    (ready : Ready (world v s)) (rests : ChangesNothing s t) (fresh : now ≡ seen_to Whole) (counts : 1 ≤ count_end p (rows_skeleton select)) (unkeyed : is_access p (rows_skeleton select) ≡ false) where
  pub halts_first : HaltsRows grew cut p select OpErrs.NoMemory now (world v s) (world v t) out out
  halts_first =
      let went = went_rests v s t rests (from v.next) ready in
      let same = ap length rests.asked in
      record {
        ran = record {
          lasts = went.lasts;
          began = record { done = []; rest = rows_script p select now; split = refl; asked = went.did.asked };
          asks = λ is. absurd (cc is);
          cause = (went.did.faults, went.calm);
        };
        leaves = leaves_ready v s t ready;
        seals = λ good accepts. seals_rests v s t rests good;
        holds = subst (λ (x : Seen). Rattle.ob_select.specs.Selecting.MayHold (selection p select) x.k x.plan x.then) (sym fresh) tt;
        leaf = ap (λ (x : Seen). x.leaf) fresh;
        reached = record {
          count = λ some. let is = subst (λ (x : Seen). IsSome x.k) fresh some in absurd (cc is);
          walk = λ some. let is = subst (λ (x : Seen). IsSome x.then) fresh some in absurd (cc is);
        };
        memory = λ wanted. record { done = []; rest = rows_script p select now; split = refl; asked = went.did.asked; place = inl (inl refl) };
        halted = until_none grew cut (header (selection p select).flat.schema (selection p select).cols) OpErrs.NoMemory
            (λ (x : SourceToHalt p (world v s) (world v t)). answer_events (selection p select) (slots_of p select x.tables)) out (λ is. cc is);
        honest = λ x. inr (inr refl);
        begun = λ x lie told. absurd (cc (x.nolie, rests.lie, told));
        held = λ x. holds_nothing p select (slots_of p select x.tables) false (length t.asked - length s.asked) now fresh (omega (arith, same, counts)) unkeyed;
      }

-- A statement that changes flat tables asks few accesses.
use Rattle.ob_exec.proofs.Words.{Agrees, allowed, ap, arith, Bool, changes_tables, ChangesFlat, count_of, Create, Delete, early_refusal, Engine, false, headings_of, IfSome, Insert, is_late, left_by, length, length-append, limits_of, List, nat_tests, None, Option, Public, refl, refusal_now, region_below, RevState, run_script, script, Seen, skeleton, slice_get, Some, Stmt, Stored, stored_at, StoreState, subst, sym, true, Update, Whole, world_of, ℕ, ◌++◌, ◌+◌, ◌<◌, ◌^◌, ◌≡◌, ◌≤◌}
use Rattle.std.specs.Prelude.{All, ⊤}
use Rattle.std.proofs.Common.{get_or}
use Rattle.std.proofs.lemmas.Option.{slice_get-get_or}
use Rattle.ob_base.proofs.AccessLemmas.{makes_few}
use Rattle.ob_base.specs.declared.schema.Shape.{Shape}
use Rattle.ob_base.specs.declared.schema.Shape.TheVariants.{Flat}
use Rattle.ob_base.specs.declared.schema.Table.{Table}
use Rattle.ob_base.specs.Indexes.{height_of}
use Rattle.ob_base.specs.Stored.{stored_regions}
use Rattle.ob_mean.proofs.EarlyLemmas.{within}
use Rattle.ob_mean.proofs.FlatLemmas.{region_flat}
use Rattle.ob_mean.specs.Flats.{AreFlat}
use Rattle.ob_reopen.specs.Limits.{IsStored}
use Rattle.ob_script.proofs.Few.{script_few}
use Rattle.ob_script.proofs.SavedParts.{script_saved}
use Rattle.ob_script.specs.Script.{save_part}
use Rattle.ob_script.specs.Sizes.{IfFlat, IfTable, IsHeld, IsPublic, IsTable, IsWithin, SeesLeaf}
use Rattle.ob_sql.specs.declared.stmt.Stmt.TheVariants.{Drop as DropTable, SelectRows as RowsStmt, SelectTotals as TotalsStmt}
use Rattle.ob_tables.specs.Agreeing.{engine_start}
use Rattle.ob_vault.specs.Places.{start_of}
use Rattle.ob_vault.specs.State.{Start, earlier}

-- ---- what is public is within its limits
region_few : (start : Start) → start.region ≤ earlier start
unfolding earlier
region_few start = omega arith

tables_are : (ts : List Table) → ((i : ℕ) (t : Table) → slice_get ts i ≡ Some t → IsStored t.heading × (t.region ≤ 2 ^ 63 + 2 ^ 60)) → All IsTable ts
tables_are ts each = λ i d below. let one = each i (get_or ts i d) (slice_get-get_or ts i d below) in record { capacity = one.0.most; width = one.0.wide; region = one.1 }

public_is : {R : Type 0} (state : R → RevState) (e : Engine R) (s : StoreState) → Agrees state e s → count_of e s < 2 ^ 63 → IsPublic e.public
public_is state e s agrees few =
    let set = agrees.settings in
    let next = agrees.next in
    let tied = agrees.ready.tied.next in
    let made = makes_few s.asked in
    let region = region_few (start_of e.vault) in
    let stash = agrees.stash.few in
    record {
      pack_some = set.pack_least;
      pack_few = set.pack_most;
      buffer_some = set.blocks;
      buffer_few = set.most;
      depth_some = set.depth_least;
      depth_few = set.depth_most;
      next = omega (arith, next, tied, made, region, few);
      padded = set.padded;
      stash = stash;
      tables = tables_are e.public.tables (λ i t is.
          let below = region_below e.public.pack i e.public.tables t (world_of state e s) agrees.ready agrees.tables is in
          ((agrees.tables.each i t is).heading.stored, omega (arith, below, tied, made, region, few)));
      listed = λ saves. agrees.tables.few;
    }

-- ---- so is what is seen of a change of flat tables
held_flat : (p : Public) (seen : Seen) (A : Type 0) (t : Stored ℕ) → t.heading.shape ≡ Flat → A → IsHeld p seen A t
held_flat p seen A t flat a = subst (λ (shape : Shape). IfFlat shape A (SeesLeaf p.stash (height_of t.heading.capacity) seen.leaf seen.end)) (sym flat) a

table_held : (p : Public) (seen : Seen) (name : List ℕ) → AreFlat (headings_of p.tables) → IfTable name p (IsHeld p seen ⊤)
table_held p seen name flat = go (stored_at name (stored_regions p.tables)) refl
  where
    go : (o : Option (Stored ℕ)) → stored_at name (stored_regions p.tables) ≡ o → IfSome o (IsHeld p seen ⊤)
    go None is = tt
    go (Some t) is = held_flat p seen ⊤ t (region_flat name p.tables t flat is) tt

change_within : (p : Public) (late : Bool) (stmt : Stmt) (seen : Seen) → AreFlat (headings_of p.tables) → changes_tables (skeleton stmt) ≡ true → early_refusal late (limits_of p) (headings_of p.tables) stmt ≡ None
    → IsWithin p (skeleton stmt) seen
change_within p late (Create table columns capacity shape) seen flat changes now =
    let free = allowed late (limits_of p) (headings_of p.tables) (Create table columns capacity shape) now in
    let new = within (limits_of p) (headings_of p.tables) table columns capacity shape free.limits in
    (new.most, new.wide)
change_within p late (Insert table columns values) seen flat changes now = table_held p seen table flat
change_within p late (Update table sets search) seen flat changes now = table_held p seen table flat
change_within p late (Delete table search) seen flat changes now = table_held p seen table flat
change_within p late (DropTable table) seen flat changes now = tt
change_within p late (RowsStmt q) seen flat changes now = absurd (cc changes)
change_within p late (TotalsStmt q) seen flat changes now = absurd (cc changes)

-- ---- a statement that isn't late
not_late : (m : ℕ) → is_late m ≡ false → m < 2 ^ 63
not_late m late = grind (arith, nat_tests)

-- leaves numbers for a closing, once the engine's share was asked
pub few_behind : {R : Type 0} (state : R → RevState) (old : Engine R) (s : StoreState) (new : Engine R) (t : StoreState) (stmt : Stmt) (now : Seen)
    → Agrees state old s → old.public.save ≡ true → AreFlat (headings_of old.public.tables) → ChangesFlat old.public (skeleton stmt) → changes_tables (skeleton stmt) ≡ true
    → refusal_now old.public (count_of old s) stmt ≡ None → now.end ≡ Whole → engine_start new ≡ engine_start old → t.asked ≡ s.asked ++ run_script old.public (skeleton stmt) now
    → count_of new t < 2 ^ 63 + 2 ^ 59
few_behind state old s new t stmt now agrees saves flat changes_flat changes early whole start asked =
    let p = old.public in
    let sk = skeleton stmt in
    let late = is_late (count_of old s) in
    let small = not_late (count_of old s) (allowed late (limits_of p) (headings_of p.tables) stmt early).early in
    let all : length (script p sk now) < 2 ^ 49 = script_few p sk now (public_is state old s agrees small) (λ started. change_within p late stmt now flat changes early) in
    let parts = ap length (script_saved p now sk saves changes_flat whole) in
    let both = length-append (run_script p sk now) (save_part p sk (left_by p sk)) in
    let sum = ap length asked in
    let more = length-append s.asked (run_script p sk now) in
    let same = ap earlier start in
    omega (arith, small, all, parts, both, sum, more, same)

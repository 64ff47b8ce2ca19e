-- A statement that reads a table and changes none.
use Rattle.ob_tables.proofs.Words.{Access, Agrees, answer_of, ap, AreHeld, AreTables, arith, blocks_for, count_part, Cut, End, Engine, false, flat_of, free_after, Groups, inr, is_stop, IsAt, IsFlat, IsFree, Lasts, length, List, None, none, Ok, Opens, OpErr, Option, option_map_or, others_of, Outcome, PassCut, RanStatement, refl, RevState, RoomState, Skeleton, slice_get, Some, Stored, StoreState, subst, sym, Tables, UsesRoom, Vault, Went, went_join, went_rests, Whole, whole_run, World, world_of, ℕ, [], ◌-◌, ◌∙◌, ◌≡◌}
use Rattle.ob_base.specs.declared.schema.Table.{Table}
use Rattle.ob_base.specs.declared.skeleton.ColumnName.{ColumnName}
use Rattle.ob_store.specs.Calls.{ChangesNothing}
use Rattle.ob_script.specs.Script.{blocks_of, extent_of}
use Rattle.ob_vault.specs.Places.{at}
use Rattle.ob_flat.specs.declared.flat.Flat.{Flat}
use Rattle.ob_flat.specs.Flats.{IsSized}
use Rattle.ob_flat.proofs.Runs.{pass_after}
use Rattle.ob_mean.specs.Verdict.{ended as seen_to}
use Rattle.ob_base.specs.declared.schema.Shape.TheVariants.{Flat as FlatShape}
use Rattle.ob_tables.proofs.HeldLemmas.{held_kept}
use Rattle.ob_tables.proofs.RunLemmas.{IsAnswered, engine_after, leaves_none, none_by, ran_stopped, ran_whole}
use Rattle.ob_tables.proofs.TableLemmas.{flat_kept, tables_kept, stored_found}

-- ---- its table, once the store has room
module _ {R : Type 0} (state : R → RevState) (old : Engine R) (s s1 : StoreState) (i : ℕ) (table : Table) (agrees : Agrees state old s) (rests : ChangesNothing s s1)
    (get : slice_get old.public.tables i ≡ Some table) (shape : table.heading.shape ≡ FlatShape) (flat : Flat) (flat_is : flat ≡ flat_of table) where
  pub read_flat : IsFlat old.room.pack flat (at state old.vault s1)
  read_flat =
      subst (λ (f : Flat). IsFlat old.room.pack f (at state old.vault s1)) (sym flat_is)
      (flat_kept none old.room.pack (flat_of table) (world_of state old s) _ (went_rests _ s s1 rests none agrees.ready).lasts (λ off. off)
      (subst (λ (k : ℕ). IsFlat k (flat_of table) (world_of state old s)) (sym agrees.room.pack) ((agrees.tables.each i table get).written shape).flat))

  pub read_size : IsSized flat.schema flat.capacity
  read_size =
      let stored = (agrees.tables.each i table get).heading.stored in
      let few = stored.few in
      let most = stored.most in
      subst (λ (f : Flat). IsSized f.schema f.capacity) (sym flat_is)
      (record { some = stored.some; few = omega (arith, few); wide = stored.wide; least = stored.least; most = omega (arith, most) })

-- ---- what it did
module _ {R : Type 0} (state : R → RevState) (old : Engine R) (s s1 : StoreState) (v : Vault R) (room : RoomState) (t : StoreState)
    (name : List ℕ) (names : List ColumnName) (key : Option ColumnName) (i : ℕ) (table : Table)
    (agrees : Agrees state old s) (rests : ChangesNothing s s1) (uses : UsesRoom old.room room) (here : IsAt name i table old.public.tables) where
  abbrev pub reads : List Access
  reads = count_part table.region (blocks_for old.room.pack table.heading.capacity)

  abbrev pub select : Skeleton
  select = Groups name names key

  abbrev now : World
  now = at state v t

  pub reads_is : (end : End) → whole_run old.public select (seen_to end) ≡ reads
  reads_is end =
      ap (λ (o : Option (Stored ℕ)). option_map_or (λ (u : Stored ℕ). count_part u.held (blocks_of old.public (extent_of u))) o [])
      (stored_found name old.public.tables i table agrees.tables.names here.get here.named)
      ∙ (λ j. count_part table.region (blocks_for (sym agrees.room.pack j) table.heading.capacity))

  tables_read : Lasts none (world_of state old s) now → AreTables old.public.tables (others_of old.closing old.indexes.items) old.indexes.items old.public.pack now
  tables_read lasts = tables_kept none old.public.pack old.public.tables (others_of old.closing old.indexes.items) old.indexes.items _ _ lasts (λ j u is off. off) (λ q is off. off) (λ q shape live off. off) agrees.tables

  pub held_read : (tables : Tables) → AreHeld old.public.pack old.indexes.items old.public.tables tables (world_of state old s) → Lasts none (world_of state old s) now → AreHeld old.public.pack old.indexes.items old.public.tables tables now
  held_read tables held lasts = held_kept none old.public.pack old.indexes.items old.public.tables tables _ _ lasts (λ j u is off. off) (λ k x is off. off) held

  free : IsFree old.public room
  free = free_after old.public old.room room _ agrees.room uses.same

  opened : (part : List Access) → Opens part old.room.high room.high
  opened part = record { kept = uses.kept; some = λ any. uses.some }

  -- all of it was asked
  pub went_all : Went reads none (at state old.vault s1) now → Went reads none (world_of state old s) now
  went_all went = went_join none _ _ _ [] reads (went_rests _ s s1 rests none agrees.ready) went

  pub read_done : (outcome : Outcome) → IsAnswered outcome → Went reads none (at state old.vault s1) now → old.ended ≡ false
      → RanStatement state select (Ok outcome) old s (engine_after old v room old.public.tables Whole old.ended) t
  read_done outcome answered went lives =
      let all = went_all went in
      ran_whole state select old s v room t agrees free refl none old.public.tables reads outcome lives answered (opened reads) all (reads_is Whole) refl (tables_read all.lasts)
      (λ q is. leaves_none old.public select Whole q _ (none_by old.public.save None (inr refl)) is) (λ saves q below. all.lasts.apart.rests q (λ off. off))

  -- the pass gave up
  pub cut_after : (e : OpErr) → PassCut e reads none (at state old.vault s1) now → PassCut e reads none (world_of state old s) now
  cut_after e cut = pass_after none _ _ _ e [] reads (went_rests _ s s1 rests none agrees.ready) cut

  pub read_cut : (e : OpErr) (n : ℕ) → PassCut e reads none (at state old.vault s1) now → n ≡ length t.asked - length s.asked
      → RanStatement state select (answer_of e) old s (engine_after old v room old.public.tables (Cut n) (is_stop (answer_of e))) t
  read_cut e n cut count =
      let all = cut_after e cut in
      ran_stopped state select old s v room t agrees free refl none n reads e (opened _) all (reads_is (Cut n)) count (tables_read all.lasts) (λ q below off. off)

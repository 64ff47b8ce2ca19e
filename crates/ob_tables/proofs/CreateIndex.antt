-- CREATE TABLE of an index.
use Rattle.ob_tables.proofs.Words.{accepted_answer, Access, Agrees, allowed, answer_of, ap, append_assoc, AreDraws, AreHeld, AreTables, arith, Bool, Columns, columns_of, count_of, Created, Cut, database, draw_at, draw_seed_of, DrawPlace, Draws, End, Engine, Err, false, followed, free_after, Global, headings_of, height_of, HoldsTable, Index, index_of, Indexed, inl, inr, is_late, is_stop, IsFree, IsIndexOfTable, IsTable, IsTrue, KeepsSealed, key_of, later_rests, length, length-append, IsStoredAs, limits_of, List, Lives, map, max, nat_lt, nat_tests, neither, None, Ok, Opens, OpErr, Option, others_of, outcome_of, PassCut, Public, RanStatement, refl, Refusal, refusal, refusal_now, refused_late, Region, replicate, Result, RevState, RoomState, Seals, seals_join, seals_rests, ServesSilently, settle, settled, slice_get, Some, StoreState, subst, suc, sym, table_region, Tables, tabulate, two, Vault, Vec, Went, went_join, went_rests, Whole, whole_run, width, World, world_of, zero, ℕ, [], ◌%◌, ◌*◌, ◌++◌, ◌+◌, ◌-◌, ◌<◌, ◌^◌, ◌∙◌, ◌∷◌, ◌≡◌, ◌≤◌, ◌⊎◌}
use Rattle.std.specs.Prelude.{sum_by}
use Rattle.std.specs.List.{All}
use Rattle.std.proofs.lemmas.Bool.{not-false}
use Rattle.std.proofs.lemmas.List.{length-replicate, replicate-append-replicate}
use Rattle.ob_base.specs.declared.access.Access.TheVariants.{Make}
use Rattle.ob_base.specs.declared.schema.Table.{Table}
use Rattle.ob_base.specs.declared.skeleton.NewColumn.{NewColumn}
use Rattle.ob_base.specs.declared.skeleton.Skeleton.TheVariants.{Create}
use Rattle.ob_base.specs.Accesses.{write_at}
use Rattle.ob_base.specs.Indexes.{IsHeight, leaf_of_draw, tree_blocks}
use Rattle.ob_base.specs.Lists.{each}
use Rattle.ob_base.proofs.IndexLemmas.{height_same, is_height_of}
use Rattle.ob_row.specs.Rows.{Row}
use Rattle.ob_path.specs.States.{State}
use Rattle.ob_store.specs.Calls.{ChangesNothing}
use Rattle.ob_vault.specs.declared.region.Order.TheVariants.{Any}
use Rattle.ob_vault.specs.Places.{at}
use Rattle.ob_flat.specs.declared.flat.Flat.{Flat}
use Rattle.ob_flat.specs.Creates.{create_script, make_script}
use Rattle.ob_flat.specs.Words.{blocks_of}
use Rattle.ob_flat.proofs.Runs.{pass_after}
use Rattle.ob_oram.specs.Creating.{BeganBehind, CreatesIndex, CreatesRegions, IsFresh, create_index_script, new_stash, new_tree}
use Rattle.ob_oram.specs.Indexes.{leaves_of, tree_of}
use Rattle.ob_oram.specs.Keys.{IsIntKey}
use Rattle.ob_oram.proofs.Creates.{one_each}
use Rattle.ob_script.specs.Parts.{create_part}
use Rattle.ob_seal.proofs.Drawn.{draws_wrap}
use Rattle.ob_sql.specs.declared.stmt.Stmt.TheVariants.{Create as CreateStmt}
use Rattle.ob_mean.specs.Refusals.{has_int_key}
use Rattle.ob_mean.specs.Settle.{new_held}
use Rattle.ob_mean.specs.Step.{answered as answered_by}
use Rattle.ob_mean.specs.Verdict.{held_as, leaves_drawn, ended as seen_to}
use Rattle.ob_mean.proofs.VerdictLemmas.{index_again}
use Rattle.ob_select.specs.Memory.{ends_with_make, starts_with_make}
use Rattle.ob_reopen.specs.Limits.{IsHeading}
use Rattle.ob_tables.specs.Engines.{FitsSettings}
use Rattle.ob_tables.specs.Leaves.{MovesLeaves}
use Rattle.ob_tables.specs.Memory.{LacksMemory}
use Rattle.ob_tables.proofs.CreateLemmas.{IsShort, new_heading, new_name, new_place, new_within}
use Rattle.ob_tables.proofs.HeldLemmas.{held_added, held_among, held_kept}
use Rattle.ob_tables.proofs.IndexKinds.{next_place}
use Rattle.ob_tables.proofs.IndexTables.{tables_indexed}
use Rattle.ob_tables.proofs.IntKey.{int_key}
use Rattle.ob_tables.proofs.PlainLemmas.{settle_is}
use Rattle.ob_tables.proofs.RunLemmas.{IsAnswered, MayHave, asks_none, engine_left, leaves_none, none_by, left_on, may_have, only_memory, opens_some, stopped_left}
use Rattle.ob_tables.proofs.SilentLemmas.{finished_left, means_left}
use Rattle.ob_tables.proofs.TableLemmas.{beside_below, get_more, region_below, tables_kept}
use Rattle.ob_tables.proofs.ToldLemmas.{early_held, fault_made, silent_fault}

-- an index with no row
abbrev created : (height slots : ℕ) → List ℕ → State Row
created height slots leaves = record { tree = replicate (tree_blocks height) None; stash = replicate slots None; leaves = leaves }

-- ---- lists of accesses
-- a first part of a make is nothing, or all of it
data OfMake (a : Access) (done rest : List Access) : Type 0 where
  nothing : (none : done ≡ []) → (all : rest ≡ a ∷ []) → OfMake a done rest
  whole : (all : done ≡ a ∷ []) → (none : rest ≡ []) → OfMake a done rest

of_make : (a : Access) (done rest : List Access) → done ++ rest ≡ a ∷ [] → OfMake a done rest
of_make a [] rest is = nothing refl is
of_make a (x ∷ []) rest is = let first : x ≡ a = cc is in let none : rest ≡ [] = cc is in whole (ap (λ (y : Access). y ∷ []) first) none
of_make a (x ∷ y ∷ done) rest is = absurd (cc is)

ends_made : (xs : List Access) (g blocks len : ℕ) → IsTrue (ends_with_make (xs ++ Make g blocks len ∷ []))
ends_made [] g blocks len = refl
ends_made (x ∷ []) g blocks len = refl
ends_made (x ∷ y ∷ xs) g blocks len = ends_made (y ∷ xs) g blocks len

pub length_drawn : (n : ℕ) (f : ℕ → ℕ) → length (tabulate n f) ≡ n
length_drawn zero f = refl
length_drawn (suc n) f = let more = length-append (tabulate n f) (f n ∷ []) in let same = length_drawn n f in omega (arith, more, same)

-- the closing's region is none of a table
closed_beside : (closing : Option ℕ) (indexes : List Index) (q : ℕ) → closing ≡ Some q → others_of closing indexes q
unfolding others_of
closed_beside closing indexes q is = inl is

tabulate_same : (n : ℕ) (f g : ℕ → ℕ) → ((i : ℕ) → f i ≡ g i) → tabulate n f ≡ tabulate n g
tabulate_same zero f g same = refl
tabulate_same (suc n) f g same = let rest = tabulate_same n f g same in λ j. rest j ++ same n j ∷ []

-- it has an INT primary key
pub new_key : (p : Public) (m : ℕ) (table : List ℕ) (columns : List NewColumn) (capacity : ℕ) → refusal_now p m (CreateStmt table columns capacity Indexed) ≡ None → (schema : Columns) → schema ≡ columns_of table columns
    → (place : ℕ) × IsIntKey schema place
new_key p m table columns capacity now schema schema_is =
    let free = allowed (is_late m) (limits_of p) (headings_of p.tables) (CreateStmt table columns capacity Indexed) now in
    let both = neither (nat_lt 1 (sum_by (λ (c : NewColumn). c.keys) columns)) _ free.keys in
    let one = at_most (sum_by (λ (c : NewColumn). c.keys) columns) both.0 in
    subst (λ (cs : Columns). (place : ℕ) × IsIntKey cs place) (sym schema_is) (int_key table columns (not-false (has_int_key columns) both.1) one)
  where
    at_most : (n : ℕ) → nat_lt 1 n ≡ false → n ≤ 1
    at_most n is = grind (arith, nat_tests)

-- room for all that it asks
pub new_spare : (capacity height slots blocks spare : ℕ) → IsHeight capacity height → blocks ≡ tree_blocks (height_of capacity) → 2 + (blocks + slots) ≤ spare → 2 + tree_blocks height + slots ≤ spare
new_spare capacity height slots blocks spare is blocks_are room =
    let same : blocks ≡ tree_blocks height = blocks_are ∙ ap tree_blocks (sym (height_same capacity height is)) in
    omega (arith, same, room)

module _ {R : Type 0} (state : R → RevState) (old : Engine R) (s s1 : StoreState) (v : Vault R) (room : RoomState) (t : StoreState) (indexes : Vec Index Global) (draws : DrawPlace) (list : List ℕ)
    (table : List ℕ) (columns : List NewColumn) (schema : Columns) (capacity slots : ℕ)
    (agrees : Agrees state old s) (rests : ChangesNothing s s1) (room_is : room ≡ record old.room { high = max old.room.high 1 }) (schema_is : schema ≡ columns_of table columns) (slots_is : slots ≡ old.public.stash)
    (now : refusal_now old.public (count_of old s) (CreateStmt table columns capacity Indexed) ≡ None)
    (next : draws ≡ record old.draws { next = (old.draws.next + capacity) % 2 ^ 67 })
    (drew : list ≡ tabulate capacity (λ i. draw_at old.draws.key (old.draws.next + i))) where
  abbrev before : World
  before = at state old.vault s1

  abbrev after : World
  after = at state v t

  abbrev g : ℕ
  g = old.vault.next

  abbrev height : ℕ
  height = height_of capacity

  abbrev tree : Flat
  tree = new_tree schema height g

  abbrev stash : Flat
  stash = new_stash schema slots g

  abbrev part : List Access
  part = create_index_script tree stash

  abbrev both : ℕ → Type 0
  both = two g (g + 1)

  abbrev new_table : Table
  new_table = record { heading = record { name = table; schema = schema; capacity = capacity; shape = Indexed }; region = old.public.next_region }

  script_is : (end : End) → whole_run old.public (Create table columns capacity Indexed) (seen_to end) ≡ part
  script_is end =
      let wide : width (columns_of table columns) ≡ 1 * width schema = ap width (sym schema_is) ∙ (let one : width schema ≡ 1 * width schema = omega (arith) in one) in
      let few : old.public.stash ≡ blocks_of 1 stash = sym slots_is ∙ sym (one_each slots) in
      λ i. create_part (agrees.next i) (sym (one_each (tree_blocks height)) i) (wide i) ++ create_part (agrees.next i + 1) (few i) (wide i)

  -- ---- what it draws
  drawn_same : (d : Draws) → AreDraws old d → (i : ℕ) → draw_at old.draws.key (old.draws.next + i) ≡ d.draw (d.drawn + i)
  drawn_same d of i =
      sym (draws_wrap old.draws.key (old.draws.next + i))
      ∙ (λ j. draw_at (agrees.seeded j) (next_place old.draws.next d.drawn i of.next j))
      ∙ draws_wrap (key_of (draw_seed_of old.vault.keys)) (d.drawn + i)
      ∙ sym (of.draw (d.drawn + i))

  leaves_are : (d : Draws) → AreDraws old d → map (leaf_of_draw height) list ≡ leaves_drawn d capacity
  leaves_are d of = ap (map (leaf_of_draw height)) (drew ∙ tabulate_same capacity (λ i. draw_at old.draws.key (old.draws.next + i)) (λ i. d.draw (d.drawn + i)) (drawn_same d of))

  drawn_next : (d : Draws) → AreDraws old d → draws.next ≡ (d.drawn + capacity) % 2 ^ 67
  drawn_next d of = ap (λ (p : DrawPlace). p.next) next ∙ next_place old.draws.next d.drawn capacity of.next

  free : IsFree old.public room
  free = free_after old.public old.room room _ agrees.room room_is

  opened : (x : List Access) → Opens x old.room.high room.high
  opened x = subst (λ (r : RoomState). Opens x old.room.high r.high) (sym room_is) (opens_some x old.room.high 1 (omega (arith)))

  -- ---- the regions that there were
  -- neither was there
  above : (q : ℕ) → q < old.vault.next → both q → ⊥
  above q below (inl same) = omega (arith, below, same)
  above q below (inr same) = omega (arith, below, same)

  apart_table : (i : ℕ) (u : Table) → slice_get old.public.tables i ≡ Some u → both u.region → ⊥
  apart_table i u is hit =
      let less = region_below old.public.pack i old.public.tables u _ agrees.ready agrees.tables is in
      elim hit [ inl same ↦ omega (arith, less, same) | inr same ↦ omega (arith, less, same) ]

  apart_other : (q : ℕ) → others_of old.closing old.indexes.items q → both q → ⊥
  apart_other q is hit =
      let less = beside_below old.public.pack old.public.tables (others_of old.closing old.indexes.items) q _ agrees.ready agrees.tables is in
      elim hit [ inl same ↦ omega (arith, less, same) | inr same ↦ omega (arith, less, same) ]

  apart_stash : (k : ℕ) (i : Index) → slice_get old.indexes.items k ≡ Some i → both i.stash → ⊥
  apart_stash k i get = apart_other i.stash (agrees.tables.stand k i get).beside

  sealed : {T : Type 0} {result : Result T OpErr} (regions : CreatesRegions tree stash result before after) (new : Engine R) → world_of state new t ≡ after → KeepsSealed state old s new t
  sealed regions new same good accepts single =
      subst (λ (w : World). Seals good (world_of state old s) w) (sym same)
      (seals_join good (world_of state old s) before after (later_rests s s1 rests) (seals_rests _ s s1 rests good)
      (regions.seals good (single schema g) (single schema (g + 1))))

  -- ---- it was made
  module _ (x : Index) (creates : CreatesIndex schema capacity slots list (Ok x) before after) (pushed : indexes.items ≡ old.indexes.items ++ x ∷ [])
      (short : length table ≤ 32) (names : All IsShort columns) (lives : old.ended ≡ false) where
    abbrev more : List Index
    more = old.indexes.items ++ x ∷ []

    abbrev tables_now : List Table
    tables_now = old.public.tables ++ new_table ∷ []

    abbrev new : Engine R
    new = engine_left old indexes draws v room tables_now (seen_to Whole) old.ended

    regions_ok : CreatesRegions tree stash (Ok x) before after
    regions_ok = creates.regions height (is_height_of capacity)

    went : Went part both (world_of state old s) after
    went = went_join both _ _ _ [] part (went_rests _ s s1 rests both agrees.ready) regions_ok.ran.ok

    fresh : IsFresh schema capacity slots g list x
    fresh = creates.fresh

    high : x.height ≡ height
    high = height_same x.capacity x.height creates.index.stored.shaped.height ∙ ap height_of fresh.has_capacity

    leaves_new : (d : Draws) → AreDraws old d → leaves_of x ≡ leaves_drawn d capacity
    leaves_new d of = fresh.has_leaves ∙ ap (λ (h : ℕ). map (leaf_of_draw h) list) high ∙ leaves_are d of

    of_table : IsIndexOfTable new_table x
    of_table = record {
      indexed = refl;
      schema = fresh.has_schema;
      capacity = fresh.has_capacity;
      tree = fresh.has_tree ∙ sym agrees.next;
      stash = fresh.has_stash ∙ ap (λ (n : ℕ). n + 1) (sym agrees.next);
    }

    is_table : IsTable old.public.pack new_table after
    is_table = record {
      heading = subst (λ (cs : Columns). IsHeading (record { name = table; schema = cs; capacity = capacity; shape = Indexed })) (sym schema_is)
          (new_heading old.public (count_of old s) table columns capacity Indexed now short names);
      least = let number = agrees.ready.tied.next in let same = agrees.next in omega (arith, number, same);
      live = record {
        shape = table_region Any 1 (tree_of x).schema (tree_of x).capacity;
        lives = subst (λ (q : ℕ). Lives q (table_region Any 1 (tree_of x).schema (tree_of x).capacity) after) of_table.tree creates.index.stored.tree.lives;
      };
      written = λ flat. absurd (cc flat);
    }

    are_more : AreTables tables_now (others_of old.closing more) more old.public.pack after
    are_more =
        let unnamed = new_name old.public (count_of old s) table columns capacity Indexed now in
        tables_indexed old.public.pack g old.public.tables old.closing old.indexes.items x new_table (world_of state old s) after went.lasts agrees.ready refl agrees.tables
        (new_place old.public (count_of old s) table columns capacity Indexed now) agrees.next is_table
        (λ i u is same. unnamed i u (record { get = is; named = same })) of_table creates.index

    are : AreTables tables_now (others_of old.closing indexes.items) indexes.items old.public.pack after
    are = subst (λ (is : List Index). AreTables tables_now (others_of old.closing is) is old.public.pack after) (sym pushed) are_more

    -- an index that there was, or the new one
    was_or_new : (k : ℕ) (z : Index) → slice_get indexes.items k ≡ Some z → (slice_get old.indexes.items k ≡ Some z) ⊎ ((k ≡ length old.indexes.items) × (z ≡ x))
    was_or_new k z get = get_more old.indexes.items x z k (subst (λ (is : List Index). slice_get is k ≡ Some z) pushed get)

    fits_new : FitsSettings old.public x
    fits_new =
        let rows = (new_within old.public (count_of old s) table columns capacity Indexed now).room refl in
        let slots_are = fresh.has_slots in
        record { slots = slots_are ∙ slots_is; rows = omega (arith, rows, slots_are, slots_is, high) }

    may : MayHave old indexes.items
    may = record {
      fit = λ k z get. elim (was_or_new k z get) [
        | inl was ↦ agrees.fit k z was
        | inr last ↦ let fits = fits_new in subst (λ (i : Index). FitsSettings old.public i) (sym last.1) fits
      ];
      aside = λ q closed of. elim (was_or_new of.place of.index of.get) [
        | inl was ↦ agrees.aside q closed (record { place = of.place; index = of.index; get = was; stash = of.stash })
        | inr last ↦
            apart_other q (closed_beside old.closing old.indexes.items q closed) (inr (sym of.stash ∙ ap (λ (i : Index). i.stash) last.1 ∙ fresh.has_stash))
      ];
      kept = λ keep. let flat = (new_within old.public (count_of old s) table columns capacity Indexed now).flat keep in absurd (cc flat);
    }

    moves : (d : Draws) → AreDraws old d → (height_read : ℕ) → MovesLeaves d capacity height_read old.indexes.items None old.ended indexes.items
    moves d of height_read =
        let same = fresh.has_capacity in
        inr (inl (
          refl,
          record {
            index = x;
            becomes = pushed;
            high = high ∙ ap height_of (sym same);
            leaves = leaves_new d of ∙ ap (leaves_drawn d) (sym same);
            drawn = omega (arith, same);
          },
        ))

    answered : IsAnswered Created
    answered = record { whole = λ n. refl; own = refl }

    ran_made : RanStatement state (Create table columns capacity Indexed) (Ok Created) old s new t
    ran_made = record {
      asked = went.did.asked ∙ ap (λ (y : List Access). s.asked ++ y) (sym (script_is Whole));
      later = went.lasts.later;
      keys = went.lasts.keys;
      start = went.lasts.start;
      from_closing = refl;
      replaced = refl;
      ends = refl;
      asks = asks_none Created _ refl;
      cause = (went.did.faults, went.calm);
      room = free;
      opened = opened _;
      leaves = λ d of. moves d of 0;
      goes_on = left_on state (Create table columns capacity Indexed) old s v room t agrees free indexes draws tables_now (seen_to Whole) part old.ended lives went.lasts.ready went.lasts.start went.lasts.keys
          went.did.asked (script_is Whole)
          (ap (λ (c : Columns). old.public.tables ++ record { heading = record { name = table; schema = c; capacity = capacity; shape = Indexed }; region = old.public.next_region } ∷ []) schema_is)
          are may (ap (λ (p : DrawPlace). p.key) next) drawn_next;
      stays = λ q left. leaves_none old.public (Create table columns capacity Indexed) Whole q _ (none_by old.public.save None (inr refl)) left;
      kept = λ saves q below. went.lasts.apart.rests q (above q below);
      indexed = λ stops. absurd (cc stops);
    }

    -- what the tables hold
    empty_is : (d : Draws) → AreDraws old d → index_of new_table.heading (new_held d old.public.stash new_table.heading) ≡ created x.height slots (leaves_of x)
    empty_is d of =
        let empty : State Row = created height old.public.stash (leaves_drawn d capacity) in
        let held_is : new_held d old.public.stash new_table.heading ≡ held_as empty =
        (λ i. record { slots = sym (replicate-append-replicate (tree_blocks height) old.public.stash None) i; leaves = leaves_drawn d capacity }) in
        ap (index_of new_table.heading) held_is
        ∙ index_again new_table.heading empty (length-replicate {A = Option Row} (tree_blocks height) None)
        ∙ (λ i. created (sym high i) (sym slots_is i) (sym (leaves_new d of) i))

    lies_new : IsTrue s.tells → (d : Draws) → AreDraws old d → IsStoredAs x (index_of new_table.heading (new_held d old.public.stash new_table.heading)) after
    lies_new tells d of =
        subst (λ (st : State Row). IsStoredAs x st after) (sym (empty_is d of)) (creates.told (subst (λ (b : Bool). IsTrue b) (sym rests.tells) tells))

    low_tree : (k : ℕ) (z : Index) → slice_get old.indexes.items k ≡ Some z → z.tree < g
    low_tree k z get =
        let at_table = agrees.tables.stand k z get in
        let less = region_below old.public.pack at_table.place old.public.tables at_table.table _ agrees.ready agrees.tables at_table.get in
        let same = at_table.of.tree in
        omega (arith, less, same)

    held_more : (tables : Tables) → AreHeld old.public.pack old.indexes.items old.public.tables tables (world_of state old s) → AreHeld old.public.pack more old.public.tables tables after
    held_more tables held =
        held_among old.public.pack old.indexes.items more old.public.tables tables after
        (λ k i get j u is same. elim (get_more old.indexes.items x i k get) [
          | inl was ↦ (k, was)
          | inr last ↦
              let less = region_below old.public.pack j old.public.tables u _ agrees.ready agrees.tables is in
              let there = ap (λ (z : Index). z.tree) last.1 in
              let here = fresh.has_tree in
              absurd (omega (arith, less, there, here, same))
        ])
        (held_kept both old.public.pack old.indexes.items old.public.tables tables (world_of state old s) after went.lasts apart_table apart_stash held)

    holds_new : IsTrue s.tells → (d : Draws) → AreDraws old d
        → HoldsTable Indexed old.public.pack more new_table (record { heading = new_table.heading; held = new_held d old.public.stash new_table.heading }) after
    holds_new tells d of = λ k z get same. elim (get_more old.indexes.items x z k get) [
      | inl was ↦ let less = low_tree k z was in let region = agrees.next in absurd (omega (arith, less, same, region))
      | inr last ↦ subst (λ (i : Index). IsStoredAs i (index_of new_table.heading (new_held d old.public.stash new_table.heading)) after) (sym last.1) (lies_new tells d of)
    ]

    held_made : IsTrue s.tells → (d : Draws) → AreDraws old d → (tables : Tables) → AreHeld old.public.pack old.indexes.items old.public.tables tables (world_of state old s)
        → AreHeld old.public.pack indexes.items tables_now (tables ++ record { heading = new_table.heading; held = new_held d old.public.stash new_table.heading } ∷ []) after
    held_made tells d of tables held =
        subst (λ (is : List Index). AreHeld old.public.pack is tables_now (tables ++ record { heading = new_table.heading; held = new_held d old.public.stash new_table.heading } ∷ []) after) (sym pushed)
        (held_added old.public.pack more old.public.tables tables new_table (new_held d old.public.stash new_table.heading) after (held_more tables held) (holds_new tells d of))

    pub made_index : ServesSilently state (CreateStmt table columns capacity Indexed) [] (Ok Created) old s new t
    made_index =
        finished_left state (CreateStmt table columns capacity Indexed) old s agrees now refl refl indexes draws v room t tables_now Created answered tt ran_made (sealed regions_ok new refl)
        (λ tables d of reads.
        let stmt = CreateStmt table columns capacity Indexed in
        let early = early_held old.public (count_of old s) stmt tables old.indexes.items (world_of state old s) None reads.held.held now in
        let none : refusal old.public (count_of old s) tables stmt ≡ None = refused_late old.public (count_of old s) tables stmt early in
        let settles : settle d old.public (count_of old s) tables stmt ≡ tables ++ record { heading = new_table.heading; held = new_held d old.public.stash new_table.heading } ∷ [] =
        settle_is old.public tables stmt refl d (count_of old s)
        ∙ ap (λ (o : Option Refusal). followed o (settled d old.public tables stmt) tables) none
        ∙ ap (λ (cs : Columns). tables ++ record {
          heading = record { name = table; schema = cs; capacity = capacity; shape = Indexed };
          held = new_held d old.public.stash (record { name = table; schema = cs; capacity = capacity; shape = Indexed });
        } ∷ []) (sym schema_is) in (
          sym (ap (λ (o : Option Refusal). outcome_of stmt (answered_by o (accepted_answer (database tables) stmt))) none),
          subst (λ (ts : Tables). AreHeld old.public.pack indexes.items tables_now ts after) (sym settles) (held_made reads.tells d of tables reads.held.held),
        ))

  -- ---- it was not
  module _ (e : OpErr) (creates : CreatesIndex schema capacity slots list (Err e) before after) (stays : indexes.items ≡ old.indexes.items) (n : ℕ) (count : n ≡ length t.asked - length s.asked) where
    abbrev cut_engine : Engine R
    cut_engine = engine_left old indexes draws v room old.public.tables (seen_to (Cut n)) (is_stop (answer_of e))

    regions_err : CreatesRegions {T = Index} tree stash (Err e) before after
    regions_err = creates.regions height (is_height_of capacity)

    cut : PassCut e part both (world_of state old s) after
    cut = pass_after both _ _ _ e [] part (went_rests _ s s1 rests both agrees.ready) regions_err.ran.err

    gone : (q : ℕ) (shape : Region) → (state v.revs).live q ≡ Some shape → both q → ⊥
    gone q shape live (inl same) = let none = ap (state v.revs).live same ∙ regions_err.gone in absurd (cc (live, none))
    gone q shape live (inr same) = let none = ap (state v.revs).live same ∙ regions_err.gone_stash in absurd (cc (live, none))

    are_left : AreTables old.public.tables (others_of old.closing indexes.items) indexes.items old.public.pack after
    are_left =
        subst (λ (is : List Index). AreTables old.public.tables (others_of old.closing is) is old.public.pack after) (sym stays)
        (tables_kept both old.public.pack old.public.tables (others_of old.closing old.indexes.items) old.indexes.items (world_of state old s) after cut.lasts apart_table apart_other gone agrees.tables)

    may_left : MayHave old indexes.items
    may_left = subst (λ (is : List Index). MayHave old is) (sym stays) (may_have state old s agrees)

    ran_left : RanStatement state (Create table columns capacity Indexed) (answer_of e) old s cut_engine t
    ran_left =
        stopped_left state (Create table columns capacity Indexed) old s v room t agrees free indexes draws both n part e stays (opened _) cut (script_is (Cut n)) count are_left may_left
        (ap (λ (p : DrawPlace). p.key) next) drawn_next above

    -- want of memory: before the first make or after it, or just before the second or after that
    lacks : BeganBehind [] (make_script 1 tree) s1 t ⊎ BeganBehind (create_script 1 tree) (make_script 1 stash) s1 t
        → LacksMemory old.public (CreateStmt table columns capacity Indexed) (seen_to (Cut n)) s t ⊥
    lacks (inl first) = record {
      done = first.done;
      rest = first.rest ++ (each (blocks_of 1 tree) (write_at g) ++ create_script 1 stash);
      split =
          sym (append_assoc first.done first.rest (each (blocks_of 1 tree) (write_at g) ++ create_script 1 stash))
          ∙ ap (λ (l : List Access). l ++ (each (blocks_of 1 tree) (write_at g) ++ create_script 1 stash)) first.split
          ∙ sym (append_assoc (make_script 1 tree) (each (blocks_of 1 tree) (write_at g)) (create_script 1 stash))
          ∙ sym (script_is (Cut n));
      asked = first.asked ∙ ap (λ (l : List Access). l ++ first.done) rests.asked;
      place = inl (elim (of_make _ first.done first.rest first.split) [
        | nothing none all ↦ inl none
        | whole all none ↦ inr (subst (λ (l : List Access). IsTrue (ends_with_make l)) (sym all) refl)
      ]);
    }
    lacks (inr second) =
        let front = create_script 1 tree in
        let back = each (blocks_of 1 stash) (write_at (g + 1)) in
        record {
          done = front ++ second.done;
          rest = second.rest ++ back;
          split =
              append_assoc front second.done (second.rest ++ back)
              ∙ ap (λ (l : List Access). front ++ l) (sym (append_assoc second.done second.rest back) ∙ ap (λ (l : List Access). l ++ back) second.split)
              ∙ sym (script_is (Cut n));
          asked = second.asked ∙ ap (λ (l : List Access). l ++ (front ++ second.done)) rests.asked;
          place = elim (of_make _ second.done second.rest second.split) [
            | nothing none all ↦ inr (inl (refl, subst (λ (l : List Access). IsTrue (starts_with_make (l ++ back))) (sym all) refl))
            | whole all none ↦ inl (inr (subst (λ (l : List Access). IsTrue (ends_with_make (front ++ l))) (sym all) (ends_made front _ _ _)))
          ];
        }

    pub not_made : ServesSilently state (CreateStmt table columns capacity Indexed) [] (answer_of e) old s cut_engine t
    not_made = record {
      ran = ran_left;
      started = λ is. absurd (cc is);
      uncounted = λ is. absurd (cc is);
      plain = refl;
      silent = silent_fault e regions_err.never;
      memory = λ is. lacks (regions_err.memory (ap (λ (z : OpErr). Err z) (only_memory e is)));
      seals = sealed regions_err cut_engine refl;
      means = means_left state (CreateStmt table columns capacity Indexed) old s agrees now refl refl indexes draws v room t e n count (λ tables reads. fault_made e regions_err.never)
          (λ tables held. subst (λ (is : List Index). AreHeld old.public.pack is old.public.tables tables after) (sym stays)
          (held_kept both old.public.pack old.indexes.items old.public.tables tables (world_of state old s) after cut.lasts apart_table apart_stash held)) ran_left;
    }

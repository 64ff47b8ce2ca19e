-- A SELECT of the rows of a flat table, by what is public: its slots, and what it asks.
use Rattle.ob_exec.proofs.Words.{ap, append-nil, AreHeld, AreNamed, arith, Bool, count_end, count_part, counted_after, Cut, cut_at, done_of, extent_of, false, flat_of, Heading, heading_at, heading_found, headings_of, Held, held_at, held_empty, held_if, HoldsRows, HoldsSeen, Index, is_access, length, length-count_part, List, nat_le, nat_lt, None, Option, option_map_or, Public, rows_script, Seen, Selection, selection, selection_script, selection_seen, slice_get, Slots, slots_of, Some, some_buffered, Source, source_slots, stated, Stored, subst, sym, Tables, walk_end, Whole, World, ℕ, [], ◌*◌, ◌+◌, ◌∙◌, ◌≡◌, ◌≤◌}
use Rattle.ob_base.specs.declared.schema.Shape.TheVariants.{Flat as FlatShape}
use Rattle.ob_base.specs.declared.schema.Table.{Table}
use Rattle.ob_base.specs.declared.skeleton.Skeleton.TheVariants.{Rows as RowsSkeleton}
use Rattle.ob_base.specs.declared.skeleton.Source.TheVariants.{Table as OneTable}
use Rattle.ob_base.specs.Stored.{stored_region}
use Rattle.ob_flat.specs.Flats.{Represents}
use Rattle.ob_mean.specs.Lawful.{counted_slots}
use Rattle.ob_mean.specs.Replay.{ending_len}
use Rattle.ob_mean.specs.Verdict.{ended as seen_to}
use Rattle.ob_mean.proofs.FlatLemmas.{shape_is}
use Rattle.ob_names.specs.Names.{source_columns}
use Rattle.ob_script.specs.Script.{blocks_of, flat_script, select_part, source_script, table_script}
use Rattle.ob_select.specs.Selecting.{region_of, walked_after}
use Rattle.ob_select.proofs.SelectLength.{select_length}
use Rattle.ob_sql.specs.declared.stmt.SelectRows.{SelectRows}
use Rattle.ob_tables.proofs.FoundLemmas.{shape_found}
use Rattle.ob_tables.proofs.HeldLemmas.{Beside}
use Rattle.ob_tables.proofs.TableLemmas.{stored_found}
use Rattle.ob_exec.specs.Sources.{rows_skeleton}

-- what is held of the rows of any source after n accesses is what its meaning shows by then
pub cut_of_rows : (p : Public) (select : SelectRows) (slots : Slots) (meant : Seen) → meant ≡ selection_seen (selection p select) slots → (selection_seen (selection p select) slots).leaf ≡ None → (failed : Bool) (n : ℕ) (now : Seen)
    → HoldsRows p select slots failed n now → now.leaf ≡ None → record now { end = Cut n } ≡ cut_at failed n p (rows_skeleton select) meant
cut_of_rows p select slots meant meant_is unread failed n now holds leaf =
    let none = leaf ∙ held_empty (nat_lt p.stash n) (selection_seen (selection p select) slots).leaf unread in
    (λ j. record { k = holds.k j; plan = holds.plan j; then = holds.second j; leaf = none j; end = Cut n }) ∙ ap (cut_at failed n p (rows_skeleton select)) (sym meant_is)

module _ (p : Public) (i : ℕ) (t : Table) (name : List ℕ) (select : SelectRows) (names : AreNamed p.tables) (get : slice_get p.tables i ≡ Some t) (named : t.heading.name ≡ name)
    (of_table : select.source ≡ OneTable name) (unkeyed : is_access p (rows_skeleton select) ≡ false) where
  -- its table is flat
  pub shape_of : t.heading.shape ≡ FlatShape
  shape_of = shape_found name p.tables i t names get named (sym (ap (λ (source : Source). is_access p (RowsSkeleton source select.list)) of_table) ∙ unkeyed)

  found : heading_at name (headings_of p.tables) ≡ Some t.heading
  found = heading_found name p.tables i t names get named

  pub schema_of : t.heading.schema ≡ (selection p select).flat.schema
  schema_of =
      sym (ap (λ (source : Source). source_columns source (headings_of p.tables)) of_table ∙ ap (λ (o : Option Heading). option_map_or (λ (h : Heading). h.schema) o []) found)

  pub capacity_of : t.heading.capacity ≡ (selection p select).flat.capacity
  capacity_of = sym (ap (counted_slots p) of_table ∙ ap (λ (o : Option Heading). option_map_or (λ (h : Heading). h.capacity) o 0) found)

  abbrev q : Selection
  q = stated p select t.region 0

  -- what is asked is what the statement asks
  script_by : (pad : Option ℕ) (now : Seen) → select_part (record p { pad = pad }) now p.next_region (extent_of (region_of q)) [] ≡ rows_script (record p { pad = pad }) select now
  script_by pad now =
      (λ j. select_part (record p { pad = pad }) now p.next_region (extent_of (record { heading = record { name = []; schema = sym schema_of j; capacity = sym capacity_of j; shape = FlatShape }; held = t.region })) [])
      ∙ sym (shape_is (record p { pad = pad }) now.leaf (flat_script (record p { pad = pad }) now) (stored_region t) shape_of)
      ∙ sym (ap (λ (o : Option (Stored ℕ)). option_map_or (table_script (record p { pad = pad }) now) o []) (stored_found name p.tables i t names get named))
      ∙ sym (ap (source_script (record p { pad = pad }) now) of_table)

  pub script_of_table : (now : Seen) → selection_script q now p.next_region ≡ rows_script p select now
  script_of_table now = script_by p.pad now

  pub count_of_table : count_end p (rows_skeleton select) ≡ counted_after q
  count_of_table =
      ap length (sym (script_by None (seen_to Whole))) ∙ ap length (append-nil (count_part t.region (blocks_of p (extent_of (region_of q)))))
      ∙ length-count_part t.region (blocks_of p (extent_of (region_of q)))

  no_ending : ending_len (rows_skeleton select) ≡ 0
  no_ending = ap (λ (source : Source). ending_len (RowsSkeleton source select.list)) of_table

  pub walk_of_table : 1 ≤ p.pack → 3 * p.pack + 1 ≤ p.buffer → (now : Seen) → walk_end p (rows_skeleton select) now ≡ walked_after q now
  walk_of_table some blocks now =
      let enough = some_buffered p.pack p.buffer some blocks in
      let long = ap length (sym (script_by p.pad (record now { then = None }))) ∙ select_length p some enough (record now { then = None }) p.next_region 0 (region_of q) [] in
      let none = no_ending in
      omega (arith, long, none)

  -- the slots over which it runs
  pub beside_table : (indexes : List Index) (tables : Tables) (w : World) → AreHeld p.pack indexes p.tables tables w → Beside p.pack name t tables w
  beside_table indexes tables w held = held_at p.pack indexes name p.tables tables i t w names held get named shape_of

  pub slots_held : (indexes : List Index) (tables : Tables) (w : World) → AreHeld p.pack indexes p.tables tables w → Represents p.pack (flat_of t) (slots_of p select tables) w
  slots_held indexes tables w held =
      let beside = beside_table indexes tables w held in
      let slots_is : beside.table.held.slots ≡ slots_of p select tables =
      sym (ap (λ (source : Source). source_slots p source tables) of_table ∙ ap (λ (o : Option (Stored Held)). option_map_or (λ (x : Stored Held). x.held.slots) o []) beside.found) in
      subst (λ (slots : Slots). Represents p.pack (flat_of t) slots w) slots_is beside.represents

  -- what is held of it after n accesses is what its meaning shows by then
  module _ (some : 1 ≤ p.pack) (blocks : 3 * p.pack + 1 ≤ p.buffer) (slots : Slots) where
    pub rows_of_held : (failed : Bool) (n : ℕ) (now : Seen) → HoldsSeen q slots failed n now → HoldsRows p select slots failed n now
    rows_of_held failed n now holds = record {
      k = holds.k ∙ (λ j. held_if (nat_le (sym count_of_table j) (done_of failed n)) (selection_seen q slots).k);
      plan = holds.plan ∙ (λ j. held_if (nat_le (sym count_of_table j) (done_of failed n)) (selection_seen q slots).plan);
      second = holds.second
          ∙ (λ j. held_if (nat_le (sym (walk_of_table some blocks (selection_seen q slots)) j) (done_of failed n)) (selection_seen q slots).then);
    }

  module _ (some : 1 ≤ p.pack) (blocks : 3 * p.pack + 1 ≤ p.buffer) (slots : Slots) (meant : Seen) (meant_is : meant ≡ selection_seen q slots) (meant_unread : meant.leaf ≡ None) where
    pub cut_of_held : (failed : Bool) (n : ℕ) (now : Seen) → HoldsSeen q slots failed n now → now.leaf ≡ None → record now { end = Cut n } ≡ cut_at failed n p (rows_skeleton select) meant
    cut_of_held failed n now holds leaf = cut_of_rows p select slots meant meant_is (ap (λ (x : Seen). x.leaf) (sym meant_is) ∙ meant_unread) failed n now (rows_of_held some blocks slots failed n now holds) leaf

    -- and the other way
    pub held_of_cut : (failed : Bool) (n : ℕ) → HoldsSeen q slots failed n (cut_at failed n p (rows_skeleton select) meant)
    held_of_cut failed n = record {
      k = (λ i. held_if (nat_le (count_of_table i) (done_of failed n)) (meant_is i).k);
      plan = (λ i. held_if (nat_le (count_of_table i) (done_of failed n)) (meant_is i).plan);
      second = (λ i. held_if (nat_le (walk_end p (rows_skeleton select) (meant_is i)) (done_of failed n)) (meant_is i).then)
          ∙ (λ i. held_if (nat_le (walk_of_table some blocks (selection_seen q slots) i) (done_of failed n)) (selection_seen q slots).then);
    }

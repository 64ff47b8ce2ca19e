-- The stash and a path that are read one after the other.
use Rattle.std.proofs.Common.{◌≡◌, ◌≢◌, ◌≤◌, ◌<◌, ◌+◌, ◌^◌, inl, inr, ℕ, List, ◌++◌, Option, Some, None, Result, Ok, Err, length, map, get_or, refl, sym, ◌∙◌, ap, subst, arith}
use Rattle.std.specs.Prelude.{OnOk}
use Rattle.std.proofs.lemmas.Bool.{lt-ltb}
use Rattle.std.proofs.lemmas.List.{map-append, length-map, get_or-replicate}
use Rattle.std.proofs.lemmas.Simd.{map-map}
use Rattle.ob_base.specs.declared.access.Access.{Access}
use Rattle.ob_base.specs.declared.access.Access.TheVariants.{Read}
use Rattle.ob_vault.specs.State.{World}
use Rattle.ob_vault.specs.Calls.{Went, none}
use Rattle.ob_vault.specs.Words.{SealsAll, IsHonest}
use Rattle.ob_vault.proofs.Runs.{went_join, none_went}
use Rattle.ob_row.specs.Rows.{Row}
use Rattle.ob_row.specs.Slots.{Slots, empty_slots}
use Rattle.ob_flat.specs.declared.fault.OpErr.TheVariants as OpErrs
use Rattle.ob_flat.specs.Passes.{PassCut}
use Rattle.ob_flat.specs.Words.{HasSpare}
use Rattle.ob_flat.proofs.Runs.{pass_more, pass_after}
use Rattle.ob_flat.proofs.Tables.{represents_lasts}
use Rattle.ob_flat.proofs.WordLemmas.{sealed_after}
use Rattle.ob_script.specs.Parts.{path_place}
use Rattle.ob_path.specs.Paths.{path_slot}
use Rattle.ob_tree.specs.Scripts.{numbers, path_places, ReadStash, ReadTree}
use Rattle.ob_tree.specs.Slotwise.{open_slots}
use Rattle.ob_path.specs.States.{State}
use Rattle.ob_tree.proofs.LayLemmas.{tree_rows, stash_rows}
use Rattle.ob_tree.proofs.WalkLemmas.{open_slots_are}
use Rattle.ob_oram.specs.declared.fault.OramErr.{OramErr}
use Rattle.ob_oram.specs.declared.fault.OramErr.TheVariants.{Failed, Tampered, StashFull}
use Rattle.ob_oram.specs.declared.held.Held.{Held}
use Rattle.ob_oram.specs.declared.held.Remap.{Remap}
use Rattle.ob_oram.specs.declared.index.Index.{Index}
use Rattle.ob_oram.specs.declared.walk.Walk.{Walk}
use Rattle.ob_base.specs.Indexes.{path_blocks, rows_open}
use Rattle.ob_oram.specs.Indexes.{IsShaped, IsStoredAs, key_of, tree_of}
use Rattle.ob_oram.specs.Opens.{IsOpen, keyed_slot, last_slot}
use Rattle.ob_oram.specs.Opened.{OpensIndex}
use Rattle.ob_oram.specs.Scripts.{access_in, read_script}
use Rattle.ob_oram.specs.Walks.{blocks_in}
use Rattle.ob_oram.specs.Walking.{OpensWalk, ReadsWalk, RefusesWalk, places_in, region_in, walk_reads}
use Rattle.ob_oram.specs.Halves.{ReadsIndex, RefusesIndex, leaf_blocks, stash_blocks}
use Rattle.ob_oram.proofs.WalkReads.{opens_same}
use Rattle.ob_oram.proofs.WalkScripts.{length-places_in}

-- the accesses of the model's two parts are those of the two walks
pub reads_two : (index : Index) (leaf : ℕ) → read_script index leaf ≡ walk_reads index (stash_blocks index) ++ walk_reads index (leaf_blocks index leaf)
reads_two index leaf =
    map-append (access_in index) (map (λ i. ReadStash i) (numbers 0 index.slots)) (map (λ i. ReadTree i) (path_places index.height leaf))
    ∙ ap (λ l. l ++ map (access_in index) (map (λ i. ReadTree i) (path_places index.height leaf))) (map-map (access_in index) (λ i. ReadStash i) (numbers 0 index.slots))
    ∙ ap (λ l. walk_reads index (stash_blocks index) ++ l) (map-map (access_in index) (λ i. ReadTree i) (path_places index.height leaf))

pub length-walk_reads : (index : Index) (walk : Walk) → length (walk_reads index walk) ≡ blocks_in walk
length-walk_reads index walk = length-map (places_in walk) (λ place. Read (region_in index walk) place) ∙ length-places_in walk

-- there are accesses left for the second
pub spare_second : (index : Index) (leaf : ℕ) (old mid : World) → HasSpare (index.slots + path_blocks index.height) old → Went (walk_reads index (stash_blocks index)) none old mid → HasSpare (path_blocks index.height) mid
spare_second index leaf old mid enough went = record { ready = went.lasts.ready; spare = omega (arith, enough.spare, went.spare, length-walk_reads index (stash_blocks index)) }

module _ (index : Index) (leaf : ℕ) (old : World) where
  abbrev first : List Access
  first = walk_reads index (stash_blocks index)

  abbrev second : List Access
  second = walk_reads index (leaf_blocks index leaf)

  -- the stash's ended early
  refused_first : (e : OramErr) (new : World) → RefusesWalk e index (stash_blocks index) old new → RefusesIndex e index leaf old new
  refused_first Failed new cut = subst (λ l. PassCut OpErrs.Failed l none old new) (sym (reads_two index leaf)) (pass_more none old new OpErrs.Failed first second cut)
  refused_first (Tampered q x) new cut = (subst (λ l. PassCut (OpErrs.Tampered q x) l none old new) (sym (reads_two index leaf)) (pass_more none old new (OpErrs.Tampered q x) first second cut.0), inl cut.1)
  refused_first StashFull new cut = absurd cut

  pub reads_first : {T : Type 0} (e : OramErr) (new : World) → ReadsWalk {T = Unit {0}} index (stash_blocks index) (Err e) old new → ReadsIndex {T = T} index leaf (Err e) old new
  reads_first e new walk = record {
    ok = tt;
    err = refused_first e new walk.err;
    seals = walk.seals;
    told = λ honest s lies. walk.told s.stash lies.stash honest.nolie;
  }

  -- or that of the path
  module _ (mid : World) (before : Went (walk_reads index (stash_blocks index)) none old mid) (sealed : SealsAll old mid) where
    refused_second : (e : OramErr) (new : World) → RefusesWalk e index (leaf_blocks index leaf) mid new → RefusesIndex e index leaf old new
    refused_second Failed new cut = subst (λ l. PassCut OpErrs.Failed l none old new) (sym (reads_two index leaf)) (pass_after none old mid new OpErrs.Failed first second before cut)
    refused_second (Tampered q x) new cut = (subst (λ l. PassCut (OpErrs.Tampered q x) l none old new) (sym (reads_two index leaf)) (pass_after none old mid new (OpErrs.Tampered q x) first second before cut.0), inr cut.1)
    refused_second StashFull new cut = absurd cut

    pub reads_second : (r : Result (Unit {0}) OramErr) (new : World) → ReadsWalk index (leaf_blocks index leaf) r mid new → ReadsIndex index leaf r old new
    reads_second (Ok v) new walk = record {
      ok = subst (λ l. Went l none old new) (sym (reads_two index leaf)) (went_join none old mid new first second before walk.ok);
      err = tt;
      seals = sealed_after before.lasts sealed walk.seals.seals;
      told = λ honest s lies. tt;
    }
    reads_second (Err e) new walk = record {
      ok = tt;
      err = refused_second e new walk.err;
      seals = sealed_after before.lasts sealed walk.seals.seals;
      told = λ honest s lies. walk.told s.tree (represents_lasts 1 (tree_of index) none old mid before.lasts (λ q. q) s.tree lies.tree) honest.nolie;
    }

-- a row of an index is not left out
keyed_same : (index : Index) (slot : Option Row) → ((row : Row) → slot ≡ Some row → key_of index row < index.capacity) → keyed_slot index slot ≡ slot
keyed_same index None each = refl
keyed_same index (Some row) each = let test = lt-ltb (key_of index row) index.capacity (each row refl) in rw test refl

-- the buffer then has the slots of the path and of the stash
module _ (index : Index) (remap : Remap) (leaf : ℕ) (below : leaf < 2 ^ index.height) (shaped : IsShaped index) (old mid new : World) (slots after : Slots)
    (stash : OpensWalk index (stash_blocks index) index.slots (empty_slots (rows_open index.height index.slots)) slots old mid)
    (path : OpensWalk index (leaf_blocks index leaf) (path_blocks index.height) slots after mid new) where
  no_slot : (j : ℕ) → path_blocks index.height ≤ j → (c : ℕ) → c < path_blocks index.height → path_slot index.height c ≢ j
  no_slot j past c within = λ same. absurd (omega (arith, same, past, within))

  last_empty : get_or after (last_slot index) None ≡ None
  last_empty =
      path.others (last_slot index) (no_slot (last_slot index) (omega arith))
      ∙ stash.others (last_slot index) (λ c within same. absurd (omega (arith, same, within)))
      ∙ get_or-replicate (rows_open index.height index.slots) (last_slot index) None None (omega arith)

  module _ (count : length after ≡ rows_open index.height index.slots) (first : Went (walk_reads index (stash_blocks index)) none old mid) (second : Went (walk_reads index (leaf_blocks index leaf)) none mid new) where
    all_open : IsHonest old new → (s : State Row) → IsStoredAs index s old → after ≡ open_slots index.height leaf s
    all_open honest s lies =
        let size : length s.stash ≡ index.slots = lies.lies.stash.size in
        let keys : length s.leaves ≡ index.capacity = ap length lies.lies.leaves ∙ shaped.leaves.count in
        let honest_mid = none_went none mid new (walk_reads index (leaf_blocks index leaf)) second honest.nolie in
        let tree = represents_lasts 1 (tree_of index) none old mid first.lasts (λ q. q) s.tree lies.lies.tree in
        open_slots_are index.height leaf below s lies.stands.size after (omega (arith, count, size))
        (λ c within.
        path.told s.tree tree honest.nolie c within
        ∙ keyed_same index (get_or s.tree (path_place index.height leaf c) None) (λ row is. omega (arith, keys, tree_rows (λ (r : Row). key_of index r < length s.leaves) s lies.stands.range (path_place index.height leaf c) row is)))
        (λ i within.
        let inside : i < index.slots = omega (arith, within, size) in
        path.others (path_blocks index.height + i) (no_slot (path_blocks index.height + i) (omega arith))
        ∙ stash.told s.stash lies.lies.stash honest_mid i inside
        ∙ keyed_same index (get_or s.stash i None) (λ row is. omega (arith, keys, stash_rows (λ (r : Row). key_of index r < length s.leaves) s lies.stands.range i row is)))
        (ap (λ k. get_or after (path_blocks index.height + k) None) size ∙ last_empty)

    pub opens_index : OpensIndex index leaf after old new
    opens_index = record {
      spare = last_empty;
      count = count;
      blocks = record {
        mid = mid;
        stash = opens_same index (stash_blocks index) slots after index.slots old mid (λ i within. path.others (path_blocks index.height + i) (no_slot (path_blocks index.height + i) (omega arith))) stash.blocks;
        path = path.blocks;
      };
      lying = λ honest s lies. record {
        path = λ c within. path.told s.tree (represents_lasts 1 (tree_of index) none old mid first.lasts (λ q. q) s.tree lies.tree) honest.nolie c within;
        stash = λ i within.
            path.others (path_blocks index.height + i) (no_slot (path_blocks index.height + i) (omega arith))
            ∙ stash.told s.stash lies.stash (none_went none mid new (walk_reads index (leaf_blocks index leaf)) second honest.nolie) i within;
      };
      told = all_open;
    }

-- both were read
pub opens_both : (index : Index) (remap : Remap) (leaf : ℕ) (below : leaf < 2 ^ index.height) (shaped : IsShaped index) (old mid new : World) (slots : Slots) (buffer late : List (Option Held)) (list wide : List (List ℕ)) (r : Result (Unit {0}) OramErr)
    → OpensWalk index (stash_blocks index) index.slots (empty_slots (rows_open index.height index.slots)) slots old mid → Went (walk_reads index (stash_blocks index)) none old mid
    → ReadsWalk index (leaf_blocks index leaf) r mid new → length late ≡ rows_open index.height index.slots
    → OnOk r ((from : Slots) → IsOpen index remap from buffer list → (after : Slots) × IsOpen index remap after late wide × OpensWalk index (leaf_blocks index leaf) (path_blocks index.height) from after mid new)
    → IsOpen index remap slots buffer list
    → OnOk r ((after : Slots) × IsOpen index remap after late wide × OpensIndex index leaf after old new)
opens_both index remap leaf below shaped old mid new slots buffer late list wide (Ok v) stash went walk count opens opened =
    let here = opens slots opened in
    (here.0, here.1, opens_index index remap leaf below shaped old mid new slots here.0 stash here.2 (here.1.sees.count ∙ count) went walk.ok)
opens_both index remap leaf below shaped old mid new slots buffer late list wide (Err e) stash went walk count opens opened = tt

-- A fresh index.
use Rattle.std.proofs.Common.{◌≡◌, ◌≤◌, ◌<◌, ◌*◌, ◌^◌, ℕ, zero, suc, IsTrue, List, [], ◌∷◌, None, Ok, Err, map, length, replicate, get_or, refl, sym, ◌∙◌, ap, subst, arith}
use Rattle.std.proofs.lemmas.List.{length-map, length-replicate}
use Rattle.ob_base.specs.Schemas.{Columns, width}
use Rattle.ob_vault.specs.declared.region.Order.TheVariants.{Round, Any}
use Rattle.ob_vault.specs.State.{World}
use Rattle.ob_vault.specs.Rows.{row_at}
use Rattle.ob_vault.specs.Places.{RowsFit}
use Rattle.ob_room.specs.RoomState.{clear}
use Rattle.ob_blocks.specs.Blocks.{none_of}
use Rattle.ob_row.specs.Slots.{empty_slots}
use Rattle.ob_flat.specs.declared.flat.Flat.{Flat}
use Rattle.ob_flat.specs.Flats.{IsSized, IsInTurn, FitsRegion, Represents}
use Rattle.ob_flat.specs.declared.fault.OpErr.{OpErr}
use Rattle.ob_flat.specs.Slots.{Spelt}
use Rattle.ob_flat.proofs.Tables.{flat_is}
use Rattle.ob_flat.proofs.Rooms.{clear_spelt}
use Rattle.ob_tree.specs.Runs.{created}
use Rattle.ob_tree.proofs.PathLemmas.{power_some}
use Rattle.ob_tree.proofs.RunLemmas.{created_represents}
use Rattle.ob_tree.proofs.PlaceLemmas.{stands_too}
use Rattle.ob_oram.specs.declared.index.Index.{Index}
use Rattle.ob_oram.specs.Keys.{IsIntKey}
use Rattle.ob_base.specs.Indexes.{IsHeight, leaf_of_draw, rows_open, tree_blocks}
use Rattle.ob_oram.specs.Indexes.{IsIndex, IsMap, IsStoredAs, leaves_of, key_of, tree_of, stash_of}
use Rattle.ob_oram.specs.Creating.{IsFresh, MadeRegions, CreatesRegions, new_tree, new_stash}
use Rattle.ob_oram.proofs.Heights.{blocks_few, blocks_some}
use Rattle.ob_oram.proofs.Creates.{one_each}

-- there is one least height
pub one_height : (n a b : ℕ) → IsHeight n a → IsHeight n b → a ≡ b
one_height n a b first second = omega (arith, first.least b second.enough, second.least a first.enough)

-- the blocks of a tree fit a region
pub tree_fits : (columns : Columns) (capacity h : ℕ) → IsSized columns capacity → h ≤ 24 → FitsRegion 1 columns (tree_blocks h)
tree_fits columns capacity h size few = record {
  some = size.some;
  few = size.few;
  wide = size.wide;
  least = blocks_some h;
  blocks = omega (arith, one_each (tree_blocks h), blocks_few h few);
}

-- leaves of draws are leaves
pub drawn_below : (h : ℕ) (draws : List ℕ) (k : ℕ) → get_or (map (leaf_of_draw h) draws) k 0 < 2 ^ h
drawn_below h [] k = omega (arith, power_some h)
drawn_below h (x ∷ draws) zero = omega (arith, power_some h)
drawn_below h (x ∷ draws) (suc k) = drawn_below h draws k

-- a zero row is one of a block, and a dummy
module _ {rows : List (List ℕ)} (wide : ℕ) (value : rows ≡ replicate 1 (clear wide)) where
  pub one_row : length rows ≡ 1
  one_row = ap length value ∙ length-replicate 1 (clear wide)

  pub row_fits : (w : ℕ) → w ≤ wide → RowsFit rows (length rows * w)
  row_fits w enough = record {
    each = w;
    whole = refl;
    some = omega (arith, one_row);
    wide = record { wide = λ j below. subst (λ (l : List (List ℕ)). w ≤ length (row_at l j)) (sym value) (first j (omega (arith, below, one_row))) };
  }
    where
      first : (j : ℕ) → j < 1 → w ≤ length (row_at (replicate 1 (clear wide)) j)
      first zero below = omega (arith, enough, length-replicate {A = ℕ} wide 0)
      first (suc j) below = absurd (omega (arith, below))

  pub row_spells : (columns : Columns) → width columns ≤ wide → Spelt columns (none_of 1) rows
  row_spells columns enough = subst (λ (k : ℕ). Spelt columns (none_of k) rows) one_row (clear_spelt columns 1 wide enough value)

module _ (index : Index) (columns : Columns) (capacity slots next : ℕ) (draws : List ℕ) (fresh : IsFresh columns capacity slots next draws index)
    (size : IsSized columns capacity) (key : IsIntKey columns index.key) (height : IsHeight capacity index.height) (count : length draws ≡ capacity)
    (some : 1 ≤ slots) (few : slots ≤ 1024) (buffer : length index.buffer.items ≡ rows_open index.height slots) (made : ℕ × ℕ) (old new : World)
    (regions : MadeRegions (new_tree columns index.height next) (new_stash columns slots next) made old new) where
  tree_is : new_tree columns index.height next ≡ tree_of index
  tree_is = flat_is (sym fresh.has_schema) refl (sym fresh.has_tree)

  stash_is : new_stash columns slots next ≡ stash_of index
  stash_is = flat_is (sym fresh.has_schema) (sym fresh.has_slots) (sym fresh.has_stash)

  below : (k : ℕ) → get_or (leaves_of index) k 0 < 2 ^ index.height
  below k = subst (λ (l : List ℕ). get_or l k 0 < 2 ^ index.height) (sym fresh.has_leaves) (drawn_below index.height draws k)

  pub made_index : IsIndex index new
  made_index = record {
    stored = record {
      shaped = record {
        size = subst (λ (c : Columns). IsSized c index.capacity) (sym fresh.has_schema) (subst (IsSized columns) (sym fresh.has_capacity) size);
        key = subst (λ (c : Columns). IsIntKey c index.key) (sym fresh.has_schema) key;
        height = subst (λ (n : ℕ). IsHeight n index.height) (sym fresh.has_capacity) height;
        some = omega (arith, some, fresh.has_slots);
        few = omega (arith, few, fresh.has_slots);
        leaves = record {
          count = ap length fresh.has_leaves ∙ length-map draws (leaf_of_draw index.height) ∙ count ∙ sym fresh.has_capacity;
          below = λ k less. below k;
        };
      };
      tree = subst (λ (f : Flat). IsInTurn Any 1 f 0 new) tree_is regions.tree_written;
      stash = subst (λ (f : Flat). IsInTurn Round 1 f 0 new) stash_is regions.stash_written;
      apart = λ same. absurd (omega (arith, same, fresh.has_tree, fresh.has_stash));
    };
    buffer = buffer ∙ ap (rows_open index.height) (sym fresh.has_slots);
  }

  pub made_lies : IsTrue old.store.tells → IsStoredAs index (created index.height slots (leaves_of index)) new
  made_lies tells = record {
    lies = record {
      tree = subst (λ (f : Flat). Represents 1 f (empty_slots (tree_blocks index.height)) new) tree_is (regions.told tells).0;
      stash = subst (λ (f : Flat). Represents 1 f (empty_slots slots) new) stash_is (regions.told tells).1;
      leaves = refl;
    };
    stands = stands_too (key_of index) index.height (created index.height slots (leaves_of index)) (λ k. None)
        (created_represents (key_of index) index.height slots (leaves_of index) (λ k less. below k));
  }

  pub made_map : IsTrue old.store.tells → IsMap index (λ k. None) new
  made_map tells = record {
    state = created index.height slots (leaves_of index);
    lies = (made_lies tells).lies;
    represents = created_represents (key_of index) index.height slots (leaves_of index) (λ k less. below k);
  }

-- the same, beside another value
pub regions_ok : {T U : Type 0} {tree stash : Flat} {old new : World} (x : T) (y : U) → CreatesRegions tree stash (Ok x) old new → CreatesRegions tree stash (Ok y) old new
regions_ok x y is = record {
  ran = record { ok = is.ran.ok; err = tt };
  never = tt;
  memory = λ no. absurd (cc no);
  gone = tt;
  gone_stash = tt;
  seals = is.seals;
}

pub regions_err : {T U : Type 0} {tree stash : Flat} {old new : World} (e : OpErr) → CreatesRegions {T = T} tree stash (Err e) old new → CreatesRegions {T = U} tree stash (Err e) old new
regions_err e is = record {
  ran = record { ok = tt; err = is.ran.err };
  never = is.never;
  memory = λ no. is.memory (cc no);
  gone = is.gone;
  gone_stash = is.gone_stash;
  seals = is.seals;
}

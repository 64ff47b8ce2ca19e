-- An access stops at a full stash only where more rows were read than fit.
use Rattle.std.proofs.Common.{◌≡◌, ◌<◌, ◌/◌, ◌^◌, ◌==◌, inl, inr, ℕ, zero, suc, true, false, List, length, get_or, refl, ap, arith}
use Rattle.std.proofs.lemmas.Bool.{cases_lt}
use Rattle.std.proofs.lemmas.List.{get_or_past}
use Rattle.std.proofs.Math.Nat.{div-eq_of_lt}
use Rattle.std.specs.Prelude.{filter}
use Rattle.ob_vault.specs.State.{World}
use Rattle.ob_row.specs.Rows.{Row}
use Rattle.ob_row.specs.Slots.{Slots}
use Rattle.ob_tree.specs.Places.{lies_at}
use Rattle.ob_path.specs.Rows.{rows}
use Rattle.ob_oram.specs.declared.index.Index.{Index}
use Rattle.ob_oram.specs.declared.op.Op.{Op}
use Rattle.ob_oram.specs.declared.op.Got.{Got}
use Rattle.ob_oram.specs.Buffers.{lies_above}
use Rattle.ob_oram.specs.Indexes.{IsShaped, key_of}
use Rattle.ob_oram.specs.Opens.{AreKeyed, leaf_with}
use Rattle.ob_oram.specs.Accessing.{ReadsTooMany, leaf_read, leaves_after, remap_of}
use Rattle.ob_oram.proofs.AccessRuns.{leaf_read_below, leaves_after_are}
use Rattle.ob_oram.proofs.AccessTold.{Arranged}

module _ (index : Index) (op : Op) (draw : ℕ) (shaped : IsShaped index) where
  abbrev lf : Row → ℕ
  lf = leaf_with index (remap_of index op draw)

  abbrev leaf : ℕ
  leaf = leaf_read index op draw

  abbrev leaf_of_key : ℕ → ℕ
  leaf_of_key k = get_or (leaves_after index op draw) k 0

  -- each row may lie in the root
  leaf_within : (k : ℕ) → leaf_of_key k < 2 ^ index.height
  leaf_within k =
      let are = leaves_after_are index shaped op draw in
      let read = leaf_read_below index shaped op draw in
      elim (cases_lt k index.capacity) [
        | inl inside ↦ are.below k inside
        | inr past ↦ let none : leaf_of_key k ≡ 0 = get_or_past (leaves_after index op draw) k 0 (omega (arith, past, are.count)) in omega (arith, none, read)
      ]

  rooted : (row : Row) → lies_at lf leaf index.height row ≡ true
  rooted row =
      let mine : lf row / 2 ^ index.height ≡ 0 = div-eq_of_lt (leaf_within (key_of index row)) in
      let read : leaf / 2 ^ index.height ≡ 0 = div-eq_of_lt (leaf_read_below index shaped op draw) in
      λ j. mine j == read j

  -- by its key it is known where a row may lie
  above_keys : (heights : ℕ) (list : List Row) → filter (lies_above lf leaf heights) list ≡ filter (λ (row : Row). lies_above leaf_of_key leaf heights (key_of index row)) list
  above_keys zero list = refl
  above_keys (suc heights) list = refl

  pub reads_too_many : (slots served placed : Slots) (got : Got) (old mid : World) → AreKeyed index slots → Arranged index op draw slots served placed got false old mid → ReadsTooMany index op draw old mid
  reads_too_many slots served placed got old mid keyed is =
      let crowd = is.places.crowded refl rooted in
      let keys = is.serves.keys (lies_above leaf_of_key leaf crowd.heights) in
      let after = ap length (above_keys crowd.heights (rows served)) in
      record {
        slots = slots;
        keyed = keyed;
        opens = is.opens;
        crowded = record {
          heights = crowd.heights;
          within = crowd.within;
          over = omega (arith, crowd.over, keys, after, is.count_is);
        };
      }

-- The blocks of kept rows are those of the result.
use Rattle.std.proofs.Common.{◌≡◌, ◌≤◌, ◌<◌, ◌+◌, ◌-◌, ◌*◌, ℕ, Bool, List, [], Option, None, length, take, drop, slice_index_or, inl, inr, sym, ◌∙◌, ap, subst, arith}
use Rattle.std.proofs.lemmas.List.{get_or_past, get_or_append_left, get_or-replicate, length-take, length-drop, length-replicate}
use Rattle.std.proofs.lemmas.List.Elements as elements
use Rattle.std.proofs.Math.Seq.{get_or-append_right}
use Rattle.std.proofs.lemmas.Bool.{cases_lt}
use Rattle.std.specs.List.{All}
use Rattle.ob_base.specs.Numbers.{blocks_for}
use Rattle.ob_base.specs.Schemas.{Columns}
use Rattle.ob_vault.specs.Rows.{row_at, Wide}
use Rattle.ob_vault.specs.State.{World}
use Rattle.ob_vault.specs.Tied.{Holds}
use Rattle.ob_row.specs.Rows.{Row}
use Rattle.ob_row.specs.Slots.{Slots, is_selected}
use Rattle.ob_row.specs.Spelling.{Begins}
use Rattle.ob_blocks.specs.Blocks.{none_of, up_to, block_at}
use Rattle.ob_blocks.proofs.Blocks.{length-up_to, length-block, all_up_to, block-element}
use Rattle.ob_flat.specs.declared.flat.Flat.{Flat}
use Rattle.ob_flat.specs.Slots.{FitsSlot, Spelt, AreSlots, block_bytes}
use Rattle.ob_flat.specs.Flats.{Represents, whole_blocks}
use Rattle.ob_flat.proofs.Rows.{slots_of}
use Rattle.ob_small.specs.Keeping.{chosen, fitted, AreKept}

none_at : (n i : ℕ) → ◌≡◌ {A = Option Row} (slice_index_or (none_of n) i None) None
none_at n i = elim (cases_lt i n) [
  | inl less ↦ get_or-replicate n i None None less
  | inr more ↦ get_or_past (none_of n) i None (omega (arith, length-replicate {A = Option Row} n None))
]

-- a slot past the end is empty
at-up_to : (n i : ℕ) (slots : Slots) → slice_index_or (up_to n slots) i None ≡ slice_index_or slots i None
at-up_to n i slots = elim (cases_lt i (length slots)) [
  | inl less ↦ get_or_append_left slots (none_of (n - length slots)) None i less
  | inr more ↦ get_or-append_right slots (none_of (n - length slots)) i None more ∙ none_at (n - length slots) (i - length slots) ∙ sym (get_or_past slots i None more)
]

pub length-fitted : (k : ℕ) (slots : Slots) → length (fitted k slots) ≡ k
length-fitted k slots = length-up_to k (take k slots) (omega (arith, length-take k slots))

pub fits-fitted : (columns : Columns) (k : ℕ) (p : Row → Bool) (slots : Slots) → All (FitsSlot columns) slots → All (FitsSlot columns) (fitted k (chosen p slots))
fits-fitted columns k p slots is =
    all_up_to (FitsSlot columns) k (take k (chosen p slots)) tt (elements.All-take (FitsSlot columns) k (chosen p slots) (elements.All-filter (is_selected p) (FitsSlot columns) slots is))

index : (first x r z : ℕ) → first * r + (x * r + z) ≡ (first + x) * r + z
index first x r z = grind arith

-- block x of the kept rows
pub part_long : (r x : ℕ) (rows : List (List ℕ)) → x * r + r ≤ length rows → length (take r (drop (x * r) rows)) ≡ r
part_long r x rows fits = omega (arith, length-take r (drop (x * r) rows), length-drop (x * r) rows)

-- where so many are written `m`
pub part_size : (r x m : ℕ) (rows : List (List ℕ)) → m ≡ r → x * r + r ≤ length rows → (P : ℕ → Type 0) → P r → P (length (take m (drop (x * r) rows)))
part_size r x m rows same inside P is = subst P (sym (ap (λ (n : ℕ). length (take n (drop (x * r) rows))) same ∙ part_long r x rows inside)) is

-- its rows are as wide
pub part_wide : (r x w : ℕ) (rows : List (List ℕ)) → x * r + r ≤ length rows → Wide w rows → Wide w (take r (drop (x * r) rows))
part_wide r x w rows inside wide =
    let long = part_long r x rows inside in
    record { wide = λ z below. subst (λ (row : List ℕ). w ≤ length row) (sym (block-element r x z rows [] (omega (arith, below, long)))) (wide.wide (x * r + z) (omega (arith, below, long, inside))) }

-- a block of the rows that are kept from block `first` on has those from block first + x on
pub keeps_part : (columns : Columns) (r k first x : ℕ) (slots : Slots) (rows : List (List ℕ)) → x * r + r ≤ length rows → AreKept columns slots (first * r) k rows
    → AreKept columns slots ((first + x) * r) k (take r (drop (x * r) rows))
keeps_part columns r k first x slots rows inside keeps = record {
  each = λ z below.
      let less : z < r = omega (arith, below, part_long r x rows inside) in
      subst (Begins columns (slice_index_or (take k slots) ((first + x) * r + z) None)) (sym (block-element r x z rows [] less))
      (subst (λ (j : ℕ). Begins columns (slice_index_or (take k slots) j None) (row_at rows (x * r + z))) (index first x r z) (keeps.each (x * r + z) (omega (arith, less, inside))));
}

-- the rows that are kept for a block of the result spell it
pub kept_block : (columns : Columns) (r k results place : ℕ) (slots : Slots) (rows : List (List ℕ)) → k ≤ results * r → length rows ≡ r → place < results
    → AreKept columns slots (place * r) k rows → Spelt columns (block_at r (up_to (results * r) (fitted k slots)) place) rows
kept_block columns r k results place slots rows fits long within keeps =
    let all = up_to (results * r) (fitted k slots) in
    let size : length all ≡ results * r = length-up_to (results * r) (fitted k slots) (omega (arith, length-fitted k slots)) in
    record {
      count = length-block r all place results within size ∙ sym long;
      each = λ z below.
          let is : slice_index_or (block_at r all place) z None ≡ slice_index_or (take k slots) (place * r + z) None =
          block-element r place z all None (omega (arith, below, long)) ∙ at-up_to (results * r) (place * r + z) (fitted k slots) ∙ at-up_to k (place * r + z) (take k slots) in
          subst (λ (s : Option Row). Begins columns s (row_at rows z)) (sym is) (keeps.each z below);
    }

-- and some slots where these aren't told
pub part_slots : (columns : Columns) (r x : ℕ) (rows : List (List ℕ)) → x * r + r ≤ length rows → AreSlots columns rows → AreSlots columns (take r (drop (x * r) rows))
part_slots columns r x rows inside are = slots_of columns (take r (drop (x * r) rows)) (λ z below.
    let less : z < r = omega (arith, below, part_long r x rows inside) in
    (slice_index_or are.slots (x * r + z) None, subst (Begins columns (slice_index_or are.slots (x * r + z) None)) (sym (block-element r x z rows [] less)) (are.spelt.each (x * r + z) (omega (arith, less, inside)))))

-- the result has these slots
pub represents_fitted : (pack : ℕ) (flat : Flat) (p : Row → Bool) (slots : Slots) (w : World) → All (FitsSlot flat.schema) slots
    → ((x : ℕ) → x < blocks_for pack flat.capacity → Holds flat.region x (block_bytes flat.schema (block_at pack (whole_blocks pack flat.capacity (fitted flat.capacity (chosen p slots))) x)) w)
    → Represents pack flat (fitted flat.capacity (chosen p slots)) w
represents_fitted pack flat p slots w fits holds = record {
  size = length-fitted flat.capacity (chosen p slots);
  fits = fits-fitted flat.schema flat.capacity p slots fits;
  holds = holds;
}

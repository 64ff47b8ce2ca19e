-- A table of one slot a block, slot by slot.
use Rattle.std.proofs.Common.{◌≡◌, ◌<◌, ◌+◌, ◌-◌, ◌*◌, ℕ, List, [], ◌∷◌, None, length, get_or, sym, ◌∙◌, ap, arith}
use Rattle.std.specs.List.{All}
use Rattle.std.proofs.lemmas.List.{append-nil, get_or_append_left}
use Rattle.ob_base.specs.Numbers.{blocks_for}
use Rattle.ob_vault.specs.State.{World}
use Rattle.ob_vault.specs.Tied.{Holds}
use Rattle.ob_vault.proofs.Runs.{holds_rows}
use Rattle.ob_blocks.specs.Blocks.{none_of, block_at}
use Rattle.ob_blocks.proofs.Blocks.{length-block, length-up_to, block-element}
use Rattle.ob_row.specs.Slots.{Slots}
use Rattle.ob_row.specs.Spelling.{slot_bytes}
use Rattle.ob_flat.specs.declared.flat.Flat.{Flat}
use Rattle.ob_flat.specs.Flats.{Represents, whole_blocks}
use Rattle.ob_flat.specs.Slots.{FitsSlot, block_bytes}
use Rattle.ob_oram.proofs.Creates.{one_each}

one_only : {A : Type 0} (xs : List A) (d x : A) → length xs ≡ 1 → get_or xs 0 d ≡ x → xs ≡ x ∷ []
one_only [] d x count is = absurd (omega (arith, count))
one_only (y ∷ []) d x count is = ap (λ z. z ∷ []) is
one_only (y ∷ z ∷ xs) d x count is = absurd (omega (arith, count))

module _ (flat : Flat) (slots : Slots) (size : length slots ≡ flat.capacity) (p : ℕ) (below : p < flat.capacity) where
  -- the slot of a block
  block_is : block_at 1 (whole_blocks 1 flat.capacity slots) p ≡ get_or slots p None ∷ []
  block_is =
      let blocks = blocks_for 1 flat.capacity in
      let whole = whole_blocks 1 flat.capacity slots in
      let long : length whole ≡ blocks * 1 = length-up_to (blocks * 1) slots (omega (arith, size, one_each flat.capacity)) in
      let here : p * 1 + 0 ≡ p = omega arith in
      one_only (block_at 1 whole p) None (get_or slots p None) (length-block 1 whole p blocks (omega (arith, below, one_each flat.capacity)) long)
      (block-element 1 p 0 whole None (omega arith) ∙ ap (λ i. get_or whole i None) here ∙ get_or_append_left slots (none_of (blocks * 1 - length slots)) None p (omega (arith, size, below)))

  pub bytes_are : block_bytes flat.schema (block_at 1 (whole_blocks 1 flat.capacity slots) p) ≡ slot_bytes flat.schema (get_or slots p None)
  bytes_are = ap (block_bytes flat.schema) block_is ∙ append-nil (slot_bytes flat.schema (get_or slots p None))

-- each block holds its slot
pub slot_held : (flat : Flat) (slots : Slots) (w : World) → Represents 1 flat slots w → (p : ℕ) → p < flat.capacity → Holds flat.region p (slot_bytes flat.schema (get_or slots p None)) w
slot_held flat slots w is p below = holds_rows _ _ _ _ _ (bytes_are flat slots is.size p below) (is.holds p (omega (arith, below, one_each flat.capacity)))

pub slots_held : (flat : Flat) (slots : Slots) (w : World) → length slots ≡ flat.capacity → All (FitsSlot flat.schema) slots
    → ((p : ℕ) → p < flat.capacity → Holds flat.region p (slot_bytes flat.schema (get_or slots p None)) w) → Represents 1 flat slots w
slots_held flat slots w size fits each = record {
  size = size;
  fits = fits;
  holds = λ p below. let inside : p < flat.capacity = omega (arith, below, one_each flat.capacity) in holds_rows _ _ _ _ _ (sym (bytes_are flat slots size p inside)) (each p inside);
}

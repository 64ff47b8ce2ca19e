-- Events that follow each other.
use mir.Val.{bool_byte}
use Rattle.std.proofs.Common.{◌≡◌, is_some, IsTrue, ◌<◌, ◌≤◌, ◌+◌, ◌*◌, ◌-◌, ℕ, zero, suc, Bool, true, false, nat_lt, List, [], ◌∷◌, ◌++◌, Option, Some, None, length, take, drop, map, replicate, slice_index_or, if◌then◌else◌, refl, sym, ◌∙◌, ap, arith, append_assoc}
use Rattle.std.proofs.lemmas.List.{append-nil, take_more, take-append-drop}
use Rattle.std.proofs.lemmas.Bool.Decides.{nat_tests}
use Rattle.ob_base.specs.declared.shown.Shown.{Shown}
use Rattle.ob_row.specs.Rows.{Row}
use Rattle.ob_row.specs.Slots.{Slots, rows}
use Rattle.ob_row.specs.Totals.{printed}
use Rattle.ob_blocks.specs.Blocks.{none_of, up_to, block_at}
use Rattle.ob_blocks.proofs.Blocks.{take_blocks}
use Rattle.ob_emit.specs.Emitting.{slot_shown, slots_shown}

module _ (capacity : ℕ) (cols : List ℕ) where
  pub shown-append : (i : ℕ) (xs ys : Slots) → slots_shown capacity cols i (xs ++ ys) ≡ slots_shown capacity cols i xs ++ slots_shown capacity cols (i + length xs) ys
  shown-append i [] ys = ap (λ (n : ℕ). slots_shown capacity cols n ys) (omega arith)
  shown-append i (x ∷ xs) ys =
      ap (λ (l : List (List Shown)). slot_shown capacity cols i x ++ l) (shown-append (i + 1) xs ys ∙ ap (λ (n : ℕ). slots_shown capacity cols (i + 1) xs ++ slots_shown capacity cols n ys) (omega arith))
      ∙ sym (append_assoc (slot_shown capacity cols i x) (slots_shown capacity cols (i + 1) xs) (slots_shown capacity cols (i + suc (length xs)) ys))

  -- one slot more
  pub shown-more : (i k : ℕ) (slots : Slots) → k < length slots → slots_shown capacity cols i (take k slots) ++ slot_shown capacity cols (i + k) (slice_index_or slots k None) ≡ slots_shown capacity cols i (take (k + 1) slots)
  shown-more i k slots below =
      let slot = slice_index_or slots k None in
      let size : length (take k slots) ≡ k = Rattle.std.proofs.lemmas.List.length-take-le k slots (omega (arith, below)) in
      sym (ap (slots_shown capacity cols i) (take_more slots k None below) ∙ shown-append i (take k slots) (slot ∷ [])
      ∙ ap (λ (n : ℕ). slots_shown capacity cols i (take k slots) ++ slots_shown capacity cols (i + n) (slot ∷ [])) size
      ∙ ap (λ (l : List (List Shown)). slots_shown capacity cols i (take k slots) ++ l) (append-nil (slot_shown capacity cols (i + k) slot)))

  -- one block more
  pub shown-block : (r u : ℕ) (all : Slots) → length (take (u * r) all) ≡ u * r → slots_shown capacity cols 0 (take (u * r) all) ++ slots_shown capacity cols (u * r) (block_at r all u) ≡ slots_shown capacity cols 0 (take ((u + 1) * r) all)
  shown-block r u all size =
      sym (ap (slots_shown capacity cols 0) (take_blocks r all u) ∙ shown-append 0 (take (u * r) all) (block_at r all u)
      ∙ ap (λ (n : ℕ). slots_shown capacity cols 0 (take (u * r) all) ++ slots_shown capacity cols n (block_at r all u)) (omega (arith, size)))

  -- the first slots, and the others
  pub shown-rest : (i n : ℕ) (slots : Slots) → (rest : List (List Shown)) × (slots_shown capacity cols i (take n slots) ++ rest ≡ slots_shown capacity cols i slots)
  shown-rest i n slots = (slots_shown capacity cols (i + length (take n slots)) (drop n slots), sym (shown-append i (take n slots) (drop n slots)) ∙ ap (slots_shown capacity cols i) (take-append-drop n slots))

  shown-none : (i n : ℕ) → slots_shown capacity cols i (replicate n None) ≡ []
  shown-none i zero = refl
  shown-none i (suc n) = shown-none (i + 1) n

  shown-rows : (i : ℕ) (slots : Slots) → i + length slots ≤ capacity → slots_shown capacity cols i slots ≡ map (printed cols) (rows slots)
  shown-rows i [] fits = refl
  shown-rows i (None ∷ slots) fits = shown-rows (i + 1) slots (omega (arith, fits))
  shown-rows i (Some row ∷ slots) fits =
      let below : nat_lt i capacity ≡ true = less i capacity (omega (arith, fits)) in
      ap (λ (b : Bool). (if b then printed cols row ∷ [] else []) ++ slots_shown capacity cols (i + 1) slots) below
      ∙ ap (λ (l : List (List Shown)). printed cols row ∷ l) (shown-rows (i + 1) slots (omega (arith, fits)))
    where
      less : (a b : ℕ) → a < b → nat_lt a b ≡ true
      less a b h = grind (arith, nat_tests)

  -- all rows of a table
  pub shown-table : (m : ℕ) (slots : Slots) → length slots ≡ capacity → slots_shown capacity cols 0 (up_to m slots) ≡ map (printed cols) (rows slots)
  shown-table m slots size =
      shown-append 0 slots (none_of (m - length slots)) ∙ ap (λ (l : List (List Shown)). slots_shown capacity cols 0 slots ++ l) (shown-none (0 + length slots) (m - length slots))
      ∙ append-nil (slots_shown capacity cols 0 slots) ∙ shown-rows 0 slots (omega (arith, size))

-- a slot that has a row below the capacity
pub slot_told : (capacity : ℕ) (cols : List ℕ) (i : ℕ) (slot : Option Row) (cells : List Shown) → is_some slot ≡ true → i < capacity → ((row : Row) → slot ≡ Some row → cells ≡ printed cols row)
    → cells ∷ [] ≡ slot_shown capacity cols i slot
slot_told capacity cols i None cells some below told = absurd (cc some)
slot_told capacity cols i (Some row) cells some below told =
    ap (λ (l : List Shown). l ∷ []) (told row refl) ∙ ap (λ (b : Bool). if b then printed cols row ∷ [] else []) (sym (less i capacity below))
  where
    less : (a b : ℕ) → a < b → nat_lt a b ≡ true
    less a b h = grind (arith, nat_tests)

-- one more, or none
pub byte : (b : Bool) (m : ℕ) → m ≡ bool_byte b → m ≡ (if b then 1 else 0)
byte true m is = is
byte false m is = is

pub within : (b : Bool) (n i capacity m : ℕ) → m ≡ (if b then 1 else 0) → n ≤ i → n ≤ capacity → (IsTrue b → i < capacity) → (n + m ≤ i + 1) × (n + m ≤ capacity)
within true n i capacity m is most few below = let here : i < capacity = below refl in (omega (arith, is, most), omega (arith, is, most, here))
within false n i capacity m is most few below = (omega (arith, is, most), omega (arith, is, few))

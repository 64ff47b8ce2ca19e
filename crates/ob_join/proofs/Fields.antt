-- The field of a column in the bytes of a row.
use Rattle.std.proofs.Common.{◌≡◌, ◌<◌, ◌≤◌, ◌+◌, ℕ, zero, suc, Bool, false, List, [], ◌++◌, Option, Some, None, length, take, drop, slice_index_or, refl, sym, ◌∙◌, ap, subst, arith, one-add}
use Rattle.std.specs.Prelude.{IfSome, ◌==◌, ◌&&◌, find, bytes_eq, replicate}
use Rattle.std.proofs.Math.Seq.{take-length}
use Rattle.std.proofs.lemmas.List.{take_all, take-append-drop}
use Rattle.ob_base.specs.Schemas.{Columns, kind_width, width}
use Rattle.ob_row.specs.declared.cell.Cell.{Cell}
use Rattle.ob_row.specs.Fields.{HoldsCell}
use Rattle.ob_row.specs.Rows.{Row, cell_at, cell_eq, options_eq}
use Rattle.ob_row.specs.Slots.{Slots, rows, is_selected}
use Rattle.ob_row.specs.Spelling.{FitsKind, FitsColumns, Begins, kind_at, cells_width}
use Rattle.ob_row.proofs.SpellingLemmas.{length-cell_bytes}
use Rattle.ob_row.proofs.PlaceLemmas.{located, begun, row_field, same_fields, cell_eq-same, is_false}
use Rattle.ob_flat.specs.Slots.{Spelt}
use Rattle.ob_order.specs.Orders.{has_field, IsFirstRow, NoRowHas}
use Rattle.ob_join.specs.Joining.{IsPartner}
use Rattle.ob_join.proofs.Pairs.{find_past, none_before, partner}

first_zero : (n : ℕ) (behind bytes : List ℕ) → bytes ≡ replicate (1 + n) 0 ++ behind → slice_index_or bytes 0 0 ≡ 0
first_zero n behind bytes is =
    let first : bytes ≡ replicate (suc n) 0 ++ behind = rw one-add at is in
    ap (λ (l : List ℕ). slice_index_or l 0 0) first

-- a slot's bytes have the field of a cell where its row has the cell
pub has_field_is : (cs : Columns) (slot : Option Row) (i : ℕ) (bytes field : List ℕ) (y : Cell) → i < length cs → Begins cs slot bytes → HoldsCell (kind_at cs i) y field
    → has_field (width (take i cs)) field bytes ≡ is_selected (λ a. options_eq (cell_at a i) (Some y)) slot
has_field_is cs None i bytes field y below begins held =
    let zeros : bytes ≡ replicate (1 + cells_width cs) 0 ++ drop (width cs) bytes = sym (take-append-drop (width cs) bytes) ∙ ap (λ (t : List ℕ). t ++ drop (width cs) bytes) begins.is in
    let mark : slice_index_or bytes 0 0 ≡ 0 = first_zero (cells_width cs) (drop (width cs) bytes) bytes zeros in
    ap (λ (n : ℕ). (n == 1) && bytes_eq (take (length field) (drop (width (take i cs)) bytes)) field) mark
has_field_is cs (Some row) i bytes field y below begins held =
    let mark : slice_index_or bytes 0 0 ≡ 1 = ap (λ (l : List ℕ). slice_index_or l 0 0) (begun cs row bytes begins) in
    let own = row_field cs row i bytes begins below in
    let kind = kind_at cs i in
    let size : length field ≡ kind_width kind = ap (λ (l : List ℕ). length l) held.is ∙ length-cell_bytes kind y held.fits in
    ap (λ (n : ℕ). (n == 1) && bytes_eq (take (length field) (drop (width (take i cs)) bytes)) field) mark
    ∙ ap (λ (n : ℕ). bytes_eq (take n (drop (width (take i cs)) bytes)) field) size
    ∙ same_fields kind own.cell y (take (kind_width kind) (drop (width (take i cs)) bytes)) field own.field held
    ∙ ap (λ (o : Option Cell). options_eq o (Some y)) (sym own.is)

-- no row has a cell that doesn't fit its column
module _ (cs : Columns) (i : ℕ) (y : Cell) (below : i < length cs) (never : FitsKind (kind_at cs i) y → ⊥) where
  abbrev agrees : Row → Bool
  agrees a = options_eq (cell_at a i) (Some y)

  off : (slot : Option Row) → IfSome slot (FitsColumns cs) → is_selected agrees slot ≡ false
  off None fits = refl
  off (Some row) fits =
      let own = located cs row i [] fits below in
      ap (λ (o : Option Cell). options_eq o (Some y)) own.is
      ∙ is_false (cell_eq own.cell y) (λ t. never (subst (FitsKind (kind_at cs i)) (cell_eq-same own.cell y t) own.field.fits))

  off_first : (slots : Slots) (kept : List (List ℕ)) → Spelt cs slots kept → (n : ℕ) → n ≤ length slots → find agrees (rows (take n slots)) ≡ None
  off_first slots kept spelt zero within = refl
  off_first slots kept spelt (suc n) within =
      let inside : n < length slots = omega (arith, within) in
      let next = find_past agrees slots n inside (off_first slots kept spelt n (omega (arith, within))) (off (slice_index_or slots n None) (spelt.each n (omega (arith, inside, spelt.count))).fits) in
      let one : n + 1 ≡ suc n = omega arith in
      subst (λ (k : ℕ). find agrees (rows (take k slots)) ≡ None) one next

  pub none_fits : (slots : Slots) (kept : List (List ℕ)) → Spelt cs slots kept → find agrees (rows slots) ≡ None
  none_fits slots kept spelt =
      subst (λ (l : Slots). find agrees (rows l) ≡ None) (take-length slots) (off_first slots kept spelt (length slots) (omega arith))

-- no row before the end passes
pub all_found : (p : Row → Bool) (slots : Slots) (i : ℕ) → length slots ≤ i → find p (rows (take i slots)) ≡ None → find p (rows slots) ≡ None
all_found p slots i past none = subst (λ (l : Slots). find p (rows l) ≡ None) (take_all i slots past) none

-- ---- kept rows that are looked up by a field
module _ (cs : Columns) (column : ℕ) (below : column < length cs) (at : ℕ) (at_is : at ≡ width (take column cs)) (field : List ℕ) (cell : Cell) (held : HoldsCell (kind_at cs column) cell field) (slots : Slots) (kept : List (List ℕ)) (spelt : Spelt cs slots kept) where
  abbrev same : Row → Bool
  same a = options_eq (cell_at a column) (Some cell)

  tells : (j : ℕ) → j < length kept → has_field at field (slice_index_or kept j []) ≡ is_selected same (slice_index_or slots j None)
  tells j inside =
      ap (λ (n : ℕ). has_field n field (slice_index_or kept j [])) at_is
      ∙ has_field_is cs (slice_index_or slots j None) column (slice_index_or kept j []) field cell below (spelt.each j inside) held

  pub found_at : (i : ℕ) → IsFirstRow at field kept i → IsPartner same slots i
  found_at i first =
      partner same slots i (omega (arith, first.inside, spelt.count))
      (none_before same slots i (omega (arith, first.inside, spelt.count)) (λ j less. sym (tells j (omega (arith, less, first.inside))) ∙ first.before j less))
      (sym (tells i first.inside) ∙ first.has)

  pub found_nowhere : NoRowHas at field kept → find same (rows slots) ≡ None
  found_nowhere none =
      all_found same slots (length slots) (omega arith)
      (none_before same slots (length slots) (omega arith) (λ j less. let inside : j < length kept = omega (arith, less, spelt.count) in sym (tells j inside) ∙ none j inside))

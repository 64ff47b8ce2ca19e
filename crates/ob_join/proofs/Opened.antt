-- The rows that a join takes from the room: those of a block of each side, and those that are kept.
use Rattle.std.proofs.Common.{◌≡◌, ◌≤◌, ◌+◌, ◌*◌, ◌-◌, ℕ, List, [], length, take, drop, replicate, refl, sym, ap, subst, arith}
use Rattle.std.proofs.lemmas.List.{get_or-take, get_or-drop, length-take, length-drop}
use Rattle.std.proofs.lemmas.Nat.{le-div}
use Rattle.ob_base.specs.Limits.{buffered_blocks}
use Rattle.ob_room.specs.RoomState.{RoomState, clear}
use Rattle.ob_room.specs.Shelf.{IsSound}
use Rattle.ob_vault.specs.Rows.{Wide}
use Rattle.ob_vault.specs.Places.{RowsFit}
use Rattle.ob_join.proofs.Windows.{clear_wide}

-- the first of wide rows are wide, and the others
pub take_wide : (w k : ℕ) (rows : List (List ℕ)) → Wide w rows → Wide w (take k rows)
take_wide w k rows wide = record {
  wide = λ j below.
      let sizes : length (take k rows) ≤ k × length (take k rows) ≤ length rows = (omega (arith, length-take k rows), omega (arith, length-take k rows)) in
      subst (λ (row : List ℕ). w ≤ length row) (sym (get_or-take k rows j [] (omega (arith, below, sizes.0)))) (wide.wide j (omega (arith, below, sizes.1)));
}

pub drop_wide : (w k : ℕ) (rows : List (List ℕ)) → Wide w rows → Wide w (drop k rows)
drop_wide w k rows wide = record {
  wide = λ j below. subst (λ (row : List ℕ). w ≤ length row) (sym (get_or-drop k rows j [])) (wide.wide (k + j) (omega (arith, below, length-drop k rows)));
}

-- wide rows fit a block that has them all
pub all_fit : (w : ℕ) (rows : List (List ℕ)) → 1 ≤ length rows → Wide w rows → RowsFit rows (length rows * w)
all_fit w rows some wide = record { each = w; whole = refl; some = some; wide = wide }

-- cleared rows, of which the first k are split once more, fit as blocks
module _ (w v n k p : ℕ) (all both rows out : List (List ℕ)) (narrow : w ≤ v) (value : all ≡ replicate n (clear v)) (front : both ≡ take k all) where
  both_wide : Wide w both
  both_wide = subst (Wide w) (sym front) (take_wide w k all (clear_wide w v 0 n all narrow value))

  pub first_fit : rows ≡ take p both → 1 ≤ length rows → RowsFit rows (length rows * w)
  first_fit is some = all_fit w rows some (subst (Wide w) (sym is) (take_wide w p both both_wide))

  pub second_fit : out ≡ drop p both → 1 ≤ length out → RowsFit out (length out * w)
  second_fit is some = all_fit w out some (subst (Wide w) (sym is) (drop_wide w p both both_wide))

-- a room's pack
module _ {n p : ℕ} (s : RoomState) (size : n ≡ p) (pack : p ≡ s.pack) (sound : IsSound s) where
  pub pack_some : 1 ≤ n
  pack_some = omega (arith, size, pack, sound.pack_some)

  pub pack_few : n ≤ 16
  pack_few = omega (arith, size, pack, sound.pack_few)

-- one block and another, and so many kept ones
pub as_many : (p both rows out : ℕ) → both ≡ 2 * p → rows ≡ p → out + p ≡ both → out ≡ rows
as_many p both rows out = omega arith

pub kept_many : (b : ℕ) {p all kept rows : ℕ} → all ≡ 2 * p + b * p → kept + 2 * p ≡ all → rows ≡ p → kept ≡ b * rows
kept_many b {p} {all} {kept} {rows} whole back size = omega (arith, whole, back, ap (λ (n : ℕ). b * n) size)

-- at least one can be kept
pub some_kept : (s : RoomState) (p r : ℕ) → p ≡ s.pack → r ≡ s.rows → 1 ≤ s.pack → 3 * s.pack + 1 ≤ s.rows → 1 ≤ buffered_blocks p r
some_kept s p r pack rows some enough = le-div 1 (r - 2 * p) p (omega (arith, pack, some)) (omega (arith, pack, rows, enough))

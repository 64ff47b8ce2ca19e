-- The row that is taken from the room, and given back.
use Rattle.std.proofs.Common.{◌≡◌, ◌≤◌, ℕ, List, [], ◌∷◌, length, replicate, max, refl, sym, ◌∙◌, ap, subst, arith}
use Rattle.std.proofs.lemmas.List.{length-replicate}
use Rattle.ob_room.specs.RoomState.{RoomState, clear, out}
use Rattle.ob_room.specs.Shelf.{AreWide, IsSound, cleared}
use Rattle.ob_room.specs.LendingOpen.{opened_with}
use Rattle.ob_blocks.specs.Idle.{IsIdle}
use Rattle.ob_blocks.proofs.Rooms.{open_wide, open_held, closed}
use Rattle.ob_vault.specs.Rows.{SameSizes, row_at}
use Rattle.ob_vault.specs.Places.{RowsFit}

-- one row is as wide as it says
one_wide : (width : ℕ) (rows : List (List ℕ)) → length rows ≡ 1 → length (row_at rows 0) ≡ width → AreWide width rows
one_wide width [] one wide = absurd (cc one)
one_wide width (row ∷ []) one wide = ap (λ (n : ℕ). n ∷ []) wide
one_wide width (row ∷ more ∷ rows) one wide = absurd (omega (arith, one))

one_fits : (row : List ℕ) (rows : List (List ℕ)) → rows ≡ row ∷ [] → 1024 ≤ length row → RowsFit rows 1024
one_fits row rows is wide = subst (λ (l : List (List ℕ)). RowsFit l 1024) (sym is) (record {
  each = 1024;
  whole = refl;
  some = omega arith;
  wide = record { wide = λ j below. let zero : j ≡ 0 = omega (arith, below) in subst (λ (n : ℕ). 1024 ≤ length (row_at (row ∷ []) n)) (sym zero) wide };
})

module _ (s : RoomState) (rows : List (List ℕ)) (idle : IsIdle 1024 s) (value : rows ≡ replicate 1 (clear s.width)) where
  pub one : length rows ≡ 1
  one = ap (λ (l : List (List ℕ)). length l) value

  wide_row : length (row_at rows 0) ≡ s.width
  wide_row = ap (λ (l : List (List ℕ)). length (row_at l 0)) value ∙ length-replicate {A = ℕ} s.width 0

  pub fits : RowsFit rows 1024
  fits = one_fits (clear s.width) rows value (omega (arith, idle.wide, length-replicate {A = ℕ} s.width 0))

  some : 1 ≤ s.rows
  some = omega (arith, idle.enough)

  module _ (ends : List (List ℕ)) (same : SameSizes rows ends) where
    size : length ends ≡ 1
    size = same.count ∙ one

    pub shelf_wide : AreWide (opened_with s 1 ends).width (opened_with s 1 ends).shelf
    shelf_wide = open_wide 1024 1 s ends idle some size (one_wide s.width ends size (same.sizes 0 ∙ wide_row))

    pub shelf_held : length (opened_with s 1 ends).shelf ≤ out (opened_with s 1 ends)
    shelf_held = open_held 1024 1 s ends idle some size

    -- all are free again
    pub room_after : IsSound s → cleared (opened_with s 1 ends) ≡ record s { high = max s.high 1 }
    room_after sound = closed 1024 1 s ends idle some size sound

-- The rows that a pass takes from the room: those of a block, and after them the buffered ones.
use Rattle.std.proofs.Common.{◌≡◌, ◌≤◌, ◌+◌, ◌*◌, ◌-◌, ℕ, List, ◌++◌, length, replicate, take, drop, max, sym, ◌∙◌, ap, subst, arith}
use Rattle.std.proofs.lemmas.List.{length-replicate, drop-replicate, get_or-replicate}
use Rattle.ob_base.specs.Limits.{buffered_blocks}
use Rattle.ob_room.specs.RoomState.{RoomState, clear}
use Rattle.ob_room.specs.Shelf.{AreWide, IsSound, cleared}
use Rattle.ob_room.specs.LendingOpen.{opened_with}
use Rattle.ob_vault.specs.Rows.{SameSizes, Wide}
use Rattle.ob_vault.proofs.RowsLemmas.{sizes_join}
use Rattle.ob_blocks.specs.Idle.{IsIdle}
use Rattle.ob_blocks.proofs.Blocks.{take_replicate}
use Rattle.ob_flat.proofs.Rooms.{open_fits, opened_wide, opened_closed}

-- a block has a row, and few
pub block_few : {n : ℕ} (s : RoomState) → IsSound s → n ≡ s.pack → (1 ≤ n) × (n ≤ 16)
block_few s sound same = (omega (arith, same, sound.pack_some), omega (arith, same, sound.pack_few))

-- there is a buffered block
pub buffered_some : {pack rows : ℕ} (s : RoomState) → IsSound s → pack ≡ s.pack → rows ≡ s.rows → 3 * s.pack + 1 ≤ s.rows → 1 ≤ buffered_blocks pack rows
buffered_some {pack} {rows} s sound same whole enough = grind (arith, sound.pack_some)

-- zero rows are as wide as this
wide_clear : (v w n : ℕ) → v ≤ w → Wide v (replicate n (clear w))
wide_clear v w n less = record {
  wide = λ j below. omega (arith, less, length-replicate {A = ℕ} w 0, ap length (get_or-replicate n j (clear w) (clear 0) (omega (arith, below, length-replicate n (clear w)))));
}

module _ {pack rows : ℕ} {all : List (List ℕ)} (s : RoomState) (same : pack ≡ s.pack) (whole : rows ≡ s.rows) (value : all ≡ replicate (pack + buffered_blocks pack rows * pack) (clear s.width)) where
  -- the block's
  pub front_clear : {front : List (List ℕ)} → front ≡ take pack all → front ≡ replicate pack (clear s.width)
  front_clear is = is ∙ ap (take pack) value ∙ take_replicate pack (pack + buffered_blocks pack rows * pack) (clear s.width) (omega arith)

  -- the buffered ones
  back_clear : {back : List (List ℕ)} → back ≡ drop pack all → back ≡ replicate (buffered_blocks pack rows * pack) (clear s.width)
  back_clear is =
      let rest : pack + buffered_blocks pack rows * pack - pack ≡ buffered_blocks pack rows * pack = omega arith in
      is ∙ ap (drop pack) value ∙ drop-replicate pack (pack + buffered_blocks pack rows * pack) (clear s.width) ∙ ap (λ (n : ℕ). replicate n (clear s.width)) rest

  -- are as many as the room says, and wide enough
  pub back_blocks : {back : List (List ℕ)} → back ≡ drop pack all → length back ≡ buffered_blocks pack rows * pack
  back_blocks is = ap length (back_clear is) ∙ length-replicate (buffered_blocks pack rows * pack) (clear s.width)

  pub back_count : {back : List (List ℕ)} → back ≡ drop pack all → length back ≡ buffered_blocks s.pack s.rows * s.pack
  back_count is = back_blocks is ∙ ap (λ (r : ℕ). buffered_blocks pack r * pack) whole ∙ ap (λ (p : ℕ). buffered_blocks p s.rows * p) same

  pub back_wide : {back : List (List ℕ)} (v : ℕ) → v ≤ s.width → back ≡ drop pack all → Wide v back
  back_wide v less is = subst (Wide v) (sym (back_clear is)) (wide_clear v s.width (buffered_blocks pack rows * pack) less)

  module _ {front back a b : List (List ℕ)} (width : ℕ) (idle : IsIdle width s) (split : all ≡ front ++ back) (first : SameSizes front a) (second : SameSizes back b) where
    fits : pack + buffered_blocks pack rows * pack ≤ s.rows
    fits =
        let one : 1 * pack ≡ pack = omega arith in
        omega (arith, whole, one, open_fits 1 pack rows (omega arith) (omega (arith, same, whole, idle.enough)))

    sizes : SameSizes all (a ++ b)
    sizes = subst (λ (l : List (List ℕ)). SameSizes l (a ++ b)) (sym split) (sizes_join front back a b first second)

    -- at the end they are as wide as they were
    pub ends_wide : AreWide s.width (opened_with s (pack + buffered_blocks pack rows * pack) (a ++ b)).shelf
    ends_wide = opened_wide width (pack + buffered_blocks pack rows * pack) s all (a ++ b) idle fits value sizes

    -- and all are free again
    pub ends_closed : IsSound s → cleared (opened_with s (pack + buffered_blocks pack rows * pack) (a ++ b)) ≡ record s { high = max s.high (s.pack + buffered_blocks s.pack s.rows * s.pack) }
    ends_closed sound =
        let high : pack + buffered_blocks pack rows * pack ≡ s.pack + buffered_blocks s.pack s.rows * s.pack =
        ap (λ (r : ℕ). pack + buffered_blocks pack r * pack) whole ∙ ap (λ (p : ℕ). p + buffered_blocks p s.rows * p) same in
        opened_closed width (pack + buffered_blocks pack rows * pack) s all (a ++ b) idle fits value sizes sound
        ∙ ap (λ (n : ℕ). record s { high = max s.high n }) high

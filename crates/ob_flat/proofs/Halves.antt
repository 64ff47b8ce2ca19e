-- The two blocks of rows that a select takes from the room.
use Rattle.std.proofs.Common.{◌≡◌, ◌≤◌, ◌*◌, ◌-◌, ℕ, List, length, take, drop, replicate, Fits, w32, w64, ◌∙◌, ap, arith}
use Rattle.std.proofs.lemmas.List.{drop-replicate, length-replicate}
use Rattle.ob_base.specs.Schemas.{Columns, width}
use Rattle.ob_room.specs.RoomState.{RoomState, clear}
use Rattle.ob_room.specs.Shelf.{IsSound}
use Rattle.ob_vault.specs.Places.{RowsFit}
use Rattle.ob_blocks.specs.Blocks.{none_of}
use Rattle.ob_blocks.specs.Idle.{IsIdle}
use Rattle.ob_blocks.proofs.Blocks.{take_replicate}
use Rattle.ob_flat.specs.Slots.{Spelt}
use Rattle.ob_flat.proofs.Rooms.{block_count, block_fits, clear_spelt}

-- a pack and two of them are few
module _ (w : ℕ) (s : RoomState) {pack : ℕ} (idle : IsIdle w s) (sound : IsSound s) (same : pack ≡ s.pack) where
  few : pack ≤ 16
  few = omega (arith, same, sound.pack_few)

  pub both_fit : Fits w32 (2 * pack)
  both_fit = omega (arith, few)

  pub pack_fits : Fits w64 pack
  pack_fits = omega (arith, few)

  pub both_free : 2 * pack ≤ length s.free
  both_free = omega (arith, same, idle.free, idle.enough)

  -- each block is cleared rows
  module _ {all : List (List ℕ)} (value : all ≡ replicate (2 * pack) (clear s.width)) where
    pub half_within : pack ≤ length all
    half_within = omega (arith, ap length value, length-replicate (2 * pack) (clear s.width))

    first_is : {rows : List (List ℕ)} → rows ≡ take pack all → rows ≡ replicate pack (clear s.width)
    first_is front = front ∙ ap (take pack) value ∙ take_replicate pack (2 * pack) (clear s.width) (omega arith)

    second_is : {held : List (List ℕ)} → held ≡ drop pack all → held ≡ replicate pack (clear s.width)
    second_is back =
        let rest : 2 * pack - pack ≡ pack = omega arith in
        back ∙ ap (drop pack) value ∙ drop-replicate pack (2 * pack) (clear s.width) ∙ ap (λ (n : ℕ). replicate n (clear s.width)) rest

    pub first_count : {rows : List (List ℕ)} → rows ≡ take pack all → length rows ≡ s.pack
    first_count front = block_count s same (first_is front)

    pub second_count : {held : List (List ℕ)} → held ≡ drop pack all → length held ≡ s.pack
    second_count back = block_count s same (second_is back)

    pub first_fit : {rows : List (List ℕ)} → rows ≡ take pack all → RowsFit rows (length rows * w)
    first_fit front = block_fits w s idle sound same (first_is front)

    pub second_fit : {held : List (List ℕ)} → held ≡ drop pack all → RowsFit held (length held * w)
    second_fit back = block_fits w s idle sound same (second_is back)

-- the second one is dummies
pub second_spelt : (columns : Columns) (s : RoomState) (pack : ℕ) {all held : List (List ℕ)} → IsIdle (width columns) s → all ≡ replicate (2 * pack) (clear s.width) → held ≡ drop pack all → Spelt columns (none_of (length held)) held
second_spelt columns s pack idle value back = clear_spelt columns (2 * pack - pack) s.width idle.wide (back ∙ ap (drop pack) value ∙ drop-replicate pack (2 * pack) (clear s.width))

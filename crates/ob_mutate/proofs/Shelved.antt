-- The rows that a batch opens: those of a block, and after them its own.
use Rattle.std.proofs.Common.{◌≡◌, ◌≤◌, ◌+◌, ◌-◌, ◌++◌, ℕ, max, List, length, replicate, take, drop, sym, ◌∙◌, ap, subst, arith}
use Rattle.std.proofs.lemmas.List.{length-replicate, drop-replicate, get_or-replicate}
use Rattle.ob_room.specs.RoomState.{RoomState, clear}
use Rattle.ob_room.specs.Shelf.{AreWide, IsSound, cleared}
use Rattle.ob_room.specs.LendingOpen.{opened_with}
use Rattle.ob_vault.specs.Rows.{SameSizes, Wide}
use Rattle.ob_vault.proofs.RowsLemmas.{sizes_join}
use Rattle.ob_blocks.specs.Idle.{IsIdle}
use Rattle.ob_blocks.proofs.Blocks.{take_replicate}
use Rattle.ob_flat.proofs.Rooms.{opened_wide, opened_closed}

module _ (pack n : ℕ) {all : List (List ℕ)} (s : RoomState) (value : all ≡ replicate (pack + n) (clear s.width)) where
  pub front_clear : {front : List (List ℕ)} → front ≡ take pack all → front ≡ replicate pack (clear s.width)
  front_clear is = is ∙ ap (take pack) value ∙ take_replicate pack (pack + n) (clear s.width) (omega arith)

  back_clear : {back : List (List ℕ)} → back ≡ drop pack all → back ≡ replicate n (clear s.width)
  back_clear is =
      let rest : pack + n - pack ≡ n = omega arith in
      is ∙ ap (drop pack) value ∙ drop-replicate pack (pack + n) (clear s.width) ∙ ap (λ (k : ℕ). replicate k (clear s.width)) rest

  pub back_count : {back : List (List ℕ)} → back ≡ drop pack all → length back ≡ n
  back_count is = ap length (back_clear is) ∙ length-replicate n (clear s.width)

  wide_clear : (width : ℕ) → width ≤ s.width → Wide width (replicate n (clear s.width))
  wide_clear width fits = record {
    wide = λ j below. omega (arith, fits, length-replicate {A = ℕ} s.width 0, ap length (get_or-replicate n j (clear s.width) (clear 0) (omega (arith, below, length-replicate n (clear s.width)))));
  }

  pub back_wide : {back : List (List ℕ)} (width : ℕ) → width ≤ s.width → back ≡ drop pack all → Wide width back
  back_wide width fits is = subst (Wide width) (sym (back_clear is)) (wide_clear width fits)

  module _ {front back a b : List (List ℕ)} (width : ℕ) (idle : IsIdle width s) (fits : pack + n ≤ s.rows) (split : all ≡ front ++ back) (first : SameSizes front a) (second : SameSizes back b) where
    sizes : SameSizes all (a ++ b)
    sizes = subst (λ (l : List (List ℕ)). SameSizes l (a ++ b)) (sym split) (sizes_join front back a b first second)

    -- at the end they are as wide as they were
    pub ends_wide : AreWide s.width (opened_with s (pack + n) (a ++ b)).shelf
    ends_wide = opened_wide width (pack + n) s all (a ++ b) idle fits value sizes

    -- and all are free again
    pub ends_closed : IsSound s → cleared (opened_with s (pack + n) (a ++ b)) ≡ record s { high = max s.high (pack + n) }
    ends_closed sound = opened_closed width (pack + n) s all (a ++ b) idle fits value sizes sound

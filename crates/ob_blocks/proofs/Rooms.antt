-- The rows of a pass on the shelf of a room.
use Rattle.std.proofs.Common.{◌≡◌, ◌≤◌, ◌+◌, ◌-◌, ℕ, zero, suc, List, ◌++◌, length, replicate, map, take, drop, max, refl, sym, ◌∙◌, ap, arith}
use Rattle.std.proofs.lemmas.List.{take_at, length-replicate, length-take}
use Rattle.ob_room.specs.RoomState.{RoomState, clear, out}
use Rattle.ob_room.specs.Shelf.{AreWide, IsSound, cleared}
use Rattle.ob_room.specs.LendingOpen.{opened_with}
use Rattle.ob_blocks.specs.Idle.{IsIdle}
use Rattle.ob_blocks.proofs.Blocks.{replicate_join, take_replicate}

pub clear_wide : (w n : ℕ) → AreWide w (replicate n (clear w))
clear_wide w zero = refl
clear_wide w (suc n) = cc (clear_wide w n, length-replicate {A = ℕ} w 0)

module _ (width n : ℕ) (s : RoomState) (w : List (List ℕ)) (idle : IsIdle width s) (fits : n ≤ s.rows) (size : length w ≡ n) where
  -- what lies on the shelf at the end of a pass
  pub open_shelf : (opened_with s n w).shelf ≡ w
  open_shelf = take_at w (drop (length w) (replicate n (clear s.width))) n size

  pub open_held : length (opened_with s n w).shelf ≤ out (opened_with s n w)
  open_held = omega (arith, ap length open_shelf, length-take (length s.free - n) s.free, idle.free)

  pub open_wide : AreWide s.width w → AreWide (opened_with s n w).width (opened_with s n w).shelf
  open_wide wide = ap (map length) open_shelf ∙ wide ∙ ap (λ (l : List (List ℕ)). replicate (length l) s.width) (sym open_shelf)

  -- and the room when they were given back
  pub closed : IsSound s → cleared (opened_with s n w) ≡ record s { high = max s.high n }
  closed sound =
      let zeros : List (List ℕ) = replicate (length s.free) (clear s.width) in
      let front : take (length s.free - n) s.free ≡ replicate (length s.free - n) (clear s.width) = ap (take (length s.free - n)) sound.zeros ∙ take_replicate (length s.free - n) (length s.free) (clear s.width) (omega arith) in
      let back : replicate (length (opened_with s n w).shelf) (clear s.width) ≡ replicate n (clear s.width) = ap (λ (k : ℕ). replicate k (clear s.width)) (ap length open_shelf ∙ size) in
      let free : take (length s.free - n) s.free ++ replicate (length (opened_with s n w).shelf) (clear s.width) ≡ s.free =
      ap (λ (l : List (List ℕ)). l ++ replicate (length (opened_with s n w).shelf) (clear s.width)) front
      ∙ ap (λ (l : List (List ℕ)). replicate (length s.free - n) (clear s.width) ++ l) back
      ∙ replicate_join (length s.free - n) n (clear s.width)
      ∙ ap (λ (k : ℕ). replicate k (clear s.width)) (omega (arith, idle.free)) ∙ sym sound.zeros in
      let none : out s ≡ 0 = omega (arith, idle.free) in
      let high : max s.high (out s + n) ≡ max s.high n = ap (λ (k : ℕ). max s.high k) (omega (arith, none)) in
      cc (free, high, idle.shelf)

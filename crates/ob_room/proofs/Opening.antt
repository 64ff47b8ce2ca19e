-- Fresh rows on the shelf.
use Rattle.std.proofs.Common.{◌≡◌, ◌+◌, ◌-◌, ◌++◌, ℕ, List, [], length, take, drop, replicate, sym, ◌∙◌, ap, arith, length-append}
use Rattle.std.proofs.lemmas.List.{take_at, length-replicate}
use Rattle.ob_room.specs.RoomState.{RoomState, clear}
use Rattle.ob_room.specs.Shelf.{ShelvesClear}
use Rattle.ob_room.specs.LendingOpen.{opened_with}

pub opens : (n : ℕ) (old mid : RoomState) → ShelvesClear n old mid → old.shelf ≡ [] → (w : List (List ℕ)) → record mid { shelf = take (length mid.shelf) (w ++ drop (length w) mid.shelf) } ≡ opened_with old n w
opens n old mid shelves none w =
    let rows : List (List ℕ) = replicate n (clear old.width) in
    let size : length old.free ≡ length mid.free + n = ap length shelves.free ∙ length-append mid.free rows ∙ ap (λ (k : ℕ). length mid.free + k) (length-replicate n (clear old.width)) in
    let free : mid.free ≡ take (length old.free - n) old.free = sym (ap (take (length old.free - n)) shelves.free ∙ take_at mid.free rows (length old.free - n) (omega arith)) in
    let shelf : mid.shelf ≡ rows = shelves.shelf ∙ ap (λ (l : List (List ℕ)). l ++ rows) none in
    let long : length mid.shelf ≡ n = ap length shelf ∙ length-replicate n (clear old.width) in
    let cut : take (length mid.shelf) (w ++ drop (length w) mid.shelf) ≡ take n (w ++ drop (length w) rows) = ap (λ (k : ℕ). take k (w ++ drop (length w) mid.shelf)) long ∙ ap (λ (l : List (List ℕ)). take n (w ++ drop (length w) l)) shelf in
    cc (free, cut, shelves.rows, shelves.width, shelves.pack, shelves.high)

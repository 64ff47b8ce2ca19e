-- The rows that a pass takes from the room, and gives back.
use Rattle.std.proofs.Common.{◌≡◌, ◌≤◌, ◌<◌, ◌+◌, ◌*◌, ◌-◌, ℕ, List, [], Option, None, length, replicate, max, refl, sym, ◌∙◌, ap, subst, arith}
use Rattle.std.proofs.lemmas.List.{length-replicate, get_or-replicate}
use Rattle.std.proofs.lemmas.Nat.{div-add-mod'}
use Rattle.ob_base.specs.Limits.{buffered_blocks}
use Rattle.ob_base.specs.Schemas.{Columns, width as columns_width}
use Rattle.ob_row.specs.Rows.{Row}
use Rattle.ob_row.specs.Spelling.{Begins}
use Rattle.ob_row.proofs.SpellingLemmas.{zeros-begin}
use Rattle.ob_flat.specs.Slots.{Spelt}
use Rattle.ob_room.specs.RoomState.{RoomState, clear, out}
use Rattle.ob_room.specs.Shelf.{AreWide, IsSound, cleared}
use Rattle.ob_room.specs.LendingOpen.{opened_with}
use Rattle.ob_blocks.specs.Idle.{IsIdle}
use Rattle.ob_blocks.specs.Blocks.{none_of}
use Rattle.ob_blocks.proofs.Rooms.{open_wide, open_held, closed}
use Rattle.ob_vault.specs.Rows.{SameSizes, row_at}
use Rattle.ob_vault.specs.Places.{RowsFit}
use Rattle.ob_flat.proofs.Rows.{same_wide}

-- a block of rows, or two, beside the buffered ones
pub open_fits : (n pack rows : ℕ) → n ≤ 2 → 3 * pack + 1 ≤ rows → n * pack + buffered_blocks pack rows * pack ≤ rows
open_fits n pack rows few enough =
    let blocks : n * pack ≤ 2 * pack = grind arith in
    omega (arith, enough, blocks, div-add-mod' (rows - 2 * pack) pack)

-- so many rows, which are as wide as they were
module _ (width n : ℕ) (s : RoomState) (rows ends : List (List ℕ)) (idle : IsIdle width s) (fits : n ≤ s.rows) (value : rows ≡ replicate n (clear s.width)) (same : SameSizes rows ends) where
  size : length ends ≡ n
  size = same.count ∙ ap length value ∙ length-replicate n (clear s.width)

  pub opened_wide : AreWide s.width (opened_with s n ends).shelf
  opened_wide = open_wide width n s ends idle fits size (same_wide s.width n ends (subst (λ (l : List (List ℕ)). SameSizes l ends) value same))

  -- all are free again
  pub opened_closed : IsSound s → cleared (opened_with s n ends) ≡ record s { high = max s.high n }
  opened_closed sound = closed width n s ends idle fits size sound

-- the rows of one block
module _ (width n : ℕ) (s : RoomState) (rows ends : List (List ℕ)) (idle : IsIdle width s) (sound : IsSound s) (pack : n ≡ s.pack) (value : rows ≡ replicate n (clear s.width)) (same : SameSizes rows ends) where
  fits : n ≤ s.rows
  fits = omega (arith, idle.enough)

  pub shelf_wide : AreWide s.width (opened_with s n ends).shelf
  shelf_wide = opened_wide width n s rows ends idle fits value same

  -- all are free again
  pub room_after : cleared (opened_with s n ends) ≡ record s { high = max s.high s.pack }
  room_after = opened_closed width n s rows ends idle fits value same sound ∙ ap (λ (k : ℕ). record s { high = max s.high k }) pack

-- as many rows lie free, and are out while the pass has them
pub shelf_free : {n : ℕ} (width : ℕ) (s : RoomState) → IsIdle width s → n ≡ s.pack → n ≤ length s.free
shelf_free width s idle pack = omega (arith, idle.enough, idle.free)

pub shelf_held : {n : ℕ} {rows : List (List ℕ)} (width : ℕ) (s : RoomState) (ends : List (List ℕ)) → IsIdle width s → n ≡ s.pack → rows ≡ replicate n (clear s.width) → SameSizes rows ends
    → length (opened_with s n ends).shelf ≤ out (opened_with s n ends)
shelf_held {n} width s ends idle pack value same =
    open_held width n s ends idle (omega (arith, idle.enough)) (same.count ∙ ap length value ∙ length-replicate n (clear s.width))

-- rows that were only read
pub same_rows : (rows : List (List ℕ)) → SameSizes rows rows
same_rows rows = record { count = refl; sizes = λ j. refl }

-- a pass takes as many rows as a block has, each wide enough
module _ (width n : ℕ) (s : RoomState) (rows : List (List ℕ)) (idle : IsIdle width s) (value : rows ≡ replicate n (clear s.width)) (some : 1 ≤ n) where
  pub rows_count : length rows ≡ n
  rows_count = ap length value ∙ length-replicate n (clear s.width)

-- each of them is zeros
clear_is : {rows : List (List ℕ)} (n wide : ℕ) → rows ≡ replicate n (clear wide) → (j : ℕ) → j < length rows → row_at rows j ≡ clear wide
clear_is {rows} n wide value j below =
    ap (λ (l : List (List ℕ)). row_at l j) value ∙ get_or-replicate n j (clear wide) [] (omega (arith, below, ap length value, length-replicate n (clear wide)))

clear_row : {rows : List (List ℕ)} (n wide : ℕ) → rows ≡ replicate n (clear wide) → (j : ℕ) → j < length rows → length (row_at rows j) ≡ wide
clear_row n wide value j below = ap length (clear_is n wide value j below) ∙ length-replicate wide 0

-- the rows of one block are as many as the room says
pub block_count : {n : ℕ} {rows : List (List ℕ)} (s : RoomState) → n ≡ s.pack → rows ≡ replicate n (clear s.width) → length rows ≡ s.pack
block_count {n} s pack value = ap length value ∙ length-replicate n (clear s.width) ∙ pack

-- and wide enough
pub block_fits : {n : ℕ} {rows : List (List ℕ)} (width : ℕ) (s : RoomState) → IsIdle width s → IsSound s → n ≡ s.pack → rows ≡ replicate n (clear s.width) → RowsFit rows (length rows * width)
block_fits {n} {rows} width s idle sound pack value = record {
  each = width;
  whole = refl;
  some = omega (arith, block_count s pack value, sound.pack_some);
  wide = record { wide = λ j below. omega (arith, idle.wide, clear_row n s.width value j below) };
}

-- a block has a row, and no more than 16
pub block_some : {n : ℕ} {rows : List (List ℕ)} (s : RoomState) → IsSound s → n ≡ s.pack → rows ≡ replicate n (clear s.width) → (1 ≤ length rows) × (length rows ≤ 16)
block_some s sound pack value = (omega (arith, block_count s pack value, sound.pack_some), omega (arith, block_count s pack value, sound.pack_few))

-- rows of zeros are dummies
pub clear_spelt : {rows : List (List ℕ)} (columns : Columns) (n wide : ℕ) → columns_width columns ≤ wide → rows ≡ replicate n (clear wide) → Spelt columns (none_of (length rows)) rows
clear_spelt {rows} columns n wide enough value = record {
  count = length-replicate (length rows) no_row;
  each = λ j below.
      subst (λ (s : Option Row). Begins columns s (row_at rows j)) (sym (get_or-replicate (length rows) j no_row no_row below))
      (subst (Begins columns None) (sym (clear_is n wide value j below)) (zeros-begin columns wide enough));
}
  where
    no_row : Option Row
    no_row = None

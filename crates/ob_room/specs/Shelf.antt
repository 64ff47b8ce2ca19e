-- What the calls on the shelf leave.
use Rattle.std.specs.Prelude.{◌≡◌, ◌≤◌, ℕ, List, [], ◌++◌, ◌+◌, length, replicate, map, max}
use Rattle.ob_room.specs.RoomState.{RoomState, out, clear}

-- n zero rows more on the shelf, from those that lay free
pub record ShelvesClear (n : ℕ) (old new : RoomState) : Type 0 where
  pub free : old.free ≡ new.free ++ replicate n (clear old.width)
  pub shelf : new.shelf ≡ old.shelf ++ replicate n (clear old.width)
  pub high : new.high ≡ max old.high (out old + n)
  pub rows : new.rows ≡ old.rows
  pub width : new.width ≡ old.width
  pub pack : new.pack ≡ old.pack

-- the lengths of the rows
abbrev pub widths : List (List ℕ) → List ℕ
widths rows = map length rows

-- each row has this width
abbrev pub AreWide : ℕ → List (List ℕ) → Type 0
AreWide width rows = widths rows ≡ replicate (length rows) width

-- the shelf's rows given back
abbrev pub cleared : RoomState → RoomState
cleared s = record s {
  free = s.free ++ replicate (length s.shelf) (clear s.width);
  shelf = [];
}

-- what is true of each room
pub record IsSound (s : RoomState) : Type 0 where
  pub zeros : s.free ≡ replicate (length s.free) (clear s.width)
  pub lying : length s.free ≤ s.rows
  pub shelved : length s.shelf ≤ out s
  pub high : out s ≤ s.high
  pub most : s.high ≤ s.rows
  pub pack_some : 1 ≤ s.pack
  pub pack_few : s.pack ≤ 16

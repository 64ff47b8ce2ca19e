-- The blocks that an access reads or writes, one after the other, and the slots of the buffer that they belong to.
use Rattle.std.specs.Prelude.{◌+◌, ◌<◌, ◌≤◌, ◌^◌, ℕ}
use Rattle.ob_script.specs.Parts.{path_place}
use Rattle.ob_path.specs.Paths.{path_slot}
use Rattle.ob_oram.specs.declared.walk.Walk.{Walk}
use Rattle.ob_oram.specs.declared.walk.Walk.TheVariants.{Stash, Path}
use Rattle.ob_base.specs.Indexes.{path_blocks}

abbrev pub blocks_in : Walk → ℕ
blocks_in (Stash slots height) = slots
blocks_in (Path height leaf) = path_blocks height

abbrev pub place_in : Walk → ℕ → ℕ
place_in (Stash slots height) c = c
place_in (Path height leaf) c = path_place height leaf c

-- the slots of a path lie in the buffer from the leaf up, and after them those of the stash
abbrev pub slot_in : Walk → ℕ → ℕ
slot_in (Stash slots height) c = path_blocks height + c
slot_in (Path height leaf) c = path_slot height c

-- few blocks, and a leaf of the tree
abbrev pub IsWalk : Walk → Type 0
IsWalk (Stash slots height) = (slots ≤ 1024) × (height ≤ 24)
IsWalk (Path height leaf) = (height ≤ 24) × (leaf < 2 ^ height)

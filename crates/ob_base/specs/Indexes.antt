-- The sizes of an index: a tree of buckets of four blocks, and a stash.
use Rattle.std.specs.Prelude.{◌≤◌, ℕ, zero, suc, ◌+◌, ◌-◌, ◌*◌, ◌%◌, ◌^◌, nat_le, if◌then◌else◌}
use Rattle.ob_base.specs.declared.schema.Heading.{Heading}
use Rattle.ob_base.specs.declared.schema.Shape.{Shape}
use Rattle.ob_base.specs.declared.schema.Shape.TheVariants.{Flat, Indexed}

-- the first where a table is flat, and the second where it is an index
abbrev pub by_shape : {A : Type 0} → Shape → (flat indexed : A) → A
by_shape Flat flat indexed = flat
by_shape Indexed flat indexed = indexed

-- the least of a tree that has a leaf for each of n keys
pub record IsHeight (n height : ℕ) : Type 0 where
  pub enough : n ≤ 2 ^ height
  pub least : (lower : ℕ) → n ≤ 2 ^ lower → height ≤ lower

-- the same as a number: the least from this one on, where one of the next so many is enough
abbrev pub height_from : (fuel height n : ℕ) → ℕ
height_from zero height n = height
height_from (suc fuel) height n = if nat_le n (2 ^ height) then height else height_from fuel (suc height) n

abbrev pub height_of : (n : ℕ) → ℕ
height_of n = height_from n 0 n

-- the blocks of a tree, and those of a path
abbrev pub tree_blocks : ℕ → ℕ
tree_blocks height = 4 * (2 ^ (height + 1) - 1)

abbrev pub path_blocks : ℕ → ℕ
path_blocks height = 4 * (height + 1)

-- the rows that an access has open: those of the stash and of a path, and one that is inserted
abbrev pub rows_open : (height slots : ℕ) → ℕ
rows_open height slots = slots + path_blocks height + 1

abbrev pub leaf_of_draw : ℕ → ℕ → ℕ
leaf_of_draw height draw = draw % 2 ^ height

-- the slots of a table as it lies: those of an index's tree, and of its stash after them
abbrev pub slots_in_place : (stash : ℕ) → Heading → ℕ
slots_in_place stash h = by_shape h.shape h.capacity (tree_blocks (height_of h.capacity) + stash)

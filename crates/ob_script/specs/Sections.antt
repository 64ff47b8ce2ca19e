-- The parts of which every script is joined.
use Rattle.std.specs.Prelude.{◌≡◌, ◌++◌, ◌≤◌, ◌<◌, ◌^◌, ℕ, ◌+◌, ◌*◌, Bool, true, false, List, length, All, ⊤}
use Rattle.std.specs.Int.{div_ceil}
use Rattle.std.specs.List.{flat_map}
use Rattle.ob_base.specs.declared.access.Access.{Access}
use Rattle.ob_base.specs.Accesses.{write_at, make_at, discard_at}
use Rattle.ob_base.specs.Lists.{each}
use Rattle.ob_script.specs.declared.section.Section.{Section}
use Rattle.ob_script.specs.declared.section.Section.TheVariants.{Make, Reads, Writes, Copies, Discard, Passes, Turns, Buckets, Pairs, PathReads, PathWrites}
use Rattle.ob_script.specs.Parts.{count_part, copy_part, small_pass, continuous_block, hash_block, join_chunk, path_read, path_write}

abbrev pub accesses_of : Section → List Access
accesses_of (Make region blocks width) = make_at region blocks width
accesses_of (Reads region blocks) = count_part region blocks
accesses_of (Writes region blocks) = each blocks (write_at region)
accesses_of (Copies from to blocks) = copy_part from to blocks
accesses_of (Discard region) = discard_at region
accesses_of (Passes from to blocks results buffered) = each (div_ceil results buffered) (small_pass from to blocks results buffered)
accesses_of (Turns from to pack slots rows) = each (div_ceil slots pack) (continuous_block from to pack slots rows)
accesses_of (Buckets from to pack slots rows depth) = each (div_ceil slots pack) (hash_block from to pack slots rows depth)
accesses_of (Pairs left right to lefts rights buffered) = each (div_ceil lefts buffered) (join_chunk left right to lefts rights buffered)
accesses_of (PathReads region height leaf) = each (4 * (height + 1)) (path_read region height leaf)
accesses_of (PathWrites region height leaf) = each (4 * (height + 1)) (path_write region height leaf)

-- whether each of its blocks is asked alike, and not in passes or rounds
abbrev pub is_even : Section → Bool
is_even (Make region blocks width) = true
is_even (Reads region blocks) = true
is_even (Writes region blocks) = true
is_even (Copies from to blocks) = true
is_even (Discard region) = true
is_even (Passes from to blocks results buffered) = false
is_even (Turns from to pack slots rows) = false
is_even (Buckets from to pack slots rows depth) = false
is_even (Pairs left right to lefts rights buffered) = false
is_even (PathReads region height leaf) = true
is_even (PathWrites region height leaf) = true

abbrev pub all_accesses : List Section → List Access
all_accesses sections = flat_map accesses_of sections

-- after the sections that there were, these accesses follow
abbrev pub Adds : (old new : List Section) → List Access → Type 0
Adds old new more = all_accesses new ≡ all_accesses old ++ more

-- so many blocks or slots a region has at most
abbrev pub IsFew : ℕ → Type 0
IsFew n = n ≤ 2 ^ 24

-- a leaf of a tree of at most 2^24 leaves
abbrev pub IsLeaf : (height leaf : ℕ) → Type 0
IsLeaf height leaf = (height ≤ 24) × (leaf < 2 ^ height)

-- the numbers are within their limits
abbrev pub IsSized : Section → Type 0
IsSized (Make region blocks width) = width ≤ 2 ^ 24
IsSized (Reads region blocks) = blocks < 2 ^ 32
IsSized (Writes region blocks) = blocks < 2 ^ 32
IsSized (Copies from to blocks) = blocks < 2 ^ 32
IsSized (Discard region) = ⊤
IsSized (Passes from to blocks results buffered) = IsFew blocks × IsFew results × IsFew buffered × (1 ≤ buffered)
IsSized (Turns from to pack slots rows) = IsFew slots × (1 ≤ pack) × (pack ≤ 16) × IsFew rows × (1 ≤ rows)
IsSized (Buckets from to pack slots rows depth) = IsFew slots × (1 ≤ pack) × (pack ≤ 16) × IsFew rows × (1 ≤ rows) × (1 ≤ depth) × (depth ≤ 8)
IsSized (Pairs left right to lefts rights buffered) = IsFew lefts × IsFew rights × IsFew (div_ceil lefts buffered * rights) × IsFew buffered × (1 ≤ buffered)
IsSized (PathReads region height leaf) = IsLeaf height leaf
IsSized (PathWrites region height leaf) = IsLeaf height leaf

-- what is true of each list of them
pub record AreSized (sections : List Section) : Type 0 where
  pub each_one : All IsSized sections
  pub few : length sections ≤ 16

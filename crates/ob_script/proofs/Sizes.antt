-- The number of accesses of a section.
use Rattle.std.proofs.Common.{◌≡◌, ℕ, ◌+◌, ◌*◌, length, refl, arith}
use Rattle.std.specs.Int.{div_ceil}
use Rattle.ob_script.specs.declared.section.Section.{Section}
use Rattle.ob_script.specs.declared.section.Section.TheVariants.{Make, Reads, Writes, Copies, Discard, Passes, Turns, Buckets, Pairs, PathReads, PathWrites}
use Rattle.ob_script.specs.Sections.{accesses_of, IsSized}
use Rattle.ob_script.proofs.Lengths.{length-count_part, length-writes, length-copy_part, length-passes, length-turns, length-buckets, length-pairs, length-path_reads, length-path_writes}

abbrev pub size_of : Section → ℕ
size_of (Make region blocks width) = 1
size_of (Reads region blocks) = blocks
size_of (Writes region blocks) = blocks
size_of (Copies from to blocks) = 2 * blocks
size_of (Discard region) = 1
size_of (Passes from to blocks results buffered) = div_ceil results buffered * blocks + results
size_of (Turns from to pack slots rows) = div_ceil slots pack + 2 * slots
size_of (Buckets from to pack slots rows depth) = div_ceil slots pack + 4 * depth * slots
size_of (Pairs left right to lefts rights buffered) = div_ceil lefts buffered * (2 * rights) + lefts
size_of (PathReads region height leaf) = 4 * (height + 1)
size_of (PathWrites region height leaf) = 4 * (height + 1)

pub size_is : (p : Section) → IsSized p → length (accesses_of p) ≡ size_of p
size_is (Make region blocks width) h = refl
size_is (Reads region blocks) h = length-count_part region blocks
size_is (Writes region blocks) h = length-writes region blocks
size_is (Copies from to blocks) h = let e = length-copy_part from to blocks in omega arith
size_is (Discard region) h = refl
size_is (Passes from to blocks results buffered) h = length-passes from to blocks results buffered h.3
size_is (Turns from to pack slots rows) h = length-turns from to pack slots rows h.1
size_is (Buckets from to pack slots rows depth) h = length-buckets from to pack slots rows depth h.1
size_is (Pairs left right to lefts rights buffered) h = length-pairs left right to lefts rights buffered h.4
size_is (PathReads region height leaf) h = length-path_reads region height leaf
size_is (PathWrites region height leaf) h = length-path_writes region height leaf

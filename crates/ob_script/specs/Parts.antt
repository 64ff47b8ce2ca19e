-- The accesses of each pass over a region, by its number of blocks and the width of a block's rows.
use Rattle.std.specs.Prelude.{ℕ, ◌+◌, ◌-◌, ◌*◌, ◌/◌, ◌%◌, ◌^◌, min, List, [], ◌∷◌, ◌++◌}
use Rattle.ob_base.specs.declared.access.Access.{Access}
use Rattle.ob_base.specs.declared.access.Access.TheVariants.{Read, Write}
use Rattle.ob_base.specs.Accesses.{read_at, write_at, make_at, discard_at}
use Rattle.std.specs.Int.{div_ceil}
use Rattle.ob_base.specs.Indexes.{tree_blocks}
use Rattle.ob_base.specs.Lists.{each}
use Rattle.ob_base.specs.Numbers.{blocks_for, first_bucket, second_bucket}

-- block u of one region is read, and written to another
abbrev pub copy_at : ℕ → ℕ → ℕ → List Access
copy_at t g u = Read t u ∷ Write g u ∷ []

-- block x past the first is read, and is written
abbrev pub read_from : ℕ → ℕ → ℕ → List Access
read_from region first x = Read region (first + x) ∷ []

abbrev pub write_from : ℕ → ℕ → ℕ → List Access
write_from region first x = Write region (first + x) ∷ []

-- each block is read in order
abbrev pub count_part : ℕ → ℕ → List Access
count_part t blocks = each blocks (read_at t)

-- each block is read, and written, changed or not, to the same place of another region
abbrev pub copy_part : ℕ → ℕ → ℕ → List Access
copy_part t g blocks = each blocks (copy_at t g)

-- a new region is made, and filled in order
abbrev pub create_part : ℕ → ℕ → ℕ → List Access
create_part g blocks width = make_at g blocks width ++ each blocks (write_at g)

-- INSERT: a new region is made, the table is read whole, and then copied to it, before what follows
abbrev pub insert_part : ℕ → ℕ → ℕ → ℕ → (behind : List Access) → List Access
insert_part t g blocks width behind = make_at g blocks width ++ (count_part t blocks ++ (copy_part t g blocks ++ behind))

-- UPDATE and DELETE: a new region is made, and the table copied to it, before what follows
abbrev pub rewrite_part : ℕ → ℕ → ℕ → ℕ → (behind : List Access) → List Access
rewrite_part t g blocks width behind = make_at g blocks width ++ (copy_part t g blocks ++ behind)

-- a closing lists so many tables: its head and each of them have a block
abbrev pub closing_part : (region tables : ℕ) → List Access
closing_part region tables = create_part region (tables + 1) 1024

-- Small, pass j: the table is read whole, and the next blocks of the result are written, as many as are buffered
abbrev pub small_pass : ℕ → ℕ → ℕ → ℕ → ℕ → ℕ → List Access
small_pass t g blocks results buffered j = count_part t blocks ++ each (min buffered (results - j * buffered)) (write_from g (j * buffered))

-- Small: a new region is made, and as many passes fill it as it has buffers of blocks
abbrev pub small_part : ℕ → ℕ → ℕ → ℕ → ℕ → ℕ → List Access
small_part t g blocks results buffered width =
    make_at g results width ++ each (div_ceil results buffered) (small_pass t g blocks results buffered)

-- Large: the table is copied to a new region, which then is read and written again
abbrev pub large_part : ℕ → ℕ → ℕ → ℕ → List Access
large_part t g blocks width = make_at g blocks width ++ (copy_part t g blocks ++ copy_part g g blocks)

-- how many of n slots lie in block u
abbrev pub slots_in : ℕ → ℕ → ℕ → ℕ
slots_in pack n u = min pack (n - u * pack)

-- Continuous, block u: it is read, and for each of its slots i the block of slot i mod k of the result is read and written
abbrev pub continuous_block : ℕ → ℕ → ℕ → ℕ → ℕ → ℕ → List Access
continuous_block t g pack n k u =
    read_at t u ++ each (slots_in pack n u) (λ j. copy_at g g (((u * pack + j) % k) / pack))

-- Continuous: a new region of k slots is made and filled, and then written to slot by slot
abbrev pub continuous_part : ℕ → ℕ → ℕ → ℕ → ℕ → ℕ → List Access
continuous_part t g pack n k width =
    create_part g (blocks_for pack k) width ++ each (blocks_for pack n) (continuous_block t g pack n k)

-- each block of a bucket is read and written
abbrev pub bucket_part : ℕ → ℕ → ℕ → List Access
bucket_part g depth bucket = each depth (λ y. copy_at g g (bucket * depth + y))

-- Hash, slot i: each block of its two buckets among k
abbrev pub hash_slot : ℕ → ℕ → ℕ → ℕ → List Access
hash_slot g k depth i = bucket_part g depth (first_bucket k i) ++ bucket_part g depth (second_bucket k i)

-- Hash, block u: it is read, and then both buckets of each of its slots
abbrev pub hash_block : ℕ → ℕ → ℕ → ℕ → ℕ → ℕ → ℕ → List Access
hash_block t g pack n k depth u = read_at t u ++ each (slots_in pack n u) (λ j. hash_slot g k depth (u * pack + j))

-- Hash: a new region of k buckets is made and filled, and then written to slot by slot
abbrev pub hash_part : ℕ → ℕ → ℕ → ℕ → ℕ → ℕ → ℕ → List Access
hash_part t g pack n k depth width =
    create_part g (k * depth) width ++ each (blocks_for pack n) (hash_block t g pack n k depth)

-- a result is read in order and discarded
abbrev pub emission_part : ℕ → ℕ → List Access
emission_part g blocks = count_part g blocks ++ discard_at g

-- a join, right block v for chunk q of the left table: it is read, and the next block of the joined region is written
abbrev pub pair_at : ℕ → ℕ → ℕ → ℕ → ℕ → List Access
pair_at b g rights q v = Read b v ∷ Write g (q * rights + v) ∷ []

-- a join, chunk q of the left table: its blocks are read, and then each right block
abbrev pub join_chunk : ℕ → ℕ → ℕ → ℕ → ℕ → ℕ → ℕ → List Access
join_chunk a b g lefts rights buffered q =
    each (min buffered (lefts - q * buffered)) (read_from a (q * buffered)) ++ each rights (pair_at b g rights q)

-- a join: a new region is made, and filled with the pairs of each chunk
abbrev pub join_part : ℕ → ℕ → ℕ → ℕ → ℕ → ℕ → ℕ → List Access
join_part a b g lefts rights buffered width =
    make_at g (div_ceil lefts buffered * rights) width
    ++ each (div_ceil lefts buffered) (join_chunk a b g lefts rights buffered)

-- ---- an index
-- a tree of this height and a stash of so many slots are made and filled; each block has one row
abbrev pub index_part : (tree stash slots height width : ℕ) → List Access
index_part tree stash slots height width =
    create_part tree (tree_blocks height) width ++ create_part stash slots width

-- the bucket of a leaf's path, so many above the leaf: of a tree of this height, its root is bucket 0, and the children of
-- bucket b are 2 * b + 1 and 2 * b + 2
abbrev pub bucket_at : (height leaf above : ℕ) → ℕ
bucket_at height leaf above = (2 ^ height + leaf) / 2 ^ above - 1

-- the place of block c of the path, counted from the root down, where each bucket has four blocks
abbrev pub path_place : (height leaf c : ℕ) → ℕ
path_place height leaf c = 4 * bucket_at height leaf (height - c / 4) + c % 4

abbrev pub path_read : (tree height leaf c : ℕ) → List Access
path_read tree height leaf c = Read tree (path_place height leaf c) ∷ []

abbrev pub path_write : (tree height leaf c : ℕ) → List Access
path_write tree height leaf c = Write tree (path_place height leaf c) ∷ []

-- an access of an index: its stash and the path of a leaf are read, and the path and the stash are written
abbrev pub access_part : (tree stash slots height leaf : ℕ) → List Access
access_part tree stash slots height leaf =
    count_part stash slots
    ++ (each (4 * (height + 1)) (path_read tree height leaf)
    ++ (each (4 * (height + 1)) (path_write tree height leaf)
    ++ each slots (write_at stash)))

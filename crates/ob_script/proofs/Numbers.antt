-- The number of accesses of each part of a statement.
use Rattle.std.proofs.Common.{◌≡◌, ℕ, List, suc, ◌+◌, ◌*◌, ◌≤◌, ◌<◌, ◌++◌, length, ◌∙◌, ap, mul-pos, inl, inr, arith}
use Rattle.std.proofs.lemmas.Bool.{cases_lt}
use Rattle.std.specs.Int.{div_ceil}
use Rattle.std.proofs.lemmas.List.{length-append}
use Rattle.std.proofs.lemmas.Grind.{div_ceil_times}
use Rattle.std.proofs.Math.Nat.{mul-le-mul_right}
use Rattle.ob_base.specs.declared.access.Access.{Access}
use Rattle.ob_base.specs.Accesses.{discard_at, write_at}
use Rattle.ob_base.specs.Indexes.{tree_blocks}
use Rattle.ob_base.specs.Lists.{each}
use Rattle.ob_base.specs.Numbers.{blocks_for}
use Rattle.ob_script.specs.Parts.{closing_part, count_part, copy_part, create_part, index_part, insert_part, rewrite_part, small_part, large_part, continuous_part, continuous_block, hash_part, hash_block, emission_part, join_part, access_part, path_read, path_write}
use Rattle.ob_script.proofs.Lengths.{length-count_part, length-writes, length-copy_part, length-passes, length-turns, length-buckets, length-pairs, length-path_reads, length-path_writes}

pub length-create_part : (g blocks width : ℕ) → length (create_part g blocks width) ≡ 1 + blocks
length-create_part g blocks width = let e = length-writes g blocks in omega arith

pub length-emission_part : (g blocks : ℕ) → length (emission_part g blocks) ≡ blocks + 1
length-emission_part g blocks = length-append (count_part g blocks) (discard_at g) ∙ ap (λ n. n + 1) (length-count_part g blocks)

pub length-insert_part : (t g blocks width : ℕ) (behind : List Access) → length (insert_part t g blocks width behind) ≡ 3 * blocks + 1 + length behind
length-insert_part t g blocks width behind =
    let a = length-append (count_part t blocks) (copy_part t g blocks ++ behind) in
    let b = length-append (copy_part t g blocks) behind in
    let c = length-count_part t blocks in
    let d = length-copy_part t g blocks in omega (arith, a, b)

pub length-rewrite_part : (t g blocks width : ℕ) (behind : List Access) → length (rewrite_part t g blocks width behind) ≡ 2 * blocks + 1 + length behind
length-rewrite_part t g blocks width behind =
    let b = length-append (copy_part t g blocks) behind in
    let d = length-copy_part t g blocks in omega (arith, b)

pub length-closing_part : (region tables : ℕ) → length (closing_part region tables) ≡ tables + 2
length-closing_part region tables = let e = length-create_part region (tables + 1) 1024 in omega (arith, e)

pub length-small_part : (t g blocks results q width : ℕ) → 0 < q → length (small_part t g blocks results q width) ≡ 1 + (div_ceil results q * blocks + results)
length-small_part t g blocks results q width pos = let e = length-passes t g blocks results q pos in omega arith

pub length-large_part : (t g blocks width : ℕ) → length (large_part t g blocks width) ≡ 1 + 4 * blocks
length-large_part t g blocks width =
    let a = length-append (copy_part t g blocks) (copy_part g g blocks) in
    let b = length-copy_part t g blocks in
    let c = length-copy_part g g blocks in omega (arith, a)

pub length-continuous_part : (t g pack n k width : ℕ) → 0 < pack →
    length (continuous_part t g pack n k width) ≡ 1 + blocks_for pack k + (blocks_for pack n + 2 * n)
length-continuous_part t g pack n k width pos =
    length-append (create_part g (blocks_for pack k) width) (each (blocks_for pack n) (continuous_block t g pack n k))
    ∙ (λ i. length-create_part g (blocks_for pack k) width i + length-turns t g pack n k pos i)

pub length-hash_part : (t g pack n k depth width : ℕ) → 0 < pack →
    length (hash_part t g pack n k depth width) ≡ 1 + k * depth + (blocks_for pack n + 4 * depth * n)
length-hash_part t g pack n k depth width pos =
    length-append (create_part g (k * depth) width) (each (blocks_for pack n) (hash_block t g pack n k depth))
    ∙ (λ i. length-create_part g (k * depth) width i + length-buckets t g pack n k depth pos i)

pub length-join_part : (a b g lefts rights q width : ℕ) → 0 < q →
    length (join_part a b g lefts rights q width) ≡ 1 + (div_ceil lefts q * (2 * rights) + lefts)
length-join_part a b g lefts rights q width pos = let e = length-pairs a b g lefts rights q pos in omega arith

pub length-access_part : (tree stash slots height leaf : ℕ) → length (access_part tree stash slots height leaf) ≡ 2 * slots + 8 * (height + 1)
length-access_part tree stash slots height leaf =
    let reads = each (4 * (height + 1)) (path_read tree height leaf) in
    let writes = each (4 * (height + 1)) (path_write tree height leaf) in
    let last = each slots (write_at stash) in
    let a = length-append (count_part stash slots) (reads ++ (writes ++ last)) in
    let b = length-append reads (writes ++ last) in
    let c = length-append writes last in
    let d = length-count_part stash slots in
    let e = length-path_reads tree height leaf in
    let f = length-path_writes tree height leaf in
    let g = length-writes stash slots in omega (arith, a, b, c, d, e, f, g)

pub length-index_part : (tree stash slots height width : ℕ) → length (index_part tree stash slots height width) ≡ tree_blocks height + slots + 2
length-index_part tree stash slots height width =
    let a = length-append (create_part tree (tree_blocks height) width) (create_part stash slots width) in
    let b = length-create_part tree (tree_blocks height) width in
    let c = length-create_part stash slots width in omega (arith, a, b, c)

-- the least number of parts of q that hold n
pub ceil_least : (n q m : ℕ) → 0 < q → n ≤ m * q → div_ceil n q ≤ m
ceil_least n q m pos h =
    let d = div_ceil_times n q pos in
    let e : div_ceil n q * q < suc m * q = let s : suc m * q ≡ m * q + q = omega arith in omega (arith, d.1) in
    elim (cases_lt m (div_ceil n q)) [ inl more ↦ absurd (let f : suc m * q ≤ div_ceil n q * q = mul-le-mul_right q more in omega arith) | inr done ↦ done ]

-- blocks by so many are rows by as many blocks
pub ceil-ceil : (n pack q : ℕ) → 0 < pack → 0 < q → div_ceil (div_ceil n pack) q ≡ div_ceil n (pack * q)
ceil-ceil n pack q some pos =
    let both : 0 < pack * q = mul-pos some pos in
    let a = div_ceil_times n pack some in
    let b = div_ceil_times (div_ceil n pack) q pos in
    let c = div_ceil_times n (pack * q) both in
    let up : div_ceil (div_ceil n pack) q ≤ div_ceil n (pack * q) =
    ceil_least (div_ceil n pack) q (div_ceil n (pack * q)) pos
    (ceil_least n pack (div_ceil n (pack * q) * q) some (let e : div_ceil n (pack * q) * q * pack ≡ div_ceil n (pack * q) * (pack * q) = omega arith in omega (arith, c.0))) in
    let down : div_ceil n (pack * q) ≤ div_ceil (div_ceil n pack) q =
    ceil_least n (pack * q) (div_ceil (div_ceil n pack) q) both
    (let e : div_ceil (div_ceil n pack) q * q * pack ≡ div_ceil (div_ceil n pack) q * (pack * q) = omega arith in
    let f : div_ceil n pack * pack ≤ div_ceil (div_ceil n pack) q * q * pack = mul-le-mul_right pack b.0 in omega (arith, a.0)) in
    omega arith

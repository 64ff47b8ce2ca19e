-- How many regions each part of a statement asks for.
use Rattle.std.proofs.Common.{◌≡◌, ℕ, zero, suc, ◌+◌, ◌-◌, ◌*◌, ◌/◌, ◌%◌, min, List, Option, Some, None, ◌++◌, refl, ◌∙◌, arith}
use Rattle.std.specs.Int.{div_ceil}
use Rattle.ob_base.specs.declared.access.Access.{Access}
use Rattle.ob_base.specs.Accesses.{drop_script, makes, read_at, write_at, make_at, discard_at}
use Rattle.ob_base.specs.Indexes.{tree_blocks}
use Rattle.ob_base.specs.Lists.{each}
use Rattle.ob_base.specs.Numbers.{blocks_for, first_bucket, second_bucket}
use Rattle.ob_base.proofs.AccessLemmas.{makes-append}
use Rattle.ob_script.specs.Parts.{copy_at, read_from, write_from, closing_part, count_part, copy_part, create_part, index_part, insert_part, rewrite_part, small_pass, small_part, large_part, slots_in, continuous_block, continuous_part, bucket_part, hash_slot, hash_block, hash_part, emission_part, pair_at, join_chunk, join_part, access_part, path_place, path_read, path_write}

-- lists of which none asks for a region, joined
makes-each : (n : ℕ) (f : ℕ → List Access) → ((i : ℕ) → makes (f i) ≡ 0) → makes (each n f) ≡ 0
unfolding makes
makes-each zero f none = refl
makes-each (suc n) f none = omega (arith, makes-append (each n f) (f n), makes-each n f none, none n)

-- joined, they ask for as many as each asks for
both : (xs ys : List Access) (m n : ℕ) → makes xs ≡ m → makes ys ≡ n → makes (xs ++ ys) ≡ m + n
both xs ys m n e f = makes-append xs ys ∙ (λ i. e i + f i)

made : (g blocks width : ℕ) → makes (make_at g blocks width) ≡ 1
unfolding makes
made g blocks width = refl

one_made : (g blocks width : ℕ) (rest : List Access) → makes rest ≡ 0 → makes (make_at g blocks width ++ rest) ≡ 1
one_made g blocks width rest none = both (make_at g blocks width) rest 1 0 (made g blocks width) none

discarded : (g : ℕ) → makes (discard_at g) ≡ 0
unfolding makes
discarded g = refl

copied : (t g u : ℕ) → makes (copy_at t g u) ≡ 0
unfolding makes
copied t g u = refl

was_read : (t u : ℕ) → makes (read_at t u) ≡ 0
unfolding makes
was_read t u = refl

was_written : (t u : ℕ) → makes (write_at t u) ≡ 0
unfolding makes
was_written t u = refl

paired : (b g rights q v : ℕ) → makes (pair_at b g rights q v) ≡ 0
unfolding makes
paired b g rights q v = refl

none_in : (xs ys : List Access) → makes xs ≡ 0 → makes ys ≡ 0 → makes (xs ++ ys) ≡ 0
none_in xs ys e f = both xs ys 0 0 e f

pub makes-count_part : (t blocks : ℕ) → makes (count_part t blocks) ≡ 0
makes-count_part t blocks = makes-each blocks (read_at t) (was_read t)

makes-copy_part : (t g blocks : ℕ) → makes (copy_part t g blocks) ≡ 0
makes-copy_part t g blocks = makes-each blocks (copy_at t g) (copied t g)

pub makes-create_part : (g blocks width : ℕ) → makes (create_part g blocks width) ≡ 1
makes-create_part g blocks width = one_made g blocks width (each blocks (write_at g)) (makes-each blocks (write_at g) (was_written g))

copied_over : (t g blocks : ℕ) (behind : List Access) → makes (copy_part t g blocks ++ behind) ≡ makes behind
copied_over t g blocks behind = both (copy_part t g blocks) behind 0 (makes behind) (makes-copy_part t g blocks) refl ∙ omega arith

pub makes-insert_part : (t g blocks width : ℕ) (behind : List Access) → makes (insert_part t g blocks width behind) ≡ 1 + makes behind
makes-insert_part t g blocks width behind =
    let first = both (make_at g blocks width) (count_part t blocks ++ (copy_part t g blocks ++ behind)) 1 _ (made g blocks width) refl in
    let then = both (count_part t blocks) (copy_part t g blocks ++ behind) 0 _ (makes-count_part t blocks) (copied_over t g blocks behind) in
    omega (arith, first, then)

pub makes-rewrite_part : (t g blocks width : ℕ) (behind : List Access) → makes (rewrite_part t g blocks width behind) ≡ 1 + makes behind
makes-rewrite_part t g blocks width behind =
    both (make_at g blocks width) (copy_part t g blocks ++ behind) 1 _ (made g blocks width) (copied_over t g blocks behind)

pub makes-closing_part : (region tables : ℕ) → makes (closing_part region tables) ≡ 1
makes-closing_part region tables = makes-create_part region (tables + 1) 1024

-- what is discarded makes no region
pub makes-drop_script : (o : Option ℕ) → makes (drop_script o) ≡ 0
unfolding makes
makes-drop_script None = refl
makes-drop_script (Some region) = refl

pub makes-small_part : (t g blocks results buffered width : ℕ) → makes (small_part t g blocks results buffered width) ≡ 1
makes-small_part t g blocks results buffered width =
    one_made g results width (each (div_ceil results buffered) (small_pass t g blocks results buffered))
    (makes-each (div_ceil results buffered) (small_pass t g blocks results buffered) pass)
  where
    pass : (j : ℕ) → makes (small_pass t g blocks results buffered j) ≡ 0
    pass j =
        let n = min buffered (results - j * buffered) in
        let f = write_from g (j * buffered) in
        none_in (count_part t blocks) (each n f) (makes-count_part t blocks) (makes-each n f (λ x. was_written g (j * buffered + x)))

pub makes-large_part : (t g blocks width : ℕ) → makes (large_part t g blocks width) ≡ 1
makes-large_part t g blocks width =
    one_made g blocks width (copy_part t g blocks ++ copy_part g g blocks)
    (none_in (copy_part t g blocks) (copy_part g g blocks) (makes-copy_part t g blocks) (makes-copy_part g g blocks))

pub makes-continuous_part : (t g pack n k width : ℕ) → makes (continuous_part t g pack n k width) ≡ 1
makes-continuous_part t g pack n k width =
    both (create_part g (blocks_for pack k) width) (each (blocks_for pack n) (continuous_block t g pack n k)) 1 0
    (makes-create_part g (blocks_for pack k) width) (makes-each (blocks_for pack n) (continuous_block t g pack n k) block)
  where
    block : (u : ℕ) → makes (continuous_block t g pack n k u) ≡ 0
    block u =
        let m = slots_in pack n u in
        let f = λ (j : ℕ). copy_at g g (((u * pack + j) % k) / pack) in
        none_in (read_at t u) (each m f) (was_read t u) (makes-each m f (λ j. copied g g (((u * pack + j) % k) / pack)))

makes-bucket_part : (g depth b : ℕ) → makes (bucket_part g depth b) ≡ 0
makes-bucket_part g depth b = makes-each depth (λ y. copy_at g g (b * depth + y)) (λ y. copied g g (b * depth + y))

pub makes-hash_part : (t g pack n k depth width : ℕ) → makes (hash_part t g pack n k depth width) ≡ 1
makes-hash_part t g pack n k depth width =
    both (create_part g (k * depth) width) (each (blocks_for pack n) (hash_block t g pack n k depth)) 1 0
    (makes-create_part g (k * depth) width) (makes-each (blocks_for pack n) (hash_block t g pack n k depth) block)
  where
    slot : (i : ℕ) → makes (hash_slot g k depth i) ≡ 0
    slot i = none_in (bucket_part g depth (first_bucket k i)) (bucket_part g depth (second_bucket k i)) (makes-bucket_part g depth (first_bucket k i)) (makes-bucket_part g depth (second_bucket k i))

    block : (u : ℕ) → makes (hash_block t g pack n k depth u) ≡ 0
    block u =
        let m = slots_in pack n u in
        let f = λ (j : ℕ). hash_slot g k depth (u * pack + j) in
        none_in (read_at t u) (each m f) (was_read t u) (makes-each m f (λ j. slot (u * pack + j)))

pub makes-emission_part : (g blocks : ℕ) → makes (emission_part g blocks) ≡ 0
makes-emission_part g blocks = none_in (count_part g blocks) (discard_at g) (makes-count_part g blocks) (discarded g)

pub makes-join_part : (a b g lefts rights buffered width : ℕ) → makes (join_part a b g lefts rights buffered width) ≡ 1
makes-join_part a b g lefts rights buffered width =
    one_made g (div_ceil lefts buffered * rights) width (each (div_ceil lefts buffered) (join_chunk a b g lefts rights buffered))
    (makes-each (div_ceil lefts buffered) (join_chunk a b g lefts rights buffered) chunk)
  where
    chunk : (q : ℕ) → makes (join_chunk a b g lefts rights buffered q) ≡ 0
    chunk q =
        let n = min buffered (lefts - q * buffered) in
        let f = read_from a (q * buffered) in
        none_in (each n f) (each rights (pair_at b g rights q)) (makes-each n f (λ x. was_read a (q * buffered + x))) (makes-each rights (pair_at b g rights q) (paired b g rights q))

pub makes-access_part : (tree stash slots height leaf : ℕ) → makes (access_part tree stash slots height leaf) ≡ 0
makes-access_part tree stash slots height leaf =
    let reads = each (4 * (height + 1)) (path_read tree height leaf) in
    let writes = each (4 * (height + 1)) (path_write tree height leaf) in
    let last = each slots (write_at stash) in
    none_in (count_part stash slots) (reads ++ (writes ++ last)) (makes-count_part stash slots)
    (none_in reads (writes ++ last) (makes-each (4 * (height + 1)) (path_read tree height leaf) (λ c. was_read tree (path_place height leaf c)))
    (none_in writes last (makes-each (4 * (height + 1)) (path_write tree height leaf) (λ c. was_written tree (path_place height leaf c)))
    (makes-each slots (write_at stash) (λ x. was_written stash x))))

pub makes-index_part : (tree stash slots height width : ℕ) → makes (index_part tree stash slots height width) ≡ 2
makes-index_part tree stash slots height width =
    both (create_part tree (tree_blocks height) width) (create_part stash slots width) 1 1
    (makes-create_part tree (tree_blocks height) width) (makes-create_part stash slots width)

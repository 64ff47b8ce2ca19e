-- The numbers of accesses, and of chunks.
use Rattle.std.proofs.Common.{◌≡◌, ◌≤◌, ◌<◌, ◌+◌, ◌-◌, ◌*◌, ℕ, zero, suc, min, length, ◌∙◌, ap, arith, length-append}
use Rattle.std.specs.Int.{div_ceil}
use Rattle.ob_base.specs.Lists.{each}
use Rattle.ob_script.specs.Parts.{read_from, pair_at, join_chunk}
use Rattle.ob_join.proofs.Windows.{reads_from}
use Rattle.ob_join.proofs.Chunks.{pairs_length}

-- after so many chunks
pub spent : (a b g lefts rights q j : ℕ) → length (each j (join_chunk a b g lefts rights q)) ≡ min (j * q) lefts + 2 * (j * rights)
spent a b g lefts rights q zero = omega arith
spent a b g lefts rights q (suc j) =
    let n = min q (lefts - j * q) in
    let more : suc j * rights ≡ j * rights + rights = grind arith in
    let next : suc j * q ≡ j * q + q = grind arith in
    omega (
      arith,
      spent a b g lefts rights q j,
      more,
      next,
      reads_from a (j * q) n,
      pairs_length b g rights j rights,
      length-append (each j (join_chunk a b g lefts rights q)) (join_chunk a b g lefts rights q j),
      length-append (each n (read_from a (j * q))) (each rights (pair_at b g rights j)),
    )

-- a chunk that there is
pub begun : (lefts q j n end : ℕ) → n ≡ lefts → end ≡ div_ceil n q → j < end → j < div_ceil lefts q
begun lefts q j n end same is below = omega (arith, below, is ∙ ap (λ (k : ℕ). div_ceil k q) same)

-- the blocks that it has
pub taken : (lefts q j n k : ℕ) → n ≡ lefts → k ≡ min q (n - j * q) → k ≡ min q (lefts - j * q)
taken lefts q j n k same is = is ∙ ap (λ (m : ℕ). min q (m - j * q)) same

-- all chunks
pub all_chunks : (lefts q j n end : ℕ) → n ≡ lefts → end ≡ div_ceil n q → end ≤ j → j ≤ end → j ≡ div_ceil lefts q
all_chunks lefts q j n end same is past within = omega (arith, past, within, is ∙ ap (λ (k : ℕ). div_ceil k q) same)

pub next_chunk : (j n : ℕ) → j * n + n ≡ (j + 1) * n
next_chunk j n = grind arith

pub product_least : (n r : ℕ) → 1 ≤ r → n ≤ n * r
product_least n r some = grind arith

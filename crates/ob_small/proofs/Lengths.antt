-- The numbers of accesses, and of passes.
use Rattle.std.proofs.Common.{◌≡◌, ◌≤◌, ◌<◌, ◌+◌, ◌-◌, ◌*◌, ℕ, zero, suc, min, length, refl, ◌∙◌, arith, length-append}
use Rattle.std.specs.Int.{div_ceil}
use Rattle.std.proofs.lemmas.Grind.{div_ceil_times}
use Rattle.ob_base.specs.Lists.{each}
use Rattle.ob_script.specs.Parts.{count_part, write_from, small_pass}
use Rattle.ob_store.proofs.Steps.{length-each}
use Rattle.ob_flat.proofs.Tables.{reads}

pub writes : (g first n : ℕ) → length (each n (write_from g first)) ≡ n
writes g first n = length-each (write_from g first) 1 (λ i. refl) n ∙ omega arith

-- after so many passes
pub spent : (t g blocks results q j : ℕ) → length (each j (small_pass t g blocks results q)) ≡ j * blocks + min (j * q) results
spent t g blocks results q zero = omega arith
spent t g blocks results q (suc j) =
    let n = min q (results - j * q) in
    let more : suc j * blocks ≡ j * blocks + blocks = grind arith in
    let next : suc j * q ≡ j * q + q = grind arith in
    omega (arith, spent t g blocks results q j, more, next, reads t blocks, writes g (j * q) n, length-append (each j (small_pass t g blocks results q)) (small_pass t g blocks results q j), length-append (count_part t blocks) (each n (write_from g (j * q))))

-- the passes reach each block, and none begins past them
pub passes_reach : (results q : ℕ) → 1 ≤ q → results ≤ div_ceil results q * q
passes_reach results q some = (div_ceil_times results q (omega arith)).0

pub pass_inside : (results q j : ℕ) → 1 ≤ q → j < div_ceil results q → j * q < results
pass_inside results q j some below =
    let most : (j + 1) * q ≤ div_ceil results q * q = grind arith in
    let next : (j + 1) * q ≡ j * q + q = grind arith in
    omega (arith, most, next, (div_ceil_times results q (omega arith)).1)

pub passes_few : (results q : ℕ) → 1 ≤ q → div_ceil results q ≤ results
passes_few results q some = grind arith

pub product_few : (a b : ℕ) → a ≤ 16777216 → b ≤ 16777216 → a * b ≤ 281474976710656
product_few a b few less = grind arith

-- one pass more
pub pass_next : (j blocks : ℕ) → (j + 1) * blocks ≡ j * blocks + blocks
pass_next j blocks = grind arith

pub product_within : (a b r : ℕ) → a ≤ b → a * r ≤ b * r
product_within a b r fits = grind arith

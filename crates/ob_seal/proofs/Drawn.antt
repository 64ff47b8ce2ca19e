-- Draws repeat, with the stream.
use Rattle.std.proofs.Common.{◌≡◌, ◌+◌, ◌*◌, ◌%◌, ◌^◌, ℕ, List, ◌∙◌, ap, arith}
use Rattle.rand_chacha.specs.ChaCha.{word_at}
use Rattle.ob_seal.specs.Draws.{draw_at}

pub draws_wrap : (key : List ℕ) (n : ℕ) → draw_at key (n % 2 ^ 67) ≡ draw_at key n
draws_wrap key n =
    let low : 2 * (n % 2 ^ 67) % 2 ^ 68 ≡ 2 * n % 2 ^ 68 = omega arith in
    let high : (2 * (n % 2 ^ 67) + 1) % 2 ^ 68 ≡ (2 * n + 1) % 2 ^ 68 = omega arith in
    ap (λ p. word_at 10 key 0 p + 2 ^ 32 * word_at 10 key 0 ((2 * (n % 2 ^ 67) + 1) % 2 ^ 68)) low
    ∙ ap (λ p. word_at 10 key 0 (2 * n % 2 ^ 68) + 2 ^ 32 * word_at 10 key 0 p) high

-- Random choices, drawn from the key stream of a seed.
use Rattle.std.specs.Prelude.{◌+◌, ◌*◌, ◌%◌, ◌^◌, ℕ, List}
use Rattle.rand_chacha.specs.ChaCha.{key_of, word_at}
use Rattle.ob_seal.specs.KeySet.{KeySet, draw_seed_of}

-- the n-th draw of a key: two words of its stream 0, low word first, which repeats after 2^68 words
abbrev pub draw_at : List ℕ → ℕ → ℕ
draw_at key n = word_at 10 key 0 (2 * n % 2 ^ 68) + 2 ^ 32 * word_at 10 key 0 ((2 * n + 1) % 2 ^ 68)

-- the n-th draw of a secret's keys
abbrev pub draw_of : KeySet → ℕ → ℕ
draw_of keys n = draw_at (key_of (draw_seed_of keys)) n

-- a key, and the number of its next draw; they repeat after 2^67
pub record DrawPlace : Type 0 where
  pub key : List ℕ
  pub next : ℕ

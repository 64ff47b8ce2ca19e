use Rattle.std.proofs.Common.{◌≡◌, ℕ, ◌+◌, ◌-◌, ◌*◌, ◌/◌, ◌++◌, List, take, drop, length, sym, ap, ◌∙◌, arith, slice_index, rules}
use Rattle.rand_chacha.specs.ChaCha.{ChaCha}
use Rattle.std.specs.Int.{w32, to_le_bytes}
use borrow.Rule.Slice.PartMut.{put_mid}
use Rattle.ob_seal.specs.Stream.{xor_from, key_byte}
use Rattle.ob_seal.proofs.StreamStep.{word_is, after_is, stream_step, stream_end}
use Rattle.ob_seal.proofs.stream.xor_words.Goals as goal

next_start : (key : List ℕ) (stream w i : ℕ) (rng : ChaCha) → rng ≡ record { key = key; stream = stream; word_pos = w + i + 1 } → rng ≡ record { key = key; stream = stream; word_pos = w + (i + 1) }
next_start key stream w i rng is = let e : w + i + 1 ≡ w + (i + 1) = omega arith in is ∙ ap (λ p. record { key = key; stream = stream; word_pos = p }) e

start_is : (rng : ChaCha) → rng ≡ record { key = rng.key; stream = rng.stream; word_pos = rng.word_pos + 0 }
start_is rng = let e : rng.word_pos ≡ rng.word_pos + 0 = omega arith in ap (λ p. let out : ChaCha = record { key = rng.key; stream = rng.stream; word_pos = p } in out) e

pub words-init : goal.words-init
unfolding xor_from
words-init c = record { rng = start_is c.args.rng.now; bytes = search rules }

pub words-preserved : goal.words-preserved
words-preserved c =
    let g = c.args.rng.now in
    let w = word_is g.key g.stream (g.word_pos + c.words.i) c.next_word.result c.words.rng c.next_word.new.self c.next_word.ensures c.words.invariant.rng in
    let four : 4 * c.words.i + 4 - 4 * c.words.i ≡ 4 = omega arith in
    let next : 4 * c.words.i + 4 ≡ 4 * (c.words.i + 1) = omega arith in
    record {
      rng = next_start g.key g.stream g.word_pos c.words.i c.next_word.new.self (after_is g.key g.stream (g.word_pos + c.words.i) c.next_word.result c.words.rng c.next_word.new.self c.next_word.ensures c.words.invariant.rng (omega arith));
      bytes = ap (λ n. put_mid (4 * c.words.i) n c.words.bytes c.xor_word.new.bytes) four
          ∙ stream_step g.key g.stream g.word_pos c.words.i 4 c.next_word.result c.args.bytes.now c.words.bytes c.xor_word.new.bytes
          (omega arith) (omega arith) c.words.invariant.bytes w
          (c.xor_word.ensures ∙ ap (λ n. xor_from (slice_index (to_le_bytes w32 c.next_word.result)) 0 (take n (drop (4 * c.words.i) c.words.bytes))) four)
          ∙ ap (λ a. xor_from (key_byte g.key g.stream) (4 * g.word_pos) (take a c.args.bytes.now) ++ drop a c.args.bytes.now) next;
    }

pub returns-then-bytes-gt0-clause-bytes : goal.returns-then-bytes-gt0-clause-bytes
returns-then-bytes-gt0-clause-bytes c =
    let g = c.args.rng.now in
    let i = c.words.i in
    let ended : c.words.i ≡ length c.args.bytes.now / 4 = omega arith in
    let word = c.next_word-then-bytes-gt0.result in
    let part = c.xor_word-then-bytes-gt0.new.bytes in
    let w = word_is g.key g.stream (g.word_pos + i) word c.words.rng c.next_word-then-bytes-gt0.new.self c.next_word-then-bytes-gt0.ensures c.words.invariant.rng in
    ap (λ j. put_mid (4 * j) (length c.words.bytes - 4 * j) c.words.bytes part) (sym ended)
    ∙ stream_end g.key g.stream g.word_pos c.words.i (length c.words.bytes - 4 * c.words.i) word c.args.bytes.now c.words.bytes part
    (omega arith) (omega arith) c.words.invariant.bytes w
    (c.xor_word-then-bytes-gt0.ensures
    ∙ ap (λ j. xor_from (slice_index (to_le_bytes w32 word)) 0 (take (length c.words.bytes - 4 * j) (drop (4 * j) c.words.bytes))) (sym ended))
    (omega arith)

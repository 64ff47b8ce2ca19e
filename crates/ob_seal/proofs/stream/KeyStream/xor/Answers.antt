use Rattle.std.proofs.Common.{◌≡◌, ◌+◌, ◌*◌, ◌/◌, ◌%◌, ◌≤◌, ◌==◌, ◌++◌, ℕ, true, List, [], length, sym, ◌∙◌, ap, subst, arith, slice_index}
use Rattle.std.specs.Int.{w32, to_le_bytes}
use Rattle.std.proofs.lemmas.List.{append-nil, length-take-le, length-drop, take_all, drop_all}
use Rattle.std.proofs.lemmas.Bool.Decides.{nat_tests}
use Rattle.rand_chacha.specs.ChaCha.{word_at}
use Rattle.ob_seal.specs.Stream.{StreamPlace, xor_from, key_byte}
use Rattle.ob_seal.proofs.NextBytes.{next_bytes, words_bytes}
use Rattle.ob_seal.proofs.StreamStep.{word_is}
use Rattle.ob_seal.proofs.stream.KeyStream.xor.Goals as goal

pub returns-then-not-is_empty-clause-bytes : goal.returns-then-not-is_empty-clause-bytes
returns-then-not-is_empty-clause-bytes c =
    let g = c.self.inside.words in
    let rest = c.split_at_mut-front.result.1.now in
    let n = length rest / 4 * 4 in
    let within : n ≤ length rest = omega arith in
    let whole = c.split_at_mut-whole.result.0.now in
    let size : length whole ≡ n = ap length c.split_at_mut-whole.ensures.front ∙ length-take-le n rest within in
    let even : length whole % 4 ≡ 0 = omega (arith, size) in
    let word = c.next_word-self-inside.result in
    let is = word_is g.key g.stream (g.word_pos + length whole / 4) word c.xor_words.new.rng c.next_word-self-inside.new.self c.next_word-self-inside.ensures (c.xor_words.ensures.words even) in
    let here : word ≡ word_at 10 g.key g.stream (g.word_pos + n / 4) = is ∙ ap (λ (m : ℕ). word_at 10 g.key g.stream (g.word_pos + m / 4)) size in
    let first = c.xor_words.ensures.bytes ∙ ap (xor_from (key_byte g.key g.stream) (4 * g.word_pos)) c.split_at_mut-whole.ensures.front in
    let second = c.xor_word-then-not-is_empty.ensures ∙ ap (xor_from (slice_index (to_le_bytes w32 word)) 0) c.split_at_mut-whole.ensures.back in
    let behind = words_bytes g.key g.stream g.word_pos n word rest c.xor_words.new.bytes c.xor_word-then-not-is_empty.new.bytes (omega arith) within (omega arith) here first second in
    let front = c.xor_word.ensures ∙ ap (xor_from (slice_index (to_le_bytes w32 c.self.inside.word)) c.self.inside.used) c.split_at_mut-front.ensures.front in
    let back = behind ∙ ap (xor_from (key_byte g.key g.stream) (4 * g.word_pos)) c.split_at_mut-front.ensures.back in
    let all = next_bytes g.key g.stream g.word_pos c.self.inside.used c.min-first.result c.self.inside.word c.args.bytes.now c.xor_word.new.bytes (c.xor_words.new.bytes ++ c.xor_word-then-not-is_empty.new.bytes) c.self.invariant.0 c.self.invariant.1 c.min-first.ensures front back in
    subst (λ (v : StreamPlace). c.xor_word.new.bytes ++ (c.xor_words.new.bytes ++ c.xor_word-then-not-is_empty.new.bytes) ≡ xor_from (key_byte v.key v.stream) v.next c.args.bytes.now) c.self.view_is all

pub returns-else-not-is_empty-clause-bytes : goal.returns-else-not-is_empty-clause-bytes
returns-else-not-is_empty-clause-bytes c =
    let g = c.self.inside.words in
    let rest = c.split_at_mut-front.result.1.now in
    let n = length rest / 4 * 4 in
    let last = c.split_at_mut-whole.result.1.now in
    let test : (length last == 0) ≡ true = sym c.is_empty.ensures ∙ c.if-not-is_empty.false in
    let empty : length last ≡ 0 = grind (arith, nat_tests) in
    let past : length rest ≤ n = omega (arith, empty, ap length c.split_at_mut-whole.ensures.back, length-drop n rest) in
    let none : last ≡ [] = c.split_at_mut-whole.ensures.back ∙ drop_all n rest past in
    let first = c.xor_words.ensures.bytes ∙ ap (xor_from (key_byte g.key g.stream) (4 * g.word_pos)) (c.split_at_mut-whole.ensures.front ∙ take_all n rest past) in
    let behind = ap (λ (l : List ℕ). c.xor_words.new.bytes ++ l) none ∙ append-nil c.xor_words.new.bytes ∙ first in
    let front = c.xor_word.ensures ∙ ap (xor_from (slice_index (to_le_bytes w32 c.self.inside.word)) c.self.inside.used) c.split_at_mut-front.ensures.front in
    let back = behind ∙ ap (xor_from (key_byte g.key g.stream) (4 * g.word_pos)) c.split_at_mut-front.ensures.back in
    let all = next_bytes g.key g.stream g.word_pos c.self.inside.used c.min-first.result c.self.inside.word c.args.bytes.now c.xor_word.new.bytes (c.xor_words.new.bytes ++ last) c.self.invariant.0 c.self.invariant.1 c.min-first.ensures front back in
    subst (λ (v : StreamPlace). c.xor_word.new.bytes ++ (c.xor_words.new.bytes ++ last) ≡ xor_from (key_byte v.key v.stream) v.next c.args.bytes.now) c.self.view_is all

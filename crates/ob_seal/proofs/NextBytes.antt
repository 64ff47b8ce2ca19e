-- The next bytes of a key stream, xored in three pieces: what is left of a word, whole words, and the front of one more.
use Rattle.std.proofs.Common.{◌≡◌, ℕ, ◌+◌, ◌-◌, ◌*◌, ◌/◌, ◌%◌, ◌<◌, ◌≤◌, min, inl, inr, List, ◌++◌, length, take, drop, sym, ◌∙◌, ap, arith, slice_index}
use Rattle.std.proofs.lemmas.Bool.{cases_lt}
use Rattle.std.specs.Int.{w32, to_le_bytes}
use Rattle.std.proofs.lemmas.List.{length-take-le, length-drop, take-append-drop}
use Rattle.rand_chacha.specs.ChaCha.{word_at}
use Rattle.ob_seal.specs.Stream.{xor_from, key_byte}
use Rattle.ob_seal.proofs.XorFrom.{xor_from_same, xor_from-append}

module _ (key : List ℕ) (stream : ℕ) where
  byte_at : ℕ → ℕ → ℕ
  byte_at p j = slice_index (to_le_bytes w32 (word_at 10 key stream p)) j

  -- bytes of one word, from its byte `used` on
  pub word_bytes : (p used at word : ℕ) (xs : List ℕ) → word ≡ word_at 10 key stream p → at ≡ 4 * p + used → used + length xs ≤ 4
      → xor_from (slice_index (to_le_bytes w32 word)) used xs ≡ xor_from (key_byte key stream) at xs
  unfolding byte_at
  word_bytes p used at word xs is place fits = xor_from_same (slice_index (to_le_bytes w32 word)) (key_byte key stream) used at xs (λ k h.
      let here : (at + k) / 4 ≡ p = omega arith in
      let byte : (at + k) % 4 ≡ used + k = omega arith in
      ap (λ w. slice_index (to_le_bytes w32 w) (used + k)) is ∙ ap (byte_at p) (sym byte) ∙ ap (λ q. byte_at q ((at + k) % 4)) (sym here))

  -- whole words, and the front of the next
  pub words_bytes : (p n word : ℕ) (xs whole last : List ℕ) → n % 4 ≡ 0 → n ≤ length xs → length xs < n + 4 → word ≡ word_at 10 key stream (p + n / 4)
      → whole ≡ xor_from (key_byte key stream) (4 * p) (take n xs) → last ≡ xor_from (slice_index (to_le_bytes w32 word)) 0 (drop n xs)
      → whole ++ last ≡ xor_from (key_byte key stream) (4 * p) xs
  words_bytes p n word xs whole last even within few is first second =
      let long : length (take n xs) ≡ n = length-take-le n xs within in
      let place : 4 * p + n ≡ 4 * (p + n / 4) + 0 = omega arith in
      let back : last ≡ xor_from (key_byte key stream) (4 * p + n) (drop n xs) = second ∙ word_bytes (p + n / 4) 0 (4 * p + n) word (drop n xs) is place (omega (arith, length-drop n xs)) in
      ap (λ (l : List ℕ). l ++ last) first ∙ ap (λ (l : List ℕ). xor_from (key_byte key stream) (4 * p) (take n xs) ++ l) back
      ∙ ap (λ (m : ℕ). xor_from (key_byte key stream) (4 * p) (take n xs) ++ xor_from (key_byte key stream) (4 * p + m) (drop n xs)) (sym long)
      ∙ sym (xor_from-append (key_byte key stream) (4 * p) (take n xs) (drop n xs)) ∙ ap (xor_from (key_byte key stream) (4 * p)) (take-append-drop n xs)

  -- what is left of the word before, and the rest
  pub next_bytes : (p used f word : ℕ) (xs first rest : List ℕ) → used ≤ 4 → (used < 4 → (1 ≤ p) × (word ≡ word_at 10 key stream (p - 1))) → f ≡ min (4 - used) (length xs)
      → first ≡ xor_from (slice_index (to_le_bytes w32 word)) used (take f xs) → rest ≡ xor_from (key_byte key stream) (4 * p) (drop f xs)
      → first ++ rest ≡ xor_from (key_byte key stream) (4 * p + used - 4) xs
  unfolding byte_at
  next_bytes p used f word xs first rest most is size front back =
      let within : f ≤ length xs = omega (arith, size) in
      let long : length (take f xs) ≡ f = length-take-le f xs within in
      let next = 4 * p + used - 4 in
      let begin : first ≡ xor_from (key_byte key stream) next (take f xs) = front ∙ xor_from_same (slice_index (to_le_bytes w32 word)) (key_byte key stream) used next (take f xs) (λ k h. agree k (omega (arith, h, long))) in
      let end : rest ≡ xor_from (key_byte key stream) (next + f) (drop f xs) = back ∙ xor_from_same (key_byte key stream) (key_byte key stream) (4 * p) (next + f) (drop f xs) (λ k h.
      ap (key_byte key stream) (same k (omega (arith, h, length-drop f xs)))) in
      ap (λ (l : List ℕ). l ++ rest) begin ∙ ap (λ (l : List ℕ). xor_from (key_byte key stream) next (take f xs) ++ l) end
      ∙ ap (λ (m : ℕ). xor_from (key_byte key stream) next (take f xs) ++ xor_from (key_byte key stream) (next + m) (drop f xs)) (sym long)
      ∙ sym (xor_from-append (key_byte key stream) next (take f xs) (drop f xs)) ∙ ap (xor_from (key_byte key stream) next) (take-append-drop f xs)
    where
      agree : (k : ℕ) → k < f → slice_index (to_le_bytes w32 word) (used + k) ≡ key_byte key stream (4 * p + used - 4 + k)
      agree k h =
          let part : used < 4 = omega (arith, h, size) in
          let known = is part in
          let some = known.0 in
          let here : (4 * p + used - 4 + k) / 4 ≡ p - 1 = omega (arith, h, size, some) in
          let byte : (4 * p + used - 4 + k) % 4 ≡ used + k = omega (arith, h, size, some) in
          ap (λ w. slice_index (to_le_bytes w32 w) (used + k)) known.1 ∙ ap (byte_at (p - 1)) (sym byte) ∙ ap (λ q. byte_at q ((4 * p + used - 4 + k) % 4)) (sym here)

      same : (k : ℕ) → f < length xs → 4 * p + k ≡ 4 * p + used - 4 + f + k
      same k less = omega (arith, size, most, zero_or)
        where
          -- with no word before, none of it is used
          zero_or : 4 ≤ 4 * p + used
          zero_or = elim (cases_lt used 4) [
            | inl part ↦ omega (arith, (is part).0)
            | inr all ↦ omega (arith, all)
          ]

-- A part of the key stream that begins within a word.
use Rattle.std.proofs.Common.{◌≡◌, ℕ, ◌+◌, ◌-◌, ◌*◌, ◌/◌, ◌%◌, ◌<◌, ◌≤◌, min, List, [], ◌++◌, length, take, drop, sym, ◌∙◌, ap, arith, slice_index, length-append, length-drop, refl}
use Rattle.std.specs.Int.{w32, to_le_bytes}
use Rattle.std.proofs.lemmas.List.{take_at, drop_at, length-take-le, take_all, drop_all, append-nil, take-append-drop}
use borrow.Rule.Slice.PartMut.{post_of}
use Rattle.rand_chacha.specs.ChaCha.{word_at}
use Rattle.ob_seal.specs.Stream.{xor_from, key_byte}
use Rattle.ob_seal.proofs.XorFrom.{length-xor_from, xor_from_same, xor_from-append}

module _ (key : List ℕ) (stream skip f word : ℕ) (xs first rest : List ℕ)
    (size : f ≡ min (4 - skip % 4) (length xs))
    (word_is : word ≡ word_at 10 key stream (skip / 4))
    (first_is : first ≡ xor_from (slice_index (to_le_bytes w32 word)) (skip % 4) (take f xs))
    (rest_is : rest ≡ xor_from (key_byte key stream) (4 * (skip / 4 + 1)) (take (length (first ++ drop f xs) - f) (drop f (first ++ drop f xs)))) where
  byte_at : ℕ → ℕ → ℕ
  byte_at p j = slice_index (to_le_bytes w32 (word_at 10 key stream p)) j

  agree : (k : ℕ) → k < f → slice_index (to_le_bytes w32 word) (skip % 4 + k) ≡ key_byte key stream (skip + k)
  unfolding byte_at
  agree k h =
      let place : (skip + k) / 4 ≡ skip / 4 = omega arith in
      let byte : (skip + k) % 4 ≡ skip % 4 + k = omega arith in
      ap (λ w. slice_index (to_le_bytes w32 w) (skip % 4 + k)) word_is ∙ ap (byte_at (skip / 4)) (sym byte) ∙ ap (λ p. byte_at p ((skip + k) % 4)) (sym place)

  inside : f ≤ length xs
  inside = omega (arith, size)

  long : length (take f xs) ≡ f
  long = length-take-le f xs inside

  front : first ≡ xor_from (key_byte key stream) skip (take f xs)
  front = first_is ∙ xor_from_same (slice_index (to_le_bytes w32 word)) (key_byte key stream) (skip % 4) skip (take f xs) (λ k h. agree k (omega (arith, long)))

  first_long : length first ≡ f
  first_long = ap length front ∙ length-xor_from (key_byte key stream) skip (take f xs) ∙ long

  back : drop f (first ++ drop f xs) ≡ drop f xs
  back = drop_at first (drop f xs) f first_long

  size_back : length (first ++ drop f xs) - f ≡ length (drop f xs)
  size_back = omega (arith, length-append first (drop f xs), first_long)

  tail : take (length (first ++ drop f xs) - f) (drop f (first ++ drop f xs)) ≡ drop f xs
  tail = ap (take (length (first ++ drop f xs) - f)) back ∙ take_all (length (first ++ drop f xs) - f) (drop f xs) (omega (arith, size_back))

  at_rest : (ys : List ℕ) → ys ≡ drop f xs → xor_from (key_byte key stream) (4 * (skip / 4 + 1)) ys ≡ xor_from (key_byte key stream) (skip + f) ys
  at_rest ys is = xor_from_same (key_byte key stream) (key_byte key stream) (4 * (skip / 4 + 1)) (skip + f) ys (λ k h. ap (key_byte key stream) (same k (omega (arith, h, ap length is, length-drop f xs))))
    where
      same : (k : ℕ) → f < length xs → 4 * (skip / 4 + 1) + k ≡ skip + f + k
      same k less = omega (arith, size)

  pub part_joined : take f (first ++ drop f xs) ++ (rest ++ post_of f (length (first ++ drop f xs) - f) (first ++ drop f xs)) ≡ xor_from (key_byte key stream) skip xs
  part_joined =
      let none : post_of f (length (first ++ drop f xs) - f) (first ++ drop f xs) ≡ [] =
      drop_all (length (first ++ drop f xs) - f) (drop f (first ++ drop f xs)) (omega (arith, size_back, ap length back)) in
      let last : rest ≡ xor_from (key_byte key stream) (skip + f) (drop f xs) = rest_is ∙ ap (xor_from (key_byte key stream) (4 * (skip / 4 + 1))) tail ∙ at_rest (drop f xs) refl in
      ap (λ l. l ++ (rest ++ post_of f (length (first ++ drop f xs) - f) (first ++ drop f xs))) (take_at first (drop f xs) f first_long)
      ∙ ap (λ l. first ++ (rest ++ l)) none ∙ ap (λ l. first ++ l) (append-nil rest)
      ∙ ap (λ l. l ++ rest) front ∙ ap (λ l. xor_from (key_byte key stream) skip (take f xs) ++ l) last
      ∙ ap (λ n. xor_from (key_byte key stream) skip (take f xs) ++ xor_from (key_byte key stream) (skip + n) (drop f xs)) (sym long)
      ∙ sym (xor_from-append (key_byte key stream) skip (take f xs) (drop f xs))
      ∙ ap (xor_from (key_byte key stream) skip) (take-append-drop f xs)

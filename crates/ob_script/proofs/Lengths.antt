-- The number of accesses of each part.
use Rattle.std.proofs.Common.{◌≡◌, ℕ, ◌+◌, ◌-◌, ◌*◌, ◌/◌, ◌%◌, ◌<◌, min, [], ◌∷◌, length, refl, ◌∙◌, ap, arith}
use Rattle.std.specs.Int.{div_ceil}
use Rattle.std.proofs.lemmas.List.{length-append}
use Rattle.std.proofs.Math.Nat.{mul_comm, mul-one, one-mul}
use Rattle.ob_base.specs.declared.access.Access.{Access}
use Rattle.ob_base.specs.declared.access.Access.TheVariants.{Read, Write}
use Rattle.ob_base.specs.Accesses.{read_at, write_at}
use Rattle.ob_base.specs.Lists.{each}
use Rattle.ob_base.specs.Numbers.{first_bucket, second_bucket}
use Rattle.ob_script.specs.Parts.{read_from, write_from, count_part, copy_part, small_pass, slots_in, continuous_block, bucket_part, hash_slot, hash_block, pair_at, join_chunk, path_place, path_read, path_write}
use Rattle.ob_script.proofs.Eaches.{length-even}
use Rattle.ob_script.proofs.Shares.{Shares, length-shares}

pub length-ones : (n : ℕ) (f : ℕ → Access) → length (each n (λ x. f x ∷ [])) ≡ n
length-ones n f = length-even n 1 (λ x. f x ∷ []) (λ v k. refl) ∙ mul-one n

pub length-twos : (n : ℕ) (f g : ℕ → Access) → length (each n (λ x. f x ∷ g x ∷ [])) ≡ n * 2
length-twos n f g = length-even n 2 (λ x. f x ∷ g x ∷ []) (λ v k. refl)

pub length-count_part : (t blocks : ℕ) → length (count_part t blocks) ≡ blocks
length-count_part t blocks = length-ones blocks (λ u. Read t u)

pub length-writes : (g blocks : ℕ) → length (each blocks (write_at g)) ≡ blocks
length-writes g blocks = length-ones blocks (λ u. Write g u)

pub length-copy_part : (t g blocks : ℕ) → length (copy_part t g blocks) ≡ blocks * 2
length-copy_part t g blocks = length-twos blocks (λ u. Read t u) (λ u. Write g u)

pub length-path_reads : (g height leaf : ℕ) → length (each (4 * (height + 1)) (path_read g height leaf)) ≡ 4 * (height + 1)
length-path_reads g height leaf = length-ones (4 * (height + 1)) (λ c. Read g (path_place height leaf c))

pub length-path_writes : (g height leaf : ℕ) → length (each (4 * (height + 1)) (path_write g height leaf)) ≡ 4 * (height + 1)
length-path_writes g height leaf = length-ones (4 * (height + 1)) (λ c. Write g (path_place height leaf c))

-- ---- Small
pub small_shares : (t g blocks results buffered : ℕ) → Shares (small_pass t g blocks results buffered) blocks 1 buffered results
small_shares t g blocks results buffered = record {
  is = λ j.
      let n = min buffered (results - j * buffered) in
      let a = length-append (count_part t blocks) (each n (write_from g (j * buffered))) in
      let b = length-count_part t blocks in
      let c = length-ones n (λ x. Write g (j * buffered + x)) in
      omega arith;
}

pub length-passes : (t g blocks results buffered : ℕ) → 0 < buffered →
    length (each (div_ceil results buffered) (small_pass t g blocks results buffered)) ≡ div_ceil results buffered * blocks + results
length-passes t g blocks results buffered pos =
    length-shares _ blocks 1 buffered results (small_shares t g blocks results buffered) pos ∙ ap (λ w. div_ceil results buffered * blocks + w) (one-mul results)

-- ---- Continuous
pub turn_shares : (t g pack n k : ℕ) → Shares (continuous_block t g pack n k) 1 2 pack n
turn_shares t g pack n k = record {
  is = λ u.
      let place = λ (j : ℕ). ((u * pack + j) % k) / pack in
      let a = length-twos (slots_in pack n u) (λ j. Read g (place j)) (λ j. Write g (place j)) in
      omega (arith, a);
}

pub length-turns : (t g pack n k : ℕ) → 0 < pack → length (each (div_ceil n pack) (continuous_block t g pack n k)) ≡ div_ceil n pack + 2 * n
length-turns t g pack n k pos = length-shares _ 1 2 pack n (turn_shares t g pack n k) pos ∙ ap (λ w. w + 2 * n) (mul-one (div_ceil n pack))

-- ---- Hash
pub length-bucket_part : (g depth b : ℕ) → length (bucket_part g depth b) ≡ depth * 2
length-bucket_part g depth b = length-twos depth (λ y. Read g (b * depth + y)) (λ y. Write g (b * depth + y))

pub length-hash_slot : (g k depth i : ℕ) → length (hash_slot g k depth i) ≡ 4 * depth
length-hash_slot g k depth i =
    let a = length-append (bucket_part g depth (first_bucket k i)) (bucket_part g depth (second_bucket k i)) in
    let b = length-bucket_part g depth (first_bucket k i) in
    let c = length-bucket_part g depth (second_bucket k i) in
    a ∙ (λ t. b t + c t) ∙ omega arith

pub bucket_shares : (t g pack n k depth : ℕ) → Shares (hash_block t g pack n k depth) 1 (4 * depth) pack n
bucket_shares t g pack n k depth = record {
  is = λ u.
      let a = length-even (slots_in pack n u) (4 * depth) (λ j. hash_slot g k depth (u * pack + j)) (λ v b. length-hash_slot g k depth (u * pack + v)) in
      let c = mul_comm (slots_in pack n u) (4 * depth) in
      length-append (read_at t u) (each (slots_in pack n u) (λ j. hash_slot g k depth (u * pack + j))) ∙ ap (λ w. 1 + w) (a ∙ c);
}

pub length-buckets : (t g pack n k depth : ℕ) → 0 < pack →
    length (each (div_ceil n pack) (hash_block t g pack n k depth)) ≡ div_ceil n pack + 4 * depth * n
length-buckets t g pack n k depth pos =
    length-shares _ 1 (4 * depth) pack n (bucket_shares t g pack n k depth) pos ∙ ap (λ w. w + 4 * depth * n) (mul-one (div_ceil n pack))

-- ---- the join
pub pair_shares : (a b g lefts rights buffered : ℕ) → Shares (join_chunk a b g lefts rights buffered) (2 * rights) 1 buffered lefts
pair_shares a b g lefts rights buffered = record {
  is = λ q.
      let n = min buffered (lefts - q * buffered) in
      let all = length-append (each n (read_from a (q * buffered))) (each rights (pair_at b g rights q)) in
      let front = length-ones n (λ x. Read a (q * buffered + x)) in
      let back = length-twos rights (λ v. Read b v) (λ v. Write g (q * rights + v)) in
      omega arith;
}

pub length-pairs : (a b g lefts rights buffered : ℕ) → 0 < buffered →
    length (each (div_ceil lefts buffered) (join_chunk a b g lefts rights buffered)) ≡ div_ceil lefts buffered * (2 * rights) + lefts
length-pairs a b g lefts rights buffered pos =
    length-shares _ (2 * rights) 1 buffered lefts (pair_shares a b g lefts rights buffered) pos ∙ ap (λ w. div_ceil lefts buffered * (2 * rights) + w) (one-mul lefts)

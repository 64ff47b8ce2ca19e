-- What stands at a place of each part.
use Rattle.std.proofs.Common.{◌≡◌, ℕ, suc, zero, ◌+◌, ◌-◌, ◌*◌, ◌/◌, ◌%◌, ◌≤◌, ◌<◌, ◌==◌, min, [], ◌∷◌, length, refl, ap, arith}
use Rattle.std.specs.Prelude.{Some, slice_get, if◌then◌else◌}
use Rattle.std.proofs.lemmas.Grind.{div_ceil_times}
use Rattle.std.proofs.Math.Nat.{mul_comm, add-mul, mul-le-mul_right, div-lt_iff_lt-mul, mod-eq-sub-div-mul, div-mul-le_self}
use Rattle.std.specs.Int.{div_ceil}
use Rattle.ob_base.specs.declared.access.Access.{Access}
use Rattle.ob_base.specs.declared.access.Access.TheVariants.{Read, Write}
use Rattle.ob_base.specs.Lists.{each}
use Rattle.ob_base.specs.Accesses.{read_at, write_at}
use Rattle.ob_base.specs.Numbers.{first_bucket, second_bucket}
use Rattle.ob_script.specs.Parts.{copy_at, read_from, write_from, count_part, copy_part, small_pass, slots_in, continuous_block, bucket_part, hash_slot, hash_block, pair_at, join_chunk, path_place, path_read, path_write}
use Rattle.ob_script.proofs.Eaches.{at_front, at_back, at_each}
use Rattle.ob_script.proofs.Shares.{at_shares, within_turn}
use Rattle.ob_script.proofs.Lengths.{length-ones, length-count_part, length-bucket_part, length-hash_slot, small_shares, turn_shares, bucket_shares, pair_shares}

pub at_ones : (n : ℕ) (f : ℕ → Access) (i : ℕ) → i < n → slice_get (each n (λ x. f x ∷ [])) i ≡ Some (f i)
at_ones n f i h = at_each (λ x. f x ∷ []) n 1 i 0 i (f i) (λ v k. refl) h (omega arith) refl

-- the first or the second of a pair
abbrev pub pick : ℕ → Access → Access → Access
pick i a b = if i % 2 == 0 then a else b

one_of_two : (i : ℕ) (a b : Access) → slice_get (a ∷ b ∷ []) (i % 2) ≡ Some (pick i a b)
one_of_two i a b = go (i % 2) (omega arith) where
  go : (r : ℕ) → r < 2 → slice_get (a ∷ b ∷ []) r ≡ Some (if r == 0 then a else b)
  go zero h = refl
  go (suc zero) h = refl
  go (suc (suc r)) h = absurd (omega arith)

pub at_twos : (n : ℕ) (f g : ℕ → Access) (i : ℕ) → i < n * 2 → slice_get (each n (λ x. f x ∷ g x ∷ [])) i ≡ Some (pick i (f (i / 2)) (g (i / 2)))
at_twos n f g i h =
    at_each (λ x. f x ∷ g x ∷ []) n 2 (i / 2) (i % 2) i _ (λ v k. refl) (omega arith) (omega arith) (one_of_two i (f (i / 2)) (g (i / 2)))

pub at_read : (t blocks i : ℕ) → i < blocks → slice_get (count_part t blocks) i ≡ Some (Read t i)
at_read t blocks i h = at_ones blocks (λ u. Read t u) i h

pub at_write : (g blocks i : ℕ) → i < blocks → slice_get (each blocks (write_at g)) i ≡ Some (Write g i)
at_write g blocks i h = at_ones blocks (λ u. Write g u) i h

pub at_copy : (t g blocks i : ℕ) → i < 2 * blocks → slice_get (copy_part t g blocks) i ≡ Some (pick i (Read t (i / 2)) (Write g (i / 2)))
at_copy t g blocks i h = at_twos blocks (λ u. Read t u) (λ u. Write g u) i (omega arith)

pub at_path_read : (g height leaf i : ℕ) → i < 4 * (height + 1) → slice_get (each (4 * (height + 1)) (path_read g height leaf)) i ≡ Some (Read g (path_place height leaf i))
at_path_read g height leaf i h = at_ones (4 * (height + 1)) (λ c. Read g (path_place height leaf c)) i h

pub at_path_write : (g height leaf i : ℕ) → i < 4 * (height + 1) → slice_get (each (4 * (height + 1)) (path_write g height leaf)) i ≡ Some (Write g (path_place height leaf i))
at_path_write g height leaf i h = at_ones (4 * (height + 1)) (λ c. Write g (path_place height leaf c)) i h

-- ---- Small
module _ (t g blocks results q i : ℕ) (pos : 0 < q) (l : i < length (each (div_ceil results q) (small_pass t g blocks results q))) where
  abbrev pass : ℕ
  pass = i / (blocks + q)

  abbrev step : ℕ
  step = i % (blocks + q)

  in_pass : (x : Access) → slice_get (small_pass t g blocks results q pass) step ≡ Some x → slice_get (each (div_ceil results q) (small_pass t g blocks results q)) i ≡ Some x
  in_pass x h = at_shares _ blocks 1 q results (blocks + q) i x (small_shares t g blocks results q) pos (omega arith) (omega arith) l h

  pub pass_read : step < blocks → slice_get (each (div_ceil results q) (small_pass t g blocks results q)) i ≡ Some (Read t step)
  pass_read h = in_pass (Read t step) (at_front (count_part t blocks) _ step (Read t step) (at_ones blocks (λ u. Read t u) step h))

  -- a block of the result
  pub pass_few : blocks ≤ step → pass * q + (step - blocks) < results
  pass_few h = let w = within_turn _ blocks 1 q results (blocks + q) i (small_shares t g blocks results q) pos (omega arith) (omega arith) l in omega (arith, w.1)

  pub pass_write : blocks ≤ step → slice_get (each (div_ceil results q) (small_pass t g blocks results q)) i ≡ Some (Write g (pass * q + (step - blocks)))
  pass_write h =
      let w = within_turn _ blocks 1 q results (blocks + q) i (small_shares t g blocks results q) pos (omega arith) (omega arith) l in
      in_pass _ (at_back (count_part t blocks) (each (min q (results - pass * q)) (write_from g (pass * q))) step (step - blocks) _
      (let e = length-count_part t blocks in omega arith) (at_ones (min q (results - pass * q)) (λ x. Write g (pass * q + x)) (step - blocks) (omega (arith, w.1))))

-- ---- Continuous
module _ (t g pack n k i : ℕ) (pos : 0 < pack) (l : i < length (each (div_ceil n pack) (continuous_block t g pack n k))) where
  abbrev block : ℕ
  block = i / (1 + 2 * pack)

  abbrev step' : ℕ
  step' = i % (1 + 2 * pack)

  in_block : (x : Access) → slice_get (continuous_block t g pack n k block) step' ≡ Some x → slice_get (each (div_ceil n pack) (continuous_block t g pack n k)) i ≡ Some x
  in_block x h = at_shares _ 1 2 pack n (1 + 2 * pack) i x (turn_shares t g pack n k) pos refl (omega arith) l h

  pub turn_read : step' ≡ 0 → slice_get (each (div_ceil n pack) (continuous_block t g pack n k)) i ≡ Some (Read t block)
  turn_read h = in_block (Read t block) (ap (slice_get (continuous_block t g pack n k block)) h)

  pub turn_block : block < div_ceil n pack
  turn_block = (within_turn _ 1 2 pack n (1 + 2 * pack) i (turn_shares t g pack n k) pos refl (omega arith) l).0

  -- the slot whose turn it is
  pub turn_few : 1 ≤ step' → block * pack + (step' - 1) / 2 < n
  turn_few h = let w = within_turn _ 1 2 pack n (1 + 2 * pack) i (turn_shares t g pack n k) pos refl (omega arith) l in omega (arith, w.1)

  pub turn_pair : 1 ≤ step' → slice_get (each (div_ceil n pack) (continuous_block t g pack n k)) i ≡
      Some (pick (step' - 1) (Read g (((block * pack + (step' - 1) / 2) % k) / pack)) (Write g (((block * pack + (step' - 1) / 2) % k) / pack)))
  turn_pair h =
      let w = within_turn _ 1 2 pack n (1 + 2 * pack) i (turn_shares t g pack n k) pos refl (omega arith) l in
      in_block _ (at_back (read_at t block) (each (slots_in pack n block) (λ j. copy_at g g (((block * pack + j) % k) / pack))) step' (step' - 1) _ (omega arith)
      (at_twos (slots_in pack n block) (λ j. Read g (((block * pack + j) % k) / pack)) (λ j. Write g (((block * pack + j) % k) / pack)) (step' - 1) (omega (arith, w.1))))

-- ---- Hash
-- a place of a bucket
pub at_bucket : (g depth b i : ℕ) → i < 2 * depth → slice_get (bucket_part g depth b) i ≡ Some (pick i (Read g (b * depth + i / 2)) (Write g (b * depth + i / 2)))
at_bucket g depth b i h = at_twos depth (λ y. Read g (b * depth + y)) (λ y. Write g (b * depth + y)) i (omega arith)

-- a place of the first bucket, and of the second
pub slot_first : (g k depth i r : ℕ) (x : Access) → r < 2 * depth → slice_get (bucket_part g depth (first_bucket k i)) r ≡ Some x → slice_get (hash_slot g k depth i) r ≡ Some x
slot_first g k depth i r x low h = at_front (bucket_part g depth (first_bucket k i)) _ r x h

pub slot_second : (g k depth i r : ℕ) (x : Access) → 2 * depth ≤ r → slice_get (bucket_part g depth (second_bucket k i)) (r - 2 * depth) ≡ Some x → slice_get (hash_slot g k depth i) r ≡ Some x
slot_second g k depth i r x high h =
    at_back (bucket_part g depth (first_bucket k i)) (bucket_part g depth (second_bucket k i)) r (r - 2 * depth) x (let e = length-bucket_part g depth (first_bucket k i) in omega arith) h

module _ (t g pack n k depth i : ℕ) (pos : 0 < pack) (deep : 0 < depth) (l : i < length (each (div_ceil n pack) (hash_block t g pack n k depth))) where
  abbrev turn : ℕ
  turn = 1 + 4 * depth * pack

  abbrev hash_block_of : ℕ
  hash_block_of = i / turn

  abbrev hash_step : ℕ
  hash_step = i % turn

  abbrev slot : ℕ
  slot = hash_block_of * pack + (hash_step - 1) / (4 * depth)

  abbrev part : ℕ
  part = (hash_step - 1) % (4 * depth)

  in_hash : (x : Access) → slice_get (hash_block t g pack n k depth hash_block_of) hash_step ≡ Some x → slice_get (each (div_ceil n pack) (hash_block t g pack n k depth)) i ≡ Some x
  in_hash x h = at_shares _ 1 (4 * depth) pack n turn i x (bucket_shares t g pack n k depth) pos refl (omega arith) l h

  pub hash_read : hash_step ≡ 0 → slice_get (each (div_ceil n pack) (hash_block t g pack n k depth)) i ≡ Some (Read t hash_block_of)
  hash_read h = in_hash (Read t hash_block_of) (ap (slice_get (hash_block t g pack n k depth hash_block_of)) h)

  pub hash_block_few : hash_block_of < div_ceil n pack
  hash_block_few = (within_turn _ 1 (4 * depth) pack n turn i (bucket_shares t g pack n k depth) pos refl (omega arith) l).0

  slots_few : 1 ≤ hash_step → (hash_step - 1) / (4 * depth) < slots_in pack n hash_block_of
  slots_few h =
      let w = within_turn _ 1 (4 * depth) pack n turn i (bucket_shares t g pack n k depth) pos refl (omega arith) l in
      (div-lt_iff_lt-mul {k = 4 * depth} {x = hash_step - 1} {y = slots_in pack n hash_block_of} (omega arith)).1
      (let e = mul_comm (slots_in pack n hash_block_of) (4 * depth) in omega (arith, w.1))

  pub hash_few : 1 ≤ hash_step → slot < n
  hash_few h = let e = slots_few h in omega arith

  pub hash_in : 1 ≤ hash_step → (x : Access) → slice_get (hash_slot g k depth slot) part ≡ Some x → slice_get (each (div_ceil n pack) (hash_block t g pack n k depth)) i ≡ Some x
  hash_in h x k' =
      let j = (hash_step - 1) / (4 * depth) in
      let is : hash_step - 1 ≡ j * (4 * depth) + part = let a = mod-eq-sub-div-mul (hash_step - 1) (4 * depth) in let b = div-mul-le_self (hash_step - 1) (4 * depth) in omega arith in
      in_hash x (at_back (read_at t hash_block_of) (each (slots_in pack n hash_block_of) (λ j. hash_slot g k depth (hash_block_of * pack + j))) hash_step (hash_step - 1) x (omega arith)
      (at_each (λ j. hash_slot g k depth (hash_block_of * pack + j)) (slots_in pack n hash_block_of) (4 * depth) j part (hash_step - 1) x
      (λ v b. length-hash_slot g k depth (hash_block_of * pack + v)) (slots_few h) is k'))

-- ---- the join
module _ (a b g lefts rights q i : ℕ) (pos : 0 < q) (l : i < length (each (div_ceil lefts q) (join_chunk a b g lefts rights q))) where
  abbrev chunk : ℕ
  chunk = i / (q + 2 * rights)

  abbrev join_step : ℕ
  join_step = i % (q + 2 * rights)

  -- the blocks of the chunk
  abbrev here : ℕ
  here = min q (lefts - chunk * q)

  in_chunk : (x : Access) → slice_get (join_chunk a b g lefts rights q chunk) join_step ≡ Some x → slice_get (each (div_ceil lefts q) (join_chunk a b g lefts rights q)) i ≡ Some x
  in_chunk x h = at_shares _ (2 * rights) 1 q lefts (q + 2 * rights) i x (pair_shares a b g lefts rights q) pos (omega arith) (omega arith) l h

  inside : (chunk < div_ceil lefts q) × (join_step < 2 * rights + 1 * here)
  inside = within_turn _ (2 * rights) 1 q lefts (q + 2 * rights) i (pair_shares a b g lefts rights q) pos (omega arith) (omega arith) l

  pub chunk_start : chunk * q ≤ lefts
  chunk_start =
      let d = div_ceil_times lefts q pos in
      let m : (chunk + 1) * q ≤ div_ceil lefts q * q = mul-le-mul_right q (let c = inside.0 in omega arith) in
      let e = add-mul chunk 1 q in omega (arith, d.1)

  pub chunk_few : chunk < div_ceil lefts q
  chunk_few = inside.0

  pub left_read : join_step < here → slice_get (each (div_ceil lefts q) (join_chunk a b g lefts rights q)) i ≡ Some (Read a (chunk * q + join_step))
  left_read h =
      in_chunk _ (at_front (each here (read_from a (chunk * q))) _ join_step _ (at_ones here (λ x. Read a (chunk * q + x)) join_step h))

  pub left_few : join_step < here → chunk * q + join_step < lefts
  left_few h = omega arith

  pub right_few : here ≤ join_step → (join_step - here) / 2 < rights
  right_few h = let w = inside.1 in omega arith

  pub right_pair : here ≤ join_step → slice_get (each (div_ceil lefts q) (join_chunk a b g lefts rights q)) i ≡
      Some (pick (join_step - here) (Read b ((join_step - here) / 2)) (Write g (chunk * rights + (join_step - here) / 2)))
  right_pair h =
      let w = inside.1 in
      in_chunk _ (at_back (each here (read_from a (chunk * q))) (each rights (pair_at b g rights chunk)) join_step (join_step - here) _
      (let e = length-ones here (λ x. Read a (chunk * q + x)) in omega arith)
      (at_twos rights (λ v. Read b v) (λ v. Write g (chunk * rights + v)) (join_step - here) (omega arith)))

  -- a block of the joined region
  pub right_write : here ≤ join_step → chunk * rights + (join_step - here) / 2 < div_ceil lefts q * rights
  right_write h =
      let few = right_few h in
      let c = inside.0 in
      let m : (chunk + 1) * rights ≤ div_ceil lefts q * rights = mul-le-mul_right rights (omega arith) in
      let e = add-mul chunk 1 rights in omega arith

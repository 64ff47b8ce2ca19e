-- What stands at each place of the accesses of a Small selection: the count, the make of its region, its passes, the reads of
-- the result and its discard.
use Rattle.std.proofs.Common.{◌≡◌, ◌<◌, ◌≤◌, ◌+◌, ◌-◌, ◌*◌, ℕ, min, List, [], ◌++◌, length, refl, sym, ◌∙◌, ap, arith, length-append}
use Rattle.std.specs.Prelude.{Some, slice_get}
use Rattle.std.specs.Int.{div_ceil}
use Rattle.ob_base.specs.declared.access.Access.{Access}
use Rattle.ob_base.specs.declared.access.Access.TheVariants.{Make, Read, Write, Discard}
use Rattle.ob_base.specs.Accesses.{discard_at, make_at}
use Rattle.ob_base.specs.Lists.{each}
use Rattle.ob_script.specs.Parts.{count_part, emission_part, small_part, small_pass, write_from}
use Rattle.ob_script.proofs.Eaches.{at_back, at_each, at_front}
use Rattle.ob_script.proofs.Lengths.{length-count_part, length-passes, small_shares}
use Rattle.ob_script.proofs.Places.{at_ones, at_read}
use Rattle.ob_small.proofs.Lengths.{pass_inside}

module _ (t g blocks results q width : ℕ) (some : 1 ≤ q) (rest : List Access) where
  abbrev pub behind : List Access
  behind = (small_part t g blocks results q width ++ emission_part g results) ++ rest

  abbrev pub all : List Access
  all = count_part t blocks ++ behind

  abbrev passes : List Access
  passes = each (div_ceil results q) (small_pass t g blocks results q)

  length_passes : length passes ≡ div_ceil results q * blocks + results
  length_passes = length-passes t g blocks results q (omega (arith, some))

  -- the count
  pub act_in_count : (u : ℕ) → u < blocks → slice_get all u ≡ Some (Read t u)
  act_in_count u below = at_front (count_part t blocks) behind u (Read t u) (at_read t blocks u below)

  -- after it
  at_behind : (i j : ℕ) (a : Access) → i ≡ blocks + j → slice_get behind j ≡ Some a → slice_get all i ≡ Some a
  at_behind i j a is at = at_back (count_part t blocks) behind i j a (is ∙ ap (λ (n : ℕ). n + j) (sym (length-count_part t blocks))) at

  at_small : (j : ℕ) (a : Access) → slice_get (small_part t g blocks results q width) j ≡ Some a → slice_get behind j ≡ Some a
  at_small j a at =
      at_front (small_part t g blocks results q width ++ emission_part g results) rest j a (at_front (small_part t g blocks results q width) (emission_part g results) j a at)

  -- the region is made
  pub act_at_make : slice_get all blocks ≡ Some (Make g results (width + 32))
  act_at_make = at_behind blocks 0 (Make g results (width + 32)) (omega arith) (at_small 0 (Make g results (width + 32)) refl)

  -- each pass before one has as many accesses
  full_pass : (j v : ℕ) → j < div_ceil results q → v < j → length (small_pass t g blocks results q v) ≡ blocks + q
  full_pass j v below less =
      let inside = pass_inside results q j some below in
      let next : (v + 1) * q ≤ j * q = grind arith in
      let one : (v + 1) * q ≡ v * q + q = grind arith in
      omega (arith, (small_shares t g blocks results q).is v, inside, next, one)

  at_pass : (i j r : ℕ) (a : Access) → j < div_ceil results q → i ≡ blocks + 1 + (j * (blocks + q) + r) → slice_get (small_pass t g blocks results q j) r ≡ Some a → slice_get all i ≡ Some a
  at_pass i j r a below is at =
      let n = j * (blocks + q) + r in
      let there : slice_get passes n ≡ Some a = at_each (small_pass t g blocks results q) (div_ceil results q) (blocks + q) j r n a (λ v less. full_pass j v below less) below refl at in
      at_behind i (1 + n) a (omega (arith, is)) (at_small (1 + n) a (at_back (make_at g results width) passes (1 + n) n a refl there))

  -- a pass reads
  pub act_in_read : (i j u : ℕ) → j < div_ceil results q → u < blocks → i ≡ blocks + 1 + (j * (blocks + q) + u) → slice_get all i ≡ Some (Read t u)
  act_in_read i j u pass below is =
      at_pass i j u (Read t u) pass is (at_front (count_part t blocks) (each (min q (results - j * q)) (write_from g (j * q))) u (Read t u) (at_read t blocks u below))

  -- and writes
  pub act_in_write : (i j x : ℕ) → j < div_ceil results q → x < min q (results - j * q) → i ≡ blocks + 1 + (j * (blocks + q) + (blocks + x)) → slice_get all i ≡ Some (Write g (j * q + x))
  act_in_write i j x pass below is =
      at_pass i j (blocks + x) (Write g (j * q + x)) pass is
      (at_back (count_part t blocks) (each (min q (results - j * q)) (write_from g (j * q))) (blocks + x) x (Write g (j * q + x)) (ap (λ (n : ℕ). n + x) (sym (length-count_part t blocks)))
      (at_ones (min q (results - j * q)) (λ y. Write g (j * q + y)) x below))

  at_emission : (i y : ℕ) (a : Access) → i ≡ blocks + 1 + (div_ceil results q * blocks + results) + y → slice_get (emission_part g results) y ≡ Some a → slice_get all i ≡ Some a
  at_emission i y a is at =
      let n = 1 + (div_ceil results q * blocks + results) + y in
      let long : length (small_part t g blocks results q width) ≡ 1 + (div_ceil results q * blocks + results) = length-append (make_at g results width) passes ∙ ap (λ (k : ℕ). 1 + k) length_passes in
      at_behind i n a (omega (arith, is))
      (at_front (small_part t g blocks results q width ++ emission_part g results) rest n a
      (at_back (small_part t g blocks results q width) (emission_part g results) n y a (ap (λ (k : ℕ). k + y) (sym long)) at))

  -- the result is read
  pub act_in_emit : (i x : ℕ) → x < results → i ≡ blocks + 1 + (div_ceil results q * blocks + results) + x → slice_get all i ≡ Some (Read g x)
  act_in_emit i x below is = at_emission i x (Read g x) is (at_front (count_part g results) (discard_at g) x (Read g x) (at_read g results x below))

  -- and discarded
  pub act_at_discard : (i : ℕ) → i ≡ blocks + 1 + (div_ceil results q * blocks + results) + results → slice_get all i ≡ Some (Discard g)
  act_at_discard i is =
      at_emission i results (Discard g) is (at_back (count_part g results) (discard_at g) results 0 (Discard g) (omega (arith, length-count_part g results)) refl)

  pub length-all : rest ≡ [] → length all ≡ blocks + 1 + (div_ceil results q * blocks + results) + results + 1
  length-all none =
      let more = ap (λ (l : List Access). length l) none in
      omega (
        arith,
        more,
        length_passes,
        length-count_part t blocks,
        length-count_part g results,
        length-append (count_part t blocks) behind,
        length-append (small_part t g blocks results q width ++ emission_part g results) rest,
        length-append (small_part t g blocks results q width) (emission_part g results),
        length-append (make_at g results width) passes,
        length-append (count_part g results) (discard_at g),
      )

-- Blocks of which one slot is put, and the slots of a table's blocks.
use Rattle.std.proofs.Common.{◌≡◌, ◌≤◌, ◌<◌, ◌+◌, ◌-◌, ◌*◌, ◌%◌, ◌/◌, ℕ, Bool, true, false, List, [], ◌∷◌, ◌++◌, Option, length, inl, inr, take, drop, slice_set, refl, sym, ◌∙◌, ap, arith}
use Rattle.std.proofs.lemmas.List.{length-take, length-drop, drop-append-le, drop-drop, take-take, take-append-le, take-append-drop, set-append_left, set-append_right, take_all}
use Rattle.std.proofs.lemmas.Nat.{div-add-mod'}
use Rattle.std.proofs.Math.Nat.{mod-lt}
use Rattle.std.proofs.lemmas.Grind.{div_ceil_times}
use Rattle.std.proofs.lemmas.Bool.{cases_lt}
use Rattle.ob_base.specs.Numbers.{blocks_for}
use Rattle.ob_script.specs.Parts.{slots_in}
use Rattle.ob_row.specs.Rows.{Row}
use Rattle.ob_row.specs.Results.{RowTest}
use Rattle.ob_row.specs.Slots.{Slots, is_selected}
use Rattle.ob_blocks.specs.Blocks.{none_of, up_to, block_at, with_block, scanned}
use Rattle.ob_blocks.proofs.Blocks.{take_blocks, scanned-append}
use Rattle.ob_flat.specs.Flats.{whole_blocks}
use Rattle.ob_cont.specs.Putting.{put_if, put_at}
use Rattle.ob_cont.proofs.Places.{within, length-put_if}

module _ {A : Type 0} (r : ℕ) (all : List A) (p : ℕ) where
  -- a list in three parts: what stands before a block, the block, and what stands after it
  in_parts : with_block r all p (block_at r all p) ≡ all
  in_parts =
      let next : (p + 1) * r ≡ p * r + r = grind arith in
      let behind : drop ((p + 1) * r) all ≡ drop r (drop (p * r) all) = ap (λ (n : ℕ). drop n all) next ∙ sym (drop-drop r (p * r) all) in
      ap (λ (l : List A). take (p * r) all ++ (block_at r all p ++ l)) behind ∙ ap (λ (l : List A). take (p * r) all ++ l) (take-append-drop r (drop (p * r) all)) ∙ take-append-drop (p * r) all

  -- an element of the block is set
  with_set : (z : ℕ) (x : A) → z < r → p * r + r ≤ length all → with_block r all p (slice_set (block_at r all p) z x) ≡ slice_set all (p * r + z) x
  with_set z x below fits =
      let first = take (p * r) all in
      let last = drop ((p + 1) * r) all in
      let before : length first ≡ p * r = omega (arith, length-take (p * r) all) in
      let inside : z < length (block_at r all p) = omega (arith, length-take r (drop (p * r) all), length-drop (p * r) all) in
      let here : p * r + z - p * r ≡ z = omega arith in
      sym (ap (λ (l : List A). slice_set l (p * r + z) x) (sym in_parts)
      ∙ set-append_right first (block_at r all p ++ last) (p * r) (p * r + z) x before (omega arith)
      ∙ ap (λ (n : ℕ). first ++ slice_set (block_at r all p ++ last) n x) here
      ∙ ap (λ (l : List A). first ++ l) (set-append_left (block_at r all p) last z x inside))

-- the block of place x / r, with its slot x % r put
pub with_put : (b : Bool) (r : ℕ) (all : Slots) (x : ℕ) (slot : Option Row) → 1 ≤ r → (x / r) * r + r ≤ length all
    → with_block r all (x / r) (put_if b (x % r) slot (block_at r all (x / r))) ≡ put_if b x slot all
with_put true r all x slot some fits =
    with_set r all (x / r) (x % r) slot (mod-lt x (omega arith)) fits ∙ ap (λ (n : ℕ). slice_set all n slot) (div-add-mod' x r)
with_put false r all x slot some fits = in_parts r all (x / r)

-- slot x lies in a block
pub place_within : (r k x : ℕ) → 1 ≤ r → x < k → x / r < blocks_for r k
place_within r k x some below =
    let enough = (div_ceil_times k r (omega arith)).0 in
    let is = div-add-mod' x r in
    less (x / r) (blocks_for r k) (x % r) is enough
  where
    less : (q n m : ℕ) → q * r + m ≡ x → k ≤ n * r → q < n
    less q n m is enough = elim (cases_lt q n) [
      | inl sooner ↦ sooner
      | inr later ↦ let fits : n * r ≤ q * r = within n q r later in absurd (omega (arith, fits, is, enough))
    ]

-- the slots past a result's are left as they are
put_behind : (b : Bool) (x : ℕ) (slot : Option Row) (made rest : Slots) → x < length made → put_if b x slot (made ++ rest) ≡ put_if b x slot made ++ rest
put_behind true x slot made rest below = set-append_left made rest x slot below
put_behind false x slot made rest below = refl

pub put_whole : (k n i : ℕ) (p : RowTest) (made slots : Slots) → 1 ≤ k → length made ≡ k → scanned (put_at k p) i (up_to n made) slots ≡ up_to n (scanned (put_at k p) i made slots)
put_whole k n i p made [] some size = refl
put_whole k n i p made (s ∷ slots) some size =
    let b = is_selected p s in
    let next = put_if b (i % k) s made in
    let same : length next ≡ length made = length-put_if b (i % k) s made in
    let here : put_if b (i % k) s (up_to n made) ≡ up_to n next =
    put_behind b (i % k) s made (none_of (n - length made)) (omega (arith, size, mod-lt i some)) ∙ ap (λ (m : ℕ). next ++ none_of (n - m)) (sym same) in
    ap (λ (l : Slots). scanned (put_at k p) (i + 1) l slots) here ∙ put_whole k n (i + 1) p next slots some (same ∙ size)

-- the slots of a table in its block u, without those behind the capacity
block_slots : (pack u m : ℕ) (slots : Slots) → u * pack ≤ length slots → take (slots_in pack (length slots) u) (block_at pack (slots ++ none_of m) u) ≡ block_at pack slots u
block_slots pack u m slots inside =
    let n = slots_in pack (length slots) u in
    let rest = drop (u * pack) slots in
    let left : length rest ≡ length slots - u * pack = length-drop (u * pack) slots in
    let first : block_at pack (slots ++ none_of m) u ≡ take pack (rest ++ none_of m) = ap (take pack) (drop-append-le (u * pack) slots (none_of m) inside) in
    let all : take pack rest ≡ take n rest = elim (cases_lt pack (length rest)) [
      | inl more ↦ ap (λ (k : ℕ). take k rest) (omega (arith, more, left))
      | inr most ↦ take_all pack rest most ∙ sym (take_all n rest (omega (arith, most, left)))
    ] in
    ap (take n) first ∙ take-take n pack (rest ++ none_of m) (omega arith) ∙ take-append-le n rest (none_of m) (omega (arith, left)) ∙ sym all

-- one block more
pub put_block_more : (k pack u n : ℕ) (p : RowTest) (made slots : Slots) → length slots ≡ n → u * pack ≤ n
    → scanned (put_at k p) (u * pack) (scanned (put_at k p) 0 made (take (u * pack) slots)) (take (slots_in pack n u) (block_at pack (whole_blocks pack n slots) u))
    ≡ scanned (put_at k p) 0 made (take ((u + 1) * pack) slots)
put_block_more k pack u n p made slots size inside =
    let f = put_at k p in
    let so_far = scanned f 0 made (take (u * pack) slots) in
    let before : length (take (u * pack) slots) ≡ u * pack = omega (arith, length-take (u * pack) slots, size, inside) in
    let block : take (slots_in pack n u) (block_at pack (whole_blocks pack n slots) u) ≡ block_at pack slots u =
    ap (λ (m : ℕ). take (slots_in pack m u) (block_at pack (whole_blocks pack n slots) u)) (sym size) ∙ block_slots pack u (blocks_for pack n * pack - length slots) slots (omega (arith, size, inside)) in
    ap (scanned f (u * pack) so_far) block
    ∙ ap (λ (m : ℕ). scanned f m so_far (block_at pack slots u)) (omega (arith, before))
    ∙ sym (scanned-append f 0 made (take (u * pack) slots) (block_at pack slots u)) ∙ ap (scanned f 0 made) (sym (take_blocks pack slots u))

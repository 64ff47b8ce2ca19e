-- The buckets of a result, and a row that is shown to one of them.
use Rattle.std.proofs.Common.{◌≡◌, ◌≤◌, ◌<◌, ◌+◌, ◌-◌, ◌*◌, ℕ, zero, suc, Bool, true, false, ◌&&◌, List, [], ◌∷◌, ◌++◌, Option, Some, None, IsTrue, is_some, length, map, take, drop, slice_index_or, slice_set, if◌then◌else◌, refl, sym, ◌∙◌, ap, arith, length-append, append_assoc}
use Rattle.std.specs.List.{All}
use Rattle.std.proofs.lemmas.List.{take_at, drop_at, drop-drop, length-map, length-replicate, map-append, set-get_or}
use Rattle.std.proofs.lemmas.Bool.Decides.{nat_tests}
use Rattle.ob_row.specs.Rows.{Row}
use Rattle.ob_row.specs.Slots.{Slots, slot_at}
use Rattle.ob_row.specs.Results.{Buckets, has_room, bucket_slots}
use Rattle.ob_blocks.specs.Blocks.{none_of, block_at, with_block}
use Rattle.ob_blocks.proofs.Blocks.{all_first, all_rest}
use Rattle.ob_hash.specs.Waiting.{slot_after, waits_after, filled_with}
use Rattle.ob_hash.specs.Bucketed.{bucket_waits, bucket_after, spread, IsBucket}
use Rattle.ob_hash.proofs.Waiting.{waits_after-append, filled_with-append, waits_after-false, filled_with-false}

-- where they lie
module _ (n : ℕ) (slots : Slots) where
  pub length-bucket : (bucket : List ℕ) → length bucket ≤ n → length (bucket_slots n slots bucket) ≡ n
  length-bucket bucket few = omega (arith, length-append (map (slot_at slots) bucket) (none_of (n - length bucket)), length-map bucket (slot_at slots), length-replicate {A = Option Row} (n - length bucket) None)

  next : (b : ℕ) → suc b * n ≡ n + b * n
  next b = grind arith

  pub at_bucket : (buckets : Buckets) (b : ℕ) → All (IsBucket n slots) buckets → b < length buckets → block_at n (spread n slots buckets) b ≡ bucket_slots n slots (slice_index_or buckets b [])
  at_bucket [] b are below = absurd (omega arith)
  at_bucket (x ∷ xs) zero are below =
      let none : 0 * n ≡ 0 = omega arith in
      ap (λ (k : ℕ). take n (drop k (bucket_slots n slots x ++ spread n slots xs))) none ∙ take_at (bucket_slots n slots x) (spread n slots xs) n (length-bucket x (all_first (IsBucket n slots) x xs are).few)
  at_bucket (x ∷ xs) (suc b) are below =
      let size = length-bucket x (all_first (IsBucket n slots) x xs are).few in
      ap (λ (k : ℕ). take n (drop k (bucket_slots n slots x ++ spread n slots xs))) (next b)
      ∙ ap (take n) (sym (drop-drop (b * n) n (bucket_slots n slots x ++ spread n slots xs)))
      ∙ ap (λ (l : Slots). take n (drop (b * n) l)) (drop_at (bucket_slots n slots x) (spread n slots xs) n size)
      ∙ at_bucket xs b (all_rest (IsBucket n slots) x xs are) (omega arith)

  pub put_bucket : (buckets : Buckets) (b : ℕ) (bucket : List ℕ) → All (IsBucket n slots) buckets → b < length buckets
      → with_block n (spread n slots buckets) b (bucket_slots n slots bucket) ≡ spread n slots (slice_set buckets b bucket)
  put_bucket [] b bucket are below = absurd (omega arith)
  put_bucket (x ∷ xs) zero bucket are below =
      let none : 0 * n ≡ 0 = omega arith in
      let one : (0 + 1) * n ≡ n = grind arith in
      let all = bucket_slots n slots x ++ spread n slots xs in
      ap (λ (k : ℕ). take k all ++ (bucket_slots n slots bucket ++ drop ((0 + 1) * n) all)) none
      ∙ ap (λ (k : ℕ). bucket_slots n slots bucket ++ drop k all) one
      ∙ ap (λ (l : Slots). bucket_slots n slots bucket ++ l) (drop_at (bucket_slots n slots x) (spread n slots xs) n (length-bucket x (all_first (IsBucket n slots) x xs are).few))
  put_bucket (x ∷ xs) (suc b) bucket are below =
      let size = length-bucket x (all_first (IsBucket n slots) x xs are).few in
      let here = bucket_slots n slots x in
      let rest = spread n slots xs in
      let more : (suc b + 1) * n ≡ n + (b + 1) * n = grind arith in
      let front : take (suc b * n) (here ++ rest) ≡ here ++ take (b * n) rest = ap (λ (k : ℕ). take k (here ++ rest)) (next b) ∙ ap (λ (k : ℕ). take (k + b * n) (here ++ rest)) (sym size) ∙ Rattle.std.proofs.Math.Seq.take-append-add here rest (b * n) in
      let back : drop ((suc b + 1) * n) (here ++ rest) ≡ drop ((b + 1) * n) rest =
      ap (λ (k : ℕ). drop k (here ++ rest)) more ∙ sym (drop-drop ((b + 1) * n) n (here ++ rest)) ∙ ap (drop ((b + 1) * n)) (drop_at here rest n size) in
      ap (λ (l : Slots). l ++ (bucket_slots n slots bucket ++ drop ((suc b + 1) * n) (here ++ rest))) front
      ∙ ap (λ (l : Slots). (here ++ take (b * n) rest) ++ (bucket_slots n slots bucket ++ l)) back
      ∙ append_assoc here (take (b * n) rest) (bucket_slots n slots bucket ++ drop ((b + 1) * n) rest)
      ∙ ap (λ (l : Slots). here ++ l) (put_bucket xs b bucket (all_rest (IsBucket n slots) x xs are) (omega arith))

-- a slot that has a row changes nothing
and_true : (b : Bool) → (b && true) ≡ b
and_true true = refl
and_true false = refl

and_false : (b : Bool) → (b && false) ≡ false
and_false true = refl
and_false false = refl

passed : (waits : Bool) (slot : Option Row) → IsTrue (is_some slot) → (waits && is_some slot) ≡ waits
passed waits None some = absurd (cc some)
passed waits (Some row) some = and_true waits

kept : (waits : Bool) (own slot : Option Row) → IsTrue (is_some slot) → slot_after waits own slot ≡ slot
kept waits own None some = absurd (cc some)
kept waits own (Some row) some = ap (λ (b : Bool). if b then own else Some row) (and_false waits)

module _ (slots : Slots) where
  abbrev HasRow : ℕ → Type 0
  HasRow i = IsTrue (is_some (slot_at slots i))

  passed_rows : (waits : Bool) (bucket : List ℕ) → All HasRow bucket → waits_after waits (map (slot_at slots) bucket) ≡ waits
  passed_rows waits [] rows = refl
  passed_rows waits (i ∷ is) rows =
      ap (λ (b : Bool). waits_after b (map (slot_at slots) is)) (passed waits (slot_at slots i) (all_first HasRow i is rows)) ∙ passed_rows waits is (all_rest HasRow i is rows)

  kept_rows : (waits : Bool) (own : Option Row) (bucket : List ℕ) → All HasRow bucket → filled_with waits own (map (slot_at slots) bucket) ≡ map (slot_at slots) bucket
  kept_rows waits own [] rows = refl
  kept_rows waits own (i ∷ is) rows =
      let some = all_first HasRow i is rows in
      ap (λ (s : Option Row). s ∷ filled_with (waits && is_some (slot_at slots i)) own (map (slot_at slots) is)) (kept waits own (slot_at slots i) some)
      ∙ ap (λ (b : Bool). slot_at slots i ∷ filled_with b own (map (slot_at slots) is)) (passed waits (slot_at slots i) some)
      ∙ ap (λ (l : Slots). slot_at slots i ∷ l) (kept_rows waits own is (all_rest HasRow i is rows))

waits_empty : (waits : Bool) (m : ℕ) → waits_after waits (none_of (suc m)) ≡ false
waits_empty waits m = ap (λ (b : Bool). waits_after b (none_of m)) (and_false waits) ∙ waits_after-false (none_of m)

module _ (n : ℕ) (slots : Slots) (bucket : List ℕ) (is : IsBucket n slots bucket) where
  -- one that has room takes the row
  module _ (room : length bucket < n) where
    left : n - length bucket ≡ suc (n - suc (length bucket))
    left = omega arith

    pub room_waits : (waits : Bool) → waits_after waits (bucket_slots n slots bucket) ≡ false
    room_waits waits =
        waits_after-append waits (map (slot_at slots) bucket) (none_of (n - length bucket))
        ∙ ap (λ (m : ℕ). waits_after (waits_after waits (map (slot_at slots) bucket)) (none_of m)) left
        ∙ waits_empty (waits_after waits (map (slot_at slots) bucket)) (n - suc (length bucket))

    pub room_filled : (own : Option Row) (i : ℕ) → own ≡ slot_at slots i → filled_with true own (bucket_slots n slots bucket) ≡ bucket_slots n slots (bucket ++ i ∷ [])
    room_filled own i same =
        let rows = map (slot_at slots) bucket in
        let rest = n - suc (length bucket) in
        let size : n - length (bucket ++ i ∷ []) ≡ rest = omega (arith, length-append bucket (i ∷ [])) in
        filled_with-append true own rows (none_of (n - length bucket))
        ∙ ap (λ (l : Slots). l ++ filled_with (waits_after true rows) own (none_of (n - length bucket))) (kept_rows slots true own bucket is.rows)
        ∙ ap (λ (b : Bool). rows ++ filled_with b own (none_of (n - length bucket))) (passed_rows slots true bucket is.rows)
        ∙ ap (λ (m : ℕ). rows ++ filled_with true own (none_of m)) left
        ∙ ap (λ (l : Slots). rows ++ own ∷ l) (filled_with-false own (none_of rest))
        ∙ ap (λ (s : Option Row). rows ++ s ∷ none_of rest) same
        ∙ sym (append_assoc rows (slot_at slots i ∷ []) (none_of rest))
        ∙ ap (λ (l : Slots). l ++ none_of rest) (sym (map-append (slot_at slots) bucket (i ∷ [])))
        ∙ ap (λ (m : ℕ). map (slot_at slots) (bucket ++ i ∷ []) ++ none_of m) (sym size)

  -- and one that has none stays as it is
  module _ (full : n ≤ length bucket) where
    none_left : n - length bucket ≡ 0
    none_left = omega arith

    pub full_waits : (waits : Bool) → waits_after waits (bucket_slots n slots bucket) ≡ waits
    full_waits waits =
        waits_after-append waits (map (slot_at slots) bucket) (none_of (n - length bucket))
        ∙ ap (λ (m : ℕ). waits_after (waits_after waits (map (slot_at slots) bucket)) (none_of m)) none_left
        ∙ passed_rows slots waits bucket is.rows

    pub full_filled : (waits : Bool) (own : Option Row) → filled_with waits own (bucket_slots n slots bucket) ≡ bucket_slots n slots bucket
    full_filled waits own =
        let rows = map (slot_at slots) bucket in
        let none : none_of {A = Option Row} 0 ≡ [] = refl in
        filled_with-append waits own rows (none_of (n - length bucket))
        ∙ ap (λ (l : Slots). l ++ filled_with (waits_after waits rows) own (none_of (n - length bucket))) (kept_rows slots waits own bucket is.rows)
        ∙ ap (λ (m : ℕ). rows ++ filled_with (waits_after waits rows) own (none_of m)) none_left
        ∙ ap (λ (m : ℕ). rows ++ none_of m) (sym none_left)

-- one of all buckets
module _ (n : ℕ) (slots : Slots) (buckets : Buckets) (b : ℕ) (are : All (IsBucket n slots) buckets) (below : b < length buckets) where
  here : IsBucket n slots (slice_index_or buckets b [])
  here = are b [] below

  same : with_block n (spread n slots buckets) b (bucket_slots n slots (slice_index_or buckets b [])) ≡ spread n slots buckets
  same = put_bucket n slots buckets b (slice_index_or buckets b []) are below ∙ ap (spread n slots) (set-get_or buckets b [])

  -- no row waits
  pub still_bucket : (own : Option Row) → bucket_after n false own (spread n slots buckets) b ≡ spread n slots buckets
  still_bucket own =
      ap (λ (l : Slots). with_block n (spread n slots buckets) b l) (filled_with-false own (block_at n (spread n slots buckets) b) ∙ at_bucket n slots buckets b are below) ∙ same

  pub room_bucket : (own : Option Row) (i : ℕ) → has_room n b buckets ≡ true → own ≡ slot_at slots i
      → bucket_after n true own (spread n slots buckets) b ≡ spread n slots (slice_set buckets b (slice_index_or buckets b [] ++ i ∷ []))
  room_bucket own i room is =
      let bucket = slice_index_or buckets b [] in
      let less : length bucket < n = grind (arith, nat_tests) in
      ap (λ (l : Slots). with_block n (spread n slots buckets) b (filled_with true own l)) (at_bucket n slots buckets b are below)
      ∙ ap (λ (l : Slots). with_block n (spread n slots buckets) b l) (room_filled n slots bucket here less own i is)
      ∙ put_bucket n slots buckets b (bucket ++ i ∷ []) are below

  pub full_bucket : (waits : Bool) (own : Option Row) → has_room n b buckets ≡ false → bucket_after n waits own (spread n slots buckets) b ≡ spread n slots buckets
  full_bucket waits own none =
      let bucket = slice_index_or buckets b [] in
      let most : n ≤ length bucket = grind (arith, nat_tests) in
      ap (λ (l : Slots). with_block n (spread n slots buckets) b (filled_with waits own l)) (at_bucket n slots buckets b are below)
      ∙ ap (λ (l : Slots). with_block n (spread n slots buckets) b l) (full_filled n slots bucket here most waits own) ∙ same

  pub room_bucket_waits : (waits : Bool) → has_room n b buckets ≡ true → bucket_waits n waits (spread n slots buckets) b ≡ false
  room_bucket_waits waits room =
      let less : length (slice_index_or buckets b []) < n = grind (arith, nat_tests) in
      ap (waits_after waits) (at_bucket n slots buckets b are below) ∙ room_waits n slots (slice_index_or buckets b []) here less waits

  pub full_bucket_waits : (waits : Bool) → has_room n b buckets ≡ false → bucket_waits n waits (spread n slots buckets) b ≡ waits
  full_bucket_waits waits none =
      let most : n ≤ length (slice_index_or buckets b []) = grind (arith, nat_tests) in
      ap (waits_after waits) (at_bucket n slots buckets b are below) ∙ full_waits n slots (slice_index_or buckets b []) here most waits

-- The places of the selected rows, one slot after the other.
use Rattle.std.proofs.Common.{◌≡◌, ◌≤◌, ◌<◌, ◌+◌, ◌-◌, ◌*◌, ◌/◌, ◌%◌, ◌^◌, ℕ, zero, suc, Bool, true, false, List, [], ◌∷◌, ◌++◌, Option, Some, None, IsTrue, is_some, is_none, length, take, subst, replicate, slice_index_or, if◌then◌else◌, inl, inr, refl, sym, ◌∙◌, ap, arith}
use Rattle.std.proofs.Math.Nat.{mod-lt, div-lt_iff_lt-mul}
use Rattle.std.proofs.lemmas.List.{take_more, take_all, length-take, get_or_append_left}
use Rattle.std.proofs.lemmas.List.Sums.{fold-append}
use Rattle.ob_base.specs.Lists.{places_from}
use Rattle.ob_base.specs.Numbers.{first_bucket, second_bucket}
use Rattle.ob_script.specs.Parts.{slots_in}
use Rattle.std.proofs.lemmas.Bool.{cases_lt}
use Rattle.ob_row.specs.Rows.{Row}
use Rattle.ob_row.specs.Slots.{Slots, slot_at, is_selected, selected}
use Rattle.ob_row.specs.Results.{Buckets, RowTest, bucket_for, put_in, filled, unplaced_or, unplaced_from, unplaced, hash_slots}
use Rattle.ob_blocks.specs.Blocks.{none_of, up_to, block_at}
use Rattle.ob_blocks.proofs.Blocks.{block-element}
use Rattle.ob_vault.specs.State.{World}
use Rattle.ob_vault.specs.Calls.{Lasts}
use Rattle.ob_flat.specs.Flats.{HoldsSlots}
use Rattle.ob_flat.proofs.Tables.{slots_lasts}
use Rattle.ob_hash.specs.Bucketed.{AreBuckets, spread, after_place, still_waits, buckets_of, unplaced_of, first_of}
use Rattle.ob_hash.specs.Hashing.{Layout, bucket_size}
use Rattle.ob_hash.specs.Selecting.{HasPlaced}
use Rattle.ob_hash.proofs.Alike.{holds_alike}
use Rattle.ob_hash.proofs.Both.{no_places, shown_both}

pub slot_is : (slots : Slots) (i : ℕ) → slot_at slots i ≡ slice_index_or slots i None
slot_is [] i = refl
slot_is (None ∷ slots) zero = refl
slot_is (Some row ∷ slots) zero = refl
slot_is (s ∷ slots) (suc i) = slot_is slots i

abbrev place_if : Bool → ℕ → List ℕ
place_if b i = if b then i ∷ [] else []

places-append : {A : Type 0} (p : A → Bool) (n : ℕ) (xs : List A) (y : A) → places_from n p (xs ++ y ∷ []) ≡ places_from n p xs ++ place_if (p y) (n + length xs)
places-append p n [] y = let here : n ≡ n + 0 = omega arith in ap (λ (k : ℕ). place_if (p y) k) here
places-append p n (x ∷ xs) y = go (p x) (places-append p (suc n) xs y ∙ ap (λ (k : ℕ). places_from (suc n) p xs ++ place_if (p y) k) (omega arith))
  where
    go : (b : Bool) → places_from (suc n) p (xs ++ y ∷ []) ≡ places_from (suc n) p xs ++ place_if (p y) (n + suc (length xs))
        → (if b then n ∷ places_from (suc n) p (xs ++ y ∷ []) else places_from (suc n) p (xs ++ y ∷ [])) ≡ (if b then n ∷ places_from (suc n) p xs else places_from (suc n) p xs) ++ place_if (p y) (n + suc (length xs))
    go true rest = ap (λ (l : List ℕ). n ∷ l) rest
    go false rest = rest

-- one slot more
selected_more : (p : RowTest) (slots : Slots) (m : ℕ) → m < length slots → selected p (take (m + 1) slots) ≡ selected p (take m slots) ++ place_if (is_selected p (slot_at slots m)) m
selected_more p slots m below =
    let size : 0 + length (take m slots) ≡ m = omega (arith, length-take m slots) in
    ap (selected p) (take_more slots m None below) ∙ places-append (is_selected p) 0 (take m slots) (slice_index_or slots m None)
    ∙ ap (λ (s : Option Row). selected p (take m slots) ++ place_if (is_selected p s) (0 + length (take m slots))) (sym (slot_is slots m))
    ∙ ap (λ (k : ℕ). selected p (take m slots) ++ place_if (is_selected p (slot_at slots m)) k) size

abbrev OneMore : (k n : ℕ) → List ℕ → Bool → ℕ → Buckets → Type 0
OneMore k n places b i buckets = unplaced_from k n buckets (places ++ place_if b i) ≡ first_of (unplaced_from k n buckets places) (still_waits k n b i (filled k n buckets places)) i

unplaced-append : (k n : ℕ) (buckets : Buckets) (places : List ℕ) (b : Bool) (i : ℕ) → OneMore k n places b i buckets
unplaced-append k n buckets [] true i = one (bucket_for k n buckets i)
  where
    one : (o : Option ℕ) → unplaced_or o i None ≡ first_of None (is_none o) i
    one None = refl
    one (Some b) = refl
unplaced-append k n buckets [] false i = refl
unplaced-append k n buckets (j ∷ places) b i = later (bucket_for k n buckets j) (λ (c : ℕ). unplaced-append k n (put_in (Some c) j buckets) places b i)
  where
    later : (o : Option ℕ) → ((c : ℕ) → OneMore k n places b i (put_in (Some c) j buckets)) → unplaced_or o j (unplaced_from k n (put_in o j buckets) (places ++ place_if b i))
        ≡ first_of (unplaced_or o j (unplaced_from k n (put_in o j buckets) places)) (still_waits k n b i (filled k n (put_in o j buckets) places)) i
    later None rest = refl
    later (Some c) rest = rest c

module _ (k n : ℕ) (p : RowTest) (slots : Slots) where
  pub buckets_more : (m : ℕ) → m < length slots → buckets_of k n p slots (m + 1) ≡ after_place k n (is_selected p (slot_at slots m)) m (buckets_of k n p slots m)
  buckets_more m below =
      ap (filled k n (replicate k [])) (selected_more p slots m below)
      ∙ fold-append (λ (bs : Buckets) (i : ℕ). put_in (bucket_for k n bs i) i bs) (replicate k []) (selected p (take m slots)) (place_if (is_selected p (slot_at slots m)) m)
      ∙ go (is_selected p (slot_at slots m))
    where
      go : (b : Bool) → filled k n (buckets_of k n p slots m) (place_if b m) ≡ after_place k n b m (buckets_of k n p slots m)
      go true = refl
      go false = refl

  pub unplaced_more : (m : ℕ) → m < length slots → unplaced_of k n p slots (m + 1) ≡ first_of (unplaced_of k n p slots m) (still_waits k n (is_selected p (slot_at slots m)) m (buckets_of k n p slots m)) m
  unplaced_more m below =
      ap (unplaced_from k n (replicate k [])) (selected_more p slots m below)
      ∙ unplaced-append k n (replicate k []) (selected p (take m slots)) (is_selected p (slot_at slots m)) m

  -- all slots
  pub buckets_all : (m : ℕ) → length slots ≤ m → buckets_of k n p slots m ≡ filled k n (replicate k []) (selected p slots)
  buckets_all m all = ap (λ (l : Slots). filled k n (replicate k []) (selected p l)) (take_all m slots all)

  pub unplaced_all : (m : ℕ) → length slots ≤ m → unplaced_of k n p slots m ≡ unplaced k n (selected p slots)
  unplaced_all m all = ap (λ (l : Slots). unplaced k n (selected p l)) (take_all m slots all)

-- a bucket is one of k
scaled : (h k m : ℕ) → h < m → 1 ≤ k → (h * k) / m < k
scaled h k m below some = (div-lt_iff_lt-mul (omega arith)).1 (grind arith)

pub first_below : (k i : ℕ) → 1 ≤ k → first_bucket k i < k
first_below k i some = scaled ((i * 2654435761) % 2 ^ 32) k (2 ^ 32) (mod-lt (i * 2654435761) (omega arith)) some

pub second_below : (k i : ℕ) → 1 ≤ k → second_bucket k i < k
second_below k i some = scaled ((i * 2246822519 + 374761393) % 2 ^ 32) k (2 ^ 32) (mod-lt (i * 2246822519 + 374761393) (omega arith)) some

-- a row that is selected is one
pub selected_some : (p : RowTest) (slot : Option Row) → IsTrue (is_selected p slot) → IsTrue (is_some slot)
selected_some p None is = is
selected_some p (Some row) is = refl

pub are_buckets : (k n : ℕ) (p : RowTest) (slots : Slots) (m : ℕ) → 1 ≤ k → m ≤ length slots → AreBuckets k n slots (buckets_of k n p slots m)
are_buckets k n p slots zero some fits = no_places k n slots
are_buckets k n p slots (suc m) some fits =
    let next : suc m ≡ m + 1 = omega arith in
    let was = are_buckets k n p slots m some (omega arith) in
    let slot = slot_at slots m in
    let shown = shown_both k n m slots slot (buckets_of k n p slots m) was (first_below k m some) (second_below k m some) (is_selected p slot) (λ is. (refl, selected_some p slot is)) in
    subst (AreBuckets k n slots) (sym (ap (buckets_of k n p slots) next ∙ buckets_more k n p slots m (omega arith))) shown.are

-- a slot in its block
pub block_slot : (r u j total : ℕ) (slots : Slots) → j < r → u * r + j < length slots → slice_index_or (block_at r (up_to total slots) u) j None ≡ slot_at slots (u * r + j)
block_slot r u j total slots below inside =
    block-element r u j (up_to total slots) None below
    ∙ get_or_append_left slots (none_of (total - length slots)) None (u * r + j) inside ∙ sym (slot_is slots (u * r + j))

-- the slot of index m was shown to its buckets
module _ (k n m : ℕ) (p : RowTest) (slots : Slots) (selected : Bool) (below : m < length slots) (is : selected ≡ is_selected p (slot_at slots m)) where
  pub placed : after_place k n selected m (buckets_of k n p slots m) ≡ buckets_of k n p slots (m + 1)
  placed = ap (λ (b : Bool). after_place k n b m (buckets_of k n p slots m)) is ∙ sym (buckets_more k n p slots m below)

  pub not_placed : (waits : Bool) (before after : Option ℕ) → waits ≡ still_waits k n selected m (buckets_of k n p slots m) → before ≡ unplaced_of k n p slots m → after ≡ first_of before waits m
      → after ≡ unplaced_of k n p slots (m + 1)
  not_placed waits before after still was next =
      next ∙ ap (λ (o : Option ℕ). first_of o waits m) was
      ∙ ap (λ (b : Bool). first_of (unplaced_of k n p slots m) b m) (still ∙ ap (λ (b : Bool). still_waits k n b m (buckets_of k n p slots m)) is)
      ∙ sym (unplaced_more k n p slots m below)

-- the same number of slots
pub placed_same : {l : Layout} {p : RowTest} {slots : Slots} {m n : ℕ} {overflow : Option ℕ} {w : World} → m ≡ n → HasPlaced l p slots m overflow w → HasPlaced l p slots n overflow w
placed_same {l} {p} {slots} {m} {n} {overflow} {w} same is = subst (λ (i : ℕ). HasPlaced l p slots i overflow w) same is

-- what the result holds once one more was shown
pub placed_next : (l : Layout) (p : RowTest) (slots : Slots) (m : ℕ) (selected waits : Bool) (before after : Option ℕ) (w : World) → m < length slots → selected ≡ is_selected p (slot_at slots m)
    → before ≡ unplaced_of l.k (bucket_size l) p slots m → after ≡ first_of before waits m
    → (waits ≡ still_waits l.k (bucket_size l) selected m (buckets_of l.k (bucket_size l) p slots m))
    × HoldsSlots l.pack l.table (spread (bucket_size l) slots (after_place l.k (bucket_size l) selected m (buckets_of l.k (bucket_size l) p slots m))) w
    → HasPlaced l p slots (m + 1) after w
placed_next l p slots m selected waits before after w below is was next told = record {
  first = not_placed l.k (bucket_size l) m p slots selected below is waits before after told.0 was next;
  holds = holds_alike l.pack l.table w _ _ (ap (spread (bucket_size l) slots) (placed l.k (bucket_size l) m p slots selected below is)) told.1;
}

-- no slot yet
pub placed_none : (l : Layout) (p : RowTest) (slots : Slots) (w : World) → HoldsSlots l.pack l.table (spread (bucket_size l) slots (replicate l.k [])) w → HasPlaced l p slots (0 * l.pack) None w
placed_none l p slots w empty =
    let none : 0 ≡ 0 * l.pack = omega arith in
    placed_same none (record { first = refl; holds = empty })

-- where other regions were asked
pub placed_lasts : {l : Layout} {p : RowTest} {slots : Slots} {m : ℕ} {overflow : Option ℕ} {some : ℕ → Type 0} {a b : World} → Lasts some a b → (some l.table.region → ⊥)
    → HasPlaced l p slots m overflow a → HasPlaced l p slots m overflow b
placed_lasts {l} {some = some} lasts off is = record { first = is.first; holds = slots_lasts l.pack l.table some _ _ lasts off _ is.holds }

-- the same slots
pub placed_taken : {l : Layout} {p : RowTest} {slots : Slots} {m n : ℕ} {overflow : Option ℕ} {w : World} → take m slots ≡ take n slots → HasPlaced l p slots m overflow w → HasPlaced l p slots n overflow w
placed_taken {l} {p} {slots} {w = w} same is = record {
  first = is.first ∙ ap (λ (s : Slots). unplaced l.k (bucket_size l) (selected p s)) same;
  holds = holds_alike l.pack l.table w _ _ (ap (λ (s : Slots). spread (bucket_size l) slots (filled l.k (bucket_size l) (replicate l.k []) (selected p s))) same) is.holds;
}

-- all of them
pub placed_all : {l : Layout} {p : RowTest} {slots : Slots} {m : ℕ} {overflow : Option ℕ} {w : World} → length slots ≤ m → HasPlaced l p slots m overflow w
    → (overflow ≡ unplaced l.k (bucket_size l) (selected p slots)) × HoldsSlots l.pack l.table (hash_slots l.k (bucket_size l) p slots) w
placed_all {l} {p} {slots} {m} {w = w} all is = (
  is.first ∙ unplaced_all l.k (bucket_size l) p slots m all,
  holds_alike l.pack l.table w _ _ (ap (spread (bucket_size l) slots) (buckets_all l.k (bucket_size l) p slots m all)) is.holds,
)

-- the slots up to the next block
pub next_slots : (pack u capacity : ℕ) (slots : Slots) → length slots ≡ capacity → u * pack < length slots → take (u * pack + slots_in pack capacity u) slots ≡ take ((u + 1) * pack) slots
next_slots pack u capacity slots size begun =
    let next : (u + 1) * pack ≡ u * pack + pack = grind arith in
    elim (cases_lt (capacity - u * pack) pack) [
      | inl short ↦ take_all (u * pack + slots_in pack capacity u) slots (omega (arith, size)) ∙ sym (take_all ((u + 1) * pack) slots (omega (arith, next, size)))
      | inr long ↦ ap (λ (n : ℕ). take n slots) (omega (arith, next))
    ]

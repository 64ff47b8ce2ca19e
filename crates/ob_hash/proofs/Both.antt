-- A row that is shown to both of its buckets.
use Rattle.std.proofs.Common.{◌≡◌, ◌<◌, ℕ, Bool, true, false, List, [], ◌∷◌, ◌++◌, Option, Some, None, IsTrue, is_some, is_none, length, replicate, slice_index_or, if◌then◌else◌, refl, sym, ◌∙◌, ap, subst, arith, length-append}
use Rattle.std.proofs.lemmas.List.{length-replicate, length-set}
use Rattle.std.proofs.lemmas.List.Elements as elements
use Rattle.std.proofs.lemmas.Bool.Decides.{nat_tests}
use Rattle.ob_base.specs.Numbers.{first_bucket, second_bucket}
use Rattle.ob_row.specs.Rows.{Row}
use Rattle.ob_row.specs.Slots.{Slots, slot_at}
use Rattle.ob_row.specs.Results.{Buckets, has_room, bucket_for, put_in}
use Rattle.ob_hash.specs.Bucketed.{bucket_waits, bucket_after, spread, IsBucket, AreBuckets, after_place, still_waits}
use Rattle.ob_hash.proofs.Showing.{still_bucket, room_bucket, full_bucket, room_bucket_waits, full_bucket_waits}
use Rattle.ob_hash.proofs.Waiting.{waits_after-false}

-- none of them holds a place yet
pub no_places : (k n : ℕ) (slots : Slots) → AreBuckets k n slots (replicate k [])
no_places k n slots = record {
  count = length-replicate {A = List ℕ} k [];
  each = elements.All-replicate (IsBucket n slots) k [] (record { few = omega arith; rows = λ j d below. absurd (omega arith) });
}

-- a bucket that has room takes a place
taken : (k n b i : ℕ) (slots : Slots) (buckets : Buckets) → AreBuckets k n slots buckets → b < k → has_room n b buckets ≡ true → IsTrue (is_some (slot_at slots i)) → AreBuckets k n slots (put_in (Some b) i buckets)
taken k n b i slots buckets are below room some =
    let bucket = slice_index_or buckets b [] in
    let here : IsBucket n slots bucket = are.each b [] (omega (arith, are.count)) in
    let less : length bucket < n = grind (arith, nat_tests) in
    record {
      count = length-set buckets b (bucket ++ i ∷ []) ∙ are.count;
      each = elements.All-set (IsBucket n slots) buckets b (bucket ++ i ∷ []) (record {
        few = omega (arith, length-append bucket (i ∷ []), less);
        rows = elements.All-append (λ (j : ℕ). IsTrue (is_some (slot_at slots j))) bucket (i ∷ []) here.rows (elements.All-replicate (λ (j : ℕ). IsTrue (is_some (slot_at slots j))) 1 i some);
      }) are.each;
    }

-- a bucket was shown to a row
record Shown (k n : ℕ) (slots : Slots) (own : Option Row) (waits : Bool) (buckets : Buckets) (b : ℕ) (left : Bool) (made : Buckets) : Type 0 where
  pub after : bucket_after n waits own (spread n slots buckets) b ≡ spread n slots made
  pub still : bucket_waits n waits (spread n slots buckets) b ≡ left
  pub are : AreBuckets k n slots made

-- both were
pub record ShownBoth (k n i : ℕ) (slots : Slots) (own : Option Row) (waits : Bool) (buckets : Buckets) : Type 0 where
  pub after : bucket_after n (bucket_waits n waits (spread n slots buckets) (first_bucket k i)) own (bucket_after n waits own (spread n slots buckets) (first_bucket k i)) (second_bucket k i)
      ≡ spread n slots (after_place k n waits i buckets)
  pub still : bucket_waits n (bucket_waits n waits (spread n slots buckets) (first_bucket k i)) (bucket_after n waits own (spread n slots buckets) (first_bucket k i)) (second_bucket k i)
      ≡ still_waits k n waits i buckets
  pub are : AreBuckets k n slots (after_place k n waits i buckets)

module _ (k n i : ℕ) (slots : Slots) (own : Option Row) where
  shown_still : (buckets : Buckets) (b : ℕ) → AreBuckets k n slots buckets → b < k → Shown k n slots own false buckets b false buckets
  shown_still buckets b are below = record {
    after = still_bucket n slots buckets b are.each (omega (arith, are.count)) own;
    still = waits_after-false (Rattle.ob_blocks.specs.Blocks.block_at n (spread n slots buckets) b);
    are = are;
  }

  shown_full : (waits : Bool) (buckets : Buckets) (b : ℕ) → AreBuckets k n slots buckets → b < k → has_room n b buckets ≡ false → Shown k n slots own waits buckets b waits buckets
  shown_full waits buckets b are below none = record {
    after = full_bucket n slots buckets b are.each (omega (arith, are.count)) waits own none;
    still = full_bucket_waits n slots buckets b are.each (omega (arith, are.count)) waits none;
    are = are;
  }

  shown_room : (buckets : Buckets) (b : ℕ) → AreBuckets k n slots buckets → b < k → has_room n b buckets ≡ true → own ≡ slot_at slots i → IsTrue (is_some (slot_at slots i))
      → Shown k n slots own true buckets b false (put_in (Some b) i buckets)
  shown_room buckets b are below room is some = record {
    after = room_bucket n slots buckets b are.each (omega (arith, are.count)) own i room is;
    still = room_bucket_waits n slots buckets b are.each (omega (arith, are.count)) true room;
    are = taken k n b i slots buckets are below room some;
  }

  both : (waits left last : Bool) (buckets made end : Buckets) → Shown k n slots own waits buckets (first_bucket k i) left made → Shown k n slots own left made (second_bucket k i) last end
      → last ≡ still_waits k n waits i buckets → end ≡ after_place k n waits i buckets → ShownBoth k n i slots own waits buckets
  both waits left last buckets made end one two is same =
      let mid : bucket_after n (bucket_waits n waits (spread n slots buckets) (first_bucket k i)) own (bucket_after n waits own (spread n slots buckets) (first_bucket k i)) (second_bucket k i)
      ≡ bucket_after n left own (spread n slots made) (second_bucket k i) =
      ap (λ (w : Bool). bucket_after n w own (bucket_after n waits own (spread n slots buckets) (first_bucket k i)) (second_bucket k i)) one.still
      ∙ ap (λ (l : Slots). bucket_after n left own l (second_bucket k i)) one.after in
      let mid_waits : bucket_waits n (bucket_waits n waits (spread n slots buckets) (first_bucket k i)) (bucket_after n waits own (spread n slots buckets) (first_bucket k i)) (second_bucket k i)
      ≡ bucket_waits n left (spread n slots made) (second_bucket k i) =
      ap (λ (w : Bool). bucket_waits n w (bucket_after n waits own (spread n slots buckets) (first_bucket k i)) (second_bucket k i)) one.still
      ∙ ap (λ (l : Slots). bucket_waits n left l (second_bucket k i)) one.after in
      record {
        after = mid ∙ two.after ∙ ap (spread n slots) same;
        still = mid_waits ∙ two.still ∙ is;
        are = subst (AreBuckets k n slots) same two.are;
      }

  module _ (buckets : Buckets) (are : AreBuckets k n slots buckets) (first : first_bucket k i < k) (second : second_bucket k i < k) where
    with_first : has_room n (first_bucket k i) buckets ≡ true → bucket_for k n buckets i ≡ Some (first_bucket k i)
    with_first room = ap (λ (b : Bool). if b then Some (first_bucket k i) else (if has_room n (second_bucket k i) buckets then Some (second_bucket k i) else None)) room

    without_first : has_room n (first_bucket k i) buckets ≡ false → bucket_for k n buckets i ≡ (if has_room n (second_bucket k i) buckets then Some (second_bucket k i) else None)
    without_first none = ap (λ (b : Bool). if b then Some (first_bucket k i) else (if has_room n (second_bucket k i) buckets then Some (second_bucket k i) else None)) none

    waiting : own ≡ slot_at slots i → IsTrue (is_some (slot_at slots i)) → ShownBoth k n i slots own true buckets
    waiting is some = go (has_room n (first_bucket k i) buckets) (has_room n (second_bucket k i) buckets) refl refl
      where
        go : (r s : Bool) → has_room n (first_bucket k i) buckets ≡ r → has_room n (second_bucket k i) buckets ≡ s → ShownBoth k n i slots own true buckets
        go true s one two =
            let for = with_first one in
            let made = put_in (Some (first_bucket k i)) i buckets in
            let step = shown_room buckets (first_bucket k i) are first one is some in
            both true false false buckets made made step (shown_still made (second_bucket k i) step.are second)
            (ap (λ (o : Option ℕ). is_none o) (sym for)) (ap (λ (o : Option ℕ). put_in o i buckets) (sym for))
        go false true one two =
            let for : bucket_for k n buckets i ≡ Some (second_bucket k i) = without_first one ∙ ap (λ (b : Bool). if b then Some (second_bucket k i) else None) two in
            let made = put_in (Some (second_bucket k i)) i buckets in
            both true true false buckets buckets made (shown_full true buckets (first_bucket k i) are first one) (shown_room buckets (second_bucket k i) are second two is some)
            (ap (λ (o : Option ℕ). is_none o) (sym for)) (ap (λ (o : Option ℕ). put_in o i buckets) (sym for))
        go false false one two =
            let for : bucket_for k n buckets i ≡ None = without_first one ∙ ap (λ (b : Bool). if b then Some (second_bucket k i) else None) two in
            both true true true buckets buckets buckets (shown_full true buckets (first_bucket k i) are first one) (shown_full true buckets (second_bucket k i) are second two)
            (ap (λ (o : Option ℕ). is_none o) (sym for)) (ap (λ (o : Option ℕ). put_in o i buckets) (sym for))

    -- whether it waits or not
    pub shown_both : (waits : Bool) → (IsTrue waits → (own ≡ slot_at slots i) × IsTrue (is_some (slot_at slots i))) → ShownBoth k n i slots own waits buckets
    shown_both true row = let is = row refl in waiting is.0 is.1
    shown_both false row = both false false false buckets buckets buckets (shown_still buckets (first_bucket k i) are first) (shown_still buckets (second_bucket k i) are second) refl refl

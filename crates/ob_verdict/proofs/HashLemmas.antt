-- The rows of a Hash result are the selected rows, where each has a bucket.
use Rattle.std.proofs.Common.{◌≡◌, ℕ, suc, zero, ◌+◌, ◌-◌, ◌*◌, ◌/◌, ◌%◌, ◌^◌, ◌<◌, Bool, true, false, List, [], ◌∷◌, ◌++◌, map, length, replicate, set, get_or, refl, sym, ◌∙◌, ap, subst, cond, append-nil, lit<, arith}
use Rattle.std.specs.Prelude.{filter, flat_map, Option, Some, None}
use Rattle.std.proofs.Math.Nat.{div-lt_iff_lt-mul, mul-lt-mul_of_pos_right, mul_comm}
use Rattle.std.proofs.Math.ListN.{length-set, length-replicate}
use Rattle.std.proofs.lemmas.List.{map-append, append_assoc}
use Rattle.ob_base.specs.Numbers.{first_bucket, second_bucket}
use Rattle.ob_row.specs.Bags.{Inserts, further, Same}
use Rattle.ob_row.specs.Rows.{Row}
use Rattle.ob_row.proofs.BagLemmas.{Same-refl, Same-trans, Same-wholes, Same-map, Same-filter_map, Inserts-append, Inserts-middle}
use Rattle.ob_row.specs.Slots.{Slots, rows, slot_at, selected}
use Rattle.ob_row.specs.Results.{Buckets, bucket_for, bucket_slots, has_room, put_in, filled, unplaced, unplaced_from, unplaced_or, hash_slots}
use Rattle.ob_verdict.proofs.ResultLemmas.{rows-small_slots}
use Rattle.ob_verdict.proofs.JoinLemmas.{rows-append, rows-nothing}

-- a part of k, by a number below 2^32, is below k
scaled-below : (x k : ℕ) → 0 < k → ((x % 2 ^ 32) * k) / 2 ^ 32 < k
scaled-below x k h =
    let small : x % 2 ^ 32 < 2 ^ 32 = omega arith in
    let product : (x % 2 ^ 32) * k < k * 2 ^ 32 = rw (mul_comm k (2 ^ 32)) (mul-lt-mul_of_pos_right small h) in
    (div-lt_iff_lt-mul {k = 2 ^ 32} {x = (x % 2 ^ 32) * k} {y = k} (lit< tt)).1 product

first-below : (k i : ℕ) → 0 < k → first_bucket k i < k
first-below k i h = scaled-below (i * 2654435761) k h

second-below : (k i : ℕ) → 0 < k → second_bucket k i < k
second-below k i h = scaled-below (i * 2246822519 + 374761393) k h

either_some : (a b : Bool) (x y z k : ℕ) → cond a (Some x) (cond b (Some y) None) ≡ Some z → x < k → y < k → z < k
either_some true b x y z k e h l = let f : x ≡ z = cc in omega arith
either_some false true x y z k e h l = let f : y ≡ z = cc in omega arith
either_some false false x y z k e h l = absurd (cc)

bucket-below : (k d : ℕ) (bs : Buckets) (i b : ℕ) → 0 < k → bucket_for k d bs i ≡ Some b → b < k
bucket-below k d bs i b h e =
    either_some (has_room d (first_bucket k i) bs) (has_room d (second_bucket k i) bs) _ _ b k e (first-below k i h) (second-below k i h)

-- all places of the buckets
abbrev all_in : Buckets → List ℕ
all_in bs = flat_map (λ b. b) bs

rows-bucket : (d : ℕ) (slots : Slots) (b : List ℕ) → rows (bucket_slots d slots b) ≡ rows (map (slot_at slots) b)
rows-bucket d slots b =
    rows-append (map (slot_at slots) b) (replicate (d - length b) None)
    ∙ ap (λ w. rows (map (slot_at slots) b) ++ w) (rows-nothing (d - length b))
    ∙ append-nil (rows (map (slot_at slots) b))

rows-buckets : (d : ℕ) (slots : Slots) (bs : Buckets) → rows (flat_map (bucket_slots d slots) bs) ≡ rows (map (slot_at slots) (all_in bs))
rows-buckets d slots [] = refl
rows-buckets d slots (b ∷ bs) =
    rows-append (bucket_slots d slots b) (flat_map (bucket_slots d slots) bs)
    ∙ (λ t. rows-bucket d slots b t ++ rows-buckets d slots bs t)
    ∙ sym (rows-append (map (slot_at slots) b) (map (slot_at slots) (all_in bs)))
    ∙ ap rows (sym (map-append (slot_at slots) b (all_in bs)))

Inserts-after : {A : Type 0} {x : A} {us vs : List A} (ws : List A) → Inserts x us vs → Inserts x (ws ++ us) (ws ++ vs)
Inserts-after [] i = i
Inserts-after (w ∷ ws) i = further (Inserts-after ws i)

Inserts-bucket : (bs : Buckets) (b i : ℕ) → b < length bs → Inserts i (all_in bs) (all_in (set bs b (get_or bs b [] ++ i ∷ [])))
Inserts-bucket [] b i h = absurd (omega arith)
Inserts-bucket (x ∷ bs) zero i h = subst (λ w. Inserts i (x ++ all_in bs) w) (sym (append_assoc x (i ∷ []) (all_in bs))) (Inserts-middle i x (all_in bs))
Inserts-bucket (x ∷ bs) (suc b) i h = Inserts-after x (Inserts-bucket bs b i (omega arith))

filled-same : (k d : ℕ) (bs : Buckets) (is : List ℕ) → 0 < k → length bs ≡ k → unplaced_from k d bs is ≡ None → Same (all_in bs ++ is) (all_in (filled k d bs is))
filled-same k d bs [] h l u = subst (λ w. Same w (all_in bs)) (sym (append-nil (all_in bs))) (Same-refl (all_in bs))
filled-same k d bs (i ∷ is) h l u =
    let split : (o : Option ℕ) → bucket_for k d bs i ≡ o → unplaced_or o i (unplaced_from k d (put_in o i bs) is) ≡ None → Same (all_in bs ++ i ∷ is) (all_in (filled k d (put_in o i bs) is)) =
    λ o. elim o as (λ o. bucket_for k d bs i ≡ o → unplaced_or o i (unplaced_from k d (put_in o i bs) is) ≡ None → Same (all_in bs ++ i ∷ is) (all_in (filled k d (put_in o i bs) is))) [
      | None ↦ λ e v. absurd (cc)
      | Some b ↦ λ e v.
          let below : b < length bs = rw l (bucket-below k d bs i b h e) in
          let next : Buckets = set bs b (get_or bs b [] ++ i ∷ []) in
          let long : length next ≡ k = length-set bs b (get_or bs b [] ++ i ∷ []) ∙ l in
          Same-trans _ _ _
          (Same-wholes (Inserts-middle i (all_in bs) is) (Inserts-append is (Inserts-bucket bs b i below)) (Same-refl (all_in bs ++ is)))
          (filled-same k d next is h long v)
    ] in
    split (bucket_for k d bs i) refl u

nothing_in : (k : ℕ) → all_in (replicate k []) ≡ []
nothing_in zero = refl
nothing_in (suc k) = nothing_in k

pub rows-hash_slots : (k d : ℕ) (p : Row → Bool) (slots : Slots) → 0 < k → unplaced k d (selected p slots) ≡ None →
    Same (filter p (rows slots)) (rows (hash_slots k d p slots))
rows-hash_slots k d p slots h u =
    let filled_all : Same (selected p slots) (all_in (filled k d (replicate k []) (selected p slots))) =
    subst (λ w. Same (w ++ selected p slots) (all_in (filled k d (replicate k []) (selected p slots)))) (nothing_in k)
    (filled-same k d (replicate k []) (selected p slots) h (length-replicate k []) u) in
    subst (λ w. Same w (rows (hash_slots k d p slots))) (rows-small_slots p slots)
    (subst (λ w. Same (rows (map (slot_at slots) (selected p slots))) w) (sym (rows-buckets d slots (filled k d (replicate k []) (selected p slots))))
    (Same-filter_map (λ slot. slot) _ _ (Same-map (slot_at slots) _ _ filled_all)))

-- Rows in the buckets of their fields: what a walk from link to link finds, and one place more.
use Rattle.std.proofs.Common.{◌≡◌, ◌≢◌, ◌≤◌, ◌<◌, ◌+◌, ◌*◌, ◌/◌, inl, inr, ℕ, List, [], ◌∷◌, ◌++◌, length, slice_index_or, slice_set, sym, ◌∙◌, ap, subst, arith}
use Rattle.std.proofs.Common.{length-append, get_or-set_same, get_or-set_other}
use Rattle.std.proofs.Math.Nat.{div-lt_iff_lt-mul}
use Rattle.std.proofs.Math.Seq.{get_or-append_right}
use Rattle.std.proofs.lemmas.Bool.{cases_eq, cases_lt}
use Rattle.std.proofs.lemmas.List.{get_or_append_left, length-set}
use Rattle.ob_order.specs.Orders.{field_at}
use Rattle.ob_order.specs.Buckets.{BucketsState, bucket_of, low_hash, bucket_at, Leads, AreBucketed, IsOnly, NoneHas}

-- ---- the link at which a search stands: no later place has the field
pub record Walks (at : ℕ) (field : List ℕ) (rows : List (List ℕ)) (buckets : BucketsState) (link : ℕ) : Type 0 where
  pub few : link ≤ length buckets.next
  pub has : (p : ℕ) → link ≡ p + 1 → bucket_at at (length field) rows (length buckets.heads) p ≡ bucket_of (length buckets.heads) field
  pub none : (p : ℕ) → link ≤ p → p < length buckets.next → field_at at (length field) rows p ≢ field

module _ (at : ℕ) (field : List ℕ) (rows : List (List ℕ)) (buckets : BucketsState) (are : AreBucketed at (length field) (length buckets.next) rows buckets) where
  abbrev own : ℕ → List ℕ
  own p = field_at at (length field) rows p

  abbrev count : ℕ
  count = length buckets.heads

  pub walk_begins : Walks at field rows buckets (slice_index_or buckets.heads (bucket_of count field) 0)
  walk_begins =
      let leads = are.heads (bucket_of count field) in
      record {
        few = leads.few;
        has = leads.has;
        none = λ p late below same. leads.last p late below (ap (bucket_of count) same);
      }

  module _ (link place : ℕ) (walks : Walks at field rows buckets link) (is : link ≡ place + 1) where
    pub walk_inside : place < length buckets.next
    walk_inside = omega (arith, walks.few, is)

    pub walk_goes_on : own place ≢ field → Walks at field rows buckets (slice_index_or buckets.next place 0)
    walk_goes_on not =
        let leads = are.next place walk_inside in
        let here = walks.has place is in
        record {
          few = omega (arith, leads.few, walk_inside);
          has = λ p same. leads.has p same ∙ here;
          none = λ p late below same. elim (cases_lt p place) [
            | inl before ↦ leads.last p late before (ap (bucket_of count) same ∙ sym here)
            | inr behind ↦ elim (cases_eq p place) [
              | inl at_it ↦ not (subst (λ (q : ℕ). own q ≡ field) at_it same)
              | inr past ↦ walks.none p (omega (arith, behind, past, is)) below same
            ]
          ];
        }

    pub walk_finds : own place ≡ field → IsOnly at field (length buckets.next) rows place
    walk_finds has = record {
      inside = walk_inside;
      has = has;
      only = λ p below same. elim (cases_lt p place) [
        | inl before ↦ absurd (are.apart p place before walk_inside (same ∙ sym has))
        | inr behind ↦ elim (cases_eq p place) [
          | inl at_it ↦ at_it
          | inr past ↦ absurd (are.apart place p (omega (arith, behind, past)) below (has ∙ sym same))
        ]
      ];
    }

  pub walk_ends : Walks at field rows buckets 0 → NoneHas at field (length buckets.next) rows
  walk_ends walks = λ p below. walks.none p (omega arith) below

-- ---- a bucket is one of so many
pub scaled : (h count m : ℕ) → h < m → 0 < count → (h * count) / m < count
scaled h count m below some = (div-lt_iff_lt-mul (omega arith)).1 (grind arith)

-- ---- one place more
module _ (at : ℕ) (field : List ℕ) (rows : List (List ℕ)) (old : BucketsState) (n : ℕ) (are : AreBucketed at (length field) n rows old) (none : NoneHas at field n rows) (has : field_at at (length field) rows n ≡ field) (inside : bucket_of (length old.heads) field < length old.heads) where
  abbrev bucket : ℕ → ℕ
  bucket = bucket_at at (length field) rows (length old.heads)

  abbrev b : ℕ
  b = bucket_of (length old.heads) field

  abbrev head : ℕ
  head = slice_index_or old.heads b 0

  abbrev row : ℕ → List ℕ
  row p = field_at at (length field) rows p

  here : bucket n ≡ b
  here = ap (bucket_of (length old.heads)) has

  to_last : Leads bucket b (n + 1) (n + 1)
  to_last = record {
    few = omega arith;
    has = λ p is. let same : p ≡ n = omega (arith, is) in ap bucket same ∙ here;
    last = λ p late below. absurd (omega (arith, late, below));
  }

  beside : (c link : ℕ) → c ≢ b → Leads bucket c n link → Leads bucket c (n + 1) link
  beside c link other leads = record {
    few = omega (arith, leads.few);
    has = leads.has;
    last = λ p late below is. elim (cases_lt p n) [
      | inl before ↦ leads.last p late before is
      | inr behind ↦ let same : p ≡ n = omega (arith, behind, below) in other (sym is ∙ ap bucket same ∙ here)
    ];
  }

  module _ (new : BucketsState) (heads : new.heads ≡ slice_set old.heads b (n + 1)) (next : new.next ≡ old.next ++ head ∷ []) (many : length old.hashes ≡ n) (hashes : new.hashes ≡ old.hashes ++ low_hash field ∷ []) where
    as_many : length new.heads ≡ length old.heads
    as_many = ap length heads ∙ length-set old.heads b (n + 1)

    new_head : (c : ℕ) → Leads bucket c (n + 1) (slice_index_or (slice_set old.heads b (n + 1)) c 0)
    new_head c = elim (cases_eq c b) [
      | inl same ↦
          subst (λ (d : ℕ). Leads bucket d (n + 1) (slice_index_or (slice_set old.heads b (n + 1)) d 0)) (sym same)
          (subst (Leads bucket b (n + 1)) (sym (get_or-set_same old.heads b (n + 1) 0 inside)) to_last)
      | inr other ↦
          subst (Leads bucket c (n + 1)) (sym (get_or-set_other old.heads b c (n + 1) 0 other)) (beside c (slice_index_or old.heads c 0) other (are.heads c))
    ]

    new_next : (p : ℕ) → p < n + 1 → Leads bucket (bucket p) p (slice_index_or (old.next ++ head ∷ []) p 0)
    new_next p below = elim (cases_eq p n) [
      | inl same ↦
          let last : slice_index_or (old.next ++ head ∷ []) n 0 ≡ head = get_or-append_right old.next (head ∷ []) n 0 (omega (arith, are.count)) ∙ search (arith, are.count) in
          subst (λ (q : ℕ). Leads bucket (bucket q) q (slice_index_or (old.next ++ head ∷ []) q 0)) (sym same)
          (subst (Leads bucket (bucket n) n) (sym last) (subst (λ (c : ℕ). Leads bucket c n head) (sym here) (are.heads b)))
      | inr other ↦
          subst (Leads bucket (bucket p) p) (sym (get_or_append_left old.next (head ∷ []) 0 p (omega (arith, below, other, are.count)))) (are.next p (omega (arith, below, other)))
    ]

    new_hash : (p : ℕ) → p < n + 1 → slice_index_or (old.hashes ++ low_hash field ∷ []) p 0 ≡ low_hash (row p)
    new_hash p below = elim (cases_eq p n) [
      | inl same ↦
          let last : slice_index_or (old.hashes ++ low_hash field ∷ []) n 0 ≡ low_hash field = get_or-append_right old.hashes (low_hash field ∷ []) n 0 (omega (arith, many)) ∙ search (arith, many) in
          subst (λ (q : ℕ). slice_index_or (old.hashes ++ low_hash field ∷ []) q 0 ≡ low_hash (row q)) (sym same) (last ∙ sym (ap low_hash has))
      | inr other ↦ get_or_append_left old.hashes (low_hash field ∷ []) 0 p (omega (arith, below, other, many)) ∙ are.hashes p (omega (arith, below, other))
    ]

    pub one_more : AreBucketed at (length field) (n + 1) rows new
    one_more = record {
      count = ap length next ∙ length-append old.next (head ∷ []) ∙ omega (arith, are.count);
      heads = λ c.
          subst (λ (k : ℕ). Leads (bucket_at at (length field) rows k) c (n + 1) (slice_index_or new.heads c 0)) (sym as_many)
          (subst (λ (l : List ℕ). Leads bucket c (n + 1) (slice_index_or l c 0)) (sym heads) (new_head c));
      next = λ p below.
          subst (λ (k : ℕ). Leads (bucket_at at (length field) rows k) (bucket_at at (length field) rows k p) p (slice_index_or new.next p 0)) (sym as_many)
          (subst (λ (l : List ℕ). Leads bucket (bucket p) p (slice_index_or l p 0)) (sym next) (new_next p below));
      hashes = λ p below. ap (λ (l : List ℕ). slice_index_or l p 0) hashes ∙ new_hash p below;
      apart = λ p q less below same. elim (cases_lt q n) [
        | inl before ↦ are.apart p q less before same
        | inr behind ↦
            let last : q ≡ n = omega (arith, behind, below) in
            none p (omega (arith, less, last)) (same ∙ ap (λ (r : ℕ). field_at at (length field) rows r) last ∙ has)
      ];
    }

-- ---- rows stay in their buckets where their fields stay
pub bucketed_where_same : (at len n : ℕ) (old new : List (List ℕ)) (buckets : BucketsState) → AreBucketed at len n old buckets
    → ((p : ℕ) → p < n → field_at at len new p ≡ field_at at len old p) → AreBucketed at len n new buckets
bucketed_where_same at len n old new buckets are same =
    let count = length buckets.heads in
    let stays : (p : ℕ) → p < n → bucket_at at len new count p ≡ bucket_at at len old count p = λ p below. ap (bucket_of count) (same p below) in
    let leads : (b m link : ℕ) → m ≤ n → Leads (bucket_at at len old count) b m link → Leads (bucket_at at len new count) b m link =
    λ b m link most is. record {
      few = is.few;
      has = λ p here. stays p (omega (arith, is.few, here, most)) ∙ is.has p here;
      last = λ p late below there. is.last p late below (sym (stays p (omega (arith, below, most))) ∙ there);
    } in
    record {
      count = are.count;
      heads = λ b. leads b n _ (omega arith) (are.heads b);
      next = λ p below. subst (λ (b : ℕ). Leads (bucket_at at len new count) b p (slice_index_or buckets.next p 0)) (sym (stays p below)) (leads _ p _ (omega (arith, below)) (are.next p below));
      hashes = λ p below. are.hashes p below ∙ sym (ap low_hash (same p below));
      apart = λ p q less below is. are.apart p q less below (sym (same p (omega (arith, less, below))) ∙ is ∙ same q below);
    }

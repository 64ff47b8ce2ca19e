-- Places of rows, each in the bucket of the field that its row has.
use Rattle.std.specs.Prelude.{◌≡◌, ◌≢◌, ◌≤◌, ◌<◌, ◌+◌, ◌*◌, ◌/◌, ◌%◌, ◌^◌, ℕ, List, length, slice_index_or}
use Rattle.std.specs.Hash.FoldHasher.{initial, write, finish}
use Rattle.ob_order.specs.Orders.{field_at}

-- ---- what contracts see of buckets
-- a link is one more than a place, or 0, which leads to none
pub record BucketsState : Type 0 where
  -- of each bucket, the link to the place that came last
  pub heads : List ℕ
  -- of each place, the link to the one before it in its bucket
  pub next : List ℕ
  -- of each place, the low half of its field's hash
  pub hashes : List ℕ
  -- how many places there may be
  pub most : ℕ

abbrev pub hash_of : (field : List ℕ) → ℕ
hash_of field = finish (write initial field)

-- the bucket of a field, among so many: by the high half of its hash
abbrev pub bucket_of : (count : ℕ) → (field : List ℕ) → ℕ
bucket_of count field = ((hash_of field / 2 ^ 32) * count) / 2 ^ 32

abbrev pub low_hash : (field : List ℕ) → ℕ
low_hash field = hash_of field % 2 ^ 32

-- that of the row at a place
abbrev pub bucket_at : (at len : ℕ) → (rows : List (List ℕ)) → (count place : ℕ) → ℕ
bucket_at at len rows count place = bucket_of count (field_at at len rows place)

-- of the first n places, the link leads to the last one in bucket b
pub record Leads (bucket : ℕ → ℕ) (b n link : ℕ) : Type 0 where
  pub few : link ≤ n
  pub has : (p : ℕ) → link ≡ p + 1 → bucket p ≡ b
  pub last : (p : ℕ) → link ≤ p → p < n → bucket p ≢ b

-- the first n rows are in the buckets of their fields, of which no two are the same
pub record AreBucketed (at len n : ℕ) (rows : List (List ℕ)) (buckets : BucketsState) : Type 0 where
  pub count : length buckets.next ≡ n
  pub heads : (b : ℕ) → Leads (bucket_at at len rows (length buckets.heads)) b n
      (slice_index_or buckets.heads b 0)
  pub next : (p : ℕ) → p < n → Leads (bucket_at at len rows (length buckets.heads))
      (bucket_at at len rows (length buckets.heads) p) p (slice_index_or buckets.next p 0)
  pub hashes : (p : ℕ) → p < n
      → slice_index_or buckets.hashes p 0 ≡ low_hash (field_at at len rows p)
  pub apart : (p q : ℕ) → p < q → q < n → field_at at len rows p ≢ field_at at len rows q

-- of the first n rows it is the one that has this field
pub record IsOnly (at : ℕ) (field : List ℕ) (n : ℕ) (rows : List (List ℕ)) (place : ℕ)
    : Type 0 where
  pub inside : place < n
  pub has : field_at at (length field) rows place ≡ field
  pub only : (p : ℕ) → p < n → field_at at (length field) rows p ≡ field → p ≡ place

-- none of them has it
abbrev pub NoneHas : (at : ℕ) → (field : List ℕ) → (n : ℕ) → (rows : List (List ℕ)) → Type 0
NoneHas at field n rows =
    (p : ℕ) → p < n → field_at at (length field) rows p ≢ field

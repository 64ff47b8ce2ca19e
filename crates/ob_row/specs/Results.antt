-- The slots of a result.
use Rattle.std.specs.Prelude.{ℕ, ◌*◌, ◌%◌, ◌-◌, Bool, ◌==◌, nat_lt, List, [], ◌∷◌, ◌++◌, map, find, fold, take, drop, length, replicate, Option, Some, None, slice_index_or, slice_set, flat_map, if◌then◌else◌}
use Rattle.std.specs.Option.{option_map, option_and_then}
use Rattle.ob_base.specs.declared.config.Plan.{Plan}
use Rattle.ob_base.specs.declared.config.Plan.TheVariants.{Small, Large, Continuous, Hash}
use Rattle.ob_base.specs.Joins.{chunks}
use Rattle.ob_base.specs.Limits.{buffered}
use Rattle.ob_base.specs.Lists.{each, tabulate}
use Rattle.ob_base.specs.Numbers.{blocks_for, first_bucket, second_bucket}
use Rattle.ob_row.specs.Rows.{Row, agree_at}
use Rattle.ob_row.specs.Slots.{Slots, slot_at, kept, selected, small_slots, rows}

-- a test of rows, as a condition is
abbrev pub RowTest : Type 0
RowTest = Row → Bool

-- ---- Large: the unselected ones emptied
abbrev pub large_slots : RowTest → Slots → Slots
large_slots p slots = map (kept p) slots

-- ---- Continuous: place i mod k has the row of selected place i
abbrev pub continuous_slots : ℕ → RowTest → Slots → Slots
continuous_slots k p slots = tabulate k (λ x. option_and_then (slot_at slots) (find (λ i. i % k == x) (selected p slots)))

-- ---- Hash: k buckets of n slots each, every one a list of the places that it holds
abbrev pub Buckets : Type 0
Buckets = List (List ℕ)

abbrev pub has_room : (n b : ℕ) → Buckets → Bool
has_room n b buckets = nat_lt (length (slice_index_or buckets b [])) n

-- the bucket for place i, if one of its two has room
abbrev pub bucket_for : (k n : ℕ) → Buckets → ℕ → Option ℕ
bucket_for k n buckets i =
    if has_room n (first_bucket k i) buckets then Some (first_bucket k i)
    else (if has_room n (second_bucket k i) buckets then Some (second_bucket k i) else None)

abbrev pub put_in : Option ℕ → ℕ → Buckets → Buckets
put_in None i buckets = buckets
put_in (Some b) i buckets = slice_set buckets b (slice_index_or buckets b [] ++ i ∷ [])

abbrev pub filled : (k n : ℕ) → Buckets → List ℕ → Buckets
filled k n buckets places = fold (λ bs i. put_in (bucket_for k n bs i) i bs) buckets places

-- place i where it has no bucket, and else the first such of the later places
abbrev pub unplaced_or : Option ℕ → ℕ → Option ℕ → Option ℕ
unplaced_or None i later = Some i
unplaced_or (Some b) i later = later

abbrev pub unplaced_from : (k n : ℕ) → Buckets → List ℕ → Option ℕ
unplaced_from k n buckets [] = None
unplaced_from k n buckets (i ∷ is) =
    unplaced_or (bucket_for k n buckets i) i (unplaced_from k n (put_in (bucket_for k n buckets i) i buckets) is)

-- the first place with no bucket
abbrev pub unplaced : (k n : ℕ) → List ℕ → Option ℕ
unplaced k n places = unplaced_from k n (replicate k []) places

-- the places of a bucket, filled from the front
abbrev pub bucket_slots : ℕ → Slots → List ℕ → Slots
bucket_slots n slots bucket = map (slot_at slots) bucket ++ replicate (n - length bucket) None

abbrev pub hash_slots : (k n : ℕ) → RowTest → Slots → Slots
hash_slots k n p slots = flat_map (bucket_slots n slots) (filled k n (replicate k []) (selected p slots))

-- the slots of the result of k rows, where a bucket has n slots
abbrev pub result_slots : Plan → (k n : ℕ) → RowTest → Slots → Slots
result_slots Small k n p slots = small_slots p slots
result_slots Large k n p slots = large_slots p slots
result_slots Continuous k n p slots = continuous_slots k p slots
result_slots Hash k n p slots = hash_slots k n p slots

-- ---- joined: for each chunk of left slots, each right slot with the left row of the chunk that agrees with it, and empty slots to the end of the last block
abbrev pub chunk : (s q : ℕ) → Slots → Slots
chunk s q slots = take s (drop (q * s) slots)

abbrev pub joined_slot : (i j : ℕ) → List Row → Option Row → Option Row
joined_slot i j left None = None
joined_slot i j left (Some b) = option_map (λ a. a ++ b) (find (λ a. agree_at i j a b) left)

abbrev pub padded : ℕ → Slots → Slots
padded n slots = slots ++ replicate (n - length slots) None

abbrev pub joined_chunk : (i j n : ℕ) → Slots → Slots → Slots
joined_chunk i j n left right = padded n (map (joined_slot i j (rows left)) right)

abbrev pub joined : (i j pack room : ℕ) → (left right : Slots) → Slots
joined i j pack room left right =
    each (chunks pack room (length left)) (λ q. joined_chunk i j (blocks_for pack (length right) * pack) (chunk (buffered pack room) q left) right)

-- The slots of a result as buckets, each of which lies in blocks of its own.
use Rattle.std.specs.Prelude.{◌≡◌, ◌≤◌, ℕ, Bool, true, false, ◌&&◌, List, Option, Some, None, IsTrue, is_some, is_none, [], length, take, replicate, flat_map, if◌then◌else◌}
use Rattle.std.specs.List.{All}
use Rattle.ob_row.specs.Rows.{Row}
use Rattle.ob_row.specs.Slots.{Slots, slot_at, selected}
use Rattle.ob_row.specs.Results.{Buckets, RowTest, bucket_for, put_in, filled, unplaced, bucket_slots}
use Rattle.ob_blocks.specs.Blocks.{block_at, with_block}
use Rattle.ob_hash.specs.Waiting.{waits_after, filled_with}

-- a list of n slots for each bucket, which is shown to a row
abbrev pub bucket_waits : ℕ → Bool → Slots → ℕ → Bool
bucket_waits n waits all b = waits_after waits (block_at n all b)

abbrev pub bucket_after : ℕ → Bool → Option Row → Slots → ℕ → Slots
bucket_after n waits own all b = with_block n all b (filled_with waits own (block_at n all b))

-- the slots of all buckets, one after the other
abbrev pub spread : ℕ → Slots → Buckets → Slots
spread n slots buckets = flat_map (bucket_slots n slots) buckets

-- places of slots that have a row, as many as a bucket holds at most
pub record IsBucket (n : ℕ) (slots : Slots) (bucket : List ℕ) : Type 0 where
  pub few : length bucket ≤ n
  pub rows : All (λ (i : ℕ). IsTrue (is_some (slot_at slots i))) bucket

pub record AreBuckets (k n : ℕ) (slots : Slots) (buckets : Buckets) : Type 0 where
  pub count : length buckets ≡ k
  pub each : All (IsBucket n slots) buckets

-- what they are once the row of place i was shown to them, and whether it waits still
abbrev pub after_place : (k n : ℕ) → Bool → ℕ → Buckets → Buckets
after_place k n waits i buckets = if waits then put_in (bucket_for k n buckets i) i buckets else buckets

abbrev pub still_waits : (k n : ℕ) → Bool → ℕ → Buckets → Bool
still_waits k n waits i buckets = waits && is_none (bucket_for k n buckets i)

-- the buckets of the first m slots, and the first place of these with no bucket
abbrev pub buckets_of : (k n : ℕ) → RowTest → Slots → ℕ → Buckets
buckets_of k n p slots m = filled k n (replicate k []) (selected p (take m slots))

abbrev pub unplaced_of : (k n : ℕ) → RowTest → Slots → ℕ → Option ℕ
unplaced_of k n p slots m = unplaced k n (selected p (take m slots))

-- the first place with no bucket, with place i after the others
abbrev pub first_of : Option ℕ → Bool → ℕ → Option ℕ
first_of (Some j) waits i = Some j
first_of None true i = Some i
first_of None false i = None

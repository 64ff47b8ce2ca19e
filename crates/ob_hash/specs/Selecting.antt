-- What is done to put the selected rows of a table into buckets.
use Rattle.std.specs.Prelude.{◌≡◌, ◌⊎◌, ◌+◌, ◌*◌, ℕ, Bool, List, [], Option, IsTrue, Result, OnOk, IfOk, IfErr, MatchResult, is_some, length, replicate}
use Rattle.ob_base.specs.declared.access.Access.{Access}
use Rattle.ob_script.specs.Parts.{slots_in}
use Rattle.ob_vault.specs.declared.region.Order.TheVariants.{Any}
use Rattle.ob_vault.specs.State.{World}
use Rattle.ob_vault.specs.Calls.{one}
use Rattle.ob_vault.specs.Words.{IsHonest}
use Rattle.ob_row.specs.Rows.{Row}
use Rattle.ob_row.specs.Results.{Buckets, RowTest, unplaced, hash_slots}
use Rattle.ob_row.specs.Slots.{Slots, slot_at, selected}
use Rattle.ob_row.specs.Spelling.{Begins}
use Rattle.ob_blocks.specs.Blocks.{block_at}
use Rattle.ob_flat.specs.declared.flat.Flat.{Flat}
use Rattle.ob_flat.specs.declared.fault.OpErr.{OpErr}
use Rattle.ob_flat.specs.declared.fault.OpErr.TheVariants.{Failed, NoMemory}
use Rattle.ob_flat.specs.Slots.{Spelt}
use Rattle.ob_flat.specs.Flats.{FitsRegion, IsFlat, HoldsSlots, HoldsRows, Represents, whole_blocks}
use Rattle.ob_flat.specs.Words.{PassRan, TamperedIn, SealsTable, Makes, NoMemoryBehind}
use Rattle.ob_flat.specs.Creates.{make_script}
use Rattle.ob_hash.specs.declared.selecting.Placed.{Placed}
use Rattle.ob_hash.specs.Answers.{flat_of, flat_result, overflow_of}
use Rattle.ob_hash.specs.Bucketed.{bucket_waits, bucket_after, spread, AreBuckets, after_place, still_waits, buckets_of, unplaced_of}
use Rattle.ob_hash.specs.Hashing.{Layout, IsOpen, bucket_size, bucket_script, slot_script, block_script, table_script, select_script}

-- blocks of a result were read and written, and it has its buckets still, of rows or dummies,
-- whatever the store gave
pub record KeepsBuckets {T : Type 0} (l : Layout) (script : List Access)
    (result : Result T OpErr) (old new : World) : Type 0 where
  pub ran : PassRan script (one l.table.region) result old new
  pub seals : SealsTable l.pack l.table.schema l.table.region old new
  pub stays : OnOk result (IsOpen l new)
  pub rows : OnOk result (IsTrue old.store.tells
      → HoldsRows l.pack l.table old → HoldsRows l.pack l.table new)

-- a slot was shown to each block of a bucket: its row went to the first empty slot, if it waited,
-- and the answer is whether it waits still
pub record FillsBucket (l : Layout) (bucket : ℕ) (row : List ℕ) (waits : Bool)
    (result : Result Bool OpErr) (old new : World) : Type 0 where
  pub keeps : KeepsBuckets l (bucket_script l bucket) result old new
  pub never : IfErr result (λ e. (e ≡ Failed) ⊎ TamperedIn l.pack l.table e new)
  pub told : IsHonest old new → (slots : Slots) (own : Option Row)
      → HoldsSlots l.pack l.table slots old → Begins l.table.schema own row
      → MatchResult result
      (λ still. (still ≡ bucket_waits (bucket_size l) waits slots bucket)
      × HoldsSlots l.pack l.table (bucket_after (bucket_size l) waits own slots bucket) new)
      (λ e. e ≡ Failed)

-- slot i of a table was shown to both of its buckets, the first and then the second
pub record FillsBuckets (l : Layout) (i : ℕ) (row : List ℕ) (waits : Bool)
    (result : Result Bool OpErr) (old new : World) : Type 0 where
  pub keeps : KeepsBuckets l (slot_script l i) result old new
  pub never : IfErr result (λ e. (e ≡ Failed) ⊎ TamperedIn l.pack l.table e new)
  pub told : IsHonest old new → (slots : Slots) (buckets : Buckets)
      → AreBuckets l.k (bucket_size l) slots buckets
      → HoldsSlots l.pack l.table (spread (bucket_size l) slots buckets) old
      → Begins l.table.schema (slot_at slots i) row
      → (IsTrue waits → IsTrue (is_some (slot_at slots i)))
      → MatchResult result
      (λ still. (still ≡ still_waits l.k (bucket_size l) waits i buckets)
      × HoldsSlots l.pack l.table
      (spread (bucket_size l) slots (after_place l.k (bucket_size l) waits i buckets)) new)
      (λ e. e ≡ Failed)

-- the selected rows of the first m slots are in their buckets, and this is the first that found none
pub record HasPlaced (l : Layout) (p : RowTest) (slots : Slots) (m : ℕ)
    (overflow : Option ℕ) (w : World) : Type 0 where
  pub first : overflow ≡ unplaced_of l.k (bucket_size l) p slots m
  pub holds : HoldsSlots l.pack l.table
      (spread (bucket_size l) slots (buckets_of l.k (bucket_size l) p slots m)) w

-- each slot of block u below the capacity was shown to its buckets, in order
pub record PlacesRows (l : Layout) (flat : Flat) (p : RowTest) (u : ℕ) (rows : List (List ℕ))
    (before : Option ℕ) (result : Result (Option ℕ) OpErr) (old new : World) : Type 0 where
  pub keeps : KeepsBuckets l (block_script l flat u) result old new
  pub never : IfErr result (λ e. (e ≡ Failed) ⊎ TamperedIn l.pack l.table e new)
  pub told : IsHonest old new → (slots : Slots) → length slots ≡ flat.capacity
      → Spelt flat.schema (block_at l.pack (whole_blocks l.pack flat.capacity slots) u) rows
      → HasPlaced l p slots (u * l.pack) before old
      → MatchResult result
      (λ after. HasPlaced l p slots (u * l.pack + slots_in l.pack flat.capacity u) after new)
      (λ e. e ≡ Failed)

-- each block of a table was read, and its slots shown to their buckets, which were empty before: the
-- answer is the first slot whose row found none
pub record Hashes (l : Layout) (flat : Flat) (p : RowTest)
    (result : Result (Option ℕ) OpErr) (old new : World) : Type 0 where
  pub keeps : KeepsBuckets l (table_script l flat) result old new
  pub never : IfErr result (λ e. (e ≡ Failed)
      ⊎ TamperedIn l.pack flat e new ⊎ TamperedIn l.pack l.table e new)
  pub told : IsHonest old new → (slots : Slots) → Represents l.pack flat slots old
      → HoldsSlots l.pack l.table (spread (bucket_size l) slots (replicate l.k [])) old
      → MatchResult result
      (λ first. (first ≡ unplaced l.k (bucket_size l) (selected p slots))
      × HoldsSlots l.pack l.table (hash_slots l.k (bucket_size l) p slots) new)
      (λ e. e ≡ Failed)

-- and the buckets were made before, and filled with dummies
pub record Selects (l : Layout) (flat : Flat) (p : RowTest)
    (result : Result Placed OpErr) (old new : World) : Type 0 where
  pub ran : PassRan (select_script l flat) (one l.table.region) result old new
  pub never : IfErr result (λ e. (e ≡ Failed) ⊎ (e ≡ NoMemory)
      ⊎ TamperedIn l.pack flat e new ⊎ TamperedIn l.pack l.table e new)
  pub memory : NoMemoryBehind (make_script l.pack l.table) result old new
  pub makes : Makes Any l.pack l.table (flat_result result) old new
  pub size : OnOk result (FitsRegion l.pack l.table.schema l.table.capacity)
  pub rows : IfOk result (λ placed. IsTrue old.store.tells
      → HoldsRows l.pack (flat_of placed) new)
  pub source : IsFlat l.pack flat new
  pub told : IsHonest old new → (slots : Slots) → Represents l.pack flat slots old
      → MatchResult result
      (λ placed. (overflow_of placed ≡ unplaced l.k (bucket_size l) (selected p slots))
      × Represents l.pack (flat_of placed) (hash_slots l.k (bucket_size l) p slots) new)
      (λ e. (e ≡ Failed) ⊎ (e ≡ NoMemory))

-- A join: its sizes, what its calls ask, and what they do.
use Rattle.std.specs.Prelude.{◌≡◌, ◌≤◌, ◌<◌, ◌+◌, ◌++◌, ◌*◌, ◌⊎◌, ℕ, min, List, Result, None, OnOk, IfErr, MatchResult, length}
use Rattle.std.specs.Int.{div_ceil}
use Rattle.ob_base.specs.declared.access.Access.{Access}
use Rattle.ob_base.specs.Accesses.{make_at}
use Rattle.ob_base.specs.Limits.{buffered_blocks}
use Rattle.ob_base.specs.Lists.{each}
use Rattle.ob_base.specs.Schemas.{Columns, width}
use Rattle.ob_room.specs.RoomState.{RoomState}
use Rattle.ob_vault.specs.declared.region.Order.TheVariants.{Round}
use Rattle.ob_vault.specs.State.{World}
use Rattle.ob_vault.specs.Calls.{none, one}
use Rattle.ob_vault.specs.Rows.{Wide}
use Rattle.ob_script.specs.Parts.{read_from, pair_at, join_chunk, join_part}
use Rattle.ob_row.specs.Slots.{Slots}
use Rattle.ob_row.specs.Results.{joined_chunk}
use Rattle.ob_blocks.specs.Blocks.{block_at}
use Rattle.ob_flat.specs.declared.flat.Flat.{Flat}
use Rattle.ob_flat.specs.declared.fault.OpErr.{OpErr}
use Rattle.ob_flat.specs.declared.fault.OpErr.TheVariants.{Failed, NoMemory}
use Rattle.ob_flat.specs.Slots.{Spelt, AreSlots}
use Rattle.ob_flat.specs.Flats.{IsSized, IsMade, IsFlat, Represents}
use Rattle.ob_vault.specs.Words.{IsHonest, SealsAll}
use Rattle.ob_flat.specs.Words.{PassRan, TamperedIn, SealsTable, Makes, NoMemoryBehind, FitBlock, blocks_of}
use Rattle.ob_join.specs.declared.sides.Sides.{Sides}
use Rattle.ob_join.specs.Filling.{IsFilling, HoldsFirst, TurnsStay}
use Rattle.ob_join.specs.Joining.{blocks_from, joined_in}

-- two tables of `pack` slots a block, their columns that are equal, and how many left blocks may be
-- kept
pub record Join : Type 0 where
  pub pack : ℕ
  pub left : Flat
  pub lcol : ℕ
  pub right : Flat
  pub rcol : ℕ
  pub buffered : ℕ

abbrev pub join_of : ℕ → Sides → Join
join_of pack sides = record {
  pack = pack;
  left = sides.left.now;
  lcol = sides.lcol;
  right = sides.right.now;
  rcol = sides.rcol;
  buffered = sides.buffered;
}

-- a join in a room keeps as many as may be open beside two
abbrev pub join_in : RoomState → Flat → ℕ → Flat → ℕ → Join
join_in room left lcol right rcol = record {
  pack = room.pack;
  left = left;
  lcol = lcol;
  right = right;
  rcol = rcol;
  buffered = buffered_blocks room.pack room.rows;
}

-- the blocks of each table
abbrev pub lefts : Join → ℕ
lefts j = blocks_of j.pack j.left

abbrev pub rights : Join → ℕ
rights j = blocks_of j.pack j.right

-- how many left blocks are kept at once: no more than there are
abbrev pub kept_blocks : Join → ℕ
kept_blocks j = min j.buffered (lefts j)

-- how many rows are open: those of a right block and of one of the result, and the kept ones
abbrev pub open_rows : Join → ℕ
open_rows j = 2 * j.pack + kept_blocks j * j.pack

-- as many left blocks as may be kept are a chunk
abbrev pub chunks : Join → ℕ
chunks j = div_ceil (lefts j) j.buffered

-- the result has a block for each chunk and right block
abbrev pub blocks : Join → ℕ
blocks j = chunks j * rights j

abbrev pub slots : Join → ℕ
slots j = blocks j * j.pack

abbrev pub columns : Join → Columns
columns j = j.left.schema ++ j.right.schema

abbrev pub table : Join → ℕ → Flat
table j region = record { schema = columns j; capacity = slots j; region = region }

-- its slots
abbrev pub result_slots : Join → Slots → Slots → Slots
result_slots j left right =
    joined_in j.lcol j.rcol (j.pack * j.buffered) (chunks j) (rights j * j.pack) left right

-- what is asked of each chunk's right blocks, to fill a result, and for a whole join
abbrev pub pairs_script : Join → ℕ → ℕ → List Access
pairs_script j to chunk = each (rights j) (pair_at j.right.region to (rights j) chunk)

abbrev pub chunk_script : Join → ℕ → ℕ → List Access
chunk_script j to = join_chunk j.left.region j.right.region to (lefts j) (rights j) j.buffered

abbrev pub fill_script : Join → ℕ → List Access
fill_script j to = each (chunks j) (chunk_script j to)

abbrev pub make_script : Join → ℕ → List Access
make_script j to = make_at to (blocks j) (j.pack * width (columns j))

abbrev pub join_script : Join → ℕ → List Access
join_script j to =
    join_part j.left.region j.right.region to (lefts j) (rights j) j.buffered
    (j.pack * width (columns j))

-- how many accesses that fills
abbrev pub fill_length : Join → ℕ
fill_length j = lefts j + 2 * blocks j

-- both tables may be joined
pub record MayJoin (j : Join) (w : World) : Type 0 where
  pub left : IsFlat j.pack j.left w
  pub right : IsFlat j.pack j.right w
  pub left_size : IsSized j.left.schema j.left.capacity
  pub right_size : IsSized j.right.schema j.right.capacity
  pub sized : IsSized (columns j) (slots j)
  pub lcol : j.lcol < length j.left.schema
  pub rcol : j.rcol < length j.right.schema

-- the rows of a right block, and those of a block of the result
pub record AreBuffers (j : Join) (rows out : List (List ℕ)) : Type 0 where
  pub some : 1 ≤ j.pack
  pub most : j.pack ≤ 16
  pub rows_fit : FitBlock j.right.schema rows
  pub same : length out ≡ length rows
  pub out_fit : FitBlock (columns j) out

-- and those of a chunk
pub record AreKept (j : Join) (kept : List (List ℕ)) : Type 0 where
  pub some : 1 ≤ j.buffered
  pub space : length kept ≡ kept_blocks j * j.pack
  pub wide : Wide (width j.left.schema) kept

-- the rows of a chunk were read
pub record IsChunk (j : Join) (kept : List (List ℕ)) : Type 0 where
  pub wide : Wide (width j.left.schema) kept
  pub spells : AreSlots j.left.schema kept

-- a table may have the blocks of a join
pub record IsResult (j : Join) (to : Flat) : Type 0 where
  pub apart : j.right.region ≡ to.region → ⊥
  pub schema : to.schema ≡ columns j
  pub sized : IsSized to.schema to.capacity

-- a new table is the result's
pub record IsNew (j : Join) (to : Flat) (w : World) : Type 0 where
  pub same : to ≡ table j to.region
  pub made : IsMade j.pack to w
  pub left_apart : j.left.region ≡ to.region → ⊥
  pub right_apart : j.right.region ≡ to.region → ⊥

-- n blocks of a table were read, from place `first` on
pub record Collects {T : Type 0} (pack : ℕ) (flat : Flat) (first n : ℕ) (kept : List (List ℕ))
    (result : Result T OpErr) (old new : World) : Type 0 where
  pub ran : PassRan (each n (read_from flat.region first)) none result old new
  pub never : IfErr result (λ e. (e ≡ Failed) ⊎ TamperedIn pack flat e new)
  pub seals : SealsAll old new
  pub turns : OnOk result (TurnsStay old new)
  pub spells : OnOk result (AreSlots flat.schema kept)
  pub told : (slots : Slots) → Represents pack flat slots old → new.store.lie ≡ None
      → MatchResult result
      (λ _. Spelt flat.schema (blocks_from pack flat.capacity first n slots) kept) (λ e. e ≡ Failed)

-- the blocks of these slots from those of a chunk on are that chunk's
pub record HasChunk (j : Join) (chunk : ℕ) (left right all : Slots) : Type 0 where
  pub same : (v : ℕ) → v < rights j
      → block_at j.pack all (chunk * rights j + v)
      ≡ block_at j.pack (joined_chunk j.lcol j.rcol (rights j * j.pack) left right) v

-- each right block was read, and the next block of the result written
pub record PairsUp {T : Type 0} (j : Join) (kept : List (List ℕ)) (to : Flat) (chunk : ℕ)
    (result : Result T OpErr) (old new : World) : Type 0 where
  pub ran : PassRan (pairs_script j to.region chunk) (one to.region) result old new
  pub never : IfErr result (λ e. (e ≡ Failed) ⊎ TamperedIn j.pack j.right e new)
  pub seals : SealsTable j.pack to.schema to.region old new
  pub filling : OnOk result (IsFilling j.pack to (chunk * rights j + rights j) new)
  pub told : IsHonest old new → (left right all : Slots)
      → Spelt j.left.schema left kept → Represents j.pack j.right right old
      → MatchResult result
      (λ _. HasChunk j chunk left right all → HoldsFirst j.pack to all (chunk * rights j) old
      → HoldsFirst j.pack to all (chunk * rights j + rights j) new)
      (λ e. e ≡ Failed)

-- a new table was filled, chunk by chunk
pub record Fills {T : Type 0} (j : Join) (to : ℕ)
    (result : Result T OpErr) (old new : World) : Type 0 where
  pub ran : PassRan (fill_script j to) (one to) result old new
  pub never : IfErr result (λ e. (e ≡ Failed)
      ⊎ TamperedIn j.pack j.left e new ⊎ TamperedIn j.pack j.right e new)
  pub seals : SealsTable j.pack (columns j) to old new
  pub filled : OnOk result (IsFlat j.pack (table j to) new)
  pub told : IsHonest old new → (left right : Slots)
      → Represents j.pack j.left left old → Represents j.pack j.right right old
      → MatchResult result
      (λ _. Represents j.pack (table j to) (result_slots j left right) new) (λ e. e ≡ Failed)

-- and was made before
pub record Joins (j : Join) (result : Result Flat OpErr) (old new : World) : Type 0 where
  pub ran : PassRan (join_script j old.vault.next) (one old.vault.next) result old new
  pub never : IfErr result (λ e. (e ≡ Failed) ⊎ (e ≡ NoMemory)
      ⊎ TamperedIn j.pack j.left e new ⊎ TamperedIn j.pack j.right e new)
  pub memory : NoMemoryBehind (make_script j old.vault.next) result old new
  pub makes : Makes Round j.pack (table j old.vault.next) result old new
  pub left : IsFlat j.pack j.left new
  pub right : IsFlat j.pack j.right new

-- its slots are these of the slots of both tables
pub record TellsSlots (j : Join) (made : Slots → Slots → Slots)
    (result : Result Flat OpErr) (old new : World) : Type 0 where
  pub told : IsHonest old new → (left right : Slots)
      → Represents j.pack j.left left old → Represents j.pack j.right right old
      → MatchResult result
      (λ fresh. Represents j.pack fresh (made left right) new) (λ e. (e ≡ Failed) ⊎ (e ≡ NoMemory))

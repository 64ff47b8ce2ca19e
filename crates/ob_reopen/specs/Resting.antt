-- What rests in a store between runs: the tables in place that a closing lists.
use Rattle.std.specs.Prelude.{◌≡◌, ◌<◌, ◌⊎◌, ◌+◌, ◌*◌, ⊤, ℕ, Bool, false, IsTrue, List, [], ◌∷◌, Option, Some, fold, length, slice_get}
use Rattle.std.specs.Cmp.Lexicographic.{slice_cmp}
use Rattle.std.specs.List.{All, insert, prefix_len}
use Rattle.std.specs.Ordering.{is_lt, nat_cmp}
use Rattle.ob_base.specs.Schemas.{width}
use Rattle.ob_base.specs.Stored.{Stored}
use Rattle.ob_blocks.specs.Blocks.{block_at}
use Rattle.ob_flat.specs.Flats.{whole_blocks}
use Rattle.ob_flat.specs.Slots.{FitsSlot, block_bytes}
use Rattle.ob_mean.specs.Verdict.{Held, Tables}
use Rattle.ob_reopen.specs.Closings.{IsClosing, row_of}
use Rattle.ob_reopen.specs.Limits.{blocks_of}
use Rattle.ob_reopen.specs.declared.closing.Closing.{Closing}
use Rattle.ob_reopen.specs.declared.listed.Listed.{Listed}
use Rattle.ob_row.specs.Slots.{Slots}
use Rattle.ob_seal.specs.KeySet.{KeySet, pair_of}
use Rattle.ob_seal.specs.Sealed.{sealed}
use Rattle.ob_store.specs.State.{KeptRegion}
use Rattle.ob_vault.specs.Tied.{at_of}
use Rattle.ob_verdict.specs.Laws.{AreInPlace}

-- whether a table in place has a smaller name
abbrev pub is_before : Stored Held → Stored Held → Bool
is_before t u = is_lt (slice_cmp nat_cmp u.heading.name t.heading.name)

-- tables in place by their names, as a closing lists them
abbrev pub placed : Tables → Stored Held → Tables
placed tables t = insert tables (prefix_len (is_before t) tables) t

abbrev pub by_name : Tables → Tables
by_name tables = fold placed [] tables

-- the block of a table's slots at a place
abbrev pub kept_block : (pack : ℕ) → Listed → Slots → ℕ → List ℕ
kept_block pack t slots p =
    block_bytes t.table.heading.schema
    (block_at pack (whole_blocks pack t.table.heading.capacity slots) p)

-- the region of a table that is listed, with the salt of the run that made it, is kept, and its blocks are those of these
-- slots, each sealed for its place under the number of its last write
pub record KeepsTable (keys : KeySet) (pack : ℕ) (t : Listed) (slots : Slots)
    (kept : ℕ → Option KeptRegion) : Type 0 where
  pub size : length slots ≡ t.table.heading.capacity
  pub fits : All (FitsSlot t.table.heading.schema) slots
  pub salt : t.salt ≡ (pair_of keys t.table.region).salt
  pub region : KeptRegion
  pub is : kept t.table.region ≡ Some region
  pub blocks : region.shape.blocks ≡ blocks_of pack t
  pub len : region.shape.len ≡ pack * width t.table.heading.schema + 32
  pub whole : region.given_up ≡ false
  pub holds : (p : ℕ) → p < blocks_of pack t → region.last p
      ≡ Some (sealed keys (at_of t.table.region p (t.number + p)) (kept_block pack t slots p))

-- each table that is listed holds the slots of the table in place that stands beside it
abbrev pub AreKept : KeySet → (pack : ℕ) → List Listed → Tables → (ℕ → Option KeptRegion) → Type 0
AreKept keys pack [] [] kept = ⊤
AreKept keys pack [] (held ∷ tables) kept = ⊥
AreKept keys pack (t ∷ ts) [] kept = ⊥
AreKept keys pack (t ∷ ts) (held ∷ tables) kept =
    (held.heading ≡ t.table.heading) × KeepsTable keys pack t held.held.slots kept
    × AreKept keys pack ts tables kept

-- between runs these tables in place rest in a store: the closing lists them by their names, each region is kept, and
-- their primary keys are distinct; all are flat, so that they are in place whatever the slots of a stash are
pub record IsAtRest (keys : KeySet) (closing : Closing) (kept : ℕ → Option KeptRegion)
    (tables : Tables) : Type 0 where
  pub listed : List Listed
  pub closing_is : IsClosing keys closing listed kept
  pub held : AreKept keys closing.pack listed tables kept
  pub in_place : (stash : ℕ) → AreInPlace stash tables

-- a region that the mark of a closing needs: the closing's own, or that of a table that it lists
abbrev pub IsNeeded : Closing → List Listed → ℕ → Type 0
IsNeeded closing listed q = (q ≡ closing.region)
    ⊎ ((i : ℕ) × (t : Listed) × (slice_get listed i ≡ Some t) × (q ≡ t.table.region))

-- the rows of closings pass this test of a region's bytes
abbrev pub AcceptsClosings : (good : ℕ → List ℕ → Bool) → Type 0
AcceptsClosings good = (region : ℕ) (listed : List Listed) (p : ℕ) → p < length listed + 1
    → IsTrue (good region (row_of region listed p))

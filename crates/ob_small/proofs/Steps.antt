-- A Small selection block by block: from one step to the next, whatever is asked of other regions between them.
use Rattle.std.proofs.Common.{◌≡◌, ◌≤◌, ◌<◌, ◌+◌, ◌*◌, ℕ, Bool, IsTrue, List, None, Ok, length, take, drop, sym, ◌∙◌, ap, subst, refl, arith}
use Rattle.std.specs.Prelude.{Result}
use Rattle.ob_base.specs.Schemas.{Columns, width}
use Rattle.ob_store.proofs.Steps.{none_before}
use Rattle.ob_row.specs.Rows.{Row}
use Rattle.ob_row.specs.Slots.{Slots}
use Rattle.ob_row.specs.Spelling.{Begins}
use Rattle.ob_vault.specs.declared.region.Order.TheVariants.{Any}
use Rattle.ob_vault.specs.Rows.{row_at, Wide}
use Rattle.ob_vault.specs.State.{World}
use Rattle.ob_vault.specs.Tied.{Written}
use Rattle.ob_vault.specs.Calls.{Lasts, Only, none, one}
use Rattle.ob_vault.specs.Words.{IsHonest}
use Rattle.ob_vault.proofs.Runs.{own_lasts, lives_lasts, written_lasts as place_lasts, holds_lasts, own_only, lives_only, written_only, holds_only, turn_any}
use Rattle.ob_flat.specs.declared.flat.Flat.{Flat}
use Rattle.ob_flat.specs.declared.fault.OpErr.{OpErr}
use Rattle.ob_flat.specs.Slots.{AreSlots}
use Rattle.ob_flat.specs.Creates.{MakesTable}
use Rattle.ob_flat.specs.Flats.{IsFlat, HoldsBlock, HoldsRows, Represents, table_region, whole_blocks}
use Rattle.ob_flat.specs.Scans.{MayScan}
use Rattle.ob_flat.specs.Words.{IsTable, blocks_of}
use Rattle.ob_flat.proofs.Rows.{slots_of}
use Rattle.ob_flat.proofs.Scanning.{may_scan_lasts}
use Rattle.ob_flat.proofs.Tables.{blocks_hold, block_lasts, block_only, fits_sized, represents_before, written_flat}
use Rattle.ob_small.specs.Keeping.{AreKept, chosen, fitted}
use Rattle.ob_small.specs.Selection.{Selection, IsNext, Extends, HoldsChosen, blocks, results, table, result_slots}
use Rattle.ob_small.specs.Steps.{AreSeen, CollectsBlock, HasCollected, IsBlock, IsFilledTo, IsUnordered, MayWrite, WritesBlock, chosen_in}
use Rattle.ob_small.proofs.Choosing.{chosen_first, chosen_block, chosen_whole, filter-small}
use Rattle.ob_small.proofs.Kept.{keeps_none}
use Rattle.ob_small.proofs.Lengths.{pass_next}
use Rattle.ob_small.proofs.Places.{next_turned, extends_one}
use Rattle.ob_small.proofs.Windows.{part_long, part_wide, part_slots, keeps_part, represents_fitted}

-- an honest run was so before its last calls
module _ (some : ℕ → Type 0) (w v : World) (lasts : Lasts some w v) where
  tells_before : IsTrue v.store.tells → IsTrue w.store.tells
  tells_before tells = subst (λ (t : Bool). IsTrue t) lasts.later.tells tells

  honest_back : IsHonest v v → IsHonest w w
  honest_back honest = record { tells = tells_before honest.tells; nolie = none_before _ _ lasts.later honest.nolie }

-- a table may be read block by block
pub may_scan : (pack : ℕ) (flat : Flat) (w : World) → IsTable pack flat w → MayScan pack flat w
may_scan pack flat w is = record { some = is.some; most = is.most; size = fits_sized pack flat.schema flat.capacity is.some is.size; written = written_flat pack flat w is.written }

-- ---- a pass over a table
module _ (pack : ℕ) (flat : Flat) (p : Row → Bool) (from k : ℕ) where
  -- before its first block all rows are dummies
  pub collected_none : (rows : List (List ℕ)) (w : World) → MayScan pack flat w → ((i : ℕ) → i < length rows → Begins flat.schema None (row_at rows i))
      → HasCollected pack flat p 0 0 from k rows w
  collected_none rows w may empty = record {
    table = may;
    within = omega arith;
    few = omega arith;
    spells = slots_of flat.schema rows (λ i below. (None, empty i below));
    told = λ slots held nolie.
        let none = chosen_first p pack (whole_blocks pack flat.capacity slots) in
        record {
          count = ap (λ (l : Slots). length l) (sym none);
          kept = subst (λ (l : Slots). AreKept flat.schema l from k rows) (sym none) (keeps_none flat.schema from k rows empty);
        };
  }

  -- one block more
  pub collected_next : (u seen n : ℕ) (rows after : List (List ℕ)) (w v : World) → u < blocks_of pack flat → CollectsBlock pack flat p u seen from k rows after (Ok n) w v
      → HasCollected pack flat p u seen from k rows w → HasCollected pack flat p (u + 1) n from k after v
  collected_next u seen n rows after w v below block is =
      let lasts = block.ran.ok.lasts in
      record {
        table = may_scan_lasts pack flat none w v lasts (λ s. s) is.table;
        within = omega (arith, below);
        few = omega (arith, block.most, is.few, pass_next u pack);
        spells = block.spells is.spells;
        told = λ slots held nolie.
            let was = represents_before pack flat none w v lasts (λ s. s) slots held in
            let seen = is.told slots was (none_before _ _ lasts.later nolie) in
            subst (λ (l : Slots). AreSeen flat.schema l n from k after) (chosen_block p pack (whole_blocks pack flat.capacity slots) u)
            (block.told slots was nolie (chosen_in pack flat p slots u) seen);
      }

  -- calls for other regions
  pub collected_lasts : (u seen : ℕ) (rows : List (List ℕ)) (some : ℕ → Type 0) (w v : World) → Lasts some w v → (some flat.region → ⊥)
      → HasCollected pack flat p u seen from k rows w → HasCollected pack flat p u seen from k rows v
  collected_lasts u seen rows some w v lasts off is = record {
    table = may_scan_lasts pack flat some w v lasts off is.table;
    within = is.within;
    few = is.few;
    spells = is.spells;
    told = λ slots held nolie. is.told slots (represents_before pack flat some w v lasts off slots held) (none_before _ _ lasts.later nolie);
  }

  -- all blocks
  pub collected_whole : (u seen : ℕ) (rows : List (List ℕ)) (w : World) → u ≡ blocks_of pack flat → HasCollected pack flat p u seen from k rows w
      → (slots : Slots) → Represents pack flat slots w → w.store.lie ≡ None → AreSeen flat.schema (chosen p slots) seen from k rows
  collected_whole u seen rows w last is slots held nolie =
      let whole : chosen_in pack flat p slots u ≡ chosen p slots =
      ap (λ (n : ℕ). chosen_in pack flat p slots n) last
      ∙ chosen_whole p (blocks_of pack flat * pack) slots (omega (arith, held.size, blocks_hold pack flat.capacity is.table.some)) in
      subst (λ (l : Slots). AreSeen flat.schema l seen from k rows) whole (is.told slots held nolie)

-- ---- a region in no order
module _ (pack : ℕ) (to : Flat) where
  pub unordered_made : (g : ℕ) (w v : World) → MakesTable Any pack to (Ok g) w v → IsUnordered pack to v
  unordered_made g w v makes = record { own = makes.made.own; lives = makes.lives }

  pub unordered_lasts : (some : ℕ → Type 0) (w v : World) → Lasts some w v → (some to.region → ⊥) → IsUnordered pack to w → IsUnordered pack to v
  unordered_lasts some w v lasts off is = record {
    own = own_lasts some w v lasts to.region is.own;
    lives = lives_lasts some w v lasts to.region (table_region Any pack to.schema to.capacity) off is.lives;
  }

  pub unordered_put : (place : ℕ) (w v : World) → Only to.region place w v → IsUnordered pack to w → IsUnordered pack to v
  unordered_put place w v only is = record {
    own = own_only to.region place w v only to.region is.own;
    lives = lives_only to.region place w v only to.region (table_region Any pack to.schema to.capacity) is.lives;
  }

  pub may_write : (place : ℕ) (w : World) → place < blocks_of pack to → IsUnordered pack to w → MayWrite pack to place w
  may_write place w below is = record { own = is.own; order = Any; lives = is.lives; within = below; turn = turn_any to.region _ place w refl }

  pub unordered_flat : (w : World) → IsUnordered pack to w → ((p : ℕ) → p < blocks_of pack to → Written to.region p w) → IsFlat pack to w
  unordered_flat w is written = record { made = record { order = Any; lives = is.lives; turn = turn_any to.region _ 0 w refl }; written = written }

-- ---- a block that is written
-- in turn
pub next_write : (pack : ℕ) (to : Flat) (n : ℕ) (w : World) → IsNext pack to n w → n < blocks_of pack to → MayWrite pack to n w
next_write pack to n w is below = record { own = is.own; order = is.order; lives = is.lives; within = below; turn = next_turned pack to n w is below }

-- a part of the kept rows, as many as a block has
pub part_block : (columns : Columns) (r x m : ℕ) (rows : List (List ℕ)) → m ≡ r → 1 ≤ r → x * r + r ≤ length rows → Wide (width columns) rows → AreSlots columns rows
    → IsBlock columns (take m (drop (x * r) rows))
part_block columns r x m rows same some inside wide spells = subst (λ (n : ℕ). IsBlock columns (take n (drop (x * r) rows))) (sym same) (record {
  some = omega (arith, some, part_long r x rows inside);
  wide = part_wide r x (width columns) rows inside wide;
  spells = part_slots columns r x rows inside spells;
})

pub written_as : {T : Type 0} {result : Result T OpErr} {a b : World} (pack : ℕ) (to : Flat) (place x m : ℕ) (rows : List (List ℕ)) → m ≡ pack → x * pack + pack ≤ length rows
    → WritesBlock (length (take m (drop (x * pack) rows))) to place (take m (drop (x * pack) rows)) result a b → WritesBlock pack to place (take pack (drop (x * pack) rows)) result a b
written_as {result = result} {a} {b} pack to place x m rows same inside is =
    let block = subst (λ (n : ℕ). WritesBlock (length (take n (drop (x * pack) rows))) to place (take n (drop (x * pack) rows)) result a b) same is in
    subst (λ (n : ℕ). WritesBlock n to place (take pack (drop (x * pack) rows)) result a b) (part_long pack x rows inside) block

-- and was
elsewhere : (p n : ℕ) → p < n → p ≡ n → ⊥
elsewhere p n less same = omega (arith, less, same)

module _ {T : Type 0} (pack : ℕ) (to : Flat) (place : ℕ) (block : List (List ℕ)) (t : T) (a b : World) (is : WritesBlock pack to place block (Ok t) a b) where
  pub put_written : Extends (Written to.region) place 1 a b
  put_written = extends_one (Written to.region) place a b (λ p less. written_only _ _ _ _ is.only to.region p (λ _ there. elsewhere p place less there)) is.written

  pub put_rows : IsTrue a.store.tells → Extends (HoldsBlock pack to.schema to.region) place 1 a b
  put_rows tells = extends_one (HoldsBlock pack to.schema to.region) place a b
      (λ p less. block_only pack to.schema _ _ to.region place to.region p is.only (λ _ there. elsewhere p place less there)) (is.rows tells)

  pub put_told : IsTrue a.store.tells → (slots : Slots) → AreKept to.schema slots (place * pack) to.capacity block → Extends (HoldsChosen pack to slots) place 1 a b
  put_told tells slots keeps = extends_one (HoldsChosen pack to slots) place a b
      (λ p less. holds_only _ _ _ _ is.only to.region p _ (λ _ there. elsewhere p place less there)) (is.told tells slots keeps)

-- ---- the result so far
module _ (s : Selection) (to : Flat) where
  -- nothing is written
  pub filled_none : (w : World) → IsFilledTo s to 0 w
  filled_none w = record {
    written = λ p less. absurd (omega (arith, less));
    rows = λ tells p less. absurd (omega (arith, less));
    told = λ honest slots held p less. absurd (omega (arith, less));
  }

  pub filled_at : {x y : ℕ} {w : World} → x ≡ y → IsFilledTo s to x w → IsFilledTo s to y w
  filled_at {w = w} same is = subst (λ (n : ℕ). IsFilledTo s to n w) same is

  -- calls for other regions
  pub filled_lasts : (x : ℕ) (some : ℕ → Type 0) (w v : World) → Lasts some w v → (some s.flat.region → ⊥) → (some to.region → ⊥) → IsFilledTo s to x w → IsFilledTo s to x v
  filled_lasts x some w v lasts off other is = record {
    written = λ p less. place_lasts some w v lasts to.region p other (is.written p less);
    rows = λ tells p less. block_lasts s.pack to.schema some w v to.region p lasts other (is.rows (tells_before some w v lasts tells) p less);
    told = λ honest slots held p less.
        holds_lasts some w v lasts to.region p _ other (is.told (honest_back some w v lasts honest) slots (represents_before s.pack s.flat some w v lasts off slots held) p less);
  }

  -- n blocks more
  pub filled_more : (first n : ℕ) (w v : World) → Lasts (one to.region) w v → (s.flat.region ≡ to.region → ⊥) → Extends (Written to.region) first n w v
      → (IsTrue w.store.tells → Extends (HoldsBlock s.pack to.schema to.region) first n w v)
      → (IsHonest w w → (slots : Slots) → Represents s.pack s.flat slots w → Extends (HoldsChosen s.pack to (chosen s.p slots)) first n w v)
      → IsFilledTo s to first w → IsFilledTo s to (first + n) v
  filled_more first n w v lasts off written rows told is = record {
    written = λ p less. written.each p less (λ old. is.written p old);
    rows = λ tells p less. let now = tells_before (one to.region) w v lasts tells in (rows now).each p less (λ old. is.rows now p old);
    told = λ honest slots held p less.
        let now = honest_back (one to.region) w v lasts honest in
        let was = represents_before s.pack s.flat (one to.region) w v lasts off slots held in
        (told now slots was).each p less (λ old. is.told now slots was p old);
  }

  -- block x of the rows that a pass over the whole table has kept from block `first` on
  pub filled_next : {T : Type 0} (first x seen : ℕ) (rows : List (List ℕ)) (t : T) (w v : World) → to ≡ table s to.region → (s.flat.region ≡ to.region → ⊥) → x * s.pack + s.pack ≤ length rows
      → HasCollected s.pack s.flat s.p (blocks s) seen (first * s.pack) s.k rows w → WritesBlock s.pack to (first + x) (take s.pack (drop (x * s.pack) rows)) (Ok t) w v
      → IsFilledTo s to (first + x) w → IsFilledTo s to (first + x + 1) v
  filled_next first x seen rows t w v same off inside collected writes is =
      let block = take s.pack (drop (x * s.pack) rows) in
      filled_more (first + x) 1 w v writes.ran.ok.lasts off (put_written s.pack to (first + x) block t w v writes) (put_rows s.pack to (first + x) block t w v writes) (λ honest slots held.
      let kept = (collected_whole s.pack s.flat s.p (first * s.pack) s.k (blocks s) seen rows w refl collected slots held honest.nolie).kept in
      let keeps = subst (λ (f : Flat). AreKept f.schema (chosen s.p slots) (first * s.pack) f.capacity rows) (sym same) kept in
      put_told s.pack to (first + x) block t w v writes honest.tells (chosen s.p slots) (keeps_part to.schema s.pack to.capacity first x (chosen s.p slots) rows inside keeps)) is

  -- all blocks
  module _ (x : ℕ) (w : World) (all : x ≡ results s) (same : to ≡ table s to.region) (is : IsFilledTo s to x w) where
    here : IsFilledTo s (table s to.region) x w
    here = subst (λ (f : Flat). IsFilledTo s f x w) same is

    pub filled_flat : IsUnordered s.pack to w → IsFlat s.pack (table s to.region) w
    filled_flat unordered = unordered_flat s.pack (table s to.region) w (subst (λ (f : Flat). IsUnordered s.pack f w) same unordered) (λ p below. here.written p (omega (arith, below, all)))

    pub filled_rows : IsTrue w.store.tells → HoldsRows s.pack (table s to.region) w
    filled_rows tells = record { each = λ p below. here.rows tells p (omega (arith, below, all)) }

    pub filled_whole : IsHonest w w → (slots : Slots) → Represents s.pack s.flat slots w → Represents s.pack (table s to.region) (result_slots s slots) w
    filled_whole honest slots held =
        subst (λ (l : Slots). Represents s.pack (table s to.region) (fitted s.k l) w) (filter-small s.p slots)
        (represents_fitted s.pack (table s to.region) s.p slots w held.fits (λ p below. here.told honest slots held p (omega (arith, below, all))))

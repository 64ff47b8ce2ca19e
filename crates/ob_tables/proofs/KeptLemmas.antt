-- What a store keeps of the tables that a closing lists, and what an engine holds once they are open.
use Rattle.ob_tables.proofs.Words.{AcceptsClosings, ap, AreHeld, AreKept, arith, blocks_for, Bool, Closing, flat_of, Held, HoldsTable, Indexed, IsBounded, IsClosing, IsReopened, IsTrue, KeptRegion, KeySet, length, List, Listed, map, Option, refl, slice_get, Slots, Some, Stored, subst, suc, sym, Tables, World, zero, ℕ, [], ◌*◌, ◌+◌, ◌<◌, ◌∙◌, ◌∷◌, ◌≡◌, ◌≤◌}
use Rattle.ob_blocks.specs.Blocks.{block_at}
use Rattle.ob_blocks.proofs.Blocks.{all_block, all_up_to, length-block, length-up_to}
use Rattle.ob_flat.specs.Flats.{Represents as FlatRepresents, whole_blocks}
use Rattle.ob_flat.specs.Slots.{FitsSlot}
use Rattle.ob_flat.proofs.Tables.{blocks_hold}
use Rattle.ob_seal.specs.Sealed.{sealed}
use Rattle.ob_vault.specs.Resuming.{KeptSealed}
use Rattle.ob_vault.specs.Tied.{at_of}
use Rattle.ob_reopen.specs.Limits.{blocks_of}
use Rattle.ob_reopen.specs.Closings.{row_of}
use Rattle.ob_reopen.specs.Resting.{KeepsTable, kept_block}
use Rattle.ob_select.specs.Selecting.{AcceptsRows}
use Rattle.ob_base.specs.declared.schema.Shape.{Shape as TableShape}
use Rattle.ob_base.specs.declared.schema.Shape.TheVariants.{Flat as FlatShape}
use Rattle.ob_base.specs.declared.schema.Table.{Table}
use Rattle.ob_tables.proofs.TableLemmas.{no_entry}

-- ---- the tables
-- the slots of a table that is open again are those that were kept
slots_open : (keys : KeySet) (pack : ℕ) (t : Listed) (slots : Slots) (kept : ℕ → Option KeptRegion) (mid w : World) → KeepsTable keys pack t slots kept → IsReopened pack t mid w
    → IsTrue mid.store.tells → mid.store.kept t.table.region ≡ kept t.table.region → w.vault.keys ≡ keys → FlatRepresents pack (flat_of t.table) slots w
slots_open keys pack t slots kept mid w keeps opened tells same keyed = record {
  size = keeps.size;
  fits = keeps.fits;
  holds = λ p below. record {
    last = opened.last keeps.region tells (same ∙ keeps.is) p
        ∙ keeps.holds p below
        ∙ (λ i. Some (sealed (sym keyed i) (at_of t.table.region p (sym (opened.numbers p below) i)) (kept_block pack t slots p)));
  };
}

-- no index is there
holds_none : (shape : TableShape) (pack : ℕ) (t : Table) (x : Stored Held) (w : World) → FlatRepresents pack (flat_of t) x.held.slots w → HoldsTable shape pack [] t x w
holds_none FlatShape pack t x w is = is
holds_none Indexed pack t x w is = λ k i get tree. absurd (no_entry [] k i refl get)

pub held_open : (keys : KeySet) (pack : ℕ) (listed : List Listed) (tables : Tables) (kept : ℕ → Option KeptRegion) (mid w : World) → AreKept keys pack listed tables kept
    → ((i : ℕ) (t : Listed) → slice_get listed i ≡ Some t → IsReopened pack t mid w) → IsTrue mid.store.tells
    → ((i : ℕ) (t : Listed) → slice_get listed i ≡ Some t → mid.store.kept t.table.region ≡ kept t.table.region) → w.vault.keys ≡ keys
    → AreHeld pack [] (map (λ (t : Listed). t.table) listed) tables w
held_open keys pack [] [] kept mid w are opened tells same keyed = tt
held_open keys pack [] (x ∷ xs) kept mid w are opened tells same keyed = absurd are
held_open keys pack (t ∷ ts) [] kept mid w are opened tells same keyed = absurd are
held_open keys pack (t ∷ ts) (x ∷ xs) kept mid w are opened tells same keyed = (
  are.0,
  holds_none t.table.heading.shape pack t.table x w (slots_open keys pack t x.held.slots kept mid w are.1 (opened 0 t refl) tells (same 0 t refl) keyed),
  held_open keys pack ts xs kept mid w are.2 (λ i u is. opened (suc i) u is) tells (λ i u is. same (suc i) u is) keyed,
)

-- one of them, by its place
record KeptAt (keys : KeySet) (pack : ℕ) (t : Listed) (kept : ℕ → Option KeptRegion) : Type 0 where
  slots : Slots
  keeps : KeepsTable keys pack t slots kept

kept_at : (keys : KeySet) (pack : ℕ) (listed : List Listed) (tables : Tables) (kept : ℕ → Option KeptRegion) → AreKept keys pack listed tables kept
    → (i : ℕ) (t : Listed) → slice_get listed i ≡ Some t → KeptAt keys pack t kept
kept_at keys pack [] [] kept are zero t is = absurd (cc is)
kept_at keys pack [] [] kept are (suc i) t is = absurd (cc is)
kept_at keys pack [] (x ∷ xs) kept are i t is = absurd are
kept_at keys pack (u ∷ us) [] kept are i t is = absurd are
kept_at keys pack (u ∷ us) (x ∷ xs) kept are zero t is = let same : u ≡ t = cc is in subst (λ (v : Listed). KeptAt keys pack v kept) same (record { slots = x.held.slots; keeps = are.1 })
kept_at keys pack (u ∷ us) (x ∷ xs) kept are (suc i) t is = kept_at keys pack us xs kept are.2 i t is

-- ---- nothing lies in clear
block_full : (pack capacity p : ℕ) (slots : Slots) → 1 ≤ pack → length slots ≡ capacity → p < blocks_for pack capacity → length (block_at pack (whole_blocks pack capacity slots) p) ≡ pack
block_full pack capacity p slots some size below =
    length-block pack (whole_blocks pack capacity slots) p (blocks_for pack capacity) below
    (length-up_to (blocks_for pack capacity * pack) slots (omega (arith, size, blocks_hold pack capacity some)))

module _ (good : ℕ → List ℕ → Bool) (keys : KeySet) (kept : ℕ → Option KeptRegion)
    (bounded : (q : ℕ) (region : KeptRegion) → kept q ≡ Some region → IsBounded region) (w : World) (keyed : w.vault.keys ≡ keys) where
  -- a closing
  pub closing_sealed : AcceptsClosings good → (closing : Closing) (listed : List Listed) → IsClosing keys closing listed kept → w.store.kept closing.region ≡ kept closing.region
      → KeptSealed good closing.region closing.number w
  closing_sealed accepts closing listed is same = record {
    kept = is.rows.region;
    is = same ∙ is.rows.is;
    all = λ x block last.
        let within = (bounded closing.region is.rows.region is.rows.is).below x block last in
        let blocks = is.rows.blocks in
        let count = is.catalogue.count in
        let below : x < closing.blocks = omega (arith, within, blocks) in
        let here : block ≡ sealed keys (at_of closing.region x (closing.number + x)) (row_of closing.region listed x) = cc (last, is.rows.holds x below) in
        record {
          rows = row_of closing.region listed x;
          is = here ∙ ap (λ (k : KeySet). sealed k (at_of closing.region x (closing.number + x)) (row_of closing.region listed x)) (sym keyed);
          fine = accepts closing.region listed x (omega (arith, below, count));
        };
  }

  -- a table
  table_sealed : (pack : ℕ) → 1 ≤ pack → AcceptsRows good pack → (t : Listed) (slots : Slots) → KeepsTable keys pack t slots kept → w.store.kept t.table.region ≡ kept t.table.region
      → KeptSealed good t.table.region t.number w
  table_sealed pack some accepts t slots keeps same = record {
    kept = keeps.region;
    is = same ∙ keeps.is;
    all = λ x block last.
        let within = (bounded t.table.region keeps.region keeps.is).below x block last in
        let blocks = keeps.blocks in
        let below : x < blocks_of pack t = omega (arith, within, blocks) in
        let here : block ≡ sealed keys (at_of t.table.region x (t.number + x)) (kept_block pack t slots x) = cc (last, keeps.holds x below) in
        record {
          rows = kept_block pack t slots x;
          is = here ∙ ap (λ (k : KeySet). sealed k (at_of t.table.region x (t.number + x)) (kept_block pack t slots x)) (sym keyed);
          fine = (accepts t.table.heading.schema t.table.region).accepts
              (block_at pack (whole_blocks pack t.table.heading.capacity slots) x)
              (block_full pack t.table.heading.capacity x slots some keeps.size below)
              (all_block (FitsSlot t.table.heading.schema) pack (whole_blocks pack t.table.heading.capacity slots) x
              (all_up_to (FitsSlot t.table.heading.schema) (blocks_for pack t.table.heading.capacity * pack) slots tt keeps.fits));
        };
  }

  pub tables_sealed : (pack : ℕ) → 1 ≤ pack → AcceptsRows good pack → (listed : List Listed) (tables : Tables) → AreKept keys pack listed tables kept
      → ((i : ℕ) (t : Listed) → slice_get listed i ≡ Some t → w.store.kept t.table.region ≡ kept t.table.region)
      → (i : ℕ) (t : Listed) → slice_get listed i ≡ Some t → KeptSealed good t.table.region t.number w
  tables_sealed pack some accepts listed tables are same i t is =
      let here = kept_at keys pack listed tables kept are i t is in
      table_sealed pack some accepts t here.slots here.keeps (same i t is)

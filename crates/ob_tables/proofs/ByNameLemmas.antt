-- Tables in place beside those that a closing lists, both in order of their names.
use Rattle.ob_tables.proofs.Words.{ap, AreFlat, AreHeld, AreInPlace, AreKept, catalogue_of, flat_of, Heading, headings, headings_of, Held, HoldsTable, Index, IsTable, KeepsLive, KeptRegion, KeySet, List, Listed, map, Option, Ready, refl, RevState, Round, slice_get, Slots, Some, Stored, StoreState, subst, suc, sym, table_region, Tables, World, zero, ℕ, [], ◌+◌, ◌∙◌, ◌∷◌, ◌≡◌, ◌≤◌}
use Rattle.std.specs.Prelude.{fold}
use Rattle.std.specs.List.{insert, prefix_len}
use Rattle.ob_base.specs.declared.schema.Table.{Table}
use Rattle.ob_flat.specs.Flats.{Represents as FlatRepresents}
use Rattle.ob_seal.specs.Sealed.{sealed}
use Rattle.ob_store.specs.State.{Shape}
use Rattle.ob_vault.specs.Tied.{at_of}
use Rattle.ob_reopen.specs.Writings.{listed_of}
use Rattle.ob_reopen.proofs.InStep.{Beside, fold_beside}
use Rattle.ob_reopen.specs.Resting.{KeepsTable, by_name, is_before, kept_block, placed}
use Rattle.ob_base.specs.declared.schema.Shape.{Shape as TableShape}
use Rattle.ob_base.specs.declared.schema.Shape.TheVariants.{Flat as FlatShape}
use Rattle.ob_tables.proofs.ListedLemmas.{table_numbers}
use Rattle.ob_verdict.proofs.AccessedProof.{flat_slots}
use Rattle.ob_verdict.specs.Laws.{IsInPlace}

-- ---- each in its place
placed_in : (stash : ℕ) (tables : Tables) (n : ℕ) (t : Stored Held) → IsInPlace stash t → AreInPlace stash tables → AreInPlace stash (insert tables n t)
placed_in stash [] zero t is are = (is, tt)
placed_in stash [] (suc n) t is are = (is, tt)
placed_in stash (u ∷ us) zero t is are = (is, are)
placed_in stash (u ∷ us) (suc n) t is are = (are.0, placed_in stash us n t is are.1)

folded_in : (stash : ℕ) (tables more : Tables) → AreInPlace stash tables → AreInPlace stash more → AreInPlace stash (fold placed tables more)
folded_in stash tables [] are fine = are
folded_in stash tables (t ∷ ts) are fine = folded_in stash (placed tables t) ts (placed_in stash tables (prefix_len (is_before t) tables) t fine.0 are) fine.1

-- flat tables are in place whatever the slots of a stash are
any_stash : (stash other : ℕ) (tables : Tables) → AreFlat (headings tables) → AreInPlace stash tables → AreInPlace other tables
any_stash stash other [] flat are = tt
any_stash stash other (t ∷ ts) flat are = (
  record {
    slots = are.0.slots ∙ flat_slots stash t.heading flat.0 ∙ sym (flat_slots other t.heading flat.0);
    keys = are.0.keys;
    named = are.0.named;
    shaped = are.0.shaped;
  },
  any_stash stash other ts flat.1 are.1,
)

pub named_in : (stash other : ℕ) (tables : Tables) → AreFlat (headings tables) → AreInPlace stash tables → AreInPlace other (by_name tables)
named_in stash other tables flat are = folded_in other [] tables tt (any_stash stash other tables flat are)

-- ---- one beside the other
pub record KeepsBeside (keys : KeySet) (pack : ℕ) (kept : ℕ → Option KeptRegion) (t : Listed) (x : Stored Held) : Type 0 where
  pub heading : x.heading ≡ t.table.heading
  pub keeps : KeepsTable keys pack t x.held.slots kept

kept_beside : (keys : KeySet) (pack : ℕ) (kept : ℕ → Option KeptRegion) (listed : List Listed) (tables : Tables) → Beside (KeepsBeside keys pack kept) listed tables → AreKept keys pack listed tables kept
kept_beside keys pack kept [] [] all = tt
kept_beside keys pack kept [] (x ∷ xs) all = absurd all
kept_beside keys pack kept (t ∷ ts) [] all = absurd all
kept_beside keys pack kept (t ∷ ts) (x ∷ xs) all = (all.0.heading, all.0.keeps, kept_beside keys pack kept ts xs all.1)

-- what holds of each table beside the one in place
listed_beside : (R : Listed → Stored Held → Type 0) (keys : KeySet) (revs : RevState) (pack : ℕ) (w : World) (indexes : List Index) (ts : List Table) (tables : Tables) → AreFlat (headings_of ts) → AreHeld pack indexes ts tables w
    → ((i : ℕ) (t : Table) (x : Stored Held) → slice_get ts i ≡ Some t → x.heading ≡ t.heading → FlatRepresents pack (flat_of t) x.held.slots w → R (listed_of keys revs t) x)
    → Beside R (map (listed_of keys revs) ts) tables
listed_beside R keys revs pack w indexes [] [] flat held each = tt
listed_beside R keys revs pack w indexes [] (x ∷ xs) flat held each = absurd held
listed_beside R keys revs pack w indexes (t ∷ ts) [] flat held each = absurd held
listed_beside R keys revs pack w indexes (t ∷ ts) (x ∷ xs) flat held each = (
  each 0 t x refl held.0 (subst (λ (shape : TableShape). HoldsTable shape pack indexes t x w) flat.0 held.1),
  listed_beside R keys revs pack w indexes ts xs flat.1 held.2 (λ i u y is. each (suc i) u y is),
)

-- the tables in order of their names are kept, if each is
pub named_kept : (keys : KeySet) (pack : ℕ) (kept : ℕ → Option KeptRegion) (revs : RevState) (w : World) (indexes : List Index) (ts : List Table) (tables : Tables) → AreFlat (headings_of ts) → AreHeld pack indexes ts tables w
    → ((i : ℕ) (t : Table) (x : Stored Held) → slice_get ts i ≡ Some t → x.heading ≡ t.heading → FlatRepresents pack (flat_of t) x.held.slots w → KeepsBeside keys pack kept (listed_of keys revs t) x)
    → AreKept keys pack (catalogue_of keys revs ts) (by_name tables) kept
named_kept keys pack kept revs w indexes ts tables flat held each =
    kept_beside keys pack kept (catalogue_of keys revs ts) (by_name tables)
    (fold_beside (KeepsBeside keys pack kept) (λ (t : Listed). t.table.heading.name) (λ (x : Stored Held). x.heading.name)
    (λ t x beside. ap (λ (h : Heading). h.name) (sym beside.heading)) [] (map (listed_of keys revs) ts) [] tables tt
    (listed_beside (KeepsBeside keys pack kept) keys revs pack w indexes ts tables flat held each))

-- ---- a table of which the store keeps each block
pub table_kept_as : (keys : KeySet) (pack : ℕ) (revs : RevState) (t : Table) (slots : Slots) (w : World) (s : StoreState) → s ≡ w.store → 1 ≤ pack → Ready w → IsTable pack t w → t.heading.shape ≡ FlatShape
    → FlatRepresents pack (flat_of t) slots w → w.vault.keys ≡ keys → w.vault.revs.number t.region 0 ≡ revs.number t.region 0
    → ((shape : Shape) → s.live t.region ≡ Some shape → KeepsLive t.region shape s) → KeepsTable keys pack (listed_of keys revs t) slots s.kept
table_kept_as keys pack revs t slots w s same some ready is flat represents keyed number keeps =
    let live = (ready.tied.live t.region (table_region Round pack t.heading.schema t.heading.capacity) (is.written flat).round.live).live in
    let kept = keeps _ (ap (λ (x : StoreState). x.live t.region) same ∙ live) in
    record {
      size = represents.size;
      fits = represents.fits;
      salt = refl;
      region = kept.region;
      is = kept.is;
      blocks = ap (λ (x : Shape). x.blocks) kept.same;
      len = ap (λ (x : Shape). x.len) kept.same;
      whole = kept.whole;
      holds = λ p below.
          let count : w.vault.revs.number t.region p ≡ revs.number t.region 0 + p =
          table_numbers pack some w ready t is flat p below ∙ ap (λ (k : ℕ). k + p) number in
          kept.last p
          ∙ ap (λ (x : StoreState). x.last t.region p) same
          ∙ (represents.holds p below).last
          ∙ (λ i. Some (sealed (keyed i) (at_of t.region p (count i)) (kept_block pack (listed_of keys revs t) slots p)));
    }

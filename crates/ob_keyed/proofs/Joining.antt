-- An access of an index in a store, as the one that the meaning has.
use Rattle.std.proofs.Common.{◌≡◌, ◌⊎◌, inl, inr, ◌%◌, ◌^◌, ℕ, ℤ, None, Result, Ok, Err, slice_index_or, sym, ◌∙◌, ap}
use Rattle.ob_base.specs.declared.schema.Heading.{Heading}
use Rattle.ob_base.specs.Indexes.{height_of}
use Rattle.ob_base.specs.Stored.{Stored}
use Rattle.ob_base.proofs.IndexLemmas.{height_same}
use Rattle.ob_row.specs.Rows.{Row, with_cells}
use Rattle.ob_mean.specs.Verdict.{Held, index_of, went}
use Rattle.ob_vault.specs.State.{World}
use Rattle.ob_vault.specs.Words.{IsHonest}
use Rattle.ob_path.specs.Access as Tree
use Rattle.ob_path.specs.Access.{access}
use Rattle.ob_row.specs.Keys.{cell_number, key_number, row_key, key_in, key_at}
use Rattle.ob_path.specs.States.{State}
use Rattle.ob_oram.specs.declared.index.Index.{Index}
use Rattle.ob_oram.specs.declared.op.Op.{Op}
use Rattle.ob_oram.specs.declared.op.Op.TheVariants as Ops
use Rattle.ob_oram.specs.declared.op.Got.{Got}
use Rattle.ob_oram.specs.declared.fault.OramErr.{OramErr}
use Rattle.ob_oram.specs.declared.fault.OramErr.TheVariants.{Failed, Tampered, StashFull}
use Rattle.ob_oram.specs.Accessing.{Accesses, leaf_read}
use Rattle.ob_oram.specs.Indexes.{IsStoredAs, key_of, leaves_of}
use Rattle.ob_oram.specs.Ops.{FitsOp, key_of_op, op_in}
use Rattle.ob_oram.specs.Short.{AsksReads}
use Rattle.ob_mean.specs.Keyed.{Ask, Find, Put, Set, Take, op_of}
use Rattle.ob_keyed.specs.Meaning.{AnswersAsk, Asks, IsIndexOf, StopsAsk, leaf_went}
use Rattle.ob_keyed.proofs.Sizes.{key_same}

abbrev as_op : Tree.Op Row → Tree.Op Row
as_op op = op

module _ (h : Heading) (index : Index) (is : IsIndexOf h index) where
  pub height_is : index.height ≡ height_of h.capacity
  height_is = height_same index.capacity index.height is.shaped.height ∙ ap height_of is.capacity

  place_is : index.key ≡ key_at h.schema
  place_is = key_same index.schema index.key is.shaped.key.primary ∙ ap key_at is.schema

  row_same : (row : Row) → key_of index row ≡ key_in h row
  row_same row = λ j. row_key (is.capacity j) (place_is j) row

  number_same : (key z : ℤ) → z ≡ key → key_number index.capacity key ≡ key_number h.capacity z
  number_same key z same = λ j. key_number (is.capacity j) (sym same j)

  op_same : (ask : Ask) (op : Op) → Asks ask op → op_in index.capacity op ≡ op_of h.capacity ask
  op_same (Find z) (Ops.Get key) asks = ap (λ (k : ℕ). as_op (Tree.Get k)) (number_same key z asks)
  op_same (Put row) (Ops.Insert key cells) asks = ap Tree.Insert (sym asks)
  op_same (Set z sets) (Ops.Change key changes) asks = λ j. Tree.Change (number_same key z asks.0 j) (with_cells (sym asks.1 j))
  op_same (Take z) (Ops.Remove key) asks = ap (λ (k : ℕ). as_op (Tree.Remove k)) (number_same key z asks)
  op_same (Find z) (Ops.Insert key cells) asks = absurd asks
  op_same (Find z) (Ops.Change key changes) asks = absurd asks
  op_same (Find z) (Ops.Remove key) asks = absurd asks
  op_same (Put row) (Ops.Get key) asks = absurd asks
  op_same (Put row) (Ops.Change key changes) asks = absurd asks
  op_same (Put row) (Ops.Remove key) asks = absurd asks
  op_same (Set z sets) (Ops.Get key) asks = absurd asks
  op_same (Set z sets) (Ops.Insert key cells) asks = absurd asks
  op_same (Set z sets) (Ops.Remove key) asks = absurd asks
  op_same (Take z) (Ops.Get key) asks = absurd asks
  op_same (Take z) (Ops.Insert key cells) asks = absurd asks
  op_same (Take z) (Ops.Change key changes) asks = absurd asks

  pub access_same : (s : State Row) (ask : Ask) (op : Op) (draw : ℕ) → Asks ask op
      → access (key_of index) index.height s (op_in index.capacity op) draw
      ≡ access (key_in h) (height_of h.capacity) s (op_of h.capacity ask) draw
  access_same s ask op draw asks = λ j. access (λ row. row_same row j) (height_is j) s (op_same ask op asks j) draw

  -- the key
  key_is : (ask : Ask) (op : Op) → Asks ask op → FitsOp index.schema index.key op → key_number index.capacity (key_of_op op) ≡ Tree.key_of (key_in h) (op_of h.capacity ask)
  key_is (Find z) (Ops.Get key) asks fits = number_same key z asks
  key_is (Put row) (Ops.Insert key cells) asks fits =
      ap (cell_number index.capacity) (sym fits.1) ∙ row_same cells.now ∙ ap (key_in h) (sym asks)
  key_is (Set z sets) (Ops.Change key changes) asks fits = number_same key z asks.0
  key_is (Take z) (Ops.Remove key) asks fits = number_same key z asks
  key_is (Find z) (Ops.Insert key cells) asks fits = absurd asks
  key_is (Find z) (Ops.Change key changes) asks fits = absurd asks
  key_is (Find z) (Ops.Remove key) asks fits = absurd asks
  key_is (Put row) (Ops.Get key) asks fits = absurd asks
  key_is (Put row) (Ops.Change key changes) asks fits = absurd asks
  key_is (Put row) (Ops.Remove key) asks fits = absurd asks
  key_is (Set z sets) (Ops.Get key) asks fits = absurd asks
  key_is (Set z sets) (Ops.Insert key cells) asks fits = absurd asks
  key_is (Set z sets) (Ops.Remove key) asks fits = absurd asks
  key_is (Take z) (Ops.Get key) asks fits = absurd asks
  key_is (Take z) (Ops.Insert key cells) asks fits = absurd asks
  key_is (Take z) (Ops.Change key changes) asks fits = absurd asks

-- and the leaf that is read
pub leaf_told : (t : Stored Held) (index : Index) (op : Op) (ask : Ask) (draw : ℕ) → IsIndexOf t.heading index → Asks ask op → FitsOp index.schema index.key op → t.held.leaves ≡ leaves_of index
    → leaf_read index op draw ≡ leaf_went draw t ask
leaf_told t index op ask draw is asks fits leaves = λ j.
    slice_index_or (sym leaves j) (key_is t.heading index is ask op asks fits j) (draw % 2 ^ height_is t.heading index is j)

module _ (t : Stored Held) (index left : Index) (op : Op) (ask : Ask) (draw : ℕ) (old new : World)
    (is : IsIndexOf t.heading index) (asks : Asks ask op) (honest : IsHonest old new)
    (lies : IsStoredAs index (index_of t.heading t.held) old) where
  same : access (key_of index) index.height (index_of t.heading t.held) (op_in index.capacity op) draw ≡ went draw t ask
  same = access_same t.heading index is (index_of t.heading t.held) ask op draw asks

  pub told_room : (r : Result Got OramErr) → Accesses index left op draw r old new → went draw t ask ≡ None → AsksReads index old new
  told_room r accesses none = accesses.room honest (index_of t.heading t.held) lies (same ∙ none)

  pub told_ok : (got : Got) → Accesses index left op draw (Ok got) old new → AnswersAsk t left ask draw got new
  told_ok got accesses =
      let told = accesses.told honest (index_of t.heading t.held) lies in
      record {
        meant = told.went;
        is = sym same ∙ told.is;
        answer = told.answer;
        lies = told.lies;
      }

  pub told_err : (e : OramErr) → Accesses index left op draw (Err e) old new → StopsAsk t left ask draw e new
  told_err Failed accesses = tt
  told_err (Tampered q x) accesses = go (accesses.told honest (index_of t.heading t.held) lies)
    where
      go : (Tampered q x ≡ Failed) ⊎ ((Tampered q x ≡ StashFull) × (access (key_of index) index.height (index_of t.heading t.held) (op_in index.capacity op) draw ≡ None)) → ⊥
      go (inl failed) = absurd (cc failed)
      go (inr full) = absurd (cc full.0)
  told_err StashFull accesses = record {
    full = go (accesses.told honest (index_of t.heading t.held) lies);
    lies = accesses.err.1.lies (index_of t.heading t.held) lies.lies;
  }
    where
      go : (StashFull ≡ Failed) ⊎ ((StashFull ≡ StashFull) × (access (key_of index) index.height (index_of t.heading t.held) (op_in index.capacity op) draw ≡ None)) → went draw t ask ≡ None
      go (inl failed) = absurd (cc failed)
      go (inr full) = sym same ∙ full.1

-- How an access ends, over any store.
use Rattle.std.proofs.Common.{◌≡◌, ◌<◌, ◌+◌, ◌^◌, inl, inr, ℕ, List, [], ◌++◌, None, Result, Ok, Err, length, length-append, get_or, refl, sym, ◌∙◌, ap, subst, arith}
use Rattle.std.proofs.lemmas.List.{map-append, length-map, length-set}
use Rattle.ob_vault.specs.declared.region.Order.TheVariants.{Round, Any}
use Rattle.ob_vault.specs.State.{World}
use Rattle.ob_vault.specs.Calls.{Went, Lasts, none, two}
use Rattle.ob_vault.specs.Words.{MayAsk, MayStart, SealsAll, IsHonest}
use Rattle.ob_vault.proofs.Runs.{went_join, went_wider, went_length, seals_join}
use Rattle.ob_vault.proofs.WordLemmas.{asks_after, asks_start, honest_before}
use Rattle.ob_row.specs.Rows.{Row}
use Rattle.ob_base.specs.declared.access.Access.{Access}
use Rattle.ob_flat.specs.declared.fault.OpErr.{OpErr}
use Rattle.ob_flat.specs.declared.fault.OpErr.TheVariants as OpErrs
use Rattle.ob_flat.specs.Flats.{IsInTurn, IsWritten, Represents}
use Rattle.ob_flat.specs.Passes.{PassCut}
use Rattle.ob_flat.specs.Words.{HasSpare}
use Rattle.ob_flat.proofs.Runs.{pass_after}
use Rattle.ob_path.specs.States.{State}
use Rattle.ob_path.specs.Access as Tree
use Rattle.ob_tree.specs.Scripts as Scripts
use Rattle.ob_tree.proofs.AccessLemmas.{leaf_below, leaves_below}
use Rattle.ob_tree.proofs.RunLemmas.{length-read_script}
use Rattle.ob_oram.specs.declared.fault.OramErr.{OramErr}
use Rattle.ob_oram.specs.declared.fault.OramErr.TheVariants.{Failed, Tampered, StashFull}
use Rattle.ob_oram.specs.declared.index.Index.{Index}
use Rattle.ob_oram.specs.declared.op.Op.{Op}
use Rattle.ob_oram.specs.declared.op.Got.{Got}
use Rattle.ob_base.specs.Indexes.{path_blocks, rows_open}
use Rattle.ob_oram.specs.Heights.{AreLeaves}
use Rattle.ob_oram.specs.Indexes.{IsShaped, IsStored, IsIndex, IsStoredAs, SealsIndex, leaves_of, key_of, tree_of, stash_of}
use Rattle.ob_oram.specs.Ops.{op_in}
use Rattle.ob_oram.specs.Scripts.{access_in, read_script, write_script, access_script, script_length}
use Rattle.ob_oram.specs.Halves.{ReadsIndex, RefusesIndex, WritesIndex}
use Rattle.ob_oram.specs.Short.{AsksReads}
use Rattle.ob_oram.specs.Accessing.{Accesses, HasLeaves, LeftBy, ReadsTooMany, IndexStays, Stops, leaf_read, leaves_after, remap_of}
use Rattle.ob_oram.proofs.Lasting.{lies_kept, stored_kept}
use Rattle.ob_oram.proofs.WalkRows.{height_few}

-- the index as a state of the model that has its leaves alone
abbrev with_leaves : Index → State Row
with_leaves index = record { tree = []; stash = []; leaves = leaves_of index }

module _ (index : Index) (shaped : IsShaped index) where
  below : (j : ℕ) → j < length (leaves_of index) → get_or (leaves_of index) j 0 < 2 ^ index.height
  below j inside = shaped.leaves.below j (omega (arith, inside, shaped.leaves.count))

  -- the leaf that is read is one of the tree, and so are those behind
  pub leaf_read_below : (op : Op) (draw : ℕ) → leaf_read index op draw < 2 ^ index.height
  leaf_read_below op draw = leaf_below (key_of index) index.height (with_leaves index) draw (remap_of index op draw).key below

  pub leaves_after_are : (op : Op) (draw : ℕ) → AreLeaves index.height index.capacity (leaves_after index op draw)
  leaves_after_are op draw =
      let remap = remap_of index op draw in
      let size = length-set (leaves_of index) remap.key remap.leaf in
      record {
        count = size ∙ shaped.leaves.count;
        below = λ k inside. leaves_below (key_of index) index.height (with_leaves index) draw remap.key below k (omega (arith, inside, size, shaped.leaves.count));
      }

-- an index with other leaves
module _ (index left : Index) (list : List ℕ) (has : HasLeaves list index left) where
  pub as_left : (P : Index → Type 0) → P (record index { leaves = left.leaves; buffer = left.buffer }) → P left
  as_left P is = subst P (sym has.same) is

  pub shaped_left : IsShaped index → AreLeaves index.height index.capacity list → IsShaped left
  shaped_left shaped are = as_left IsShaped (record {
    size = shaped.size;
    key = shaped.key;
    height = shaped.height;
    some = shaped.some;
    few = shaped.few;
    leaves = subst (AreLeaves index.height index.capacity) (sym has.leaves) are;
  })

  pub stored_left : (w : World) → AreLeaves index.height index.capacity list → IsStored index w → IsStored left w
  stored_left w are is = record {
    shaped = shaped_left is.shaped are;
    tree = as_left (λ i. IsInTurn Any 1 (tree_of i) 0 w) is.tree;
    stash = as_left (λ i. IsInTurn Round 1 (stash_of i) 0 w) is.stash;
    apart = as_left (λ i. i.tree ≡ i.stash → ⊥) is.apart;
  }

-- an index that wasn't touched
pub stored_lasts : (index : Index) (old new : World) → Lasts none old new → IsStored index old → IsStored index new
stored_lasts index old new lasts = stored_kept none old new lasts index (λ q. q) (λ q. q)

pub stays : (index left : Index) (old new : World) → Lasts none old new → IsStored index old → HasLeaves (leaves_of index) index left → IndexStays index left old new
stays index left old new lasts stored has = record {
  same = has;
  stored = stored_left index left (leaves_of index) has new stored.shaped.leaves (stored_lasts index old new lasts stored);
  lies = λ s lies.
      let kept = lies_kept none old new lasts index (λ q. q) (λ q. q) s lies in
      record {
        tree = as_left index left (leaves_of index) has (λ i. Represents 1 (tree_of i) s.tree new) kept.tree;
        stash = as_left index left (leaves_of index) has (λ i. Represents 1 (stash_of i) s.stash new) kept.stash;
        leaves = lies.leaves ∙ sym has.leaves;
      };
}

-- the accesses are those of the reads, and then those of the writes
pub access_parts : (index : Index) (leaf : ℕ) → access_script index leaf ≡ read_script index leaf ++ write_script index leaf
access_parts index leaf = map-append (access_in index) (Scripts.read_script index.slots index.height leaf) (Scripts.write_script index.slots index.height leaf)

pub length-reads : (index : Index) (leaf : ℕ) → length (read_script index leaf) ≡ index.slots + path_blocks index.height
length-reads index leaf = length-map (Scripts.read_script index.slots index.height leaf) (access_in index) ∙ length-read_script index.slots index.height leaf

-- a pass that gave up in its reads asked no more than these
pub cut_reads : (index : Index) (leaf : ℕ) (e : OpErr) (some : ℕ → Type 0) (old new : World) → PassCut e (read_script index leaf) some old new → AsksReads index old new
cut_reads index leaf e some old new cut =
    let began = cut.began in
    let more : length new.store.asked ≡ length old.store.asked + length began.done = ap (λ (l : List Access). length l) began.asked ∙ length-append old.store.asked began.done in
    let all : length (read_script index leaf) ≡ length began.done + length began.rest = ap (λ (l : List Access). length l) (sym began.split) ∙ length-append began.done began.rest in
    omega (arith, more, all, length-reads index leaf)

pub went_reads : (index : Index) (leaf : ℕ) (old new : World) → Went (read_script index leaf) none old new → AsksReads index old new
went_reads index leaf old new went = omega (arith, went_length none (read_script index leaf) old new went, length-reads index leaf)

module _ (index : Index) (op : Op) (draw : ℕ) (old : World) (stored : IsStored index old) where
  abbrev leaf : ℕ
  leaf = leaf_read index op draw

  -- there are accesses for the reads, and then for the writes
  pub spare_reads : MayStart (script_length index) old → HasSpare (index.slots + path_blocks index.height) old
  spare_reads starts = record { ready = starts.ready; spare = omega (arith, starts.spare) }

  pub asks_writes : (mid : World) → MayStart (script_length index) old → Went (read_script index leaf) none old mid → MayAsk (index.slots + path_blocks index.height) mid
  asks_writes mid starts went =
      let few = height_few index stored.shaped in
      asks_after {m = index.slots + path_blocks index.height} (asks_start starts (omega (arith, few, stored.shaped.few))) went (omega (arith, length-reads index leaf))

  module _ (left : Index) where
    -- one of the reads was the last access
    stopped : (e : OramErr) (new : World) → RefusesIndex e index leaf old new → LeftBy {T = Got} (Err e) index op draw left → Stops e index left leaf old new
    stopped Failed new cut by = inl (record { cut = cut; stays = stays index left old new cut.lasts stored by.err })
    stopped (Tampered q x) new cut by = (record { cut = cut.0; stays = stays index left old new cut.0.lasts stored by.err }, cut.1)
    stopped StashFull new cut by = absurd cut

    refused_reads : (e : OramErr) (new : World) → RefusesIndex e index leaf old new → AsksReads index old new
    refused_reads Failed new cut = cut_reads index leaf OpErrs.Failed none old new cut
    refused_reads (Tampered q x) new cut = cut_reads index leaf (OpErrs.Tampered q x) none old new cut.0
    refused_reads StashFull new cut = absurd cut

    pub ends_reading : (e : OramErr) (new : World) → ReadsIndex {T = Unit {0}} index leaf (Err e) old new → LeftBy {T = Got} (Err e) index op draw left → Accesses index left op draw (Err e) old new
    ends_reading e new reads by = record {
      ok = tt;
      err = stopped e new reads.err by;
      seals = record { seals = λ good fine other. reads.seals.seals good };
      leaves = tt;
      stands = tt;
      ended = by.ended;
      range = tt;
      maps = λ honest m is. tt;
      full = λ is. let same : e ≡ StashFull = cc is in absurd (subst (λ (x : OramErr). RefusesIndex x index leaf old new) same reads.err);
      told = λ honest s lies. inl (reads.told honest s lies.lies);
      room = λ honest s lies none. refused_reads e new reads.err;
    }

    module _ (mid : World) (went : Went (read_script index (leaf_read index op draw)) none old mid) (sealed : SealsAll old mid) where
      -- all was read, and there are too many rows
      pub ends_full : ((s : State Row) → IsHonest old mid → IsStoredAs index s old → Tree.access (key_of index) index.height s (op_in index.capacity op) draw ≡ None)
          → ReadsTooMany index op draw old mid → LeftBy {T = Got} (Err StashFull) index op draw left → Accesses index left op draw (Err StashFull) old mid
      ends_full full many by = record {
        ok = tt;
        err = (went, stays index left old mid went.lasts stored by.err);
        seals = record { seals = λ good fine other. sealed.seals good };
        leaves = tt;
        stands = tt;
        ended = by.ended;
        range = tt;
        maps = λ honest m is. tt;
        full = λ is. many;
        told = λ honest s lies. inr (refl, full s honest lies);
        room = λ honest s lies none. went_reads index leaf old mid went;
      }

      wide : Went (read_script index leaf) (two index.tree index.stash) old mid
      wide = went_wider none old mid (two index.tree index.stash) (λ q never. absurd never) (read_script index leaf) went

      both_sealed : {T : Type 0} (r : Result T OramErr) (rows : List (List ℕ)) (new : World) → WritesIndex index leaf rows r mid new → SealsIndex index old new
      both_sealed r rows new writes = record { seals = λ good fine other. seals_join good old mid new went.lasts.later (sealed.seals good) (writes.seals.seals good fine other) }

      -- a write failed
      pub ends_writing : ((s : State Row) → IsHonest old mid → IsStoredAs index s old → Tree.access (key_of index) index.height s (op_in index.capacity op) draw ≡ None → ⊥)
          → (e : OramErr) (rows : List (List ℕ)) (new : World) → WritesIndex {T = Unit {0}} index leaf rows (Err e) mid new → LeftBy {T = Got} (Err e) index op draw left → Accesses index left op draw (Err e) old new
      ends_writing room e rows new writes by =
          let cut : PassCut OpErrs.Failed (access_script index leaf) (two index.tree index.stash) old new =
          subst (λ l. PassCut OpErrs.Failed l (two index.tree index.stash) old new) (sym (access_parts index leaf))
          (pass_after (two index.tree index.stash) old mid new OpErrs.Failed (read_script index leaf) (write_script index leaf) wide writes.err.1) in
          let failed : Stops Failed index left leaf old new = inr (record {
            cut = cut;
            past = omega (arith, went_length none (read_script index leaf) old mid went, writes.err.1.asks refl);
            same = by.err;
            tree = as_left index left (leaves_of index) by.err (λ i. IsWritten 1 (tree_of i) new) writes.tree;
            stash = as_left index left (leaves_of index) by.err (λ i. IsWritten 1 (stash_of i) new) writes.stash;
          }) in
          record {
            ok = tt;
            err = subst (λ f. Stops f index left leaf old new) (sym writes.err.0) failed;
            seals = both_sealed {T = Unit {0}} (Err e) rows new writes;
            leaves = tt;
            stands = tt;
            ended = by.ended;
            range = tt;
            maps = λ honest m is. tt;
            full = λ is. absurd (cc (is, writes.err.0));
            told = λ honest s lies. inl writes.err.0;
            room = λ honest s lies none. absurd (room s (honest_before writes.err.1.lasts honest) lies none);
          }

      -- all was written
      module _ (rows : List (List ℕ)) (new : World) (writes : WritesIndex {T = Unit {0}} index (leaf_read index op draw) rows (Ok tt) mid new) where
        pub went_all : Went (access_script index (leaf_read index op draw)) (two index.tree index.stash) old new
        went_all = subst (λ l. Went l (two index.tree index.stash) old new) (sym (access_parts index leaf))
            (went_join (two index.tree index.stash) old mid new (read_script index leaf) (write_script index leaf) wide writes.ok)

        pub all_sealed : SealsIndex index old new
        all_sealed = both_sealed {T = Unit {0}} (Ok tt) rows new writes

        pub stands_all : (got : Got) → LeftBy (Ok got) index op draw left → IsIndex left new
        stands_all got by =
            let are = leaves_after_are index stored.shaped op draw in
            record {
              stored = stored_left index left (leaves_after index op draw) by.ok new are (record { shaped = stored.shaped; tree = writes.tree_turn; stash = writes.stash_turn; apart = stored.apart });
              buffer = as_left index left (leaves_after index op draw) by.ok (λ i. length left.buffer.items ≡ rows_open i.height i.slots) by.buffer;
            }

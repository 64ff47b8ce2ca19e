-- What an access of an index does.
use Rattle.std.specs.Prelude.{◌≡◌, ◌⊎◌, ◌<◌, ◌+◌, ◌↔◌, ℕ, List, Option, Some, None, Result, Err, OnOk, OnErr, IfOk, IfErr, MatchResult, length, map, slice_index_or}
use Rattle.ob_vault.specs.State.{World}
use Rattle.ob_vault.specs.Calls.{Went, none, two}
use Rattle.ob_vault.specs.Words.{IsHonest}
use Rattle.ob_row.specs.Rows.{Row}
use Rattle.ob_row.specs.Slots.{Slots}
use Rattle.ob_flat.specs.declared.fault.OpErr.{OpErr}
use Rattle.ob_flat.specs.declared.fault.OpErr.TheVariants as OpErrs
use Rattle.ob_flat.specs.Flats.{IsWritten}
use Rattle.ob_flat.specs.Passes.{PassCut}
use Rattle.ob_flat.specs.Words.{TamperedIn}
use Rattle.ob_path.specs.Access as Tree
use Rattle.ob_path.specs.Rows.{rows}
use Rattle.ob_tree.specs.Runs.{map_after, map_answer}
use Rattle.ob_path.specs.States.{State}
use Rattle.ob_oram.specs.declared.held.Remap.{Remap}
use Rattle.ob_oram.specs.declared.index.Index.{Index}
use Rattle.ob_oram.specs.declared.op.Op.{Op}
use Rattle.ob_oram.specs.declared.op.Got.{Got}
use Rattle.ob_oram.specs.declared.op.Got.TheVariants as Gots
use Rattle.ob_oram.specs.declared.fault.OramErr.{OramErr}
use Rattle.ob_oram.specs.declared.fault.OramErr.TheVariants.{Failed, Tampered, StashFull}
use Rattle.ob_row.specs.Keys.{key_number}
use Rattle.ob_oram.specs.Buffers.{IsCrowded}
use Rattle.ob_base.specs.Indexes.{leaf_of_draw, rows_open}
use Rattle.ob_oram.specs.Ops.{key_of_op, op_in, got_in, keys_behind}
use Rattle.ob_oram.specs.Indexes.{IsEnded, IsIndex, IsMap, IsStored, IsStoredAs, LiesAs, SealsIndex, leaves_of, key_of, tree_of, stash_of}
use Rattle.ob_oram.specs.Opens.{AreKeyed, last_slot, leaves_with}
use Rattle.ob_oram.specs.Opened.{OpensIndex}
use Rattle.ob_oram.specs.Scripts.{read_script, access_script}
use Rattle.ob_oram.specs.Short.{AsksReads}

-- the key of an operation, and the leaf of its draw
abbrev pub remap_of : Index → Op → ℕ → Remap
remap_of index op draw = record {
  key = key_number index.capacity (key_of_op op);
  leaf = leaf_of_draw index.height draw;
}

-- the leaf that is read: the key's, or that of the draw where the index has no such key
abbrev pub leaf_read : Index → Op → ℕ → ℕ
leaf_read index op draw = let remap = remap_of index op draw in
    slice_index_or (leaves_of index) remap.key remap.leaf

-- the key's leaf is then that of the draw
abbrev pub leaves_after : Index → Op → ℕ → List ℕ
leaves_after index op draw = leaves_with index (remap_of index op draw)

-- and this the leaf of a key
abbrev pub leaf_after : Index → Op → ℕ → ℕ → ℕ
leaf_after index op draw k = slice_index_or (leaves_after index op draw) k 0

-- the same index with these leaves, whatever its buffer has
pub record HasLeaves (list : List ℕ) (index left : Index) : Type 0 where
  pub same : left ≡ record index { leaves = left.leaves; buffer = left.buffer }
  pub leaves : leaves_of left ≡ list

-- the index that an access leaves: an error leaves the leaves, and an index that has ended
pub record LeftBy {T : Type 0} (result : Result T OramErr) (index : Index) (op : Op) (draw : ℕ)
    (left : Index) : Type 0 where
  pub ok : OnOk result (HasLeaves (leaves_after index op draw) index left)
  pub err : OnErr result (HasLeaves (leaves_of index) index left)
  pub ended : OnErr result (IsEnded left)
  pub buffer : OnOk result (length left.buffer.items ≡ rows_open index.height index.slots)

-- an index that wasn't touched is stored still, and lies as it did
pub record IndexStays (index left : Index) (old new : World) : Type 0 where
  pub same : HasLeaves (leaves_of index) index left
  pub stored : IsStored left new
  pub lies : (s : State Row) → LiesAs index s old → LiesAs left s new

-- an access that ended with one of its reads
pub record StopsReading (e : OpErr) (index left : Index) (leaf : ℕ)
    (old new : World) : Type 0 where
  pub cut : PassCut e (read_script index leaf) none old new
  pub stays : IndexStays index left old new

-- an access that ended with one of its writes, after all reads
pub record StopsWriting (index left : Index) (leaf : ℕ) (old new : World) : Type 0 where
  pub cut : PassCut OpErrs.Failed (access_script index leaf) (two index.tree index.stash) old new
  pub past : length old.store.asked + length (read_script index leaf) < length new.store.asked
  pub same : HasLeaves (leaves_of index) index left
  pub tree : IsWritten 1 (tree_of left) new
  pub stash : IsWritten 1 (stash_of left) new

-- why an access stopped, and what it left: the store failed in a read or in a write; a block that
-- was read is not the one that was written; all was read, and more rows are left than the stash has
-- slots
abbrev pub Stops : OramErr → Index → Index → ℕ → World → World → Type 0
Stops Failed index left leaf old new = StopsReading OpErrs.Failed index left leaf old new
    ⊎ StopsWriting index left leaf old new
Stops (Tampered q x) index left leaf old new =
    StopsReading (OpErrs.Tampered q x) index left leaf old new
    × (TamperedIn 1 (stash_of index) (OpErrs.Tampered q x) new
    ⊎ TamperedIn 1 (tree_of index) (OpErrs.Tampered q x) new)
Stops StashFull index left leaf old new = Went (read_script index leaf) none old new
    × IndexStays index left old new

-- it answers what the model's access answers, and lies as that leaves it
pub record Answers (index left : Index) (op : Op) (draw : ℕ) (s : State Row) (got : Got)
    (new : World) : Type 0 where
  pub went : Tree.Went Row
  pub is : Tree.access (key_of index) index.height s (op_in index.capacity op) draw ≡ Some went
  pub answer : got_in got ≡ went.got
  pub lies : IsStoredAs left went.state new

-- it answers what the map answers, and stands for the map after that
pub record AnswersMap (index left : Index) (op : Op) (m : ℕ → Option Row) (got : Got)
    (new : World) : Type 0 where
  pub answer : got_in got ≡ map_answer (key_of index) index.capacity (op_in index.capacity op) m
  pub map : IsMap left (map_after (key_of index) index.capacity (op_in index.capacity op) m) new

-- more rows with keys of the index were read than fit: after the operation more may lie at none of some heights of the
-- path than there are slots above these and in the stash
pub record ReadsTooMany (index : Index) (op : Op) (draw : ℕ) (old new : World) : Type 0 where
  pub slots : Slots
  pub keyed : AreKeyed index slots
  pub opens : OpensIndex index (leaf_read index op draw) slots old new
  pub crowded : IsCrowded (leaf_after index op draw) (leaf_read index op draw) index.height
      (last_slot index) (keys_behind index.capacity op (map (key_of index) (rows slots)))

-- the path of a key was read, and written again after the operation
pub record Accesses (index left : Index) (op : Op) (draw : ℕ)
    (result : Result Got OramErr) (old new : World) : Type 0 where
  pub ok : OnOk result
      (Went (access_script index (leaf_read index op draw)) (two index.tree index.stash) old new)
  pub err : IfErr result (λ e. Stops e index left (leaf_read index op draw) old new)
  pub seals : SealsIndex index old new
  pub leaves : OnOk result (HasLeaves (leaves_after index op draw) index left)
  pub stands : OnOk result (IsIndex left new)
  -- after a stop it isn't accessed again: the key has the leaf that was read, and another access would read the same
  -- path, from which a watcher could tell that the two are of one key
  pub ended : OnErr result (IsEnded left)
  -- the key is none of the index
  pub range : IfOk result (λ got. (got ≡ Gots.OutOfRange)
      ↔ (key_number index.capacity (key_of_op op) ≡ index.capacity))
  pub maps : IsHonest old new → (m : ℕ → Option Row) → IsMap index m old
      → IfOk result (λ got. AnswersMap index left op m got new)
  -- whatever was read, it stops at a full stash only where there are too many rows
  pub full : result ≡ Err StashFull → ReadsTooMany index op draw old new
  -- and where no read lied exactly where the model does
  pub told : IsHonest old new → (s : State Row) → IsStoredAs index s old → MatchResult result
      (λ got. Answers index left op draw s got new)
      (λ e. (e ≡ Failed) ⊎ ((e ≡ StashFull)
      × (Tree.access (key_of index) index.height s (op_in index.capacity op) draw ≡ None)))
  -- where the model's stash is full no write is asked, also where the store fails
  pub room : IsHonest old new → (s : State Row) → IsStoredAs index s old
      → Tree.access (key_of index) index.height s (op_in index.capacity op) draw ≡ None
      → AsksReads index old new

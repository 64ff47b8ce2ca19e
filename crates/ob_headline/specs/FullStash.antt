-- A full stash, over every store.
use Rattle.std.specs.Prelude.{◌≡◌, ◌<◌, ℕ, Some, length, slice_get}
use Rattle.ob_base.specs.Indexes.{leaf_of_draw}
use Rattle.ob_base.specs.declared.config.Public.{Public}
use Rattle.ob_base.specs.declared.seen.Seen.{Seen}
use Rattle.ob_keyed.specs.Asking.{IsKeyed}
use Rattle.ob_keyed.specs.Serving.{Overfills}
use Rattle.ob_oram.specs.declared.index.Index.{Index}
use Rattle.ob_oram.specs.Indexes.{leaves_of}
use Rattle.ob_seal.specs.Draws.{draw_of}
use Rattle.ob_seal.specs.KeySet.{KeySet}
use Rattle.ob_sql.specs.declared.stmt.Stmt.{Stmt}
use Rattle.ob_store.specs.State.{StoreState}
use Rattle.ob_vault.specs.State.{Start, World}

-- of each key the leaf is that of a draw, and no two keys have one draw
pub record HasDrawnLeaves (draw : ℕ → ℕ) (index : Index) : Type 0 where
  pub number : ℕ → ℕ
  pub are : (key leaf : ℕ) → slice_get (leaves_of index) key ≡ Some leaf
      → leaf ≡ leaf_of_draw index.height (draw (number key))
  pub apart : (key other : ℕ) → key < length (leaves_of index) → other < length (leaves_of index)
      → number key ≡ number other → key ≡ other

-- a vault with these keys and its store, of a run that goes on from there
pub record IsWorld (keys : KeySet) (start : Start) (store : StoreState) (w : World) : Type 0 where
  pub keys_are : w.vault.keys ≡ keys
  pub start_is : w.vault.start ≡ start
  pub store_is : w.store ≡ store

-- the blocks that the access of a statement read last opened as more rows of its table than fit on the path of the leaf
-- that is seen and in the stash, after what the statement asks: each row where the leaf of its key may lie
pub record ReadsFullStash (keys : KeySet) (start : Start) (store : StoreState) (p : Public)
    (stmt : Stmt) (seen : Seen) : Type 0 where
  -- the index of its table, before which so many accesses were asked
  pub index : Index
  pub count : ℕ
  pub on : IsKeyed p count stmt index
  pub leaves : HasDrawnLeaves (draw_of keys) index
  pub leaf : ℕ
  pub shown : seen.leaf ≡ Some leaf
  -- the number of its draw
  pub next : ℕ
  -- before its reads and after them
  pub old : World
  pub new : World
  pub ends : IsWorld keys start store new
  pub over : Overfills stmt index (draw_of keys next) leaf old new

-- What making an index does.
use Rattle.std.specs.Prelude.{◌≡◌, ◌⊎◌, ◌+◌, ◌++◌, ℕ, Bool, IsTrue, List, [], None, Result, Err, OnErr, IfOk, IfErr, map}
use Rattle.ob_base.specs.declared.access.Access.{Access}
use Rattle.ob_base.specs.Schemas.{Columns}
use Rattle.ob_store.specs.State.{StoreState}
use Rattle.ob_vault.specs.State.{World}
use Rattle.ob_vault.specs.Calls.{Seals, two}
use Rattle.ob_flat.specs.declared.flat.Flat.{Flat}
use Rattle.ob_flat.specs.declared.fault.OpErr.{OpErr}
use Rattle.ob_flat.specs.declared.fault.OpErr.TheVariants.{Failed, NoMemory}
use Rattle.ob_flat.specs.Flats.{Accepts, IsInTurn, Represents}
use Rattle.ob_row.specs.Slots.{empty_slots}
use Rattle.ob_vault.specs.declared.region.Order.TheVariants.{Round, Any}
use Rattle.ob_flat.specs.Words.{PassRan}
use Rattle.ob_flat.specs.Creates.{table_of, make_script, create_script}
use Rattle.ob_tree.specs.Runs.{created}
use Rattle.ob_oram.specs.declared.index.Index.{Index}
use Rattle.ob_base.specs.Indexes.{IsHeight, tree_blocks, leaf_of_draw}
use Rattle.ob_oram.specs.Indexes.{IsIndex, IsMap, IsStoredAs, leaves_of}

-- the tables that an index has when it is made in a vault whose next region has this number
abbrev pub new_tree : (columns : Columns) (height region : ℕ) → Flat
new_tree columns height region = table_of columns (tree_blocks height) region

abbrev pub new_stash : (columns : Columns) (slots region : ℕ) → Flat
new_stash columns slots region = table_of columns slots (region + 1)

-- first one is made and filled with dummies, and then the other
abbrev pub create_index_script : (tree stash : Flat) → List Access
create_index_script tree stash = create_script 1 tree ++ create_script 1 stash

-- a first part of y was asked after all of x
pub record BeganBehind (x y : List Access) (old new : StoreState) : Type 0 where
  pub done : List Access
  pub rest : List Access
  pub split : done ++ rest ≡ y
  pub asked : new.asked ≡ old.asked ++ (x ++ done)

-- a fresh index has these sizes, and the leaves of its draws
pub record IsFresh (columns : Columns) (capacity slots region : ℕ) (draws : List ℕ)
    (index : Index) : Type 0 where
  pub has_schema : index.schema ≡ columns
  pub has_capacity : index.capacity ≡ capacity
  pub has_slots : index.slots ≡ slots
  pub has_tree : index.tree ≡ region
  pub has_stash : index.stash ≡ region + 1
  pub has_leaves : leaves_of index ≡ map (leaf_of_draw index.height) draws

-- the regions of a tree and a stash were made and filled with dummies, or they are gone
pub record CreatesRegions {T : Type 0} (tree stash : Flat)
    (result : Result T OpErr) (old new : World) : Type 0 where
  pub ran : PassRan (create_index_script tree stash) (two tree.region stash.region) result old new
  pub never : IfErr result (λ e. (e ≡ Failed) ⊎ (e ≡ NoMemory))
  -- want of memory comes before the first access, or from one of the two that make a region
  pub memory : result ≡ Err NoMemory → BeganBehind [] (make_script 1 tree) old.store new.store
      ⊎ BeganBehind (create_script 1 tree) (make_script 1 stash) old.store new.store
  pub gone : OnErr result (new.vault.revs.live tree.region ≡ None)
  pub gone_stash : OnErr result (new.vault.revs.live stash.region ≡ None)
  pub seals : (good : ℕ → List ℕ → Bool) → Accepts good 1 tree.schema tree.region
      → Accepts good 1 stash.schema stash.region → Seals good old new

-- they lie as fresh tables
pub record MadeRegions (tree stash : Flat) (made : ℕ × ℕ) (old new : World) : Type 0 where
  pub tree_region : made.0 ≡ tree.region
  pub stash_region : made.1 ≡ stash.region
  pub tree_written : IsInTurn Any 1 tree 0 new
  pub stash_written : IsInTurn Round 1 stash 0 new
  pub told : IsTrue old.store.tells → Represents 1 tree (empty_slots tree.capacity) new
      × Represents 1 stash (empty_slots stash.capacity) new

-- an index with no row was made, or its regions are gone
pub record CreatesIndex (columns : Columns) (capacity slots : ℕ) (draws : List ℕ)
    (result : Result Index OpErr) (old new : World) : Type 0 where
  pub regions : (height : ℕ) → IsHeight capacity height
      → CreatesRegions (new_tree columns height old.vault.next)
      (new_stash columns slots old.vault.next) result old new
  pub fresh : IfOk result (IsFresh columns capacity slots old.vault.next draws)
  pub index : IfOk result (λ index. IsIndex index new)
  pub told : IfOk result (λ index. IsTrue old.store.tells
      → IsStoredAs index (created index.height slots (leaves_of index)) new)
  -- which stands for the map that has no row
  pub empty : IfOk result (λ index. IsTrue old.store.tells → IsMap index (λ k. None) new)

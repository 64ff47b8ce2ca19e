-- What the two halves of an access do: it reads a path and the stash, and writes them.
use Rattle.std.specs.Prelude.{◌≡◌, ◌⊎◌, ℕ, IsTrue, List, Result, OnOk, IfErr}
use Rattle.ob_vault.specs.declared.region.Order.TheVariants.{Round, Any}
use Rattle.ob_vault.specs.State.{World}
use Rattle.ob_vault.specs.Calls.{Went, none, two}
use Rattle.ob_vault.specs.Words.{SealsAll, IsHonest}
use Rattle.ob_row.specs.Rows.{Row}
use Rattle.ob_row.specs.Slots.{Slots}
use Rattle.ob_flat.specs.declared.fault.OpErr.TheVariants as OpErrs
use Rattle.ob_flat.specs.Flats.{IsInTurn, IsWritten, Represents}
use Rattle.ob_flat.specs.Passes.{PassCut}
use Rattle.ob_flat.specs.Slots.{Spelt}
use Rattle.ob_flat.specs.Words.{TamperedIn}
use Rattle.ob_tree.specs.Slotwise.{LaysOut}
use Rattle.ob_path.specs.States.{State}
use Rattle.ob_oram.specs.declared.fault.OramErr.{OramErr}
use Rattle.ob_oram.specs.declared.fault.OramErr.TheVariants.{Failed, Tampered, StashFull}
use Rattle.ob_oram.specs.declared.index.Index.{Index}
use Rattle.ob_oram.specs.declared.walk.Walk.{Walk}
use Rattle.ob_oram.specs.declared.walk.Walk.TheVariants.{Stash, Path}
use Rattle.ob_oram.specs.Indexes.{LiesAs, SealsIndex, tree_of, stash_of}
use Rattle.ob_oram.specs.Scripts.{read_script, write_script}

-- the blocks of the stash, and those of a path
abbrev pub stash_blocks : Index → Walk
stash_blocks index = Stash index.slots index.height

abbrev pub leaf_blocks : Index → ℕ → Walk
leaf_blocks index leaf = Path index.height leaf

-- the store failed, or the block that was read last is not what was written there last, or malformed
abbrev pub RefusesIndex : OramErr → Index → ℕ → World → World → Type 0
RefusesIndex Failed index leaf old new =
    PassCut OpErrs.Failed (read_script index leaf) none old new
RefusesIndex (Tampered q x) index leaf old new =
    PassCut (OpErrs.Tampered q x) (read_script index leaf) none old new
    × (TamperedIn 1 (stash_of index) (OpErrs.Tampered q x) new
    ⊎ TamperedIn 1 (tree_of index) (OpErrs.Tampered q x) new)
RefusesIndex StashFull index leaf old new = ⊥

-- the stash and a path were read
pub record ReadsIndex {T : Type 0} (index : Index) (leaf : ℕ) (result : Result T OramErr)
    (old new : World) : Type 0 where
  pub ok : OnOk result (Went (read_script index leaf) none old new)
  pub err : IfErr result (λ e. RefusesIndex e index leaf old new)
  pub seals : SealsAll old new
  pub told : IsHonest old new → (s : State Row) → LiesAs index s old
      → IfErr result (λ e. e ≡ Failed)

-- the path and the stash were written
pub record WritesIndex {T : Type 0} (index : Index) (leaf : ℕ) (rows : List (List ℕ))
    (result : Result T OramErr) (old new : World) : Type 0 where
  pub ok : OnOk result (Went (write_script index leaf) (two index.tree index.stash) old new)
  pub err : IfErr result (λ e. (e ≡ Failed)
      × PassCut OpErrs.Failed (write_script index leaf) (two index.tree index.stash) old new)
  pub seals : SealsIndex index old new
  pub tree : IsWritten 1 (tree_of index) new
  pub stash : IsWritten 1 (stash_of index) new
  pub tree_turn : OnOk result (IsInTurn Any 1 (tree_of index) 0 new)
  pub stash_turn : OnOk result (IsInTurn Round 1 (stash_of index) 0 new)
  pub told : OnOk result (IsTrue old.store.tells → (slots : Slots) → Spelt index.schema slots rows
      → (s t : State Row) → LiesAs index s old → LaysOut index.height leaf slots s t
      → Represents 1 (tree_of index) t.tree new × Represents 1 (stash_of index) t.stash new)

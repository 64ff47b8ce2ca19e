-- An index of which a pass touched neither region.
use Rattle.std.proofs.Common.{ℕ}
use Rattle.ob_row.specs.Rows.{Row}
use Rattle.ob_vault.specs.declared.region.Order.TheVariants.{Round, Any}
use Rattle.ob_vault.specs.State.{World}
use Rattle.ob_vault.specs.Calls.{Lasts}
use Rattle.ob_flat.proofs.Tables.{represents_lasts}
use Rattle.ob_path.specs.States.{State}
use Rattle.ob_oram.specs.declared.index.Index.{Index}
use Rattle.ob_oram.specs.Indexes.{IsIndex, IsStored, LiesAs, tree_of, stash_of}
use Rattle.ob_oram.proofs.IndexWrites.{in_turn_lasts}

module _ (some : ℕ → Type 0) (a b : World) (lasts : Lasts some a b) (index : Index) (tree : some index.tree → ⊥) (stash : some index.stash → ⊥) where
  pub stored_kept : IsStored index a → IsStored index b
  stored_kept is = record {
    shaped = is.shaped;
    tree = in_turn_lasts Any (tree_of index) some a b lasts tree is.tree;
    stash = in_turn_lasts Round (stash_of index) some a b lasts stash is.stash;
    apart = is.apart;
  }

  pub index_kept : IsIndex index a → IsIndex index b
  index_kept is = record { stored = stored_kept is.stored; buffer = is.buffer }

  pub lies_kept : (s : State Row) → LiesAs index s a → LiesAs index s b
  lies_kept s lies = record {
    tree = represents_lasts 1 (tree_of index) some a b lasts tree s.tree lies.tree;
    stash = represents_lasts 1 (stash_of index) some a b lasts stash s.stash lies.stash;
    leaves = lies.leaves;
  }

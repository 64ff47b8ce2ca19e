-- What stands while a store makes room for more accesses.
use Rattle.ob_store.specs.State.{StoreState}
use Rattle.ob_store.specs.Calls.{ChangesNothing}
use Rattle.ob_vault.specs.declared.region.Order.{Order}
use Rattle.ob_vault.specs.State.{VaultState}
use Rattle.ob_vault.proofs.WorldSteps.{world}
use Rattle.ob_flat.specs.declared.flat.Flat.{Flat}
use Rattle.ob_flat.specs.Flats.{IsInTurn}
use Rattle.ob_oram.specs.declared.index.Index.{Index}
use Rattle.ob_oram.specs.Indexes.{IsIndex, tree_of, stash_of}

module _ (v : VaultState) (s t : StoreState) (rests : ChangesNothing s t) where
  turn_rests : (order : Order) (flat : Flat) → IsInTurn order 1 flat 0 (world v s) → IsInTurn order 1 flat 0 (world v t)
  turn_rests order flat is = record {
    own = record { above = is.own.above };
    lives = record { live = is.lives.live };
    turn = record { turn = is.turn.turn; run = is.turn.run };
    written = λ p below. record { number = (is.written p below).number };
  }

  pub index_rests : (index : Index) → IsIndex index (world v s) → IsIndex index (world v t)
  index_rests index is = record {
    stored = record {
      shaped = is.stored.shaped;
      tree = turn_rests _ (tree_of index) is.stored.tree;
      stash = turn_rests _ (stash_of index) is.stored.stash;
      apart = is.stored.apart;
    };
    buffer = is.buffer;
  }

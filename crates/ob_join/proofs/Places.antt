-- How a result is filled, one place after the other.
use Rattle.std.proofs.Common.{◌≡◌, ◌<◌, ◌+◌, ◌==◌, if◌then◌else◌, ℕ, List, sym, subst, arith, below_more}
use Rattle.std.proofs.lemmas.Bool.Decides.{nat_tests}
use Rattle.ob_base.specs.declared.access.Access.{Access}
use Rattle.ob_base.specs.Numbers.{blocks_for}
use Rattle.ob_vault.specs.declared.region.Region.{Region}
use Rattle.ob_vault.specs.Revs.{turn_after}
use Rattle.ob_vault.specs.State.{World}
use Rattle.ob_vault.specs.Tied.{Lives, Written, OnTurn, Holds}
use Rattle.ob_vault.specs.Calls.{Went, Only, none}
use Rattle.ob_vault.proofs.Runs.{lives_went, lives_only, own_lasts, own_only, written_went, written_only, holds_went, holds_only, next_turn}
use Rattle.ob_row.specs.Slots.{Slots}
use Rattle.ob_blocks.specs.Blocks.{block_at}
use Rattle.ob_flat.specs.declared.flat.Flat.{Flat}
use Rattle.ob_flat.specs.Slots.{block_bytes}
use Rattle.ob_flat.specs.Flats.{IsMade, IsFlat, table_region}
use Rattle.ob_flat.proofs.Tables.{not_last, at_last}
use Rattle.ob_join.specs.Filling.{IsFilling, HoldsFirst}

at_first : (i n : ℕ) → i ≡ 0 → (if i == n then 0 else i) ≡ 0
at_first i n h = grind (arith, nat_tests)

module _ (pack : ℕ) (flat : Flat) where
  pub filling_first : (w : World) → IsMade pack flat w → IsFilling pack flat 0 w
  filling_first w made = record {
    own = made.own;
    order = made.order;
    lives = made.lives;
    turn = subst (λ (i : ℕ). OnTurn flat.region (table_region made.order pack flat.schema flat.capacity) i w) (sym (at_first 0 (blocks_for pack flat.capacity) (omega arith))) made.turn;
    written = λ p below. absurd (omega (arith, below));
  }

  pub filled : (n : ℕ) (w : World) → n ≡ blocks_for pack flat.capacity → IsFilling pack flat n w → IsFlat pack flat w
  filled n w last is = record {
    made = record {
      order = is.order;
      lives = is.lives;
      turn = subst (λ (i : ℕ). OnTurn flat.region (table_region is.order pack flat.schema flat.capacity) i w) (at_last n (blocks_for pack flat.capacity) last) is.turn;
    };
    written = λ p below. is.written p (omega (arith, below, last));
  }

  pub filling_turn : (n : ℕ) (w : World) (is : IsFilling pack flat n w) → n < blocks_for pack flat.capacity → OnTurn flat.region (table_region is.order pack flat.schema flat.capacity) n w
  filling_turn n w is below = subst (λ (i : ℕ). OnTurn flat.region (table_region is.order pack flat.schema flat.capacity) i w) (not_last n (blocks_for pack flat.capacity) below) is.turn

  pub filling_at : (n m : ℕ) (w : World) → n ≡ m → IsFilling pack flat n w → IsFilling pack flat m w
  filling_at n m w same is = subst (λ (k : ℕ). IsFilling pack flat k w) same is

  pub holds_at : (n m : ℕ) (slots : Slots) (w : World) → n ≡ m → HoldsFirst pack flat slots n w → HoldsFirst pack flat slots m w
  holds_at n m slots w same is = subst (λ (k : ℕ). HoldsFirst pack flat slots k w) same is

  module _ (n : ℕ) (a b : World) where
    -- while other regions are read
    pub filling_read : (x : List Access) → Went x none a b → ((q y : ℕ) (shape : Region) → OnTurn q shape y a → OnTurn q shape y b) → IsFilling pack flat n a → IsFilling pack flat n b
    filling_read x went turns is = record {
      own = own_lasts none a b went.lasts flat.region is.own;
      order = is.order;
      lives = lives_went none a b x flat.region (table_region is.order pack flat.schema flat.capacity) went (λ s. s) is.lives;
      turn = turns flat.region _ (table_region is.order pack flat.schema flat.capacity) is.turn;
      written = λ p below. written_went none a b x flat.region p went (λ s. s) (is.written p below);
    }

    pub holds_read : (x : List Access) (slots : Slots) → Went x none a b → HoldsFirst pack flat slots n a → HoldsFirst pack flat slots n b
    holds_read x slots went is = record { holds = λ p below. holds_went none a b x flat.region p _ went (λ s. s) (is.holds p below) }

    -- when the next place is written
    pub filling_more : Only flat.region n a b → ((shape : Region) → Lives flat.region shape a → OnTurn flat.region shape (turn_after shape n) b) → Written flat.region n b
        → IsFilling pack flat n a → IsFilling pack flat (n + 1) b
    filling_more only turn written is = record {
      own = own_only flat.region n a b only flat.region is.own;
      order = is.order;
      lives = lives_only flat.region n a b only _ _ is.lives;
      turn = next_turn flat.region n (table_region is.order pack flat.schema flat.capacity) b (turn (table_region is.order pack flat.schema flat.capacity) is.lives);
      written = below_more _ _ (λ p h. written_only flat.region n a b only flat.region p (λ _ at. absurd (omega (arith, at, h))) (is.written p h)) written;
    }

    pub holds_more : (slots : Slots) → Only flat.region n a b → Holds flat.region n (block_bytes flat.schema (block_at pack slots n)) b → HoldsFirst pack flat slots n a → HoldsFirst pack flat slots (n + 1) b
    holds_more slots only here is = record {
      holds = below_more _ _ (λ p h. holds_only flat.region n a b only flat.region p _ (λ _ at. absurd (omega (arith, at, h))) (is.holds p h)) here;
    }

-- How a result is written, one place after the other.
use Rattle.std.proofs.Common.{◌≡◌, ◌<◌, ◌+◌, ◌==◌, if◌then◌else◌, inl, inr, ℕ, List, sym, subst, arith}
use Rattle.std.proofs.lemmas.Bool.{cases_lt}
use Rattle.std.proofs.lemmas.Bool.Decides.{nat_tests}
use Rattle.ob_base.specs.declared.access.Access.{Access}
use Rattle.ob_vault.specs.declared.region.Region.{Region}
use Rattle.ob_vault.specs.Revs.{turn_after}
use Rattle.ob_vault.specs.State.{World}
use Rattle.ob_vault.specs.Tied.{Lives, Written, OnTurn}
use Rattle.ob_vault.specs.Calls.{Went, Only, none}
use Rattle.ob_vault.proofs.Runs.{lives_went, lives_only, own_lasts, own_only, next_turn}
use Rattle.ob_flat.specs.declared.flat.Flat.{Flat}
use Rattle.ob_flat.specs.Flats.{IsMade, IsFlat, table_region}
use Rattle.ob_flat.specs.Words.{blocks_of}
use Rattle.ob_flat.proofs.Tables.{not_last, at_last}
use Rattle.ob_small.specs.Selection.{IsNext, Extends}

at_first : (i n : ℕ) → i ≡ 0 → (if i == n then 0 else i) ≡ 0
at_first i n h = grind (arith, nat_tests)

module _ (pack : ℕ) (flat : Flat) where
  pub next_at : {n m : ℕ} {w : World} → n ≡ m → IsNext pack flat n w → IsNext pack flat m w
  next_at {w = w} same is = subst (λ (k : ℕ). IsNext pack flat k w) same is

  -- before the first place is written
  pub next_first : (n : ℕ) (w : World) → n ≡ 0 → IsMade pack flat w → IsNext pack flat n w
  next_first n w first made = record {
    own = made.own;
    order = made.order;
    lives = made.lives;
    turn = subst (λ (i : ℕ). OnTurn flat.region (table_region made.order pack flat.schema flat.capacity) i w) (sym (at_first n (blocks_of pack flat) first)) made.turn;
  }

  -- at a place that there is
  pub next_turned : (n : ℕ) (w : World) (is : IsNext pack flat n w) → n < blocks_of pack flat → OnTurn flat.region (table_region is.order pack flat.schema flat.capacity) n w
  next_turned n w is below = subst (λ (i : ℕ). OnTurn flat.region (table_region is.order pack flat.schema flat.capacity) i w) (not_last n (blocks_of pack flat) below) is.turn

  -- when it is written
  pub next_more : (n : ℕ) (a b : World) (is : IsNext pack flat n a) → Only flat.region n a b → ((shape : Region) → Lives flat.region shape a → OnTurn flat.region shape (turn_after shape n) b) → IsNext pack flat (n + 1) b
  next_more n a b is only turn =
      let shape = table_region is.order pack flat.schema flat.capacity in
      record { own = own_only flat.region n a b only flat.region is.own; order = is.order; lives = lives_only flat.region n a b only flat.region shape is.lives; turn = next_turn flat.region n shape b (turn shape is.lives) }

  -- while other regions are read
  pub next_read : (n : ℕ) (x : List Access) (a b : World) → Went x none a b → ((q y : ℕ) (shape : Region) → OnTurn q shape y a → OnTurn q shape y b) → IsNext pack flat n a → IsNext pack flat n b
  next_read n x a b went turns is =
      let shape = table_region is.order pack flat.schema flat.capacity in
      record { own = own_lasts none a b went.lasts flat.region is.own; order = is.order; lives = lives_went none a b x flat.region shape went (λ s. s) is.lives; turn = turns flat.region _ shape is.turn }

  -- when all are written
  pub next_last : (n : ℕ) (w : World) → n ≡ blocks_of pack flat → IsNext pack flat n w → ((p : ℕ) → p < n → Written flat.region p w) → IsFlat pack flat w
  next_last n w last is written = record {
    made = record {
      order = is.order;
      lives = is.lives;
      turn = subst (λ (i : ℕ). OnTurn flat.region (table_region is.order pack flat.schema flat.capacity) i w) (at_last n (blocks_of pack flat) last) is.turn;
    };
    written = λ p below. written p (omega (arith, below, last));
  }

-- what holds of the places so far
module _ (P : ℕ → World → Type 0) (first : ℕ) (a : World) where
  pub extends_none : Extends P first 0 a a
  extends_none = record { each = λ p below old. old (omega (arith, below)) }

  -- one place more, and more after those
  pub extends_one : (b : World) → ((p : ℕ) → p < first → P p a → P p b) → P first b → Extends P first 1 a b
  extends_one b stays here = record {
    each = λ p below old. elim (cases_lt p first) [
      | inl less ↦ stays p less (old less)
      | inr most ↦ let is : first ≡ p = omega (arith, most, below) in subst (λ (n : ℕ). P n b) is here
    ];
  }

  pub extends_join : (n m : ℕ) (b c : World) → Extends P first n a b → Extends P (first + n) m b c → Extends P first (n + m) a c
  extends_join n m b c before next = record { each = λ p below old. next.each p (omega (arith, below)) (λ less. before.each p less old) }

  pub extends_at : {n m : ℕ} {b : World} → n ≡ m → Extends P first n a b → Extends P first m a b
  extends_at {b = b} same is = subst (λ (k : ℕ). Extends P first k a b) same is

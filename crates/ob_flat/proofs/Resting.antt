-- What stands while a store makes room for more accesses.
use Rattle.std.proofs.Common.{ℕ, ◌∙◌}
use Rattle.ob_store.specs.State.{StoreState}
use Rattle.ob_store.specs.Calls.{ChangesNothing}
use Rattle.ob_vault.specs.State.{VaultState}
use Rattle.ob_flat.specs.declared.flat.Flat.{Flat}
use Rattle.ob_row.specs.Slots.{Slots}
use Rattle.ob_flat.specs.Flats.{IsFlat, Represents}

module _ (v : VaultState) (s t : StoreState) (rests : ChangesNothing s t) where
  pub flat_rests : (pack : ℕ) (flat : Flat) → IsFlat pack flat (record { vault = v; store = s }) → IsFlat pack flat (record { vault = v; store = t })
  flat_rests pack flat is = record {
    made = record {
      order = is.made.order;
      lives = record { live = is.made.lives.live };
      turn = record { turn = is.made.turn.turn; run = is.made.turn.run };
    };
    written = λ p below. record { number = (is.written p below).number };
  }

  pub represents_rests : (pack : ℕ) (flat : Flat) (slots : Slots) → Represents pack flat slots (record { vault = v; store = s }) → Represents pack flat slots (record { vault = v; store = t })
  represents_rests pack flat slots is = record { size = is.size; fits = is.fits; holds = λ p below. record { last = rests.keeps.last flat.region p ∙ (is.holds p below).last } }

-- What is left as it was while others ask.
use Rattle.std.specs.Prelude.{◌≡◌, ◌⊎◌, ℕ, Option, Some}
use Rattle.ob_vault.specs.Calls.{Lasts}
use Rattle.ob_vault.specs.State.{World}

-- what was done since may have changed all regions except these
abbrev pub Leaves : (these : ℕ → Type 0) → (old new : World) → Type 0
Leaves these = Lasts (λ q. these q → ⊥)

-- the regions that an act may change: that which the statement made, and the next one
abbrev pub own_or_next : (own : Option ℕ) → (next : ℕ) → ℕ → Type 0
own_or_next own next q = (own ≡ Some q) ⊎ (q ≡ next)

-- What a store is told to give up of a statement that it failed.
use Rattle.std.specs.Prelude.{◌≡◌, ℕ, Option, Some, length}
use Rattle.ob_store.specs.State.{StoreState}
use Rattle.ob_store.specs.declared.given.GivenUp.{GivenUp}

-- the regions from this number on were given up last, after all that was asked
abbrev pub GaveUpFrom : (from : ℕ) → (last : Option GivenUp) → StoreState → Type 0
GaveUpFrom from last s = last ≡ Some (record { from = from; asked = length s.asked })

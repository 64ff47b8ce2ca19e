-- Tampering.
use Rattle.std.specs.Prelude.{◌≡◌, [], ◌∷◌, ◌++◌, Some, Err}
use Rattle.ob_base.specs.declared.access.Access.TheVariants.{Read}
use Rattle.ob_base.specs.declared.refusal.Stop.TheVariants.{Tampered}
use Rattle.ob_seal.specs.KeySet.{KeySet}
use Rattle.ob_store.specs.State.{FalseRead, StoreState}
use Rattle.ob_vault.specs.State.{Start}
use Rattle.ob_vault.specs.Tied.{TagFits}
use Rattle.ob_headline.specs.declared.ending.Ending.{Ending}
use Rattle.ob_headline.specs.declared.ending.Ending.TheVariants.{Ran}

-- a changed block whose tag doesn't fit ends the run at its read, and the last line names it
pub record Tampering (keys : KeySet) (start : Start) (ending : Ending) (old new : StoreState)
    : Type 0 where
  pub tampered : (lie : FalseRead) → new.lie ≡ Some lie → ¬ TagFits keys start lie
      → (ending ≡ Ran (Err (Tampered lie.region lie.place)))
      × (new.asked ≡ lie.before ++ Read lie.region lie.place ∷ [])

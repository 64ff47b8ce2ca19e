use Rattle.ob_vault.proofs.WorldSteps.{forgets_region}
use Rattle.ob_vault.proofs.vault.Vault.forget.Goals as goal

pub returns : goal.returns
returns g c = record { forgets = λ s. forgets_region _ _ s _ c.end.ensures.others c.end.ensures.here }

use Rattle.std.proofs.Common.{rules}
use Rattle.ob_vault.specs.State.{earlier}
use Rattle.ob_vault.proofs.vault.Vault.spent.Goals as goal

pub returns : goal.returns
unfolding earlier
returns g c = search rules

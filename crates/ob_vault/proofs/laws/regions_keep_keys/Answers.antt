use Rattle.ob_vault.proofs.Rekeyed.{calm_rekeyed, holds_rekeyed, ready_rekeyed, sealed_rekeyed}
use Rattle.ob_vault.proofs.laws.regions_keep_keys.Goals as goal

pub returns-clause-ready : goal.returns-clause-ready
returns-clause-ready c = ready_rekeyed

pub returns-clause-holds : goal.returns-clause-holds
returns-clause-holds c = holds_rekeyed

pub returns-clause-sealed : goal.returns-clause-sealed
returns-clause-sealed c = λ keys w good scope same all. sealed_rekeyed keys w good scope same all

pub returns-clause-calm : goal.returns-clause-calm
returns-clause-calm c = calm_rekeyed

use Rattle.std.proofs.Common.{arith, refl, sym, subst}
use Rattle.ob_vault.specs.Numbers.{IsStart}
use Rattle.ob_vault.proofs.WorldSteps.{ready_new, start_earlier}
use Rattle.ob_vault.proofs.Resumed.{start_empty}
use Rattle.ob_vault.proofs.vault.Vault.start_at.Goals as goal

pub returns-clause-ready : goal.returns-clause-ready
returns-clause-ready g c = λ s none.
    ready_new _ none (subst IsStart (sym (start_empty _ _ _ _ c.new-trees.ensures c.new-resumed.ensures)) (start_earlier _ _)) refl (omega arith) c.new.ensures

pub returns-clause-started : goal.returns-clause-started
returns-clause-started g c = start_empty _ _ _ _ c.new-trees.ensures c.new-resumed.ensures

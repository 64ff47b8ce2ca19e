-- What discarding a table does.
use Rattle.std.specs.Prelude.{◌≡◌, ℕ, None, Result, OnOk, OnErr, IfErr}
use Rattle.ob_base.specs.Accesses.{discard_at}
use Rattle.ob_base.specs.Counts.{Rises}
use Rattle.ob_vault.specs.State.{World}
use Rattle.ob_vault.specs.Calls.{Went, one}
use Rattle.ob_vault.specs.Words.{SealsAll}
use Rattle.ob_flat.specs.declared.fault.OpErr.{OpErr}
use Rattle.ob_flat.specs.declared.fault.OpErr.TheVariants.{Failed}

-- its region is gone, whatever the store answers, whose failure its slips count
pub record Discards {T : Type 0} (region : ℕ) (result : Result T OpErr)
    (old new : World) : Type 0 where
  pub went : Went (discard_at region) (one region) old new
  pub gone : new.vault.revs.live region ≡ None
  pub slips : OnErr result (Rises old.store.slips new.store.slips)
  pub stays : OnOk result (new.store.slips ≡ old.store.slips)
  pub never : IfErr result (λ e. e ≡ Failed)
  pub seals : SealsAll old new

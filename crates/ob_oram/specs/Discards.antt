-- What discarding an index does.
use Rattle.std.specs.Prelude.{◌≡◌, ◌++◌, None, Result, OnOk, OnErr, IfErr}
use Rattle.ob_base.specs.Accesses.{discard_at}
use Rattle.ob_base.specs.Counts.{Rises}
use Rattle.ob_vault.specs.State.{World}
use Rattle.ob_vault.specs.Calls.{Went, two}
use Rattle.ob_vault.specs.Words.{SealsAll}
use Rattle.ob_flat.specs.declared.fault.OpErr.{OpErr}
use Rattle.ob_flat.specs.declared.fault.OpErr.TheVariants.{Failed}
use Rattle.ob_oram.specs.declared.index.Index.{Index}

-- the region of its tree is gone, and then that of its stash, whatever the store answers, whose failures its slips
-- count
pub record DiscardsIndex {T : Type 0} (index : Index) (result : Result T OpErr)
    (old new : World) : Type 0 where
  pub went : Went (discard_at index.tree ++ discard_at index.stash)
      (two index.tree index.stash) old new
  pub gone : new.vault.revs.live index.tree ≡ None
  pub gone_stash : new.vault.revs.live index.stash ≡ None
  pub slips : OnErr result (Rises old.store.slips new.store.slips)
  pub stays : OnOk result (new.store.slips ≡ old.store.slips)
  pub never : IfErr result (λ e. e ≡ Failed)
  pub seals : SealsAll old new

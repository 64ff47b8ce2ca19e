-- Passes that ask an emitter, too.
use Rattle.std.proofs.Common.{◌≡◌, Option, Some, None, ℕ, List, Err, refl, sym, subst}
use Rattle.ob_base.specs.declared.access.Access.{Access}
use Rattle.ob_store.specs.State.{FalseRead}
use Rattle.ob_vault.specs.State.{World}
use Rattle.ob_vault.specs.Tied.{Untampered, TagFits, IsUnfit}
use Rattle.ob_vault.proofs.WorldSteps.{calm_none}
use Rattle.ob_vault.specs.Calls.{Went, Lasts}
use Rattle.ob_vault.specs.declared.fault.VaultErr.{VaultErr}
use Rattle.ob_vault.specs.declared.fault.VaultErr.TheVariants as VaultErrs
use Rattle.ob_flat.specs.Passes.{pass_error, SinkCause}

-- no lie was told, where each fits and none that fits is told later
pub none_calm : (more : ℕ → Type 0) (b c : World) → Untampered b → Lasts more b c → IsUnfit c → b.store.lie ≡ None
none_calm more b c calm lasts unfit = go b.store.lie refl
  where
    go : (o : Option FalseRead) → b.store.lie ≡ o → b.store.lie ≡ None
    go None is = is
    go (Some lie) is = absurd (unfit.unfit lie (lasts.later.lie lie is) (subst (λ k. TagFits k c.vault.start lie) (sym lasts.keys) (subst (λ s. TagFits b.vault.keys s lie) (sym lasts.start) (calm.calm lie is))))

-- nor by a run that went well
pub none_before : (some : ℕ → Type 0) (more : ℕ → Type 0) (x : List Access) (a b c : World) → Went x some a b → Lasts more b c → a.store.lie ≡ None → IsUnfit c → b.store.lie ≡ None
none_before some more x a b c went lasts none unfit = none_calm more b c (went.calm (calm_none a none)) lasts unfit

-- the vault gave up: the emitter was not asked
pub sink_vault : (T : Type 0) (e : VaultErr) (old new : ℕ) → new ≡ old → SinkCause {T = T} (Err (pass_error e)) old new
sink_vault T VaultErrs.Failed old new same = same
sink_vault T (VaultErrs.Tampered q p) old new same = same
sink_vault T VaultErrs.NoMemory old new same = same

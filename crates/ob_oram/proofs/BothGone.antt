-- Two regions that are discarded one after the other.
use Rattle.std.proofs.Common.{◌≡◌, ◌++◌, inl, inr, ℕ, None, Result, Ok, Err, ◌∙◌, ap, arith}
use Rattle.std.specs.Prelude.{OnErr, OnOk}
use Rattle.ob_base.specs.Accesses.{discard_at}
use Rattle.ob_base.specs.Counts.{Rises}
use Rattle.ob_vault.specs.declared.fault.VaultErr.{VaultErr}
use Rattle.ob_vault.specs.State.{World}
use Rattle.ob_vault.specs.Calls.{Went, one, two}
use Rattle.ob_vault.specs.VaultCalls.{DropsRegion}
use Rattle.ob_vault.specs.Words.{SealsAll}
use Rattle.ob_vault.proofs.Runs.{seals_join, went_join, went_wider}
use Rattle.ob_flat.specs.Passes.{pass_error}
use Rattle.ob_oram.specs.declared.index.Index.{Index}
use Rattle.ob_oram.specs.Discards.{DiscardsIndex}

rises_more : {T : Type 0} (a b c : ℕ) (r : Result T VaultErr) → Rises a b → OnErr r (Rises b c) → OnOk r (c ≡ b) → Rises a c
rises_more a b c (Ok v) first risen same = omega (arith, first, same)
rises_more a b c (Err e) first risen same = omega (arith, first, risen)

module _ {T : Type 0} (index : Index) (apart : index.tree ≡ index.stash → ⊥) (old mid new : World) where
  module _ (r s : Result T VaultErr) (tree : DropsRegion index.tree r old mid) (stash : DropsRegion index.stash s mid new) where
    both : Went (discard_at index.tree ++ discard_at index.stash) (two index.tree index.stash) old new
    both = went_join (two index.tree index.stash) old mid new (discard_at index.tree) (discard_at index.stash)
        (went_wider (one index.tree) old mid (two index.tree index.stash) (λ q is. inl is) (discard_at index.tree) tree.went)
        (went_wider (one index.stash) mid new (two index.tree index.stash) (λ q is. inr is) (discard_at index.stash) stash.went)

    tree_gone : new.vault.revs.live index.tree ≡ None
    tree_gone = stash.went.lasts.apart.live index.tree apart ∙ tree.gone

    sealed : SealsAll old new
    sealed = record { seals = λ good. seals_join good old mid new tree.went.lasts.later (tree.seals good) (stash.seals good) }

  -- the first failed
  pub first_failed : (e : VaultErr) (s : Result T VaultErr) → DropsRegion {T = T} index.tree (Err e) old mid → DropsRegion index.stash s mid new → DiscardsIndex {T = T} index (Err (pass_error e)) old new
  first_failed e s tree stash = record {
    went = both (Err e) s tree stash;
    gone = tree_gone (Err e) s tree stash;
    gone_stash = stash.gone;
    slips = rises_more old.store.slips mid.store.slips new.store.slips s tree.slips stash.slips stash.stays;
    stays = tt;
    never = ap pass_error tree.never;
    seals = sealed (Err e) s tree stash;
  }

  -- or the second alone
  pub second_failed : (v : T) (e : VaultErr) → DropsRegion index.tree (Ok v) old mid → DropsRegion {T = T} index.stash (Err e) mid new → DiscardsIndex {T = T} index (Err (pass_error e)) old new
  second_failed v e tree stash = record {
    went = both (Ok v) (Err e) tree stash;
    gone = tree_gone (Ok v) (Err e) tree stash;
    gone_stash = stash.gone;
    slips = omega (arith, tree.stays, stash.slips);
    stays = tt;
    never = ap pass_error stash.never;
    seals = sealed (Ok v) (Err e) tree stash;
  }

  -- or none
  pub none_failed : (v w : T) → DropsRegion index.tree (Ok v) old mid → DropsRegion index.stash (Ok w) mid new → DiscardsIndex index (Ok w) old new
  none_failed v w tree stash = record {
    went = both (Ok v) (Ok w) tree stash;
    gone = tree_gone (Ok v) (Ok w) tree stash;
    gone_stash = stash.gone;
    slips = tt;
    stays = stash.stays ∙ tree.stays;
    never = tt;
    seals = sealed (Ok v) (Ok w) tree stash;
  }

-- A vault that goes on under other keys, which are the same for each region that matters.
use Rattle.std.proofs.Common.{◌≡◌, ◌≢◌, ◌≤◌, ◌-◌, ℕ, Bool, List, Some, None, length, take, refl, ◌∙◌, ap}
use Rattle.ob_store.specs.State.{FalseRead}
use Rattle.ob_seal.specs.KeySet.{AreAlike, KeySet}
use Rattle.ob_seal.proofs.Agree.{sealed_agree, tag_agree}
use Rattle.ob_vault.specs.State.{World}
use Rattle.ob_vault.specs.Rekeying.{rekeyed}
use Rattle.ob_vault.specs.Tied.{AllSealed, Untampered, Holds, Ready, Scope, at_lie, at_of}

module _ (keys : KeySet) (w : World) where
  pub ready_rekeyed : Ready w → Ready (rekeyed keys w)
  ready_rekeyed ready = record {
    tied = record {
      start = ready.tied.start;
      count = ready.tied.count;
      next = ready.tied.next;
      above = ready.tied.above;
      own = ready.tied.own;
      live = ready.tied.live;
      numbers = ready.tied.numbers;
    };
    below = ready.below;
    fits = ready.fits;
    laps = ready.laps;
  }

  pub holds_rekeyed : (q x : ℕ) (rows : List ℕ) → AreAlike w.vault.keys keys q → Holds q x rows w → Holds q x rows (rekeyed keys w)
  holds_rekeyed q x rows same holds = record { last = holds.last ∙ ap Some (sealed_agree w.vault.keys keys (at_of q x (w.vault.revs.number q x)) (same.each _ refl) rows) }

  pub sealed_rekeyed : (good : ℕ → List ℕ → Bool) (scope : Scope) → ((q : ℕ) → scope.from ≤ q → w.store.live q ≢ None → AreAlike w.vault.keys keys q)
      → AllSealed good scope w → AllSealed good scope (rekeyed keys w)
  sealed_rekeyed good scope same all = record {
    all = λ q x block from lives last.
        let here = all.all q x block from lives last in
        record {
          number = here.number;
          rows = here.rows;
          is = here.is ∙ sealed_agree w.vault.keys keys (at_of q x here.number) ((same q from lives).each _ refl) here.rows;
          went = here.went;
          newest = here.newest;
          fine = here.fine;
        };
  }

  pub calm_rekeyed : ((lie : FalseRead) → w.store.lie ≡ Some lie → AreAlike w.vault.keys keys lie.region) → Untampered w → Untampered (rekeyed keys w)
  calm_rekeyed same calm = record {
    calm = λ lie told.
        let fits = calm.calm lie told in
        record { tag = fits.tag ∙ tag_agree w.vault.keys keys (at_lie w.vault.start lie) ((same lie told).each _ refl) (take (length lie.bytes - 32) lie.bytes) };
    within = calm.within;
  }

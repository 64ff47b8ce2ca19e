-- A table beside another that changes.
use Rattle.std.proofs.Common.{◌≡◌, ◌≢◌, ◌∙◌, ℕ, Result, Ok, Err, IfOk, OnOk, inl, inr, sym, ap, subst}
use Rattle.ob_vault.specs.State.{World}
use Rattle.ob_vault.specs.Tied.{Ready}
use Rattle.ob_vault.specs.Calls.{Lasts, none, one, two}
use Rattle.ob_vault.proofs.Runs.{lives_apart}
use Rattle.ob_flat.specs.declared.flat.Flat.{Flat}
use Rattle.ob_flat.specs.Flats.{IsFlat}
use Rattle.ob_flat.specs.Words.{moved}
use Rattle.ob_flat.proofs.Tables.{flat_lasts}

pub on_ok : {T E P : Type 0} (r : Result T E) → P → OnOk r P
on_ok (Ok x) p = p
on_ok (Err e) p = tt

-- the result has this value, of which this is known
pub if_same : {E X : Type 0} (P : X → Type 0) (given : X) (r : Result X E) → IfOk r (λ x. x ≡ given) → P given → IfOk r P
if_same P given (Ok x) same p = subst P (sym same) p
if_same P given (Err e) same p = tt

-- it lies in no region that is made
pub beside_made : (pack : ℕ) (other : Flat) (a : World) → Ready a → IsFlat pack other a → other.region ≢ a.vault.next
beside_made pack other a ready is = lives_apart _ _ a ready is.made.lives

module _ (pack : ℕ) (other : Flat) (a b : World) (ready : Ready a) (is : IsFlat pack other a) where
  pub flat_made : Lasts (one a.vault.next) a b → IsFlat pack other b
  flat_made lasts = flat_lasts pack other (one a.vault.next) a b lasts (beside_made pack other a ready is) is

  -- nothing is made or given up
  pub flat_read : Lasts none a b → IsFlat pack other b
  flat_read lasts = flat_lasts pack other none a b lasts (λ made. made) is

  -- the other goes to a fresh region
  module _ (flat left : Flat) (apart : other.region ≢ flat.region) (lasts : Lasts (two flat.region a.vault.next) a b) (moves : left ≡ moved flat a.vault.next) where
    flat_beside : IsFlat pack other b
    flat_beside = flat_lasts pack other (two flat.region a.vault.next) a b lasts (λ s. elim s [ inl same ↦ apart same | inr same ↦ beside_made pack other a ready is same ]) is

    pub stays_beside : IsFlat pack other b × (other.region ≢ left.region)
    stays_beside = (flat_beside, λ same. beside_made pack other a ready is (same ∙ ap (λ (f : Flat). f.region) moves))

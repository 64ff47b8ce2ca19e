-- How parts of an opening join.
use Rattle.std.proofs.Common.{◌≡◌, inl, ℕ, ◌<◌, List, [], ◌++◌, length, length-append, Ok, Err, refl, sym, ◌∙◌, ap, subst, append_assoc, arith}
use Rattle.std.proofs.lemmas.List.{append-nil}
use Rattle.ob_base.specs.declared.access.Access.{Access}
use Rattle.ob_base.specs.Accesses.{read_at}
use Rattle.ob_base.specs.Counts.{Rises}
use Rattle.ob_base.specs.Lists.{each}
use Rattle.ob_store.proofs.Steps.{did_join, began_join, began_more, parts}
use Rattle.ob_vault.specs.declared.fault.VaultErr.{VaultErr}
use Rattle.ob_vault.specs.declared.fault.VaultErr.TheVariants as VaultErrs
use Rattle.ob_vault.specs.declared.region.Region.{Region}
use Rattle.ob_vault.specs.State.{World}
use Rattle.ob_vault.specs.Calls.{Went, CutShort, Cause, one}
use Rattle.ob_vault.specs.Resuming.{ResumesRegion, open_at}
use Rattle.ob_vault.proofs.Resumed.{stays_lasts, stays_trans, stays_wider}
use Rattle.ob_reopen.specs.declared.fault.OpenErr.{OpenErr}
use Rattle.ob_reopen.specs.declared.fault.OpenErr.TheVariants.{Failed, Tampered, NoMemory}
use Rattle.ob_reopen.specs.Openings.{open_error, OpenCause, OpensAll, OpensPart}

-- ---- calls of the vault
pub opens_went : (x : List Access) (some : ℕ → Type 0) (a b : World) → Went x some a b → OpensAll x some a b
opens_went x some a b went = record { stays = stays_lasts went.lasts; did = went.did; spare = went.spare; calm = went.calm }

cause_of : (e : VaultErr) (a b : World) → Cause e a b → OpenCause (open_error e) a b
cause_of VaultErrs.Failed a b cause = cause
cause_of (VaultErrs.Tampered q p) a b (kept, last, unfit, calm) = (kept, last, calm)
cause_of VaultErrs.NoMemory a b cause = cause

asks_of : (e : VaultErr) (a b : World) → ((e ≡ VaultErrs.NoMemory → ⊥) → length a.store.asked < length b.store.asked) → (open_error e ≡ NoMemory → ⊥) → length a.store.asked < length b.store.asked
asks_of VaultErrs.Failed a b asks off = asks (λ no. cc no)
asks_of (VaultErrs.Tampered q p) a b asks off = asks (λ no. cc no)
asks_of VaultErrs.NoMemory a b asks off = absurd (off refl)

pub opens_cut : (e : VaultErr) (x : List Access) (some : ℕ → Type 0) (a b : World) → CutShort e x some a b → OpensPart (open_error e) x some a b
opens_cut e x some a b cut = record { stays = stays_lasts cut.lasts; began = cut.began; asks = asks_of e a b cut.asks; cause = cause_of e a b cut.cause }

-- ---- an earlier run's region
module _ {T : Type 0} (q number : ℕ) (shape : Region) (a b : World) where
  pub opens_region : (value : T) → ResumesRegion q shape number (Ok value) a b → OpensAll (open_at q shape.blocks shape.width) (one q) a b
  opens_region value resumes = record { stays = resumes.stays; did = resumes.ok.did; spare = resumes.spare; calm = resumes.calm }

  pub opens_shut : (e : VaultErr) → ResumesRegion {T = T} q shape number (Err e) a b → OpensPart (open_error e) (open_at q shape.blocks shape.width) (one q) a b
  opens_shut e resumes = record { stays = resumes.stays; began = resumes.err.began; asks = asks_of e a b resumes.err.asks; cause = cause_of e a b resumes.err.cause }

-- ---- one after the other
module _ (some : ℕ → Type 0) (a b c : World) where
  cause_after : (e : OpenErr) (x : List Access) → OpensAll x some a b → OpenCause e b c → OpenCause e a c
  cause_after Failed x first (rises, calm) = (subst (λ (n : ℕ). Rises n c.store.faults) first.did.faults rises, λ was. calm (first.calm was))
  cause_after (Tampered q p) x first (same, last, calm) = (same ∙ first.did.faults, last, λ was. calm (first.calm was))
  cause_after NoMemory x first (same, calm) = (same ∙ first.did.faults, λ was. calm (first.calm was))

  asks_after : (x : List Access) → OpensAll x some a b → length b.store.asked < length c.store.asked → length a.store.asked < length c.store.asked
  asks_after x first more =
      let n = ap (λ (l : List Access). length l) first.did.asked ∙ length-append a.store.asked x in
      omega (arith, n, more)

  pub opens_join : (x y : List Access) → OpensAll x some a b → OpensAll y some b c → OpensAll (x ++ y) some a c
  opens_join x y first second = record {
    stays = stays_trans first.stays second.stays;
    did = did_join x y _ _ _ first.did second.did;
    spare = omega (arith, first.spare, second.spare, length-append x y);
    calm = λ was. second.calm (first.calm was);
  }

  pub opens_after : (e : OpenErr) (x y : List Access) → OpensAll x some a b → OpensPart e y some b c → OpensPart e (x ++ y) some a c
  opens_after e x y first second = record {
    stays = stays_trans first.stays second.stays;
    began = began_join x y _ _ _ first.did second.began;
    asks = λ off. asks_after x first (second.asks off);
    cause = cause_after e x first second.cause;
  }

module _ (some : ℕ → Type 0) (a b : World) where
  pub opens_more : (e : OpenErr) (x y : List Access) → OpensPart e x some a b → OpensPart e (x ++ y) some a b
  opens_more e x y first = record { stays = first.stays; began = began_more x y _ _ first.began; asks = first.asks; cause = first.cause }

  module _ (more : ℕ → Type 0) (within : (q : ℕ) → some q → more q) where
    pub all_wider : (x : List Access) → OpensAll x some a b → OpensAll x more a b
    all_wider x opens = record { stays = stays_wider more within opens.stays; did = opens.did; spare = opens.spare; calm = opens.calm }

    pub part_wider : (e : OpenErr) (x : List Access) → OpensPart e x some a b → OpensPart e x more a b
    part_wider e x opens = record { stays = stays_wider more within opens.stays; began = opens.began; asks = opens.asks; cause = opens.cause }

  -- the last access of all was a read, and what it gave is refused
  pub opens_refused : (q p : ℕ) (x : List Access) → OpensAll (x ++ read_at q p) some a b → OpensPart (Tampered q p) (x ++ read_at q p) some a b
  opens_refused q p x opens = record {
    stays = opens.stays;
    began = record { done = x ++ read_at q p; rest = []; split = append-nil (x ++ read_at q p); asked = opens.did.asked };
    asks = λ off. let n = ap (λ (l : List Access). length l) opens.did.asked ∙ length-append a.store.asked (x ++ read_at q p) in omega (arith, n, length-append x (read_at q p));
    cause = (opens.did.faults, record { before = a.store.asked ++ x; asked = opens.did.asked ∙ sym (append_assoc a.store.asked x (read_at q p)) }, λ was. inl (opens.calm was));
  }

-- in one of its rounds
pub part_each : (some : ℕ → Type 0) (part : ℕ → List Access) (a b c : World) (e : OpenErr) (n i : ℕ) → i < n → OpensAll (each i part) some a b → OpensPart e (part i) some b c → OpensPart e (each n part) some a c
part_each some part a b c e n i below first second =
    let p = parts part n i below in
    subst (λ (l : List Access). OpensPart e l some a c) (sym p.split)
    (opens_more some a c e (each i part ++ part i) p.rest (opens_after some a b c e (each i part) (part i) first second))

-- a first part, of a longer script
pub part_of : (some : ℕ → Type 0) (part : ℕ → List Access) (a b : World) (e : OpenErr) (n i : ℕ) → i < n → OpensPart e (each i part ++ part i) some a b → OpensPart e (each n part) some a b
part_of some part a b e n i below first =
    let p = parts part n i below in
    subst (λ (l : List Access). OpensPart e l some a b) (sym p.split) (opens_more some a b e (each i part ++ part i) p.rest first)

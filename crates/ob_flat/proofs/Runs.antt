-- How parts of a pass join where one of them gave up.
use Rattle.std.proofs.Common.{◌≡◌, inl, inr, ℕ, ◌<◌, List, [], ◌++◌, IsTrue, length, length-append, Result, Err, refl, sym, ◌∙◌, ap, subst, arith}
use Rattle.ob_base.specs.declared.access.Access.{Access}
use Rattle.ob_base.specs.Accesses.{read_at}
use Rattle.ob_base.specs.Counts.{Rises}
use Rattle.ob_base.specs.Lists.{each}
use Rattle.ob_store.specs.State.{StoreState}
use Rattle.ob_store.specs.Runs.{Began}
use Rattle.ob_store.proofs.Steps.{began_join, began_more, parts}
use Rattle.ob_vault.specs.declared.fault.VaultErr.{VaultErr}
use Rattle.ob_vault.specs.declared.fault.VaultErr.TheVariants as VaultErrs
use Rattle.ob_vault.specs.State.{World}
use Rattle.ob_vault.specs.Tied.{EndsAt}
use Rattle.ob_vault.specs.Calls.{Went, CutShort, Cause}
use Rattle.ob_vault.proofs.Runs.{lasts_trans, lasts_wider, asked_after}
use Rattle.ob_flat.specs.declared.fault.OpErr.{OpErr}
use Rattle.ob_flat.specs.declared.fault.OpErr.TheVariants.{Failed, Tampered, Sink, NoMemory}
use Rattle.ob_flat.specs.Passes.{pass_error, PassCause, is_of_access, PassCut}

-- a call of the vault that gave up
pub pass_of : (e : VaultErr) (x : List Access) (some : ℕ → Type 0) (a b : World) → CutShort e x some a b → PassCut (pass_error e) x some a b
pass_of e x some a b cut = record { lasts = cut.lasts; began = cut.began; asks = asked e cut.asks; cause = go e cut.cause }
  where
    asked : (e : VaultErr) → ((e ≡ VaultErrs.NoMemory → ⊥) → length a.store.asked < length b.store.asked)
        → IsTrue (is_of_access (pass_error e)) → length a.store.asked < length b.store.asked
    asked VaultErrs.Failed asks is = asks (λ no. absurd (cc no))
    asked (VaultErrs.Tampered q p) asks is = asks (λ no. absurd (cc no))
    asked VaultErrs.NoMemory asks is = absurd (cc is)

    go : (e : VaultErr) → Cause e a b → PassCause (pass_error e) a b
    go VaultErrs.Failed cause = cause
    go (VaultErrs.Tampered q p) (kept, last, unfit, calm) = (kept, last, calm)
    go VaultErrs.NoMemory cause = cause

module _ (some : ℕ → Type 0) (a b c : World) where
  cause_after : (e : OpErr) (x : List Access) → Went x some a b → PassCause e b c → PassCause e a c
  cause_after Failed x first (rises, calm) = (subst (λ (n : ℕ). Rises n c.store.faults) first.did.faults rises, λ was. calm (first.calm was))
  cause_after (Tampered q p) x first (same, last, calm) = (same ∙ first.did.faults, last, λ was. calm (first.calm was))
  cause_after Sink x first (same, calm) = (same ∙ first.did.faults, λ was. calm (first.calm was))
  cause_after NoMemory x first (same, calm) = (same ∙ first.did.faults, λ was. calm (first.calm was))

  -- in its second part
  pub pass_after : (e : OpErr) (x y : List Access) → Went x some a b → PassCut e y some b c → PassCut e (x ++ y) some a c
  pass_after e x y first second = record {
    lasts = lasts_trans some a b c first.lasts second.lasts;
    began = began_join x y _ _ _ first.did second.began;
    asks = λ is. asked_after some a b c x first (second.asks is);
    cause = cause_after e x first second.cause;
  }

-- a block was read
asked_read : (q p : ℕ) (some : ℕ → Type 0) (a b : World) → Went (read_at q p) some a b → length a.store.asked < length b.store.asked
asked_read q p some a b went =
    let n = ap (λ (l : List Access). length l) went.did.asked ∙ length-append a.store.asked (read_at q p) in
    omega (arith, n)

module _ (some : ℕ → Type 0) (a b : World) where
  -- in its first part
  pub pass_more : (e : OpErr) (x y : List Access) → PassCut e x some a b → PassCut e (x ++ y) some a b
  pass_more e x y first = record { lasts = first.lasts; began = began_more x y _ _ first.began; asks = first.asks; cause = first.cause }

  pub pass_wider : (more : ℕ → Type 0) → ((q : ℕ) → some q → more q) → (e : OpErr) (x : List Access) → PassCut e x some a b → PassCut e x more a b
  pass_wider more within e x cut = record { lasts = lasts_wider some a b more within cut.lasts; began = cut.began; asks = cut.asks; cause = cut.cause }

  -- a block that was read held a malformed row
  pub pass_malformed : (q p : ℕ) → Went (read_at q p) some a b → PassCut (Tampered q p) (read_at q p) some a b
  pass_malformed q p went = record {
    lasts = went.lasts;
    began = record { done = read_at q p; rest = []; split = Rattle.std.proofs.lemmas.List.append-nil (read_at q p); asked = went.did.asked };
    asks = λ is. asked_read q p some a b went;
    cause = (went.did.faults, record { before = a.store.asked; asked = went.did.asked }, λ was. inl (went.calm was));
  }

-- in one of its rounds
pub pass_each : (some : ℕ → Type 0) (part : ℕ → List Access) (a b c : World) (e : OpErr) (n i : ℕ) → i < n → Went (each i part) some a b → PassCut e (part i) some b c → PassCut e (each n part) some a c
pass_each some part a b c e n i below first second =
    let p = parts part n i below in
    subst (λ (l : List Access). PassCut e l some a c) (sym p.split)
    (pass_more some a c e (each i part ++ part i) p.rest (pass_after some a b c e (each i part) (part i) first second))

-- after which a region is forgotten
pub pass_then : (some : ℕ → Type 0) (e : OpErr) (x : List Access) (a b c : World) → PassCut e x some a b → Went [] some b c → c.store ≡ b.store → PassCut e x some a c
pass_then some e x a b c cut went same = record {
  lasts = lasts_trans some a b c cut.lasts went.lasts;
  began = subst (λ (s : StoreState). Began x a.store s) (sym same) cut.began;
  asks = λ is. subst (λ (s : StoreState). length a.store.asked < length s.asked) (sym same) (cut.asks is);
  cause = go e cut.cause;
}
  where
    ends : (q p : ℕ) → EndsAt q p b → EndsAt q p c
    ends q p is = record { lie = is.lie; told = ap (λ (s : StoreState). s.lie) same ∙ is.told; asked = ap (λ (s : StoreState). s.asked) same ∙ is.asked; at_region = is.at_region; at_place = is.at_place }

    faults : c.store.faults ≡ b.store.faults
    faults = ap (λ (s : StoreState). s.faults) same

    go : (e : OpErr) → PassCause e a b → PassCause e a c
    go Failed (rises, calm) = (subst (λ (n : ℕ). Rises a.store.faults n) (sym faults) rises, λ was. went.calm (calm was))
    go NoMemory (kept, calm) = (faults ∙ kept, λ was. went.calm (calm was))
    go Sink (kept, calm) = (faults ∙ kept, λ was. went.calm (calm was))
    go (Tampered q p) (kept, last, calm) = (faults ∙ kept, record { before = last.before; asked = ap (λ (s : StoreState). s.asked) same ∙ last.asked }, λ was. elim (calm was) [ inl still ↦ inl (went.calm still) | inr is ↦ inr (ends q p is) ])

pub not_memory : {A P : Type 0} {e : OpErr} → e ≡ Failed → ◌≡◌ {A = Result A OpErr} (Err e) (Err NoMemory) → P
not_memory failed same = cc

-- a pass wants memory where the vault did
pub vault_memory : {A B : Type 0} (e : VaultErr) → ◌≡◌ {A = Result A OpErr} (Err (pass_error e)) (Err NoMemory) → ◌≡◌ {A = Result B VaultErr} (Err e) (Err VaultErrs.NoMemory)
vault_memory VaultErrs.NoMemory same = refl
vault_memory VaultErrs.Failed same = cc
vault_memory (VaultErrs.Tampered q p) same = cc

-- The words of contracts, from one call to the next.
use Rattle.std.proofs.Common.{◌≡◌, ◌<◌, ◌≤◌, ◌+◌, ◌-◌, ◌^◌, ℕ, Bool, List, [], Some, None, inl, inr, take, drop, length, refl, sym, ◌∙◌, ap, subst, arith}
use Rattle.ob_base.specs.declared.access.Access.{Access}
use Rattle.ob_store.specs.State.{StoreState}
use Rattle.ob_store.specs.Calls.{ChangesNothing}
use Rattle.ob_store.proofs.Steps.{none_before, later_rests}
use Rattle.ob_base.specs.Accesses.{AllBelow, writes, makes, number_of, nth_write}
use Rattle.ob_seal.specs.Sealed.{sealed, tag_of}
use Rattle.ob_vault.specs.State.{Start, VaultState, World, from_nothing, earlier}
use Rattle.ob_vault.specs.Numbers.{number_after, last_number, spent, WritesBehind}
use Rattle.ob_vault.specs.Tied.{Ready, Scope, SealedAt, at_of}
use Rattle.ob_vault.specs.Calls.{Went, Lasts, Seals, Unfit, Unsealed}
use Rattle.ob_vault.specs.Words.{MayAsk, MayStart, StartsAnew, IsHonest}
use Rattle.ob_vault.proofs.WorldSteps.{world, calm_lasts, seals_unasked}
use Rattle.ob_vault.proofs.Runs.{went_spent, tells_went, shapes_none}
use Rattle.std.proofs.lemmas.List.{append-nil}

-- fewer accesses are left
pub asks_after : {n m : ℕ} {x : List Access} {some : ℕ → Type 0} {a b : World} → MayAsk n a → Went x some a b → length x + m ≤ n → MayAsk m b
asks_after asks went enough = record {
  ready = went.lasts.ready;
  spare = omega (arith, asks.spare, went.spare, enough);
  few = omega (arith, asks.few, went_spent _ _ _ _ went, enough);
}

pub asks_fewer : {n m : ℕ} {w : World} → MayAsk n w → m ≤ n → MayAsk m w
asks_fewer asks enough = record { ready = asks.ready; spare = omega (arith, asks.spare, enough); few = omega (arith, asks.few, enough) }

pub asks_start : {n : ℕ} {w : World} → MayStart n w → n ≤ 2 ^ 59 → MayAsk n w
asks_start starts most = record { ready = starts.ready; spare = starts.spare; few = omega (arith, starts.few, most) }

-- a part of an honest run is honest
pub honest_before : {some : ℕ → Type 0} {a b c : World} → Lasts some b c → IsHonest a c → IsHonest a b
honest_before lasts is = record { tells = is.tells; nolie = none_before _ _ lasts.later is.nolie }

pub honest_after : {x : List Access} {some : ℕ → Type 0} {a b c : World} → Went x some a b → IsHonest a c → IsHonest b c
honest_after went is = record { tells = tells_went _ _ _ _ went is.tells; nolie = is.nolie }

pub honest_same : {a b c : World} → c.store ≡ b.store → IsHonest a c → IsHonest a b
honest_same same is = record { tells = is.tells; nolie = subst (λ (s : StoreState). s.lie ≡ None) same is.nolie }

-- what was refused is refused still, and what was opened was opened, over whatever leaves the store, the keys and the start
module _ (q x : ℕ) (old new : World) (same : new.store ≡ old.store) where
  module _ (keys : new.vault.keys ≡ old.vault.keys) (start : new.vault.start ≡ old.vault.start) where
    pub unfit_same : Unfit q x old → Unfit q x new
    unfit_same is = record {
      differs = λ fits. is.differs (sym (λ i. drop (length (same i).gave - 32) (same i).gave) ∙ fits
          ∙ (λ i. tag_of (keys i) (at_of q x (number_after (start i) (same i).asked q x)) (take (length (same i).gave - 32) (same i).gave)));
    }

    pub opened_same : (rows : List ℕ) → Unsealed q x rows old → Unsealed q x rows new
    opened_same rows is = record {
      gave = ap (λ (s : StoreState). s.gave) same ∙ is.gave ∙ sym (λ i. sealed (keys i) (at_of q x (number_after (start i) (same i).asked q x)) rows);
    }

  module _ (some : ℕ → Type 0) (lasts : Lasts some old new) where
    pub unfit_lasts : Unfit q x old → Unfit q x new
    unfit_lasts = unfit_same lasts.keys lasts.start

    pub opened_lasts : (rows : List ℕ) → Unsealed q x rows old → Unsealed q x rows new
    opened_lasts = opened_same lasts.keys lasts.start

-- where a store makes room for more accesses
module _ (v : VaultState) (s t : StoreState) (rests : ChangesNothing s t) where
  pub ready_rests : Ready (world v s) → Ready (world v t)
  ready_rests ready =
      let tied = ready.tied in
      record {
        tied = record {
          start = tied.start;
          count = tied.count ∙ ap (λ (l : List Access). v.start.writes + writes l) (sym rests.asked);
          next = tied.next ∙ ap (λ (l : List Access). v.start.region + 1 + makes l) (sym rests.asked);
          above = subst (AllBelow v.next) (sym rests.asked) tied.above;
          own = subst (WritesBehind v.start) (sym rests.asked) tied.own;
          live = λ q shape lives. record { live = rests.keeps.live q ∙ (tied.live q shape lives).live };
          numbers = λ q x shape lives within. tied.numbers q x shape lives within ∙ ap (λ (l : List Access). number_after v.start l q x) (sym rests.asked);
        };
        below = ready.below;
        fits = ready.fits;
        laps = ready.laps;
      }

  pub went_rests : (some : ℕ → Type 0) → Ready (world v s) → Went [] some (world v s) (world v t)
  went_rests some ready =
      let lasts : Lasts some (world v s) (world v t) = record {
        ready = ready_rests ready;
        later = later_rests s t rests;
        keys = refl;
        start = refl;
        shapes = shapes_none v s t;
        apart = record { live = λ q off. refl; number = λ q x off. refl; turn = λ q off. refl; kept = λ q off. rests.keeps.live q; last = λ q x off. rests.keeps.last q x; rests = λ q off. rests.keeps.kept q };
      } in
      record {
        lasts = lasts;
        did = record { asked = rests.asked ∙ sym (append-nil s.asked); faults = rests.faults };
        spare = omega (arith, rests.spare);
        calm = calm_lasts some (world v s) (world v t) [] lasts (rests.asked ∙ sym (append-nil s.asked)) rests.lie;
      }

  pub seals_rests : (good : ℕ → List ℕ → Bool) → Seals good (world v s) (world v t)
  seals_rests good = seals_unasked good (world v s) (world v t) refl refl rests.asked (omega (arith, rests.faults)) rests.keeps

-- of a vault that starts from nothing: it counts its own accesses
pub earlier_nothing : earlier from_nothing ≡ 0
unfolding earlier
earlier_nothing = refl

pub spent_nothing : (w : World) → w.vault.start ≡ from_nothing → spent w ≡ length w.store.asked
spent_nothing w none = omega (arith, ap earlier none, earlier_nothing)

pub starts_anew : {w : World} → Ready w → w.vault.start ≡ from_nothing → StartsAnew w
starts_anew ready none = record { ready = ready; first = ap earlier none ∙ earlier_nothing }

pub anew_lasts : {some : ℕ → Type 0} {a b : World} → Lasts some a b → StartsAnew a → StartsAnew b
anew_lasts lasts is = record { ready = lasts.ready; first = ap earlier lasts.start ∙ is.first }

pub anew_rests : (v : VaultState) (s t : StoreState) → ChangesNothing s t → StartsAnew (world v s) → StartsAnew (world v t)
anew_rests v s t rests is = record { ready = ready_rests v s t rests is.ready; first = is.first }

pub anew_starts : {n : ℕ} {w : World} → StartsAnew w → n ≤ w.store.spare → length w.store.asked < 2 ^ 59 → MayStart n w
anew_starts is spare few = record { ready = is.ready; spare = spare; few = omega (arith, is.first, few) }

-- and its numbers are the positions among the accesses
pub number_from_nothing : (asked : List Access) (q x : ℕ) → number_after from_nothing asked q x ≡ number_of asked q x
unfolding number_of
number_from_nothing asked q x = refl

pub last_from_nothing : (w : World) (q x : ℕ) → w.vault.start ≡ from_nothing → last_number w q x ≡ number_of w.store.asked q x
last_from_nothing w q x none = ap (λ (s : Start). number_after s w.store.asked q x) none ∙ number_from_nothing w.store.asked q x

pub went_from_nothing : (good : ℕ → List ℕ → Bool) (scope : Scope) (w : World) (q x : ℕ) (block : List ℕ) → w.vault.start ≡ from_nothing → (is : SealedAt good scope w q x block) → nth_write is.number w.store.asked ≡ Some (q, x)
went_from_nothing good scope w q x block none is = elim is.went [
  | inl went ↦ let zero : is.number - w.vault.start.writes ≡ is.number = omega (arith, ap (λ (s : Start). s.writes) none) in sym (ap (λ (k : ℕ). nth_write k w.store.asked) zero) ∙ went
  | inr given ↦ absurd (given.1 (given.0 ∙ ap (λ (s : Start). s.given q x) none))
]

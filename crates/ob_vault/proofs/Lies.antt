-- Lies and the reads that told them.
use Rattle.std.proofs.Common.{◌≡◌, ◌⊎◌, inl, inr, ℕ, ◌-◌, List, [], ◌∷◌, Option, Some, None, length, take, drop, refl, sym, ◌∙◌, ap, subst}
use Rattle.ob_base.specs.declared.access.Access.{Access}
use Rattle.ob_base.specs.declared.access.Access.TheVariants.{Read}
use Rattle.ob_store.specs.State.{FalseRead, StoreState}
use Rattle.ob_store.specs.Calls.{Asks, ReadGives}
use Rattle.ob_store.proofs.Steps.{list_cases, began_call, did_call}
use Rattle.ob_seal.specs.KeySet.{KeySet}
use Rattle.ob_seal.specs.Sealed.{sealed, tag_of}
use Rattle.ob_vault.specs.declared.fault.VaultErr.TheVariants as VaultErrs
use Rattle.ob_vault.specs.State.{VaultState}
use Rattle.ob_vault.specs.Numbers.{number_after}
use Rattle.ob_base.proofs.AccessLemmas.{number_read}
use Rattle.ob_vault.specs.Tied.{TagFits, ReadsIn, at_of}
use Rattle.ob_vault.proofs.WorldSteps.{world, calm_lasts, asked_call}
use Rattle.ob_vault.specs.Calls.{Lasts, Went, CutShort, Unfit, Unsealed, none}

-- what a read does to the lie: nothing, or it is this
lie_after : (region place : ℕ) (bytes : List ℕ) (old new : StoreState) → Asks (Read region place) old new → ReadGives region place bytes old new
    → (new.lie ≡ old.lie) ⊎ (new.lie ≡ Some (record { region = region; place = place; bytes = bytes; before = old.asked }))
lie_after region place bytes old new asks gives = go old.lie refl
  where
    Goal : Type 0
    Goal = (new.lie ≡ old.lie) ⊎ (new.lie ≡ Some (record { region = region; place = place; bytes = bytes; before = old.asked }))

    fresh : old.lie ≡ None → (b : Option (List ℕ)) → old.last region place ≡ b → Goal
    fresh was None is = inl (gives.unwritten was is ∙ sym was)
    fresh was (Some block) is = elim (list_cases block bytes) [
      | inl same ↦ inl (gives.honest was (is ∙ ap (λ (b : List ℕ). Some b) same) ∙ sym was)
      | inr other ↦ inr (gives.caught block was is other)
    ]

    go : (o : Option FalseRead) → old.lie ≡ o → Goal
    go None was = fresh was (old.last region place) refl
    go (Some lie) was = inl (asks.lie lie was ∙ sym was)

-- the tag of these bytes is that of their place and number
abbrev pub FitsAs : KeySet → ℕ → ℕ → ℕ → List ℕ → Type 0
FitsAs keys q x n bytes = drop (length bytes - 32) bytes ≡ tag_of keys (at_of q x n) (take (length bytes - 32) bytes)

module _ (v : VaultState) (q x : ℕ) (old new : StoreState) (asks : Asks (Read q x) old new) where
  -- a read leaves the numbers
  number_read_on : number_after v.start new.asked q x ≡ number_after v.start old.asked q x
  number_read_on = ap (λ (l : List Access). number_after v.start l q x) asks.asked ∙ number_read v.start.writes (v.start.given q x) q x q x old.asked

  -- what it gave hasn't the tag, or was opened
  pub read_unfit : (bytes : List ℕ) → new.gave ≡ bytes → (FitsAs v.keys q x (number_after v.start old.asked q x) bytes → ⊥) → Unfit q x (world v new)
  read_unfit bytes gave off = record { differs = λ same. off (subst (FitsAs v.keys q x (number_after v.start old.asked q x)) gave (same ∙ ap (λ (n : ℕ). tag_of v.keys (at_of q x n) (take (length new.gave - 32) new.gave)) number_read_on)) }

  pub read_opened : (bytes rows : List ℕ) → new.gave ≡ bytes → bytes ≡ sealed v.keys (at_of q x (number_after v.start old.asked q x)) rows → Unsealed q x rows (world v new)
  read_opened bytes rows gave is = record { gave = gave ∙ is ∙ ap (λ (n : ℕ). sealed v.keys (at_of q x n) rows) (sym number_read_on) }

  module _ (bytes : List ℕ) (lasts : Lasts none (world v old) (world v new)) (gives : ReadGives q x bytes old new) (faults : new.faults ≡ old.faults) where
    -- one whose block fits
    pub read_went : FitsAs v.keys q x (number_after v.start old.asked q x) bytes → Went (Read q x ∷ []) none (world v old) (world v new)
    read_went tag = record {
      lasts = lasts;
      did = did_call _ _ _ asks faults;
      spare = asks.spare;
      calm = λ calm. elim (lie_after q x bytes old new asks gives) [
        | inl same ↦ calm_lasts none (world v old) (world v new) (Read q x ∷ []) lasts asks.asked same calm
        | inr is ↦
            let here : FalseRead = record { region = q; place = x; bytes = bytes; before = old.asked } in
            let fits : TagFits v.keys v.start here = record { tag = tag } in
            record {
              calm = λ lie now. let at : here ≡ lie = cc (is, now) in subst (λ (l : FalseRead). TagFits v.keys v.start l) at fits;
              within = λ lie now. let at : here ≡ lie = cc (is, now) in subst (λ (l : FalseRead). ReadsIn l new.asked) at (record { rest = []; is = sym asks.asked });
            }
      ];
    }

    -- one whose block doesn't
    pub read_tampered : Unfit q x (world v new) → CutShort (VaultErrs.Tampered q x) (Read q x ∷ []) none (world v old) (world v new)
    read_tampered unfit = record {
      lasts = lasts;
      began = began_call _ _ _ asks;
      asks = λ some. asked_call _ _ _ asks;
      cause = (
        faults,
        record { before = old.asked; asked = asks.asked },
        unfit,
        λ calm. elim (lie_after q x bytes old new asks gives) [
          | inl same ↦ inl (calm_lasts none (world v old) (world v new) (Read q x ∷ []) lasts asks.asked same calm)
          | inr is ↦ inr (record {
            lie = record { region = q; place = x; bytes = bytes; before = old.asked };
            told = is;
            asked = asks.asked;
            at_region = refl;
            at_place = refl;
          })
        ],
      );
    }

-- A closing that was read under some keys was read under all that are the same for its region.
use Rattle.std.proofs.Common.{◌≡◌, ◌≢◌, ◌⊎◌, inl, inr, ◌-◌, ℕ, ◌+◌, Bool, List, [], ◌∷◌, ◌++◌, length, take, Option, Some, None, Ok, Err, Result, refl, sym, ◌∙◌, ap, subst}
use Rattle.std.proofs.lemmas.Bool.{cases_eq}
use Rattle.std.specs.Prelude.{slice_index_or}
use Rattle.ob_base.specs.Accesses.{region_of}
use Rattle.ob_base.specs.declared.access.Access.{Access}
use Rattle.ob_base.specs.declared.access.Access.TheVariants.{Read}
use Rattle.ob_store.specs.State.{KeptRegion, FalseRead}
use Rattle.ob_seal.specs.KeySet.{AreAlike, KeySet}
use Rattle.ob_seal.proofs.Agree.{sealed_agree, tag_agree}
use Rattle.ob_vault.specs.Calls.{Seals, Unfit, one}
use Rattle.ob_vault.specs.Numbers.{last_number}
use Rattle.ob_vault.specs.Rekeying.{rekeyed}
use Rattle.ob_vault.specs.Resuming.{KeptSealed, Stays, Unasked}
use Rattle.ob_vault.specs.State.{World}
use Rattle.ob_vault.specs.Tied.{AllSealed, Untampered, EndsAt, Scope, at_of}
use Rattle.ob_vault.proofs.Rekeyed.{calm_rekeyed, ready_rekeyed, sealed_rekeyed}
use Rattle.ob_reopen.specs.declared.closing.Closing.{Closing}
use Rattle.ob_reopen.specs.declared.fault.OpenErr.{OpenErr}
use Rattle.ob_reopen.specs.declared.fault.OpenErr.TheVariants.{Failed, Tampered, NoMemory}
use Rattle.ob_reopen.specs.declared.listed.Listed.{Listed}
use Rattle.ob_reopen.specs.Closings.{KeepsRows}
use Rattle.ob_reopen.proofs.AlikeKeys.{alike_back}
use Rattle.ob_reopen.specs.Openings.{AwaitsTables, ClosingTampered, IsNoRow, IsNumbered, OpenCause, ReadsClosing}

asked_at : (q : ℕ) (before : List Access) (a : Access) (rest : List Access) → Unasked q (before ++ a ∷ rest) → region_of a ≢ q
asked_at q [] a rest off = off.0
asked_at q (x ∷ before) a rest off = asked_at q before a rest off.1

pub rows_agree : (k l : KeySet) (closing : Closing) (rows : List (List ℕ)) (kept : ℕ → Option KeptRegion) → AreAlike k l closing.region → KeepsRows k closing rows kept → KeepsRows l closing rows kept
rows_agree k l closing rows kept same keeps = record {
  region = keeps.region;
  is = keeps.is;
  blocks = keeps.blocks;
  len = keeps.len;
  whole = keeps.whole;
  count = keeps.count;
  sizes = keeps.sizes;
  holds = λ p below. keeps.holds p below ∙ ap Some (sealed_agree k l (at_of closing.region p (closing.number + p)) (same.each _ refl) (slice_index_or rows p []));
}

module _ (closing : Closing) (keys : KeySet) (old new : World)
    (same : AreAlike old.vault.keys keys closing.region)
    (stays : Stays (one closing.region) old new)
    (only : (q : ℕ) → q ≢ closing.region → Unasked q new.store.asked)
    (honest : old.store.lie ≡ None) (empty : (q : ℕ) → old.store.live q ≡ None) where
  same_new : AreAlike new.vault.keys keys closing.region
  same_new = subst (λ (k : KeySet). AreAlike k keys closing.region) (sym stays.keys) same

  same_at : (q : ℕ) → q ≡ closing.region → AreAlike new.vault.keys keys q
  same_at q is = subst (AreAlike new.vault.keys keys) (sym is) same_new

  stays_rekeyed : Stays (one closing.region) (rekeyed keys old) (rekeyed keys new)
  stays_rekeyed = record {
    ready = ready_rekeyed keys new stays.ready;
    keys = refl;
    writes = stays.writes;
    region = stays.region;
    given = stays.given;
    linked = stays.linked;
    next = stays.next;
    log = stays.log;
    faults = stays.faults;
    tells = stays.tells;
    lie = stays.lie;
    steady = stays.steady;
    apart = record {
      live = stays.apart.live;
      number = stays.apart.number;
      turn = stays.apart.turn;
      kept = stays.apart.kept;
      last = stays.apart.last;
      rests = stays.apart.rests;
    };
  }

  -- the sole region that is live, and that of a lie, are the closing's
  live_there : (q : ℕ) → new.store.live q ≢ None → (q ≡ closing.region) ⊎ (q ≢ closing.region) → q ≡ closing.region
  live_there q lives (inl is) = is
  live_there q lives (inr off) = absurd (lives (stays.apart.kept q off ∙ empty q))

  lie_there : Untampered new → (lie : FalseRead) → new.store.lie ≡ Some lie → (lie.region ≡ closing.region) ⊎ (lie.region ≢ closing.region) → lie.region ≡ closing.region
  lie_there calm lie told (inl is) = is
  lie_there calm lie told (inr off) =
      let reads = calm.within lie told in
      absurd (asked_at lie.region lie.before (Read lie.region lie.place) reads.rest (subst (Unasked lie.region) (sym reads.is) (only lie.region off)) refl)

  calm_old : Untampered old
  calm_old = record { calm = λ lie told. absurd (cc (honest, told)); within = λ lie told. absurd (cc (honest, told)) }

  calms : (Untampered old → Untampered new) → Untampered (rekeyed keys old) → Untampered (rekeyed keys new)
  calms calm is =
      let c = calm calm_old in
      calm_rekeyed keys new (λ lie told. same_at lie.region (lie_there c lie told (cases_eq lie.region closing.region))) c

  ends_at : (q x : ℕ) → EndsAt q x new → EndsAt q x (rekeyed keys new)
  ends_at q x is = record { lie = is.lie; told = is.told; asked = is.asked; at_region = is.at_region; at_place = is.at_place }

  cause_rekeyed : (e : OpenErr) → OpenCause e old new → OpenCause e (rekeyed keys old) (rekeyed keys new)
  cause_rekeyed Failed cause = (cause.0, calms cause.1)
  cause_rekeyed (Tampered q x) cause = (
    cause.0,
    record { before = cause.1.before; asked = cause.1.asked },
    λ is. elim (cause.2 calm_old) [ inl calm ↦ inl (calms (λ c. calm) is) | inr ends ↦ inr (ends_at q x ends) ],
  )
  cause_rekeyed NoMemory cause = (cause.0, calms cause.1)

  unfit_rekeyed : (p : ℕ) → Unfit closing.region p new → Unfit closing.region p (rekeyed keys new)
  unfit_rekeyed p unfit = record {
    differs = λ fits. unfit.differs (fits ∙ sym (tag_agree new.vault.keys keys (at_of closing.region p (last_number new closing.region p)) (same_new.each _ refl) (take (length new.store.gave - 32) new.store.gave)));
  }

  no_row : (p : ℕ) → IsNoRow closing p new → IsNoRow closing p (rekeyed keys new)
  no_row p is = record {
    bytes = is.bytes;
    opened = record { gave = is.opened.gave ∙ sealed_agree new.vault.keys keys (at_of closing.region p (last_number new closing.region p)) (same_new.each _ refl) is.bytes };
    before = is.before;
    listed = is.listed;
    count = is.count;
    none = is.none;
  }

  tampered_rekeyed : (e : OpenErr) → ClosingTampered closing e new → ClosingTampered closing e (rekeyed keys new)
  tampered_rekeyed e is = record {
    place = is.place;
    below = is.below;
    is = is.is;
    why = elim is.why [ inl unfit ↦ inl (unfit_rekeyed is.place unfit) | inr none ↦ inr (no_row is.place none) ];
  }

  numbered_rekeyed : IsNumbered closing new → IsNumbered closing (rekeyed keys new)
  numbered_rekeyed is = record { here = is.here; others = is.others }

  awaits_rekeyed : AwaitsTables closing new → AwaitsTables closing (rekeyed keys new)
  awaits_rekeyed is = record {
    ready = ready_rekeyed keys new is.ready;
    region = is.region;
    writes = is.writes;
    few = is.few;
    given = is.given;
    unasked = is.unasked;
    gone = is.gone;
  }

  kept_back : (good : ℕ → List ℕ → Bool) → KeptSealed good closing.region closing.number (rekeyed keys old) → KeptSealed good closing.region closing.number old
  kept_back good is = record {
    kept = is.kept;
    is = is.is;
    all = λ x block last.
        let here = is.all x block last in
        record { rows = here.rows; is = here.is ∙ sym (sealed_agree old.vault.keys keys (at_of closing.region x (closing.number + x)) (same.each _ refl) here.rows); fine = here.fine };
  }

  all_old : (good : ℕ → List ℕ → Bool) (scope : Scope) → AllSealed good scope old
  all_old good scope = record { all = λ q x block from lives last. absurd (lives (empty q)) }

  seals_rekeyed : (good : ℕ → List ℕ → Bool) → Seals good old new → Seals good (rekeyed keys old) (rekeyed keys new)
  seals_rekeyed good seals = record {
    seals = λ scope few tells all. sealed_rekeyed keys new good scope (λ q from lives. same_at q (live_there q lives (cases_eq q closing.region))) (seals.seals scope few tells (all_old good scope));
  }

  read_rekeyed : (listed : List Listed) → ReadsClosing closing (Ok listed) old new → ReadsClosing closing (Ok listed) (rekeyed keys old) (rekeyed keys new)
  read_rekeyed listed reads = record {
    opens = record {
      ok = record { stays = stays_rekeyed; did = reads.opens.ok.did; spare = reads.opens.ok.spare; calm = calms reads.opens.ok.calm };
      err = tt;
    };
    never = tt;
    memory = reads.memory;
    catalogue = reads.catalogue;
    lives = record { live = reads.lives.live };
    awaits = awaits_rekeyed reads.awaits;
    kept = reads.kept;
    numbered = numbered_rekeyed reads.numbered;
    seals = λ good kept. seals_rekeyed good (reads.seals good (kept_back good kept));
    told = λ is rows keeps.
        reads.told (record { tells = is.tells; nolie = is.nolie }) rows (rows_agree keys old.vault.keys closing rows old.store.kept (alike_back _ _ _ same) keeps);
  }

  refused_rekeyed : (e : OpenErr) → ReadsClosing closing (Err e) old new → ReadsClosing closing (Err e) (rekeyed keys old) (rekeyed keys new)
  refused_rekeyed e reads = record {
    opens = record {
      ok = tt;
      err = record { stays = stays_rekeyed; began = reads.opens.err.began; asks = reads.opens.err.asks; cause = cause_rekeyed e reads.opens.err.cause };
    };
    never = elim reads.never [
      | inl failed ↦ inl failed
      | inr (inl memory) ↦ inr (inl memory)
      | inr (inr tampered) ↦ inr (inr (tampered_rekeyed e tampered))
    ];
    memory = reads.memory;
    catalogue = tt;
    lives = tt;
    awaits = tt;
    kept = reads.kept;
    numbered = elim reads.numbered [ inl is ↦ inl (numbered_rekeyed is) | inr none ↦ inr none ];
    seals = λ good kept. seals_rekeyed good (reads.seals good (kept_back good kept));
    told = λ is rows keeps.
        reads.told (record { tells = is.tells; nolie = is.nolie }) rows (rows_agree keys old.vault.keys closing rows old.store.kept (alike_back _ _ _ same) keeps);
  }

pub reads_rekeyed : (closing : Closing) (keys : KeySet) (old new : World) (result : Result (List Listed) OpenErr) → AreAlike old.vault.keys keys closing.region
    → ((q : ℕ) → q ≢ closing.region → Unasked q new.store.asked) → old.store.lie ≡ None → ((q : ℕ) → old.store.live q ≡ None)
    → ReadsClosing closing result old new → ReadsClosing closing result (rekeyed keys old) (rekeyed keys new)
reads_rekeyed closing keys old new (Ok listed) same only honest empty reads = read_rekeyed closing keys old new same reads.opens.ok.stays only honest empty listed reads
reads_rekeyed closing keys old new (Err e) same only honest empty reads = refused_rekeyed closing keys old new same reads.opens.err.stays only honest empty e reads

-- A result that was read back, and discarded or forgotten.
use Rattle.std.proofs.Common.{◌≡◌, inl, inr, ◌+◌, arith, ℕ, Bool, List, [], ◌++◌, None, Result, Ok, Err, refl, sym, ◌∙◌, ap, subst}
use Rattle.ob_base.specs.Accesses.{discard_at}
use Rattle.ob_base.specs.declared.shown.Shown.{Shown}
use Rattle.ob_base.specs.Events.{Event, IsEmitted, row_events}
use Rattle.ob_script.specs.Parts.{count_part}
use Rattle.ob_seal.specs.KeySet.{KeySet}
use Rattle.ob_store.specs.State.{StoreState}
use Rattle.ob_store.specs.Runs.{Began}
use Rattle.ob_vault.specs.State.{Start, World}
use Rattle.ob_vault.specs.Tied.{TagFits, IsUnfit}
use Rattle.ob_vault.specs.Calls.{Went, Lasts, Seals, none, one}
use Rattle.ob_vault.proofs.Runs.{went_join, went_wider, none_went}
use Rattle.ob_flat.specs.declared.fault.OpErr.{OpErr}
use Rattle.ob_flat.specs.declared.fault.OpErr.TheVariants.{Failed, Tampered, Sink, NoMemory}
use Rattle.ob_flat.specs.declared.flat.Flat.{Flat}
use Rattle.ob_flat.specs.Discards.{Discards}
use Rattle.ob_flat.specs.Emission.{SlotsToEnd, SlotsToHalt}
use Rattle.ob_flat.specs.Words.{HasSpare, PassRan, blocks_of}
use Rattle.ob_script.proofs.Lengths.{length-count_part}
use Rattle.ob_flat.proofs.Runs.{pass_more, pass_wider, pass_then}
use Rattle.ob_flat.proofs.WordLemmas.{sealed_after}
use Rattle.ob_emit.specs.Emitting.{Emits, EndsAs, Walks, header, table_shown}
use Rattle.ob_select.specs.Results.{EmitsResult, WalksResult}

-- what is told of one source is told of another that follows from it
pub emitted_from : {E S T : Type 0} {grew : E → E → List Event → Type 0} {head : List Event} {shown : S → List (List Shown)} {more : T → List (List Shown)} {from to : ℕ} {old new : E}
    → (back : T → S) → ((t : T) → shown (back t) ≡ more t) → IsEmitted grew head shown from to old new → IsEmitted grew head more from to old new
emitted_from back same is = record { rows = is.rows; count = is.count; leads = is.leads; told = λ t. is.told (back t) ∙ same t }

pub ends_from : {E S T : Type 0} (grew cut : E → E → List Event → Type 0) (e : OpErr) (head : List Event) (shown : S → List (List Shown)) (more : T → List (List Shown)) (old new : E)
    → (back : T → S) → ((t : T) → shown (back t) ≡ more t) → EndsAs grew cut e head shown old new → EndsAs grew cut e head more old new
ends_from grew cut Failed head shown more old new back same is = record { rows = is.rows; leads = is.leads; told = λ t. let rest = is.told (back t) in (rest.0, rest.1 ∙ same t) }
ends_from grew cut (Tampered q x) head shown more old new back same is = record { rows = is.rows; leads = is.leads; told = λ t. let rest = is.told (back t) in (rest.0, rest.1 ∙ same t) }
ends_from grew cut Sink head shown more old new back same is =
    record { events = is.events; ends = is.ends; told = λ t. let rest = is.told (back t) in (rest.0, rest.1 ∙ ap (λ (l : List (List Shown)). head ++ row_events l) (same t)) }
ends_from grew cut NoMemory head shown more old new back same is =
    record { events = is.events; ends = is.ends; told = λ t. let rest = is.told (back t) in (rest.0, rest.1 ∙ ap (λ (l : List (List Shown)). head ++ row_events l) (same t)) }

-- a changed block that doesn't fit doesn't where nothing except regions has changed
pub unfit_before : {some : ℕ → Type 0} {b c : World} → Lasts some b c → c.store ≡ b.store → IsUnfit c → IsUnfit b
unfit_before {some} {b} {c} lasts same is = record {
  unfit = λ lie told fits. is.unfit lie (ap (λ (s : StoreState). s.lie) same ∙ told)
      (subst (λ (k : KeySet). TagFits k c.vault.start lie) (sym lasts.keys) (subst (λ (s : Start). TagFits b.vault.keys s lie) (sym lasts.start) fits));
}

in_one : (r q : ℕ) → none q → one r q
in_one r q is = absurd is

module _ (pack : ℕ) (fresh : Flat) (a b c : World) where
  -- whole, and then discarded
  whole : {D : Type 0} (d : Result D OpErr) → Went (count_part fresh.region (blocks_of pack fresh)) none a b → Discards fresh.region d b c
      → Went (count_part fresh.region (blocks_of pack fresh) ++ discard_at fresh.region) (one fresh.region) a c
  whole d went gone = went_join (one fresh.region) a b c (count_part fresh.region (blocks_of pack fresh)) (discard_at fresh.region) (went_wider none a b (one fresh.region) (in_one fresh.region) _ went) gone.went

  pub walks_ok : {T D : Type 0} (d : Result D OpErr) (v : T) → Walks {T = T} pack fresh (Ok v) a b → Discards fresh.region d b c → WalksResult {T = T} pack fresh (Ok v) a c
  walks_ok d v walks gone = record {
    ran = record { ok = whole d walks.ran.ok gone; err = tt };
    cut = tt;
    never = tt;
    gone = gone.gone;
    seals = sealed_after walks.ran.ok.lasts walks.seals gone.seals.seals;
    told = λ slots is none. tt;
  }

  module _ (went : Went [] (one fresh.region) b c) (same : c.store ≡ b.store) (gone : c.vault.revs.live fresh.region ≡ None) (seals : (good : ℕ → List ℕ → Bool) → Seals good b c) where
    cut_off : {T : Type 0} (e : OpErr) → PassRan {T = T} (count_part fresh.region (blocks_of pack fresh)) none (Err e) a b → PassRan {T = T} (count_part fresh.region (blocks_of pack fresh) ++ discard_at fresh.region) (one fresh.region) (Err e) a c
    cut_off e ran = record { ok = tt; err = pass_then (one fresh.region) e _ a b c (pass_more (one fresh.region) a b e (count_part fresh.region (blocks_of pack fresh)) (discard_at fresh.region) (pass_wider none a b (one fresh.region) (in_one fresh.region) e _ ran.err)) went same }

    pub walks_err : {T : Type 0} (e : OpErr) → Walks {T = T} pack fresh (Err e) a b → WalksResult {T = T} pack fresh (Err e) a c
    walks_err {T} e walks = record {
      ran = cut_off {T = T} e walks.ran;
      cut = subst (λ (s : StoreState). Began (count_part fresh.region (blocks_of pack fresh)) a.store s) (sym same) walks.ran.err.began;
      never = (
        λ sink. elim walks.never [ inl is ↦ cc (is, sink) | inr is ↦ cc (is.is, sink) ],
        λ memory. elim walks.never [ inl is ↦ cc (is, memory) | inr is ↦ cc (is.is, memory) ],
      );
      gone = gone;
      seals = sealed_after walks.ran.err.lasts walks.seals seals;
      told = λ slots is none. walks.told slots is (sym (ap (λ (s : StoreState). s.lie) same) ∙ none);
    }

module _ {E : Type 0} (grew cut : E → E → List Event → Type 0) (faults : E → ℕ) (pack : ℕ) (fresh : Flat) (cols : List ℕ) (a b c : World) (out_old out_new : E) where
  pub emits_ok : {D : Type 0} (d : Result D OpErr) (n : ℕ) → Emits grew cut faults pack fresh cols (header fresh.schema cols) (Ok n) a b out_old out_new → Discards fresh.region d b c
      → EmitsResult grew cut faults pack fresh cols (Ok n) a c out_old out_new
  emits_ok d n emits gone =
      let back : SlotsToEnd pack fresh a c → SlotsToEnd pack fresh a b = λ s. record { slots = s.slots; is = s.is; nolie = none_went (one fresh.region) b c (discard_at fresh.region) gone.went s.nolie } in
      record {
        ran = record { ok = whole pack fresh a b c d emits.ran.ok gone; err = tt };
        gone = gone.gone;
        seals = sealed_after emits.ran.ok.lasts emits.seals gone.seals.seals;
        emitted = emitted_from back (λ s. refl) emits.emitted;
        halted = tt;
        sink = emits.cause;
        told = λ slots is none. tt;
      }

  pub emits_err : (e : OpErr) → Went [] (one fresh.region) b c → c.store ≡ b.store → c.vault.revs.live fresh.region ≡ None → ((good : ℕ → List ℕ → Bool) → Seals good b c)
      → Emits grew cut faults pack fresh cols (header fresh.schema cols) (Err e) a b out_old out_new
      → EmitsResult grew cut faults pack fresh cols (Err e) a c out_old out_new
  emits_err e went same gone seals emits =
      let back : SlotsToHalt pack fresh a c → SlotsToHalt pack fresh a b = λ s. record { slots = s.slots; is = s.is; nolie = s.nolie; unfit = unfit_before went.lasts same s.unfit } in
      record {
        ran = cut_off pack fresh a b c went same gone seals e emits.ran;
        gone = gone;
        seals = sealed_after emits.ran.err.lasts emits.seals seals;
        emitted = tt;
        halted = ends_from grew cut e (header fresh.schema cols) (λ s. table_shown cols s.slots) (λ s. table_shown cols s.slots) out_old out_new back (λ s. refl) emits.halted;
        sink = emits.cause;
        told = λ slots is none. emits.told slots is (sym (ap (λ (s : StoreState). s.lie) same) ∙ none);
      }

-- one access is left for the discard
pub spare_left : (pack : ℕ) (fresh : Flat) (a b : World) → HasSpare (blocks_of pack fresh + 1) a → Went (count_part fresh.region (blocks_of pack fresh)) none a b → HasSpare 1 b
spare_left pack fresh a b has went = record { ready = went.lasts.ready; spare = omega (arith, has.spare, went.spare, length-count_part fresh.region (blocks_of pack fresh)) }

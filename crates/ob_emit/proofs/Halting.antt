-- Passes that halt where the emitter did.
use Rattle.std.proofs.Common.{◌≡◌, ◌⊎◌, ◌++◌, inl, inr, [], List, ℕ, false, Result, Ok, Err, MatchResult, IfErr, refl, sym, ◌∙◌, ap, subst, append_assoc}
use Rattle.std.proofs.lemmas.List.{append-nil}
use Rattle.ob_base.specs.declared.access.Access.{Access}
use Rattle.ob_base.specs.Accesses.{read_at}
use Rattle.ob_base.specs.declared.emit.EmitErr.TheVariants as EmitErrs
use Rattle.ob_base.specs.declared.shown.Shown.{Shown}
use Rattle.ob_base.specs.Counts.{Rises}
use Rattle.ob_base.specs.Events.{Event, row_events, Leads, IsEmitted, IsBegun, IsHalted}
use Rattle.ob_base.proofs.EventLemmas.{begun_join, begun_under, halted_join, halted_under, events_more}
use Rattle.ob_vault.specs.State.{World}
use Rattle.ob_vault.specs.Tied.{Ready}
use Rattle.ob_vault.specs.Calls.{Went}
use Rattle.ob_vault.proofs.Runs.{went_none}
use Rattle.ob_flat.specs.declared.flat.Flat.{Flat}
use Rattle.ob_flat.specs.declared.fault.OpErr.{OpErr}
use Rattle.ob_flat.specs.declared.fault.OpErr.TheVariants.{Failed, Tampered, Sink, NoMemory}
use Rattle.ob_flat.specs.Passes.{PassCause, PassCut, SinkCause, is_of_access}
use Rattle.ob_flat.specs.Words.{TamperedAt}
use Rattle.ob_flat.proofs.Runs.{pass_malformed}
use Rattle.ob_emit.specs.declared.slots.Halt.{Halt}
use Rattle.ob_emit.specs.declared.slots.Halt.TheVariants as Halts
use Rattle.ob_emit.specs.Emitting.{HaltsAs, EndsAs, HaltCause, halt_error}

-- a block was read, and then it halted
pub pass_halted : (some : ℕ → Type 0) (a b : World) (q p : ℕ) (halt : Halt) → Went (read_at q p) some a b → PassCut (halt_error halt q p) (read_at q p) some a b
pass_halted some a b q p Halts.Malformed went = pass_malformed some a b q p went
pass_halted some a b q p (Halts.Emit EmitErrs.Failed) went =
    record { lasts = went.lasts; began = record { done = read_at q p; rest = []; split = append-nil (read_at q p); asked = went.did.asked }; asks = λ is. absurd (cc is); cause = (went.did.faults, went.calm) }
pass_halted some a b q p (Halts.Emit EmitErrs.NoMemory) went =
    record { lasts = went.lasts; began = record { done = read_at q p; rest = []; split = append-nil (read_at q p); asked = went.did.asked }; asks = λ is. absurd (cc is); cause = (went.did.faults, went.calm) }

-- the emitter's count of faults, where nothing had failed before
pub sink_halted : (T U : Type 0) (q p : ℕ) (halt : Halt) (old mid new : ℕ) → mid ≡ old → HaltCause {T = T} (Err halt) mid new → SinkCause {T = U} (Err (halt_error halt q p)) old new
sink_halted T U q p Halts.Malformed old mid new same cause = cause ∙ same
sink_halted T U q p (Halts.Emit EmitErrs.Failed) old mid new same cause = subst (λ (n : ℕ). Rises n new) same cause
sink_halted T U q p (Halts.Emit EmitErrs.NoMemory) old mid new same cause = cause ∙ same

-- each error of a halt
pub halt_never : (halt : Halt) (pack : ℕ) (flat : Flat) (p : ℕ) (w : World) → (halt ≡ Halts.Malformed → TamperedAt pack flat p (Tampered flat.region p) w)
    → (halt_error halt flat.region p ≡ Failed) ⊎ (halt_error halt flat.region p ≡ Sink) ⊎ (halt_error halt flat.region p ≡ NoMemory) ⊎ TamperedAt pack flat p (halt_error halt flat.region p) w
halt_never Halts.Malformed pack flat p w bad = inr (inr (inr (bad refl)))
halt_never (Halts.Emit EmitErrs.Failed) pack flat p w bad = inr (inl refl)
halt_never (Halts.Emit EmitErrs.NoMemory) pack flat p w bad = inr (inr (inl refl))

pub halt_told : (halt : Halt) (q p : ℕ) → (halt ≡ Halts.Malformed → ⊥) → (halt_error halt q p ≡ Failed) ⊎ (halt_error halt q p ≡ Sink) ⊎ (halt_error halt q p ≡ NoMemory)
halt_told Halts.Malformed q p well = absurd (well refl)
halt_told (Halts.Emit EmitErrs.Failed) q p well = inr (inl refl)
halt_told (Halts.Emit EmitErrs.NoMemory) q p well = inr (inr refl)

-- what is known of an error
pub if_err : {T E : Type 0} (P : T → Type 0) (F : E → Type 0) (r : Result T E) → MatchResult r P F → IfErr r F
if_err P F (Ok x) is = tt
if_err P F (Err e) is = is

-- nothing was asked
pub cut_none : (e : OpErr) (some : ℕ → Type 0) (x : List Access) (w : World) → Ready w → is_of_access e ≡ false → PassCause e w w → PassCut e x some w w
cut_none e some x w ready none cause = record { lasts = (went_none some w ready).lasts; began = record { done = []; rest = x; split = refl; asked = sym (append-nil w.store.asked) }; asks = λ is. absurd (cc (none, is)); cause = cause }

-- a header was emitted, and then rows
pub emitted_under : {E Source : Type 0} (grew : E → E → List Event → Type 0) (head : List Event) (shown : Source → List (List Shown)) (k n : ℕ) (a b c : E)
    → Leads grew grew a b head → IsEmitted grew [] shown 0 k b c → n ≡ k → IsEmitted grew head shown 0 n a c
emitted_under grew head shown k n a b c first second same = record {
  rows = second.rows;
  count = same ∙ second.count;
  leads = λ s events is. subst (grew s c) (append_assoc events head (row_events second.rows)) (second.leads s (events ++ head) (first s events is));
  told = second.told;
}

-- of other sources that have the same rows
pub emitted_of : {E A B : Type 0} (grew : E → E → List Event → Type 0) (head : List Event) (sa : A → List (List Shown)) (sb : B → List (List Shown)) (from to : ℕ) (a b : E)
    → IsEmitted grew head sa from to a b → ((x : B) → (y : A) × (sa y ≡ sb x)) → IsEmitted grew head sb from to a b
emitted_of grew head sa sb from to a b is same = record { rows = is.rows; count = is.count; leads = is.leads; told = λ x. let y = same x in is.told y.0 ∙ y.1 }

module _ {E : Type 0} (grew cut : E → E → List Event → Type 0) where
  -- rows were emitted, and then those after them halted
  pub halts_join : {A B C : Type 0} (halt : Halt) (sa : A → List (List Shown)) (sb : B → List (List Shown)) (all : C → List (List Shown)) (from mid : ℕ) (a b c : E)
      → IsEmitted grew [] sa from mid a b → HaltsAs grew cut halt sb b c
      → ((x : C) → (y : A) × (z : B) × (behind : List (List Shown)) × ((sa y ++ sb z) ++ behind ≡ all x)) → HaltsAs grew cut halt all a c
  halts_join Halts.Malformed sa sb all from mid a b c first second parts = begun_join grew [] sa sb all from mid a b c first second parts
  halts_join (Halts.Emit e) sa sb all from mid a b c first second parts =
      halted_join grew cut [] sa (λ s. row_events (sb s)) (λ s. row_events (all s)) from mid a b c first second
      (λ x. let t = parts x in (t.0, t.1, row_events t.2, events_more (sa t.0) (sb t.1) t.2 (all x) t.3))

  pub ends_as : {A : Type 0} (halt : Halt) (q p : ℕ) (shown : A → List (List Shown)) (a b : E) → HaltsAs grew cut halt shown a b → EndsAs grew cut (halt_error halt q p) [] shown a b
  ends_as Halts.Malformed q p shown a b is = is
  ends_as (Halts.Emit EmitErrs.Failed) q p shown a b is = is
  ends_as (Halts.Emit EmitErrs.NoMemory) q p shown a b is = is

  halted_after : {A B C : Type 0} (head : List Event) (sa : A → List (List Shown)) (sb : B → List (List Shown)) (all : C → List (List Shown)) (from mid : ℕ) (a b c : E)
      → IsEmitted grew head sa from mid a b → IsHalted grew cut (λ s. row_events (sb s)) b c
      → ((x : C) → (y : A) × (z : B) × (behind : List (List Shown)) × ((sa y ++ sb z) ++ behind ≡ all x)) → IsHalted grew cut (λ s. head ++ row_events (all s)) a c
  halted_after head sa sb all from mid a b c first second parts =
      halted_join grew cut head sa (λ s. row_events (sb s)) (λ s. head ++ row_events (all s)) from mid a b c first second
      (λ x.
      let t = parts x in (
        t.0,
        t.1,
        row_events t.2,
        append_assoc head (row_events (sa t.0)) (row_events (sb t.1) ++ row_events t.2) ∙ ap (λ (l : List Event). head ++ l) (events_more (sa t.0) (sb t.1) t.2 (all x) t.3),
      ))

  -- rows were emitted after a header, and then a pass over those after them gave up
  pub ends_after : {A B C : Type 0} (e : OpErr) (head : List Event) (sa : A → List (List Shown)) (sb : B → List (List Shown)) (all : C → List (List Shown)) (from mid : ℕ) (a b c : E)
      → IsEmitted grew head sa from mid a b → EndsAs grew cut e [] sb b c
      → ((x : C) → (y : A) × (z : B) × (behind : List (List Shown)) × ((sa y ++ sb z) ++ behind ≡ all x)) → EndsAs grew cut e head all a c
  ends_after Failed head sa sb all from mid a b c first second parts = begun_join grew head sa sb all from mid a b c first second parts
  ends_after (Tampered q p) head sa sb all from mid a b c first second parts = begun_join grew head sa sb all from mid a b c first second parts
  ends_after Sink head sa sb all from mid a b c first second parts = halted_after head sa sb all from mid a b c first second parts
  ends_after NoMemory head sa sb all from mid a b c first second parts = halted_after head sa sb all from mid a b c first second parts

  -- of other sources that have the same rows
  pub ends_of : {A B : Type 0} (e : OpErr) (head : List Event) (sa : A → List (List Shown)) (sb : B → List (List Shown)) (a b : E) → EndsAs grew cut e head sa a b → ((x : B) → (y : A) × (sa y ≡ sb x))
      → EndsAs grew cut e head sb a b
  ends_of {A} {B} e head sa sb a b is same = go e is
    where
      begun : IsBegun grew head sa a b → IsBegun grew head sb a b
      begun is = record { rows = is.rows; leads = is.leads; told = λ x. let y = same x in let r = is.told y.0 in (r.0, r.1 ∙ y.1) }

      halted : IsHalted grew cut (λ s. head ++ row_events (sa s)) a b → IsHalted grew cut (λ s. head ++ row_events (sb s)) a b
      halted is = record { events = is.events; ends = is.ends; told = λ x. let y = same x in let r = is.told y.0 in (r.0, r.1 ∙ ap (λ (l : List (List Shown)). head ++ row_events l) y.1) }

      go : (e : OpErr) → EndsAs grew cut e head sa a b → EndsAs grew cut e head sb a b
      go Failed is = begun is
      go (Tampered q p) is = begun is
      go Sink is = halted is
      go NoMemory is = halted is

  -- after its header
  pub ends_under : {A : Type 0} (e : OpErr) (head : List Event) (shown : A → List (List Shown)) (a b c : E) → Leads grew grew a b head → EndsAs grew cut e [] shown b c → EndsAs grew cut e head shown a c
  ends_under Failed head shown a b c leads is = begun_under grew head shown a b c leads is
  ends_under (Tampered q p) head shown a b c leads is = begun_under grew head shown a b c leads is
  ends_under Sink head shown a b c leads is = halted_under grew cut head (λ s. row_events (shown s)) a b c leads is
  ends_under NoMemory head shown a b c leads is = halted_under grew cut head (λ s. row_events (shown s)) a b c leads is

-- a block was not read
pub ends_read : {E A : Type 0} {pack place : ℕ} {flat : Flat} {w : World} {a b : E} (grew cut : E → E → List Event → Type 0) (head : List Event) (shown : A → List (List Shown)) (e : OpErr)
    → (e ≡ Failed) ⊎ TamperedAt pack flat place e w → IsBegun grew head shown a b → EndsAs grew cut e head shown a b
ends_read grew cut head shown Failed either begun = begun
ends_read grew cut head shown (Tampered q p) either begun = begun
ends_read grew cut head shown Sink either begun = elim either [ inl failed ↦ absurd (cc failed) | inr there ↦ absurd (cc there.is) ]
ends_read grew cut head shown NoMemory either begun = elim either [ inl failed ↦ absurd (cc failed) | inr there ↦ absurd (cc there.is) ]

-- the emitter gave up
pub ends_given : {E A : Type 0} {a b : E} (grew cut : E → E → List Event → Type 0) (head : List Event) (shown : A → List (List Shown)) (e : OpErr)
    → (e ≡ Sink) ⊎ (e ≡ NoMemory) → IsHalted grew cut (λ s. head ++ row_events (shown s)) a b → EndsAs grew cut e head shown a b
ends_given grew cut head shown Failed either halted = elim either [ inl sink ↦ absurd (cc sink) | inr memory ↦ absurd (cc memory) ]
ends_given grew cut head shown (Tampered q p) either halted = elim either [ inl sink ↦ absurd (cc sink) | inr memory ↦ absurd (cc memory) ]
ends_given grew cut head shown Sink either halted = halted
ends_given grew cut head shown NoMemory either halted = halted

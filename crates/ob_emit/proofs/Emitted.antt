-- A table's rows after its header.
use Rattle.std.proofs.Common.{◌≡◌, ◌⊎◌, inl, inr, ℕ, List, [], Result, Ok, Err, refl, ◌∙◌, ap, subst}
use Rattle.ob_base.specs.Events.{Event, row_events, Leads}
use Rattle.ob_script.specs.Parts.{count_part}
use Rattle.ob_vault.specs.State.{World}
use Rattle.ob_vault.specs.Tied.{Ready}
use Rattle.ob_vault.specs.Calls.{none}
use Rattle.ob_vault.proofs.Runs.{seals_none}
use Rattle.ob_flat.specs.declared.flat.Flat.{Flat}
use Rattle.ob_flat.specs.declared.fault.OpErr.{OpErr}
use Rattle.ob_flat.specs.declared.fault.OpErr.TheVariants.{Sink, NoMemory}
use Rattle.ob_flat.specs.Flats.{IsWritten}
use Rattle.ob_flat.specs.Passes.{PassCause, SinkCause, is_of_access}
use Rattle.ob_flat.specs.Words.{blocks_of}
use Rattle.ob_emit.specs.Emitting.{Emits, table_shown}
use Rattle.ob_emit.proofs.Halting.{cut_none, emitted_under, ends_given, ends_under}

module _ {E : Type 0} {grew cut : E → E → List Event → Type 0} {faults : E → ℕ} {pack : ℕ} {flat : Flat} {cols : List ℕ} (head : List Event) {a b : E} where
  module _ {old new : World} {c : E} (leads : Leads grew grew a b head) (same : faults b ≡ faults a) where
    -- the header was emitted before
    pub emits_under : (r : Result ℕ OpErr) → Emits grew cut faults pack flat cols [] r old new b c → Emits grew cut faults pack flat cols head r old new a c
    emits_under (Ok k) is = record {
      ran = is.ran;
      never = tt;
      seals = is.seals;
      source = is.source;
      most = is.most;
      emitted = emitted_under grew head (λ s. table_shown cols s.slots) _ _ _ _ _ leads is.emitted refl;
      halted = tt;
      cause = is.cause ∙ same;
      told = λ slots is nolie. tt;
    }
    emits_under (Err e) is = record {
      ran = is.ran;
      never = is.never;
      seals = is.seals;
      source = is.source;
      most = tt;
      emitted = tt;
      halted = ends_under grew cut e head (λ s. table_shown cols s.slots) a b c leads is.halted;
      cause = subst (λ (n : ℕ). SinkCause {T = ℕ} (Err e) n (faults c)) same is.cause;
      told = is.told;
    }

  -- the output ends within the header
  pub emits_headless : {w : World} (e : OpErr) → Ready w → IsWritten pack flat w → (e ≡ Sink) ⊎ (e ≡ NoMemory) → PassCause e w w → Leads grew cut a b head → SinkCause {T = ℕ} (Err e) (faults a) (faults b)
      → Emits grew cut faults pack flat cols head (Err e) w w a b
  emits_headless {w} e ready written either why leads cause = record {
    ran = record { ok = tt; err = cut_none e none (count_part flat.region (blocks_of pack flat)) w ready (elim either [ inl sink ↦ ap is_of_access sink | inr memory ↦ ap is_of_access memory ]) why };
    never = elim either [ inl sink ↦ inr (inl sink) | inr memory ↦ inr (inr (inl memory)) ];
    seals = record { seals = λ good. seals_none good _ };
    source = written;
    most = tt;
    emitted = tt;
    halted = ends_given grew cut head (λ s. table_shown cols s.slots) e either (record { events = head; ends = leads; told = λ s. (row_events (table_shown cols s.slots), refl) });
    cause = cause;
    told = λ slots is nolie. inr either;
  }

-- A statement in flight that was refused before any access.
use Rattle.ob_exec.proofs.Words.{Answer, answer_labels, answered, ap, database, Draws, early_held, Emits, Emitted, Event, IfSome, Index, is_fault, is_store_fault, IsMeant, List, None, of_other, Ok, Option, Outcome, outcome_end, Partly, partly_none, Prints, Public, refl, Refusal, refusal_now, RefusedEarly, Some, Static, Stmt, subst, sym, Tables, verdict, World, ℕ, [], ◌∙◌, ◌≡◌}
use Rattle.ob_mean.specs.Step.{accepted_answer}
use Rattle.ob_mean.specs.Verdict.{ended, seen as seen_by}
use Rattle.ob_mean.specs.declared.answer.Answer.TheVariants as A
use Rattle.ob_mean.proofs.VerdictLemmas.{refused_early, seen_early}
use Rattle.ob_tables.proofs.LawfulLemmas.{lawful_refused}
use Rattle.ob_tables.proofs.ToldLemmas.{early_is}
use Rattle.ob_verdict.specs.Outcomes.{outcome_of}
use Rattle.ob_verdict.specs.declared.outcome.Outcome.TheVariants.{Refused}
use Rattle.ob_exec.specs.InFlight.{IsFlown}
use Rattle.ob_exec.proofs.FlightStage.{HoldNow, closed_of}

module _ (p : Public) (m : ℕ) (stmt : Stmt) (r : Refusal) (now : refusal_now p m stmt ≡ Some r) where
  -- it may be seen so, whether it has ended or not
  pub stands_refused : (o : Option Outcome) (events : List Event) → IfSome o (λ outcome. outcome ≡ Refused r) → IsFlown p m 0 stmt (ended Static) (closed_of o events)
  stands_refused None events is = lawful_refused p m stmt r now
  stands_refused (Some outcome) events is = record {
    early = subst (λ (x : Option Refusal). RefusedEarly x (Ok outcome) (ended Static)) (sym now) (ap (λ (y : Outcome). Ok y) is, refl);
    lawful = lawful_refused p m stmt r now;
    ends = sym (ap (λ (y : Outcome). outcome_end y 0) is ∙ (early_is p m stmt r now).static 0);
    asks = λ fault. absurd (let own = (early_is p m stmt r now).own in let same : is_fault outcome ≡ is_store_fault r = ap is_fault is in cc (fault, own, same));
  }

  pub emits_refused : (o : Outcome) (events : List Event) → o ≡ Refused r → events ≡ [] → Emits stmt (answer_labels stmt p) o events
  emits_refused o events is none =
      subst (λ (y : Outcome). Emits stmt (answer_labels stmt p) y events) (sym is)
      (of_other _ _ (is_store_fault r) (early_is p m stmt r now).own none)

  module _ (indexes : List Index) (tables : Tables) (w : World) (held : HoldNow p indexes tables w) where
    pub meant_refused : (d : Draws) → seen_by d p m tables stmt ≡ ended Static
    meant_refused d = seen_early p m tables stmt r (early_held p m stmt tables indexes w (Some r) held.held now) d

    verdict_refused : verdict p m tables stmt ≡ A.Refused r
    verdict_refused = ap (λ (o : Option Refusal). answered o (accepted_answer (database tables) stmt)) (refused_early p m tables stmt r (early_held p m stmt tables indexes w (Some r) held.held now))

    pub told_refused : (d : Draws) (o : Option Outcome) (events : List Event) → IfSome o (λ outcome. outcome ≡ Refused r) → IsMeant d p m 0 0 tables stmt (ended Static) (closed_of o events)
    told_refused d None events is = sym (meant_refused d)
    told_refused d (Some outcome) events is =
        subst (λ (y : Outcome). IsMeant d p m 0 0 tables stmt (ended Static) (Some (record { outcome = y; events = events }))) (sym is)
        (of_other _ _ (is_store_fault r) (early_is p m stmt r now).own (sym (ap (outcome_of stmt) verdict_refused), sym (meant_refused d)))

    pub emitted_refused : (o : Outcome) (events : List Event) → o ≡ Refused r → events ≡ [] → Emitted stmt p m tables o events
    emitted_refused o events is none =
        subst (λ (y : Outcome). Emitted stmt p m tables y events) (sym is)
        (of_other _ _ (is_store_fault r) (early_is p m stmt r now).own (subst (λ (a : Answer). Prints (answer_labels stmt p) a events) (sym verdict_refused) none))

    pub partly_refused : (events : List Event) → events ≡ [] → Partly (answer_labels stmt p) (verdict p m tables stmt) events
    partly_refused events none = subst (λ (es : List Event). Partly (answer_labels stmt p) (verdict p m tables stmt) es) (sym none) (partly_none _ _)

-- How the answer of a statement ends it, and what it says of it.
use Rattle.ob_shell.proofs.Words.{Answer, answer_labels, ap, Bool, by_fault, closing_line, End, end_cut, Event, events_text, false, Gathering, is_cut, is_fault, is_joined, is_store_fault, IsTrue, List, None, Ok, Option, Outcome, Public, refl, Refusal, Refused, RefusedEarly, Result, Rises, RunStop, Seen, skeleton, Some, Stmt, subst, sym, true, World, ℕ, [], ◌&&◌, ◌++◌, ◌∙◌, ◌≡◌}
use Rattle.std.specs.Prelude.{◌↔◌}
use Rattle.ob_base.specs.declared.refusal.Refusal.TheVariants.{StoreFault}
use Rattle.ob_tables.specs.Refusals.{refused_end}
use Rattle.ob_tables.specs.Running.{RunCause, outcome_end, result_end}
use Rattle.ob_verdict.specs.Outcomes.{Emits}
use Rattle.ob_headline.specs.Batches.{Joins, is_failed}
use Rattle.ob_headline.specs.Accesses.{Says}
use Rattle.ob_mean.specs.Batches.{goes_into, is_unrefused}
use Rattle.ob_shell.proofs.ReplayLemmas.{fault_is}

-- whatever is gathered
refused_failed : (g : Option Gathering) (r : Refusal) (n : ℕ) → is_failed g (refused_end r n) ≡ is_store_fault r
refused_failed g StoreFault n = refl
refused_failed g r n = refl

end_failed : (g : Option Gathering) (o : Outcome) (n : ℕ) → is_failed g (outcome_end o n) ≡ is_fault o
end_failed g (Refused r) n = refused_failed g r n
end_failed g other n = refl

pub failed_by : (g : Option Gathering) (o : Outcome) (end : End) (n : ℕ) → end ≡ outcome_end o n → IsTrue (is_failed g end) ↔ (o ≡ Refused StoreFault)
failed_by g o end n ends =
    let same : is_failed g end ≡ is_fault o = ap (is_failed g) ends ∙ end_failed g o n in
    (λ cut. fault_is o (sym same ∙ cut), λ is. same ∙ ap is_fault is)

-- one that was served by itself joined none
refused_apart : (r : Refusal) (n : ℕ) → is_joined (refused_end r n) ≡ false
refused_apart StoreFault n = refl
refused_apart r n = refl

pub end_apart : (result : Result Outcome RunStop) (n : ℕ) → is_joined (result_end result n) ≡ false
end_apart (Ok (Refused r)) n = refused_apart r n
end_apart other n = refl

pub alone_joins : (p : Public) (m : ℕ) (g : Option Gathering) (stmt : Stmt) (here : Seen) (result : Result Outcome RunStop) (n : ℕ) → goes_into p g (skeleton stmt) ≡ false → here.end ≡ result_end result n → Joins p m g stmt here
alone_joins p m g stmt here result n off ends = ap is_joined ends ∙ end_apart result n ∙ ap (λ (b : Bool). b && is_unrefused p m stmt) (sym off)

-- where it was not cut off, no call failed
pub same_by : (o : Outcome) (old new : World) (end : End) (n : ℕ) → RunCause (Ok o) old new → end ≡ outcome_end o n → is_cut end ≡ false → new.store.faults ≡ old.store.faults
same_by o old new end n cause ends not =
    let none : is_fault o ≡ false = sym (ap is_cut ends ∙ end_cut o n) ∙ not in rw none at cause.0

-- where it was, one did
pub rose_by : (o : Outcome) (old new : World) (end : End) (n : ℕ) → RunCause (Ok o) old new → end ≡ outcome_end o n → IsTrue (is_cut end) → Rises old.store.faults new.store.faults
rose_by o old new end n cause ends cut =
    let failed : is_fault o ≡ true = sym (ap is_cut ends ∙ end_cut o n) ∙ cut in rw failed at cause.0

-- ---- what an answer says of its statement
pub says : (early : Option Refusal) (p : Public) (stmt : Stmt) (answer : Answer) (here : Seen) (events : List Event) → RefusedEarly early (Ok answer.outcome) here
    → Emits stmt (answer_labels stmt p) answer.outcome events → answer.bytes ≡ events_text events ++ closing_line answer.outcome → is_cut here.end ≡ is_fault answer.outcome
    → answer.plan ≡ here.plan → Says early p stmt answer
unfolding events_text
says None p stmt answer here events refused emits bytes same planned = record { events = events; emits = emits; bytes = bytes }
says (Some r) p stmt answer here events refused emits bytes same planned =
    let is : answer.outcome ≡ Refused r = cc refused.0 in
    let sound : is_store_fault r ≡ false = ap is_fault (sym is) ∙ sym same ∙ ap (λ (x : Seen). is_cut x.end) refused.1 in
    let at : by_fault (is_store_fault r) _ (events ≡ []) = subst (λ (o : Outcome). Emits stmt (answer_labels stmt p) o events) is emits in
    let none : events ≡ [] = rw sound at at in
    let line : answer.bytes ≡ closing_line (Refused r) = bytes ∙ (λ i. events_text (none i) ++ closing_line (is i)) in
    let unplanned : answer.plan ≡ None = planned ∙ ap (λ (x : Seen). x.plan) refused.1 in
    λ i. record { outcome = is i; bytes = line i; plan = unplanned i }

use Rattle.ob_exec.proofs.Words.{ap, Refusal, ◌∙◌}
use Rattle.ob_verdict.specs.declared.outcome.Outcome.TheVariants.{Refused}
use Rattle.ob_exec.proofs.saving.leave_forgotten.Goals as goal

pub give_up-requires : goal.give_up-requires
give_up-requires g c =
    let fault = c.in-Refused-StoreFault in
    let by_store = rw fault.is at fault.field-0-is in
    record { forgotten = c.requires.forgotten (fault.is ∙ ap (λ (r : Refusal). Refused r) by_store) }

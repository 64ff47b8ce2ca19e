use Rattle.ob_mark.proofs.HeldLemmas.{read_two}
use Rattle.ob_mark.proofs.identity.held_of.Goals as goal

pub returns-in-Some-clause-read : goal.returns-in-Some-clause-read
returns-in-Some-clause-read c = λ held holds.
    read_two c.args.text.now c.in-Some.held c.in-Some.ensures.spelt c.in-Some.ensures.some c.in-Some.ensures.read held.mark held.id holds

use Rattle.ob_stages.proofs.rows_steps.forget.Goals as goal

pub returns-in-Some : goal.returns-in-Some
returns-in-Some g c = rw c.in-Some.is c.forget.ensures.forgets

-- The last part of a walk, where a flight was left.
use Rattle.ob_shell.proofs.Words.{Answer, CutTogether, Err, FinishedTogether, inl, inr, List, Machine, Ok, Option, Outputs, printed, Ran, RevState, RunStop, session_stop, Took, ℕ, ◌++◌, ◌⊎◌}
use Rattle.ob_shell.proofs.EarlyFlights.{early_left}
use Rattle.ob_shell.proofs.FlightEnding.{flies_cut, flies_finished}
use Rattle.ob_shell.proofs.FlightLast.{LastWalk}
use Rattle.ob_shell.proofs.FlightWants.{wants_left}

pub flies_last : {R : Type 0} (state : R → RevState) (m1 m2 : Machine R) (more : List (List ℕ)) (part : List ℕ) (w0 w1 : Option (List ℕ)) (Lost : Type 0) (first : List Answer) → Outputs w0 w1 Lost (printed first ++ part) → Took w0 w1 (printed first)
    → (run : RunStop) → CutTogether state m1 m2 more run part ⊎ FinishedTogether state m1 m2 more run part → LastWalk state (Ran (Err (session_stop run))) m1 m2 more part w0 w1 Lost first
flies_last state m1 m2 more part w0 w1 Lost first out whole run (inl cut) =
    flies_cut state m1 m2 more part w0 w1 Lost first out whole run cut (wants_left state m1 m2 more part run cut)
    (λ kept first. early_left state m1 m2 cut.stmts cut.seens cut.flew.ended (Err run) cut.may cut.flew.ran kept first)
flies_last state m1 m2 more part w0 w1 Lost first out whole run (inr done) =
    flies_finished state m1 m2 more part w0 w1 Lost first out whole run done
    (λ kept first. early_left state m1 m2 done.step.stmts done.step.seens done.step.flew.ended (Ok tt) done.step.may done.step.flew.ran kept first)

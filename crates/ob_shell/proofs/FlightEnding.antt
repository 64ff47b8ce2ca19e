-- Where a flight was left.
use Rattle.ob_shell.proofs.Words.{Access, Answer, CutTogether, drop, Err, FinishedTogether, length, List, Machine, Ok, Option, Outputs, printed, Ran, refl, RevState, RunStop, Position, session_stop, statements, Stmt, take, Took, true, ℕ, [], ◌++◌, ◌∷◌, ◌≡◌, ◌≤◌}
use Rattle.ob_headline.specs.Accesses.{LeavesInFlight, ends_within}
use Rattle.ob_script.specs.Trace.{Served as Entry}
use Rattle.ob_shell.proofs.FlightCut.{cut_last, never_within}
use Rattle.ob_shell.proofs.FlightEnd.{aloft, all_fs, spelt_left, turn_of}
use Rattle.ob_shell.proofs.FlightLast.{LastWalk}
use Rattle.ob_shell.proofs.FlightSeen.{FirstAnswered}
use Rattle.ob_shell.proofs.FlightSteady.{steady_flown}
use Rattle.ob_shell.proofs.FlightStop.{finished_last, leaves_otherwise}
use Rattle.ob_shell.proofs.WalkEntries.{positions_at}
use Rattle.ob_shell.proofs.WalkLemmas.{EarlyAt}
use Rattle.ob_tables.specs.declared.stop.RunStop.TheVariants as Runs

-- it comes within none of them, and tells more only for want of memory
unless_memory : (run : RunStop) (asked : List Access) (positions : List Position) (stmts : List Stmt) (seen : List Entry) → (ends_within (Ran (Err (session_stop run))) ≡ true → ⊥) → (run ≡ Runs.NoMemory → LeavesInFlight (Ran (Err (session_stop run))) asked positions stmts seen)
    → LeavesInFlight (Ran (Err (session_stop run))) asked positions stmts seen
unless_memory Runs.NoMemory asked positions stmts seen off wants = wants refl
unless_memory (Runs.Tampered region place) asked positions stmts seen off wants = leaves_otherwise _ asked positions stmts seen refl (λ is. cc is)
unless_memory Runs.SinkFault asked positions stmts seen off wants = leaves_otherwise _ asked positions stmts seen refl (λ is. cc is)
unless_memory other asked positions stmts seen off wants = absurd (off refl)

module _ {R : Type 0} (state : R → RevState) (m1 m2 : Machine R) (more : List (List ℕ)) (part : List ℕ) (w0 w1 : Option (List ℕ)) (Lost : Type 0) (first : List Answer) (out : Outputs w0 w1 Lost (printed first ++ part)) (whole : Took w0 w1 (printed first)) (run : RunStop) where
  module _ (cut : CutTogether state m1 m2 more run part) where
    abbrev here : List Entry
    here = aloft state m1 m2 cut.stmts cut.seens cut.flew.ended (Err run) cut.may cut.flew.ran

    pub flies_cut : (run ≡ Runs.NoMemory → (kept : List Answer) → length kept ≤ length cut.flew.ended
        → LeavesInFlight (Ran (Err (session_stop run))) m2.store.asked (drop (length (take (length kept) here)) (positions_at m1 (turn_of state m1 m2 cut.stmts cut.seens cut.flew.ended (Err run) cut.may cut.flew.ran ∷ [])))
        (statements (drop (length (take (length kept) cut.flown)) (spelt_left state m1 m2 cut.stmts cut.seens cut.flew.ended (Err run) cut.may cut.flew.ran))) (drop (length kept) here))
        → ((kept : List Answer) → FirstAnswered (all_fs state m1 m2 cut.stmts cut.seens cut.flew.ended (Err run) cut.may cut.flew.ran) kept → EarlyAt state m1 m2 (turn_of state m1 m2 cut.stmts cut.seens cut.flew.ended (Err run) cut.may cut.flew.ran ∷ [])
        (spelt_left state m1 m2 cut.stmts cut.seens cut.flew.ended (Err run) cut.may cut.flew.ran) kept (take (length kept) here ++ drop (length kept) here))
        → LastWalk state (Ran (Err (session_stop run))) m1 m2 more part w0 w1 Lost first
    flies_cut wants early =
        cut_last state m1 m2 more part w0 w1 Lost first run cut (steady_flown state m1 m2 cut.stmts cut.seens cut.flew.ended (Err run) cut.may cut.flew.ran) out whole
        (λ kept few. unless_memory run _ _ _ _ (never_within run _ _ cut.flew.ran.cause) (λ is. wants is kept few)) early

  pub flies_finished : (done : FinishedTogether state m1 m2 more run part)
      → ((kept : List Answer) → FirstAnswered (all_fs state m1 m2 done.step.stmts done.step.seens done.step.flew.ended (Ok tt) done.step.may done.step.flew.ran) kept → EarlyAt state m1 m2 (turn_of state m1 m2 done.step.stmts done.step.seens done.step.flew.ended (Ok tt) done.step.may done.step.flew.ran ∷ [])
      (spelt_left state m1 m2 done.step.stmts done.step.seens done.step.flew.ended (Ok tt) done.step.may done.step.flew.ran) kept
      (take (length kept) (aloft state m1 m2 done.step.stmts done.step.seens done.step.flew.ended (Ok tt) done.step.may done.step.flew.ran) ++ drop (length kept) (aloft state m1 m2 done.step.stmts done.step.seens done.step.flew.ended (Ok tt) done.step.may done.step.flew.ran)))
      → LastWalk state (Ran (Err (session_stop run))) m1 m2 more part w0 w1 Lost first
  flies_finished done early = finished_last state m1 m2 more part w0 w1 Lost first run done out whole early

-- The keeper's count of faults rises exactly where a session ends for that.
use Rattle.ob_shell.proofs.Words.{Answer, ap, at_rest, Bool, Err, inl, inr, KeeperState, LastPart, List, Machine, more_together, Ok, one_more, PartlyAt, Ran, refl, Result, RevState, Rises, RunStop, session_stop, Step, Steps, Stop, subst, sym, World, ℕ, [], ◌∙◌, ◌∷◌, ◌≡◌}
use Rattle.ob_base.specs.declared.refusal.Stop.TheVariants as Stops
use Rattle.ob_exec.specs.Ran.{CountsKeeper as CountsRun}
use Rattle.ob_exec.specs.RanFlight.{FlightCause}
use Rattle.ob_headline.specs.SavedHeadline.{CountsKeeper}
use Rattle.ob_shell.proofs.StepLemmas.{by_last}
use Rattle.ob_tables.specs.declared.stop.RunStop.TheVariants.{KeeperFault, NoMemory, SinkFault, Tampered}

-- a stop is that of the session
stop_counts : (run : RunStop) (old new : KeeperState) → CountsRun (Err run) old new → CountsKeeper (Ran (Err (session_stop run))) old new
stop_counts (Tampered q x) old new counts = counts
stop_counts other old new counts = counts

-- a stop by memory or by a sink leaves the count
memory_counts : (run : RunStop) (old new : KeeperState) → run ≡ NoMemory → new.faults ≡ old.faults → CountsKeeper (Ran (Err (session_stop run))) old new
memory_counts run old new is same = subst (λ (r : RunStop). CountsKeeper (Ran (Err (session_stop r))) old new) (sym is) same

sink_counts : (run : RunStop) (old new : KeeperState) → run ≡ SinkFault → new.faults ≡ old.faults → CountsKeeper (Ran (Err (session_stop run))) old new
sink_counts run old new is same = subst (λ (r : RunStop). CountsKeeper (Ran (Err (session_stop r))) old new) (sym is) same

-- nor does a stop of a flight, which no keeper stops
flight_counts : (a b : World) (run : RunStop) (old new : KeeperState) → FlightCause {T = Unit {0}} (Err run) a b → new.faults ≡ old.faults → CountsKeeper (Ran (Err (session_stop run))) old new
flight_counts a b KeeperFault old new cause same = absurd cause
flight_counts a b other old new cause same = same

-- while the count stays, nothing changes of that
counts_on : (result : Result Bool Stop) (a b c : KeeperState) → b.faults ≡ a.faults → CountsKeeper (Ran result) b c → CountsKeeper (Ran result) a c
counts_on (Err Stops.KeeperFault) a b c same counts = subst (λ (n : ℕ). Rises n c.faults) same counts
counts_on other a b c same counts = counts ∙ same

module _ {R : Type 0} (state : R → RevState) where
  unmoved : (m0 m1 : Machine R) → m1 ≡ m0 → m1.keeper.faults ≡ m0.keeper.faults
  unmoved m0 m1 same = ap (λ (m : Machine R). m.keeper.faults) same

  step_counts : (m0 m1 : Machine R) (text : List ℕ) (answer : Answer) → Step state m0 m1 text answer → m1.keeper.faults ≡ m0.keeper.faults
  step_counts m0 m1 text answer step = elim step.done [
    | inl still ↦ ap (λ (m : Machine R). m.keeper.faults) still.same
    | inr did ↦ did.does.counts
  ]

  pub steps_count : (m0 m2 : Machine R) (texts : List (List ℕ)) (answers : List Answer) → Steps state m0 m2 texts answers → m2.keeper.faults ≡ m0.keeper.faults
  steps_count m0 m2 texts answers at_rest = refl
  steps_count m0 m2 texts answers (one_more {m1 = m1} {text = text} {one = one} {texts = more} {answers = given} step rest) = steps_count m1 m2 more given rest ∙ step_counts m0 m1 text one step
  steps_count m0 m2 texts answers (more_together {m1 = m1} {texts = more} {answers = given} step rest) = steps_count m1 m2 more given rest ∙ ap (λ (k : KeeperState). k.faults) step.may.keeper

  part_counts : (m1 m2 : Machine R) (more : List (List ℕ)) (run : RunStop) (part : List ℕ) → PartlyAt state m1 m2 more run part → CountsKeeper (Ran (Err (session_stop run))) m1.keeper m2.keeper
  part_counts m1 m2 [] run part idle = memory_counts run m1.keeper m2.keeper idle.memory (unmoved m1 m2 idle.rests.machine)
  part_counts m1 m2 (text ∷ more) run part (inl idle) = memory_counts run m1.keeper m2.keeper idle.memory (unmoved m1 m2 idle.rests.machine)
  part_counts m1 m2 (text ∷ more) run part (inr (inl cut)) = stop_counts run m1.keeper m2.keeper cut.does.counts
  part_counts m1 m2 (text ∷ more) run part (inr (inr (inl done))) = sink_counts run m1.keeper m2.keeper done.fault (step_counts m1 m2 text done.answer done.step)
  part_counts m1 m2 (text ∷ more) run part (inr (inr (inr (inl cut)))) = flight_counts _ _ run m1.keeper m2.keeper cut.flew.ran.cause (ap (λ (k : KeeperState). k.faults) cut.may.keeper)
  part_counts m1 m2 (text ∷ more) run part (inr (inr (inr (inr done)))) = sink_counts run m1.keeper m2.keeper done.fault (ap (λ (k : KeeperState). k.faults) done.step.may.keeper)

  last_counts : (m1 m2 : Machine R) (more : List (List ℕ)) (part : List ℕ) (result : Result Bool Stop) → LastPart state m1 m2 more part result → CountsKeeper (Ran result) m1.keeper m2.keeper
  last_counts m1 m2 more part (Ok flag) rests = unmoved m1 m2 rests.machine
  last_counts m1 m2 more part (Err stop) last =
      by_last state m1 m2 more part (λ (s : Stop). CountsKeeper (Ran (Err s)) m1.keeper m2.keeper) stop last (λ run partly. part_counts m1 m2 more run part partly)
      (λ rests. unmoved m1 m2 rests.machine) (λ rests. unmoved m1 m2 rests.machine)

  -- a whole session
  pub session_counts : (m0 m1 m2 : Machine R) (texts more : List (List ℕ)) (answers : List Answer) (part : List ℕ) (result : Result Bool Stop) → Steps state m0 m1 texts answers → LastPart state m1 m2 more part result
      → CountsKeeper (Ran result) m0.keeper m2.keeper
  session_counts m0 m1 m2 texts more answers part result steps last =
      counts_on result m0.keeper m1.keeper m2.keeper (steps_count m0 m1 texts answers steps) (last_counts m1 m2 more part result last)

  -- ---- nor is a salt drawn in it
  undrawn : (m0 m1 : Machine R) → m1 ≡ m0 → m1.keeper.drawn ≡ m0.keeper.drawn
  undrawn m0 m1 same = ap (λ (m : Machine R). m.keeper.drawn) same

  step_drawn : (m0 m1 : Machine R) (text : List ℕ) (answer : Answer) → Step state m0 m1 text answer → m1.keeper.drawn ≡ m0.keeper.drawn
  step_drawn m0 m1 text answer step = elim step.done [
    | inl still ↦ ap (λ (m : Machine R). m.keeper.drawn) still.same
    | inr did ↦ did.does.drawn
  ]

  steps_drawn : (m0 m2 : Machine R) (texts : List (List ℕ)) (answers : List Answer) → Steps state m0 m2 texts answers → m2.keeper.drawn ≡ m0.keeper.drawn
  steps_drawn m0 m2 texts answers at_rest = refl
  steps_drawn m0 m2 texts answers (one_more {m1 = m1} {text = text} {one = one} {texts = more} {answers = given} step rest) = steps_drawn m1 m2 more given rest ∙ step_drawn m0 m1 text one step
  steps_drawn m0 m2 texts answers (more_together {m1 = m1} {texts = more} {answers = given} step rest) = steps_drawn m1 m2 more given rest ∙ ap (λ (k : KeeperState). k.drawn) step.may.keeper

  part_drawn : (m1 m2 : Machine R) (more : List (List ℕ)) (run : RunStop) (part : List ℕ) → PartlyAt state m1 m2 more run part → m2.keeper.drawn ≡ m1.keeper.drawn
  part_drawn m1 m2 [] run part idle = undrawn m1 m2 idle.rests.machine
  part_drawn m1 m2 (text ∷ more) run part (inl idle) = undrawn m1 m2 idle.rests.machine
  part_drawn m1 m2 (text ∷ more) run part (inr (inl cut)) = cut.does.drawn
  part_drawn m1 m2 (text ∷ more) run part (inr (inr (inl done))) = step_drawn m1 m2 text done.answer done.step
  part_drawn m1 m2 (text ∷ more) run part (inr (inr (inr (inl cut)))) = ap (λ (k : KeeperState). k.drawn) cut.may.keeper
  part_drawn m1 m2 (text ∷ more) run part (inr (inr (inr (inr done)))) = ap (λ (k : KeeperState). k.drawn) done.step.may.keeper

  last_drawn : (m1 m2 : Machine R) (more : List (List ℕ)) (part : List ℕ) (result : Result Bool Stop) → LastPart state m1 m2 more part result → m2.keeper.drawn ≡ m1.keeper.drawn
  last_drawn m1 m2 more part (Ok flag) rests = undrawn m1 m2 rests.machine
  last_drawn m1 m2 more part (Err stop) last =
      by_last state m1 m2 more part (λ (s : Stop). m2.keeper.drawn ≡ m1.keeper.drawn) stop last (λ run partly. part_drawn m1 m2 more run part partly) (λ rests. undrawn m1 m2 rests.machine) (λ rests. undrawn m1 m2 rests.machine)

  pub session_drawn : (m0 m1 m2 : Machine R) (texts more : List (List ℕ)) (answers : List Answer) (part : List ℕ) (result : Result Bool Stop) → Steps state m0 m1 texts answers → LastPart state m1 m2 more part result → m2.keeper.drawn ≡ m0.keeper.drawn
  session_drawn m0 m1 m2 texts more answers part result steps last = last_drawn m1 m2 more part result last ∙ steps_drawn m0 m1 texts answers steps

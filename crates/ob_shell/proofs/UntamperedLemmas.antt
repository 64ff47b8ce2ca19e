-- The first changed block that is read ends the run, or its tag fits.
use Rattle.ob_shell.proofs.Words.{Answer, at_rest, Bool, Engine, Err, inl, inr, LastPart, List, Machine, more_together, None, Ok, one_more, PartlyAt, Public, public_of, Result, RevState, RunStop, session_stop, Skeleton, skeleton, Step, Steps, Stop, StoreState, subst, sym, World, world_of, ℕ, [], ◌∷◌, ◌≡◌, ◌⊎◌}
use Rattle.ob_base.specs.declared.refusal.Stop.TheVariants.{Tampered}
use Rattle.ob_exec.specs.Ran.{ServedCause}
use Rattle.ob_exec.specs.RanFlight.{FlightCause}
use Rattle.ob_tables.specs.declared.stop.RunStop.TheVariants as Runs
use Rattle.ob_shell.proofs.StepLemmas.{by_last}
use Rattle.ob_vault.specs.Tied.{Untampered, EndsAt}

-- no changed block was read, or the first that was fits; or the session ended as tampered where it was read
abbrev pub MeetsChange : Result Bool Stop → World → Type 0
MeetsChange (Err (Tampered region place)) w = Untampered w ⊎ EndsAt region place w
MeetsChange _ w = Untampered w

-- after a stop
met : (run : RunStop) (w : World) → Untampered w → MeetsChange (Err (session_stop run)) w
met (Runs.Tampered region place) w calm = inl calm
met other w calm = calm

stop_met : (p : Public) (outline : Skeleton) (run : RunStop) (a b : World) → ServedCause p outline (Err run) a b → Untampered a → MeetsChange (Err (session_stop run)) b
stop_met p outline (Runs.Tampered region place) a b cause calm = cause.2 calm
stop_met p outline other a b cause calm = cause.1 calm

flight_met : (run : RunStop) (a b : World) → FlightCause {T = Unit {0}} (Err run) a b → Untampered a → MeetsChange (Err (session_stop run)) b
flight_met (Runs.Tampered region place) a b cause calm = cause.1 calm
flight_met Runs.SinkFault a b cause calm = cause calm
flight_met Runs.NoMemory a b cause calm = cause calm
flight_met other a b cause calm = absurd cause

module _ {R : Type 0} (state : R → RevState) where
  abbrev IsUntampered : Machine R → Type 0
  IsUntampered m = Untampered (world_of state m.engine m.store)

  pub step_calm : (m0 m1 : Machine R) (text : List ℕ) (answer : Answer) → Step state m0 m1 text answer → IsUntampered m0 → IsUntampered m1
  step_calm m0 m1 text answer step calm = elim step.done [
    | inl still ↦ subst (λ (m : Machine R). IsUntampered m) (sym still.same) calm
    | inr did ↦ did.does.ran.cause.1 calm
  ]

  pub steps_calm : (m0 m2 : Machine R) (texts : List (List ℕ)) (answers : List Answer) → Steps state m0 m2 texts answers → IsUntampered m0 → IsUntampered m2
  steps_calm m0 m2 texts answers at_rest calm = calm
  steps_calm m0 m2 texts answers (one_more {m1 = m1} {text = text} {one = one} {texts = more} {answers = given} step rest) calm = steps_calm m1 m2 more given rest (step_calm m0 m1 text one step calm)
  steps_calm m0 m2 texts answers (more_together {m1 = m1} {texts = more} {answers = given} step rest) calm = steps_calm m1 m2 more given rest (step.flew.ran.cause calm)

  rests_met : (m1 m2 : Machine R) → m2 ≡ m1 → IsUntampered m1 → IsUntampered m2
  rests_met m1 m2 same calm = subst (λ (m : Machine R). IsUntampered m) (sym same) calm

  part_met : (m1 m2 : Machine R) (more : List (List ℕ)) (run : RunStop) (part : List ℕ) → PartlyAt state m1 m2 more run part → IsUntampered m1 → MeetsChange (Err (session_stop run)) (world_of state m2.engine m2.store)
  part_met m1 m2 [] run part idle calm = met run _ (rests_met m1 m2 idle.rests.machine calm)
  part_met m1 m2 (text ∷ more) run part (inl idle) calm = met run _ (rests_met m1 m2 idle.rests.machine calm)
  part_met m1 m2 (text ∷ more) run part (inr (inl cut)) calm = stop_met (public_of m1.engine) (skeleton cut.stmt) run _ _ cut.does.ran.cause calm
  part_met m1 m2 (text ∷ more) run part (inr (inr (inl done))) calm = met run _ (step_calm m1 m2 text done.answer done.step calm)
  part_met m1 m2 (text ∷ more) run part (inr (inr (inr (inl cut)))) calm = flight_met run _ _ cut.flew.ran.cause calm
  part_met m1 m2 (text ∷ more) run part (inr (inr (inr (inr done)))) calm = met run _ (done.step.flew.ran.cause calm)

  pub last_met : (m1 m2 : Machine R) (more : List (List ℕ)) (part : List ℕ) (result : Result Bool Stop) → LastPart state m1 m2 more part result → IsUntampered m1
      → MeetsChange result (world_of state m2.engine m2.store)
  last_met m1 m2 more part (Ok flag) rests calm = rests_met m1 m2 rests.machine calm
  last_met m1 m2 more part (Err stop) last calm =
      by_last state m1 m2 more part (λ (s : Stop). MeetsChange (Err s) (world_of state m2.engine m2.store)) stop last (λ run partly. part_met m1 m2 more run part partly calm)
      (λ rests. rests_met m1 m2 rests.machine calm) (λ rests. rests_met m1 m2 rests.machine calm)

-- no block was read yet
pub first_calm : {R : Type 0} (state : R → RevState) (e : Engine R) (s : StoreState) → s.lie ≡ None → Untampered (world_of state e s)
first_calm state e s none = record { calm = λ lie is. absurd (cc (none, is)); within = λ lie is. absurd (cc (none, is)) }

-- Rows were open where blocks were read or written.
use Rattle.ob_shell.proofs.Words.{Access, Answer, ap, arith, at_rest, Bool, drop, false, inl, inr, IsTrue, LastPart, length, List, list_any, Machine, more_together, one_more, refl, Result, RevState, Step, Steps, Stop, subst, sym, true, ℕ, [], ◌++◌, ◌||◌, ◌∙◌, ◌∷◌, ◌≡◌, ◌≤◌}
use Rattle.std.proofs.lemmas.List.Folds.{list_any-append}
use Rattle.ob_select.specs.Opening.{is_of_rows, Opens}
use Rattle.ob_shell.proofs.StepLemmas.{last_by}
use Rattle.ob_shell.specs.Standing.{IsUsed}

either : (a b : Bool) (old new : ℕ) → old ≤ new → (IsTrue a → 1 ≤ old) → (IsTrue b → 1 ≤ new) → IsTrue (a || b) → 1 ≤ new
either true b old new kept used some any = let least = used refl in omega (arith, least, kept)
either false b old new kept used some any = some any

after : (s t part : List Access) (old new : ℕ) → t ≡ s ++ part → Opens part old new → IsUsed s old → IsUsed t new
after s t part old new asked opens used any =
    either (list_any is_of_rows s) (list_any is_of_rows part) old new opens.kept used opens.some
    (subst (λ (b : Bool). IsTrue b) (ap (list_any is_of_rows) asked ∙ list_any-append is_of_rows s part) any)

drop_front : (s part : List Access) → drop (length s) (s ++ part) ≡ part
drop_front [] part = refl
drop_front (a ∷ s) part = drop_front s part

module _ {R : Type 0} (state : R → RevState) where
  abbrev pub Used : Machine R → Type 0
  Used m = IsUsed m.store.asked m.engine.room.high

  same : (m0 m1 : Machine R) → m1 ≡ m0 → Used m0 → Used m1
  same m0 m1 is used = subst (λ (m : Machine R). Used m) (sym is) used

  step_opens : (m0 m1 : Machine R) (text : List ℕ) (answer : Answer) → Step state m0 m1 text answer → Used m0 → Used m1
  step_opens m0 m1 text answer step used = elim step.done [
    | inl still ↦ subst (λ (m : Machine R). Used m) (sym still.same) used
    | inr did ↦ after _ _ _ _ _ did.does.ran.asked did.does.ran.opened used
  ]

  -- of a flight, of which the accesses are those that are counted
  flight_opens : (m0 m1 : Machine R) (part : List Access) → m1.store.asked ≡ m0.store.asked ++ part → Opens (drop (length m0.store.asked) m1.store.asked) m0.engine.room.high m1.engine.room.high → Used m0 → Used m1
  flight_opens m0 m1 part asked opened used =
      after _ _ _ _ _ asked (subst (λ (l : List Access). Opens l m0.engine.room.high m1.engine.room.high) (ap (drop (length m0.store.asked)) asked ∙ drop_front m0.store.asked part) opened) used

  steps_open : (m0 m2 : Machine R) (texts : List (List ℕ)) (answers : List Answer) → Steps state m0 m2 texts answers → Used m0 → Used m2
  steps_open m0 m2 texts answers at_rest used = used
  steps_open m0 m2 texts answers (one_more {m1 = m1} {text = text} {one = one} {texts = more} {answers = given} step rest) used = steps_open m1 m2 more given rest (step_opens m0 m1 text one step used)
  steps_open m0 m2 texts answers (more_together {m1 = m1} {texts = more} {answers = given} step rest) used = steps_open m1 m2 more given rest (flight_opens m0 m1 _ step.flew.ran.ran.asked step.flew.ran.ran.opened used)

  last_opens : (m1 m2 : Machine R) (more : List (List ℕ)) (part : List ℕ) (result : Result Bool Stop) → LastPart state m1 m2 more part result → Used m1 → Used m2
  last_opens m1 m2 more part result last used =
      last_by state m1 m2 more part (Used m2) result last (λ is. same m1 m2 is used) (λ text run cut. after _ _ _ _ _ cut.does.ran.asked cut.does.ran.opened used) (λ text answer step. step_opens m1 m2 text answer step used)
      (λ texts run cut. flight_opens m1 m2 _ cut.flew.ran.ran.asked cut.flew.ran.ran.opened used) (λ texts answers step. flight_opens m1 m2 _ step.flew.ran.ran.asked step.flew.ran.ran.opened used)

  -- of the texts that were served, and what was done after them
  pub session_opens : (m0 m1 m2 : Machine R) (texts more : List (List ℕ)) (answers : List Answer) (part : List ℕ) (result : Result Bool Stop)
      → Used m0 → Steps state m0 m1 texts answers → LastPart state m1 m2 more part result → Used m2
  session_opens m0 m1 m2 texts more answers part result used steps last = last_opens m1 m2 more part result last (steps_open m0 m1 texts answers steps used)

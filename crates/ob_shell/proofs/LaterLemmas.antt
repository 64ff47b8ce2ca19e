-- What lasts of a store while texts are served.
use Rattle.ob_shell.proofs.Words.{Answer, at_rest, Bool, inl, inr, LastPart, List, Machine, more_together, one_more, Result, RevState, Since, Step, Steps, Stop, subst, sym, ℕ, ◌≡◌}
use Rattle.ob_shell.proofs.StepLemmas.{last_by}
use Rattle.ob_store.proofs.Steps.{since_refl, since_trans}

module _ {R : Type 0} (state : R → RevState) where
  same : (m0 m1 : Machine R) → m1 ≡ m0 → Since m0.store m1.store
  same m0 m1 is = subst (λ (m : Machine R). Since m0.store m.store) (sym is) (since_refl m0.store)

  pub step_later : (m0 m1 : Machine R) (text : List ℕ) (answer : Answer) → Step state m0 m1 text answer → Since m0.store m1.store
  step_later m0 m1 text answer step = elim step.done [
    | inl still ↦ subst (λ (m : Machine R). Since m0.store m.store) (sym still.same) (since_refl m0.store)
    | inr did ↦ did.does.ran.later
  ]

  pub steps_later : (m0 m2 : Machine R) (texts : List (List ℕ)) (answers : List Answer) → Steps state m0 m2 texts answers → Since m0.store m2.store
  steps_later m0 m2 texts answers at_rest = since_refl m0.store
  steps_later m0 m2 texts answers (one_more {m1 = m1} {text = text} {one = one} {texts = more} {answers = given} step rest) = since_trans _ _ _ (step_later m0 m1 text one step) (steps_later m1 m2 more given rest)
  steps_later m0 m2 texts answers (more_together {m1 = m1} {texts = more} {answers = given} step rest) = since_trans _ _ _ step.flew.ran.ran.later (steps_later m1 m2 more given rest)

  pub last_later : (m1 m2 : Machine R) (more : List (List ℕ)) (part : List ℕ) (result : Result Bool Stop) → LastPart state m1 m2 more part result → Since m1.store m2.store
  last_later m1 m2 more part result last = last_by state m1 m2 more part (Since m1.store m2.store) result last (same m1 m2) (λ text run cut. cut.does.ran.later) (step_later m1 m2) (λ texts run cut. cut.flew.ran.ran.later) (λ texts answers step. step.flew.ran.ran.later)

-- A walk over all texts that were answered, one by one, or several together, and the last part after them.
use Rattle.ob_shell.proofs.Words.{Answer, append_assoc, at_rest, Ending, inl, inr, List, Machine, more_together, one_more, RevState, Step, Steps, StepTogether, subst, sym, ℕ, ◌++◌, ◌∷◌}
use Rattle.ob_shell.proofs.FlightMore.{at_turn, more_flown, spelt_up, up}
use Rattle.ob_shell.proofs.WalkLemmas.{EarlyAt, Walked}
use Rattle.ob_shell.proofs.WalkSteps.{more_refused, more_served, more_with}

module _ {R : Type 0} (state : R → RevState) where
  -- what holds of a flight before the first disturbance
  abbrev pub FliesEarly : (Lost : Type 0) → Type 0
  FliesEarly Lost = (ending : Ending) (m0 m1 m m2 : Machine R) (flown texts more : List (List ℕ)) (given answers : List Answer) (part : List ℕ) (step : StepTogether state m0 m1 flown given) (rest : Walked state Lost ending m1 m m2 texts more answers part)
      → EarlyAt state m0 m2 (at_turn state m0 m1 flown given step ∷ rest.entries) (spelt_up state m0 m1 flown given step ++ rest.spelt) (given ++ answers) ((up state m0 m1 flown given step ++ rest.seen) ++ rest.last)

  module _ {Lost : Type 0} (early : FliesEarly Lost) (ending : Ending) (m1 m2 : Machine R) (held more : List (List ℕ)) (kept : List Answer) (part : List ℕ) (last : Walked state Lost ending m1 m1 m2 held more kept part) where
    one_walked : (m0 m : Machine R) (text : List ℕ) (texts : List (List ℕ)) (one : Answer) (answers : List Answer) → Step state m0 m text one → Walked state Lost ending m m1 m2 texts more answers part → Walked state Lost ending m0 m1 m2 (text ∷ texts) more (one ∷ answers) part
    one_walked m0 m text texts one answers step rest = elim step.done [
      | inl still ↦ elim still.why [
        | inl bad ↦ more_refused state ending m0 m m1 m2 text texts more one answers part still.same bad rest
        | inr with ↦ more_with state ending m0 m m1 m2 text texts more one answers part still.same with rest
      ]
      | inr did ↦ more_served state ending m0 m m1 m2 text texts more one answers part did rest
    ]

    pub walked : (m0 : Machine R) (texts : List (List ℕ)) (answers : List Answer) → Steps state m0 m1 texts answers → Walked state Lost ending m0 m1 m2 (texts ++ held) more (answers ++ kept) part
    walked m0 texts answers at_rest = last
    walked m0 texts answers (one_more {m1 = m} {text = text} {one = one} {texts = behind} {answers = given} step rest) = one_walked m0 m text (behind ++ held) one (given ++ kept) step (walked m behind given rest)
    walked m0 texts answers (more_together {m1 = m} {flown = flown} {texts = behind} {given = told} {answers = given} step rest) =
        let there = walked m behind given rest in
        subst (λ (l : List (List ℕ)). Walked state Lost ending m0 m1 m2 l more ((told ++ given) ++ kept) part) (sym (append_assoc flown behind held))
        (subst (λ (l : List Answer). Walked state Lost ending m0 m1 m2 (flown ++ (behind ++ held)) more l part) (sym (append_assoc told given kept))
        (more_flown state m0 m flown told step ending m1 m2 (behind ++ held) more (given ++ kept) part there (early ending m0 m m1 m2 flown (behind ++ held) more told (given ++ kept) part step there)))

-- What was done after the texts that were answered one by one, or several together: the last part of a walk.
use Rattle.ob_shell.proofs.Words.{Answer, append-nil, Bool, CutTogether, Ending, Err, FinishedTogether, inl, inr, LastPart, List, LosesSome, Machine, Ok, Option, Outputs, PartlyAt, printed, Ran, refl, Result, RevState, RunStop, session_stop, Stop, subst, sym, Took, ℕ, [], ◌++◌, ◌∷◌, ◌≡◌, ◌⊎◌}
use Rattle.ob_shell.proofs.LeftFlights.{flies_last}
use Rattle.ob_shell.proofs.FlightLast.{LastWalk}
use Rattle.ob_shell.proofs.StepLemmas.{by_last}
use Rattle.ob_shell.proofs.WalkLemmas.{Walked, walked_cut, walked_done_so, walked_idle, walked_none}
use Rattle.ob_shell.specs.Steps.{Follow}

module _ {R : Type 0} (state : R → RevState) (m1 m2 : Machine R) (more : List (List ℕ)) (part : List ℕ) (w0 w1 : Option (List ℕ)) (Lost : Type 0) (first : List Answer) (cut : Outputs w0 w1 Lost (printed first ++ part)) (whole : Took w0 w1 (printed first)) where
  -- where none of a flight was answered, or there was none
  by_itself : (ending : Ending) → Walked state (LosesSome Lost ending) ending m1 m1 m2 [] more [] part → LastWalk state ending m1 m2 more part w0 w1 Lost first
  by_itself ending walk = record {
    held = [];
    rest = more;
    parts = refl;
    kept = [];
    left = part;
    walk = walk;
    cut = subst (λ (l : List Answer). Outputs w0 w1 Lost (printed l ++ part)) (sym (append-nil first)) cut;
    whole = subst (λ (l : List Answer). Took w0 w1 (printed l)) (sym (append-nil first)) whole;
    same = inl (refl, refl, refl);
  }

  partly : (run : RunStop) → Follow more m2.owed → (texts : List (List ℕ)) → more ≡ texts → PartlyAt state m1 m2 texts run part → LastWalk state (Ran (Err (session_stop run))) m1 m2 more part w0 w1 Lost first
  partly run follow [] is idle = by_itself _ (walked_idle state m1 m2 more run part idle)
  partly run follow (text ∷ texts) is (inl idle) = by_itself _ (walked_idle state m1 m2 more run part idle)
  partly run follow (text ∷ texts) is (inr (inl stopped)) =
      by_itself _ (subst (λ (l : List (List ℕ)). Walked state (LosesSome Lost (Ran (Err (session_stop run)))) (Ran (Err (session_stop run))) m1 m1 m2 [] l [] part) (sym is) (walked_cut state m1 m2 text texts run part (subst (λ (l : List (List ℕ)). Follow l m2.owed) is follow) stopped))
  partly run follow (text ∷ texts) is (inr (inr (inl done))) =
      by_itself _ (subst (λ (l : List (List ℕ)). Walked state (LosesSome Lost (Ran (Err (session_stop run)))) (Ran (Err (session_stop run))) m1 m1 m2 [] l [] part) (sym is) (walked_done_so state m1 m2 text texts run part done (subst (λ (l : List (List ℕ)). Follow l m2.owed) is follow)))
  partly run follow (text ∷ texts) is (inr (inr (inr flight))) = flies_last state m1 m2 more part w0 w1 Lost first cut whole run (subst (λ (l : List (List ℕ)). CutTogether state m1 m2 l run part ⊎ FinishedTogether state m1 m2 l run part) (sym is) flight)

  pub last_walk : (result : Result Bool Stop) → Follow more m2.owed → LastPart state m1 m2 more part result → LastWalk state (Ran result) m1 m2 more part w0 w1 Lost first
  last_walk (Ok flag) follow rests = by_itself _ (walked_none state (Ran (Ok flag)) m1 m2 more part rests tt (λ ends. cc ends))
  last_walk (Err stop) follow last =
      by_last state m1 m2 more part (λ (s : Stop). LastWalk state (Ran (Err s)) m1 m2 more part w0 w1 Lost first) stop last (λ run at. partly run follow more refl at)
      (λ rests. by_itself _ (walked_none state _ m1 m2 more part rests tt (λ ends. cc ends))) (λ rests. by_itself _ (walked_none state _ m1 m2 more part rests tt (λ ends. cc ends)))

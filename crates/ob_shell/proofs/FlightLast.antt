-- The last part of a walk.
use Rattle.ob_shell.proofs.Words.{Answer, Ending, Err, List, LosesSome, Machine, Option, Outputs, printed, Ran, RevState, RunStop, session_stop, Took, ℕ, [], ◌++◌, ◌≡◌, ◌⊎◌}
use Rattle.ob_shell.proofs.WalkLemmas.{Walked}

-- After these answers the first of the texts were answered, too, in a flight that was left there, and a sink took their
-- answers; this was printed of the next one. Where no flight was left all is as it was.
pub record LastWalk {R : Type 0} (state : R → RevState) (ending : Ending) (m1 m2 : Machine R) (more : List (List ℕ)) (bytes : List ℕ) (w0 w1 : Option (List ℕ)) (Lost : Type 0) (first : List Answer) : Type 0 where
  pub held : List (List ℕ)
  pub rest : List (List ℕ)
  pub parts : more ≡ held ++ rest
  pub kept : List Answer
  pub left : List ℕ
  pub walk : Walked state (LosesSome Lost ending) ending m1 m1 m2 held rest kept left
  pub cut : Outputs w0 w1 Lost (printed (first ++ kept) ++ left)
  pub whole : Took w0 w1 (printed (first ++ kept))
  pub same : ((held ≡ []) × (kept ≡ []) × (left ≡ bytes)) ⊎ ((run : RunStop) × (ending ≡ Ran (Err (session_stop run))))

-- What a read gives.
use Rattle.std.proofs.Common.{◌≡◌, ℕ, List, [], ◌∷◌, ◌++◌, Option, Some, None, refl, ◌∙◌, ap}
use Rattle.std.specs.List.{last_or}
use Rattle.ob_base.specs.declared.access.Access.{Access}
use Rattle.ob_base.specs.declared.access.Access.TheVariants.{Read}
use Rattle.ob_store.specs.Gave.{read_by, gave_of}

last_or-push : {A : Type 0} (o : Option A) (l : List A) (a : A) → last_or o (l ++ a ∷ []) ≡ Some a
last_or-push o [] a = refl
last_or-push o (b ∷ l) a = last_or-push (Some b) l a

-- after a read, what stands there
pub gave_read : (stands : ℕ → ℕ → List ℕ) (before after : List Access) (region place : ℕ) → after ≡ before ++ Read region place ∷ [] → gave_of stands after ≡ stands region place
unfolding gave_of
gave_read stands before after region place is = ap (λ (l : List Access). read_by stands (last_or None l)) is ∙ ap (read_by stands) (last_or-push None before (Read region place))

-- The names of the files of regions.
use Rattle.std.proofs.Common.{◌≡◌, ◌∙◌, ℕ, List, ◌++◌, IfSome, None, Option, Some, sym, ap}

pub before : (s p q x : List ℕ) → p ≡ q → s ≡ q ++ x → s ≡ p ++ x
before s p q x same is = is ∙ ap (λ (l : List ℕ). l ++ x) (sym same)

-- what holds of a value holds in other words
pub some_more : {A : Type 0} (r : Option A) (P Q : A → Type 0) → IfSome r P → ((x : A) → P x → Q x) → IfSome r Q
some_more None P Q is more = tt
some_more (Some x) P Q is more = more x is

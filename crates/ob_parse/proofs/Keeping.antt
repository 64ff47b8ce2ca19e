-- A loop that keeps something of each item.
use Rattle.std.proofs.Common.{◌≡◌, ℕ, ◌+◌, ◌<◌, ◌≤◌, List, [], ◌∷◌, ◌++◌, length, get_or, take, sym, ◌∙◌, ap}
use Rattle.std.proofs.lemmas.List.{take_more, take_all}

-- what is kept of the items so far, where a list's last item adds its piece
pub kept_more : {X Y : Type 0} (f : List X → List Y) (piece : X → List Y) → ((xs : List X) (x : X) → f (xs ++ x ∷ []) ≡ f xs ++ piece x)
    → (xs : List X) (k : ℕ) (x : X) (had now : List Y) → k < length xs → x ≡ get_or xs k x → had ≡ f (take k xs) → now ≡ had ++ piece x → now ≡ f (take (k + 1) xs)
kept_more f piece ends xs k x had now l is h n =
    n ∙ ap (λ v. v ++ piece x) h ∙ sym (ends (take k xs) x) ∙ ap (λ v. f (take k xs ++ v ∷ [])) is ∙ ap f (sym (take_more xs k x l))

-- and of all of them
pub kept_all : {X Y : Type 0} (f : List X → List Y) (xs : List X) (k : ℕ) (found result : List Y) → length xs ≤ k → found ≡ f (take k xs) → result ≡ found → result ≡ f xs
kept_all f xs k found result l h r = r ∙ h ∙ ap f (take_all k xs l)

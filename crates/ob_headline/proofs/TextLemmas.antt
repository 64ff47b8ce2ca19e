-- Bytes that are cut in two parts, one after the other.
use Rattle.ob_headline.proofs.Words.{ap, append_assoc, List, refl, sym, true, ℕ, [], ◌++◌, ◌∙◌, ◌∷◌, ◌≡◌}
use Rattle.ob_headline.specs.Texts.{is_over, rest_after, texts_at, rest_of, texts_of}

pub rest_of-append : (rest xs ys : List ℕ) → rest_of rest (xs ++ ys) ≡ rest_of (rest_of rest xs) ys
unfolding rest_of
rest_of-append rest [] ys = refl
rest_of-append rest (x ∷ xs) ys = rest_of-append (rest_after rest x) xs ys

pub texts_of-append : (rest xs ys : List ℕ) → texts_of rest (xs ++ ys) ≡ texts_of rest xs ++ texts_of (rest_of rest xs) ys
unfolding rest_of texts_of
texts_of-append rest [] ys = refl
texts_of-append rest (x ∷ xs) ys = ap (λ (l : List (List ℕ)). texts_at rest x ++ l) (texts_of-append (rest_after rest x) xs ys) ∙ sym (append_assoc (texts_at rest x) _ _)

pub rest_of-cons : (rest : List ℕ) (b : ℕ) (ys : List ℕ) → rest_of rest (b ∷ ys) ≡ rest_of (rest_after rest b) ys
unfolding rest_of
rest_of-cons rest b ys = refl

pub texts_of-cons : (rest : List ℕ) (b : ℕ) (ys : List ℕ) → texts_of rest (b ∷ ys) ≡ texts_at rest b ++ texts_of (rest_after rest b) ys
unfolding texts_of
texts_of-cons rest b ys = refl

pub rest_of-nil : (rest : List ℕ) → rest_of rest [] ≡ rest
unfolding rest_of
rest_of-nil rest = refl

pub texts_of-nil : (rest : List ℕ) → texts_of rest [] ≡ []
unfolding texts_of
texts_of-nil rest = refl

rest_after-over : (rest : List ℕ) (b : ℕ) → is_over rest ≡ true → rest_after rest b ≡ rest
unfolding rest_after
rest_after-over rest b h = rw h

texts_at-over : (rest : List ℕ) (b : ℕ) → is_over rest ≡ true → texts_at rest b ≡ []
unfolding texts_at
texts_at-over rest b h = rw h

-- past the limit of one text nothing more comes
pub rest_of-over : (rest ys : List ℕ) → is_over rest ≡ true → rest_of rest ys ≡ rest
unfolding rest_of
rest_of-over rest [] h = refl
rest_of-over rest (y ∷ ys) h = rw (rest_after-over rest y h) (rest_of-over rest ys h)

pub texts_of-over : (rest ys : List ℕ) → is_over rest ≡ true → texts_of rest ys ≡ []
unfolding texts_of
texts_of-over rest [] h = refl
texts_of-over rest (y ∷ ys) h = rw (texts_at-over rest y h, rest_after-over rest y h) (texts_of-over rest ys h)

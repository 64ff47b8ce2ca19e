-- Bags of joined lists, and bags of at most one element.
use Rattle.std.proofs.Common.{◌≡◌, List, [], ◌∷◌, ◌++◌, Option, Some, None, refl, sym, subst, append_assoc}
use Rattle.std.proofs.lemmas.List.{append-nil}
use Rattle.ob_row.specs.Bags.{Inserts, here, further, Same}
use Rattle.ob_path.specs.Rows.{list_of}
use Rattle.ob_row.proofs.BagLemmas.{Same-refl, Same-trans, Same-append, Same-put_in, Same-rests}

pub Inserts-middle : {A : Type 0} (x : A) (xs ys : List A) → Inserts x (xs ++ ys) (xs ++ x ∷ ys)
Inserts-middle x [] ys = here
Inserts-middle x (y ∷ xs) ys = further (Inserts-middle x xs ys)

pub Same-is : {A : Type 0} (xs ys : List A) → xs ≡ ys → Same xs ys
Same-is xs ys e = subst (λ w. Same xs w) e (Same-refl xs)

pub Same-cons : {A : Type 0} (x : A) (xs ys : List A) → Same xs ys → Same (x ∷ xs) (x ∷ ys)
Same-cons x xs ys s = (ys, here, s)

pub Same-middle : {A : Type 0} (x : A) (xs ys : List A) → Same (xs ++ x ∷ ys) (x ∷ (xs ++ ys))
Same-middle x xs ys = Same-put_in (xs ++ ys) (Inserts-middle x xs ys) (Same-refl (xs ++ ys))

pub Same-swapped : {A : Type 0} (xs ys : List A) → Same (xs ++ ys) (ys ++ xs)
Same-swapped [] ys = Same-is ys (ys ++ []) (sym (append-nil ys))
Same-swapped (x ∷ xs) ys = (ys ++ xs, Inserts-middle x ys xs, Same-swapped xs ys)

-- the middle part to the end
pub Same-to_end : {A : Type 0} (xs ys zs : List A) → Same ((xs ++ ys) ++ zs) ((xs ++ zs) ++ ys)
Same-to_end xs ys zs =
    Same-trans ((xs ++ ys) ++ zs) (xs ++ (ys ++ zs)) ((xs ++ zs) ++ ys) (Same-is _ _ (append_assoc xs ys zs))
    (Same-trans (xs ++ (ys ++ zs)) (xs ++ (zs ++ ys)) ((xs ++ zs) ++ ys) (Same-append xs xs (ys ++ zs) (zs ++ ys) (Same-refl xs) (Same-swapped ys zs)) (Same-is _ _ (sym (append_assoc xs zs ys))))

pub Same-left : {A : Type 0} (xs ys zs : List A) → Same xs ys → Same (xs ++ zs) (ys ++ zs)
Same-left xs ys zs s = Same-append xs ys zs zs s (Same-refl zs)

pub Same-right : {A : Type 0} (zs xs ys : List A) → Same xs ys → Same (zs ++ xs) (zs ++ ys)
Same-right zs xs ys s = Same-append zs zs xs ys (Same-refl zs) s

pub Same-rest : {A : Type 0} (z : A) (xs ys : List A) → Same (z ∷ xs) (z ∷ ys) → Same xs ys
Same-rest z xs ys s = Same-trans xs s.0 ys s.2 (Same-rests refl s.1 here)

-- a common part may be taken off
pub Same-cancel : {A : Type 0} (zs xs ys : List A) → Same (zs ++ xs) (zs ++ ys) → Same xs ys
Same-cancel [] xs ys s = s
Same-cancel (z ∷ zs) xs ys s = Same-cancel zs xs ys (Same-rest z (zs ++ xs) (zs ++ ys) s)

pub Same-cancel_end : {A : Type 0} (zs xs ys : List A) → Same (xs ++ zs) (ys ++ zs) → Same xs ys
Same-cancel_end zs xs ys s =
    Same-cancel zs xs ys (Same-trans (zs ++ xs) (xs ++ zs) (zs ++ ys) (Same-swapped zs xs) (Same-trans (xs ++ zs) (ys ++ zs) (zs ++ ys) s (Same-swapped ys zs)))

into_none : {A : Type 0} {x : A} {rest ys : List A} → Inserts x rest ys → ys ≡ [] → ⊥
into_none here e = cc
into_none (further i) e = cc

into_one : {A : Type 0} {x y : A} {rest ys : List A} → Inserts x rest ys → ys ≡ y ∷ [] → x ∷ rest ≡ y ∷ []
into_one here e = e
into_one (further i) e = absurd (into_none i (cc))

-- a bag of at most one element is a list
pub Same-one : {A : Type 0} (xs : List A) (o : Option A) → Same xs (list_of o) → xs ≡ list_of o
Same-one [] o s = sym s
Same-one (x ∷ xs) None s = absurd (into_none s.1 refl)
Same-one (x ∷ xs) (Some y) s =
    let e : x ∷ s.0 ≡ y ∷ [] = into_one s.1 refl in
    let none : s.0 ≡ [] = cc in
    let only : xs ≡ [] = Same-one xs None (subst (λ w. Same xs w) none s.2) in
    cc

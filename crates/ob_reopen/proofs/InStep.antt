-- Two lists whose elements have the same names, one beside the other, are put in order of their names alike.
use Rattle.std.proofs.Common.{◌≡◌, ℕ, zero, suc, ◌+◌, if◌then◌else◌, List, [], ◌∷◌, fold, insert, refl, subst, sym}
use Rattle.std.specs.Cmp.Lexicographic.{slice_cmp}
use Rattle.std.specs.List.{prefix_len}
use Rattle.std.specs.Ordering.{is_lt, nat_cmp}

-- one element is put after the first ones that have a smaller name; `placed` of specs/Writings is such a one
abbrev pub put_by : {A : Type 0} → (A → List ℕ) → List A → A → List A
put_by name us t = insert us (prefix_len (λ u. is_lt (slice_cmp nat_cmp (name u) (name t))) us) t

-- they are as many, and each is so with the one beside it
abbrev pub Beside : {A B : Type 0} → (A → B → Type 0) → List A → List B → Type 0
Beside R [] [] = Unit {0}
Beside R [] (b ∷ bs) = ⊥
Beside R (a ∷ us) [] = ⊥
Beside R (a ∷ us) (b ∷ vs) = R a b × Beside R us vs

module _ {A B : Type 0} (R : A → B → Type 0) where
  insert_beside : (us : List A) (vs : List B) (a : A) (b : B) (n : ℕ) → R a b → Beside R us vs → Beside R (insert us n a) (insert vs n b)
  insert_beside [] [] a b zero one all = (one, tt)
  insert_beside [] [] a b (suc n) one all = (one, tt)
  insert_beside [] (v ∷ vs) a b n one all = absurd all
  insert_beside (u ∷ us) [] a b n one all = absurd all
  insert_beside (u ∷ us) (v ∷ vs) a b zero one all = (one, all)
  insert_beside (u ∷ us) (v ∷ vs) a b (suc n) one all = (all.0, insert_beside us vs a b n one all.1)

  module _ (x : A → List ℕ) (y : B → List ℕ) (named : (a : A) (b : B) → R a b → x a ≡ y b) where
    prefix_beside : (us : List A) (vs : List B) (a : A) (b : B) → R a b → Beside R us vs
        → prefix_len (λ (u : A). is_lt (slice_cmp nat_cmp (x u) (x a))) us ≡ prefix_len (λ (v : B). is_lt (slice_cmp nat_cmp (y v) (y b))) vs
    prefix_beside [] [] a b one all = refl
    prefix_beside [] (v ∷ vs) a b one all = absurd all
    prefix_beside (u ∷ us) [] a b one all = absurd all
    prefix_beside (u ∷ us) (v ∷ vs) a b one all =
        let first = named u v all.0 in
        let last = named a b one in
        let rest = prefix_beside us vs a b one all.1 in
        λ i. if is_lt (slice_cmp nat_cmp (first i) (last i)) then 1 + rest i else 0

    put_beside : (us : List A) (vs : List B) (a : A) (b : B) → R a b → Beside R us vs → Beside R (put_by x us a) (put_by y vs b)
    put_beside us vs a b one all =
        let n = prefix_len (λ (v : B). is_lt (slice_cmp nat_cmp (y v) (y b))) vs in
        subst (λ (k : ℕ). Beside R (insert us k a) (insert vs n b)) (sym (prefix_beside us vs a b one all)) (insert_beside us vs a b n one all)

    pub fold_beside : (us ts : List A) (vs ws : List B) → Beside R us vs → Beside R ts ws → Beside R (fold (put_by x) us ts) (fold (put_by y) vs ws)
    fold_beside us [] vs [] all more = all
    fold_beside us [] vs (w ∷ ws) all more = absurd more
    fold_beside us (t ∷ ts) vs [] all more = absurd more
    fold_beside us (t ∷ ts) vs (w ∷ ws) all more = fold_beside (put_by x us t) ts (put_by y vs w) ws (put_beside us vs t w more.0 all) more.1

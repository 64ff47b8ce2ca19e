-- What the words on rows keep.
use Rattle.std.proofs.Common.{◌≡◌, ◌≤◌, ℕ, zero, suc, ◌-◌, Bool, true, false, cond, List, [], ◌∷◌, ◌++◌, Option, Some, None, length, take, map, replicate, refl, ap, ◌∙◌, arith, length-append}
use Rattle.std.specs.Prelude.{filter, nat_le}
use Rattle.std.proofs.lemmas.List.{length-replicate, length-map, length-take, append-nil}
use Rattle.std.proofs.lemmas.List.Elements.{filter_map-append}
use Rattle.ob_row.specs.Bags.{Same}
use Rattle.ob_path.specs.Rows.{rows, slots_of, put, by_key, firsts, except_firsts}
use Rattle.ob_row.proofs.BagLemmas.{Same-refl, Same-trans}
use Rattle.ob_tree.proofs.Moves.{Same-cons, Same-middle}

pub rows-append : {R : Type 0} (a b : List (Option R)) → rows (a ++ b) ≡ rows a ++ rows b
rows-append a b = filter_map-append (λ slot. slot) a b

pub rows-none : {R : Type 0} (n : ℕ) → rows {R = R} (replicate n None) ≡ []
rows-none zero = refl
rows-none (suc n) = rows-none n

pub rows-some : {R : Type 0} (all : List R) → rows (map (λ row. Some row) all) ≡ all
rows-some [] = refl
rows-some (r ∷ all) = ap (λ w. r ∷ w) (rows-some all)

pub rows-slots_of : {R : Type 0} (n : ℕ) (all : List R) → rows (slots_of n all) ≡ all
rows-slots_of n all =
    rows-append (map (λ row. Some row) all) (replicate (n - length all) None)
    ∙ ap (λ w. rows (map (λ row. Some row) all) ++ w) (rows-none (n - length all))
    ∙ append-nil (rows (map (λ row. Some row) all)) ∙ rows-some all

pub length-slots_of : {R : Type 0} (n : ℕ) (all : List R) → length all ≤ n → length (slots_of n all) ≡ n
length-slots_of n all h =
    simp (length-append, length-map, length-replicate) (omega arith)

pub length-firsts : {R : Type 0} (n : ℕ) (p : R → Bool) (all : List R) → length (firsts n p all) ≤ n
length-firsts n p all = omega (arith, length-take n (filter p all))

split_firsts : {R : Type 0} (n : ℕ) (p : R → Bool) (r : R) (all : List R) (b : Bool)
    → Same (firsts n p all ++ except_firsts n p all) all → Same (firsts (suc n) p all ++ except_firsts (suc n) p all) all
    → Same (take (suc n) (cond b (r ∷ filter p all) (filter p all)) ++ cond b (except_firsts n p all) (r ∷ except_firsts (suc n) p all)) (r ∷ all)
split_firsts n p r all true fewer same = Same-cons r (firsts n p all ++ except_firsts n p all) all fewer
split_firsts n p r all false fewer same =
    Same-trans (firsts (suc n) p all ++ r ∷ except_firsts (suc n) p all) (r ∷ (firsts (suc n) p all ++ except_firsts (suc n) p all)) (r ∷ all)
    (Same-middle r (firsts (suc n) p all) (except_firsts (suc n) p all)) (Same-cons r _ all same)

pub Same-firsts : {R : Type 0} (n : ℕ) (p : R → Bool) (all : List R) → Same (firsts n p all ++ except_firsts n p all) all
Same-firsts zero p all = Same-refl all
Same-firsts (suc n) p [] = refl
Same-firsts (suc n) p (r ∷ all) = split_firsts n p r all (p r) (Same-firsts n p all) (Same-firsts (suc n) p all)

split_put : {R : Type 0} (r x : R) (rest put_rest : List R) (b : Bool) → Same put_rest (r ∷ rest) → Same (cond b (r ∷ x ∷ rest) (x ∷ put_rest)) (r ∷ x ∷ rest)
split_put r x rest put_rest true s = Same-refl (r ∷ x ∷ rest)
split_put r x rest put_rest false s =
    Same-trans (x ∷ put_rest) (x ∷ r ∷ rest) (r ∷ x ∷ rest) (Same-cons x put_rest (r ∷ rest) s) (Same-middle r (x ∷ []) rest)

pub Same-put : {R : Type 0} (key : R → ℕ) (r : R) (all : List R) → Same (put key r all) (r ∷ all)
Same-put key r [] = Same-refl (r ∷ [])
Same-put key r (x ∷ rest) = split_put r x rest (put key r rest) (nat_le (key r) (key x)) (Same-put key r rest)

pub Same-by_key : {R : Type 0} (key : R → ℕ) (all : List R) → Same (by_key key all) all
Same-by_key key [] = refl
Same-by_key key (r ∷ all) =
    Same-trans (put key r (by_key key all)) (r ∷ by_key key all) (r ∷ all) (Same-put key r (by_key key all)) (Same-cons r (by_key key all) all (Same-by_key key all))

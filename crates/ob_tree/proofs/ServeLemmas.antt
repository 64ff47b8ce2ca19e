-- An operation among the slots of a buffer.
use Rattle.std.proofs.Common.{◌≡◌, ◌≤◌, ◌<◌, ℕ, zero, suc, true, ◌==◌, List, [], ◌∷◌, ◌++◌, Option, Some, None, length, get_or, set, refl, sym, ap, subst, arith}
use Rattle.std.specs.Prelude.{not}
use Rattle.std.proofs.lemmas.Bool.{eq-eqb, ne_eqb, lt-ltb, le-ltb}
use Rattle.ob_row.specs.Bags.{Same}
use Rattle.ob_path.specs.Rows.{rows, with_key, except, list_of, first, Single}
use Rattle.ob_path.specs.Access.{Op, key_of, after, applied, got, answer, OutOfRange}
use Rattle.ob_row.proofs.BagLemmas.{Same-refl, Same-trans, Same-sym, Same-filter}
use Rattle.ob_tree.proofs.Moves.{Same-is, Same-cons, Same-one, Same-middle, Same-right}
use Rattle.ob_tree.proofs.OrderLemmas.{length-Same}
use Rattle.ob_tree.proofs.KeyLemmas.{Same-parts, none_at}

-- a row in a slot stands beside those of the other slots
pub rows-set_none : {R : Type 0} (slots : List (Option R)) (i : ℕ) (row : R) → get_or slots i None ≡ Some row → Same (rows slots) (row ∷ rows (set slots i None))
rows-set_none [] i row here = absurd (cc)
rows-set_none (None ∷ slots) zero row here = absurd (cc)
rows-set_none (Some r ∷ slots) zero row here = let same : r ≡ row = cc in Same-is _ _ (ap (λ x. x ∷ rows slots) same)
rows-set_none (None ∷ slots) (suc i) row here = rows-set_none slots i row here
rows-set_none (Some r ∷ slots) (suc i) row here =
    let rest = rows (set slots i None) in
    Same-trans (r ∷ rows slots) (r ∷ row ∷ rest) (row ∷ r ∷ rest) (Same-cons r (rows slots) (row ∷ rest) (rows-set_none slots i row here)) (Same-middle row (r ∷ []) rest)

pub rows-set_some : {R : Type 0} (slots : List (Option R)) (i : ℕ) (row : R) → i < length slots → Same (rows (set slots i (Some row))) (row ∷ rows (set slots i None))
rows-set_some [] i row inside = absurd (omega (arith, inside))
rows-set_some (None ∷ slots) zero row inside = Same-refl (row ∷ rows slots)
rows-set_some (Some r ∷ slots) zero row inside = Same-refl (row ∷ rows slots)
rows-set_some (None ∷ slots) (suc i) row inside = rows-set_some slots i row (omega (arith, inside))
rows-set_some (Some r ∷ slots) (suc i) row inside =
    let rest = rows (set slots i None) in
    Same-trans (r ∷ rows (set slots i (Some row))) (r ∷ row ∷ rest) (row ∷ r ∷ rest) (Same-cons r (rows (set slots i (Some row))) (row ∷ rest) (rows-set_some slots i row (omega (arith, inside)))) (Same-middle row (r ∷ []) rest)

-- an empty slot stays one
pub set_none-empty : {R : Type 0} (slots : List (Option R)) (i : ℕ) → get_or slots i None ≡ None → set slots i None ≡ slots
set_none-empty [] i here = refl
set_none-empty (None ∷ slots) zero here = refl
set_none-empty (Some r ∷ slots) zero here = absurd (cc)
set_none-empty (x ∷ slots) (suc i) here = ap (λ l. x ∷ l) (set_none-empty slots i here)

module _ {R : Type 0} (key : R → ℕ) (n : ℕ) (op : Op R) (slots : List (Option R)) where
  -- there is a row with the key
  module _ (i : ℕ) (row : R) (here : get_or slots i None ≡ Some row) (mine : key row ≡ key_of key op) (single : Single key (rows slots)) where
    abbrev rest : List R
    rest = rows (set slots i None)

    itself : (key row == key_of key op) ≡ true
    itself = eq-eqb (key row) (key_of key op) mine

    keyed : Same (with_key key (key_of key op) (rows slots)) (row ∷ with_key key (key_of key op) rest)
    keyed =
        let whole : with_key key (key_of key op) (row ∷ rest) ≡ row ∷ with_key key (key_of key op) rest = rw itself refl in
        subst (λ l. Same (with_key key (key_of key op) (rows slots)) l) whole (Same-filter (λ r. key r == key_of key op) (rows slots) (row ∷ rest) (rows-set_none slots i row here))

    none_else : with_key key (key_of key op) rest ≡ []
    none_else = empty (with_key key (key_of key op) rest) (omega (arith, single (key_of key op), length-Same (with_key key (key_of key op) (rows slots)) (row ∷ with_key key (key_of key op) rest) keyed))
      where
        empty : (l : List R) → length l ≤ 0 → l ≡ []
        empty [] few = refl
        empty (x ∷ l) few = absurd (omega (arith, few))

    one_row : with_key key (key_of key op) (rows slots) ≡ row ∷ []
    one_row = Same-one (with_key key (key_of key op) (rows slots)) (Some row) (subst (λ l. Same (with_key key (key_of key op) (rows slots)) (row ∷ l)) none_else keyed)

    others : Same rest (except key (key_of key op) (rows slots))
    others =
        let off : except key (key_of key op) (row ∷ rest) ≡ except key (key_of key op) rest = rw itself refl in
        Same-sym (except key (key_of key op) (rows slots)) rest
        (Same-trans (except key (key_of key op) (rows slots)) (except key (key_of key op) (row ∷ rest)) rest
        (Same-filter (λ r. not (key r == key_of key op)) (rows slots) (row ∷ rest) (rows-set_none slots i row here))
        (Same-trans (except key (key_of key op) (row ∷ rest)) (except key (key_of key op) rest) rest (Same-is _ _ off)
        (subst (λ l. Same (l ++ except key (key_of key op) rest) rest) none_else (Same-parts key (key_of key op) rest))))

    pub applied_found : key_of key op < n → Same (list_of (after op (Some row)) ++ rows (set slots i None)) (applied key n op (rows slots))
    applied_found within =
        let test = lt-ltb (key_of key op) n within in
        rw test (subst (λ o. Same (list_of (after op (Some row)) ++ rest) (list_of (after op o) ++ except key (key_of key op) (rows slots))) (sym (ap first one_row))
        (Same-right (list_of (after op (Some row))) rest (except key (key_of key op) (rows slots)) others))

    pub answer_found : key_of key op < n → answer n (key_of key op) op (first (with_key key (key_of key op) (rows slots))) ≡ got op (Some row)
    answer_found within =
        let test = lt-ltb (key_of key op) n within in
        rw test (ap (λ l. got op (first l)) one_row)

  -- there is none
  module _ (absent : (j : ℕ) (row : R) → get_or slots j None ≡ Some row → key row ≡ key_of key op → ⊥) where
    no_row : with_key key (key_of key op) (rows slots) ≡ []
    no_row = none_at key (key_of key op) slots (λ j row is. ne_eqb (key row) (key_of key op) (absent j row is))

    pub applied_absent : key_of key op < n → Same (list_of (after op None) ++ rows slots) (applied key n op (rows slots))
    applied_absent within =
        let test = lt-ltb (key_of key op) n within in
        rw test (subst (λ o. Same (list_of (after op None) ++ rows slots) (list_of (after op o) ++ except key (key_of key op) (rows slots))) (sym (ap first no_row))
        (Same-right (list_of (after op None)) (rows slots) (except key (key_of key op) (rows slots))
        (Same-sym (except key (key_of key op) (rows slots)) (rows slots) (subst (λ l. Same (l ++ except key (key_of key op) (rows slots)) (rows slots)) no_row (Same-parts key (key_of key op) (rows slots))))))

    pub answer_absent : key_of key op < n → answer n (key_of key op) op (first (with_key key (key_of key op) (rows slots))) ≡ got op None
    answer_absent within =
        let test = lt-ltb (key_of key op) n within in
        rw test (ap (λ l. got op (first l)) no_row)

  -- there is no such key
  pub applied_past : n ≤ key_of key op → Same (rows slots) (applied key n op (rows slots))
  applied_past past = let test = le-ltb (key_of key op) n past in rw test (Same-refl (rows slots))

  pub answer_past : n ≤ key_of key op → answer n (key_of key op) op (first (with_key key (key_of key op) (rows slots))) ≡ OutOfRange
  answer_past past = let test = le-ltb (key_of key op) n past in rw test refl

-- The slots of a tree after an eviction, and bags told by their keys.
use Rattle.std.proofs.Common.{◌≡◌, ◌≤◌, ◌<◌, ℕ, zero, suc, ◌-◌, ◌+◌, ◌*◌, ◌/◌, ◌^◌, Bool, true, false, cond, ◌==◌, ◌⊎◌, inl, inr, List, [], ◌∷◌, ◌++◌, Option, Some, None, length, take, drop, get_or, refl, sym, ap, ◌∙◌, subst, arith, append_assoc}
use Rattle.std.specs.List.{list_any, All}
use Rattle.std.proofs.lemmas.List.Elements.{All-nil, All-cons, All-head, All-tail}
use Rattle.std.proofs.lemmas.Bool.{eqb-true, eqb-false, ne_eqb, eq-eqb, or_parts, cases_eq, cases_lt, cases_Bool, cond-false}
use Rattle.std.proofs.lemmas.List.{length-take-le, drop-drop, drop_at, take_at}
use Rattle.ob_row.specs.Bags.{Inserts, here, further, Same}
use Rattle.ob_path.specs.Paths.{path_up}
use Rattle.ob_path.specs.Rows.{with_key, list_of, first, slots_of, firsts, except_firsts, Single}
use Rattle.ob_path.specs.States.{State, Represents, Stands, map_of, held, bucket, with_bucket}
use Rattle.ob_path.specs.Access.{Evicted, fill, evict}
use Rattle.ob_tree.specs.Slotwise.{laid}
use Rattle.ob_tree.proofs.PathLemmas.{Apart, length-upward}
use Rattle.ob_tree.proofs.TreeLemmas.{slot_outside, other_bucket}
use Rattle.ob_tree.proofs.EvictLemmas.{four_slots, apart_fill}

pub same_bucket : {R : Type 0} (tree : List (Option R)) (b : ℕ) (slots : List (Option R)) → length slots ≡ 4 → 4 * b + 4 ≤ length tree → bucket (with_bucket tree b slots) b ≡ slots
same_bucket tree b slots four within =
    let front : length (take (4 * b) tree) ≡ 4 * b = length-take-le (4 * b) tree (omega (arith, within)) in
    ap (λ w. take 4 (drop (4 * b) w)) (append_assoc (take (4 * b) tree) slots (drop (4 * b + 4) tree))
    ∙ ap (take 4) (drop_at (take (4 * b) tree) (slots ++ drop (4 * b + 4) tree) (4 * b) front)
    ∙ take_at slots (drop (4 * b + 4) tree) 4 four

module _ {R : Type 0} (fits : ℕ → R → Bool) where
  pub untouched_slot : (bs : List ℕ) (e : Evicted R) → Apart (length e.tree) bs → (p : ℕ) (d : Option R) → list_any (λ c. c == p / 4) bs ≡ false → get_or (evict fits bs e).tree p d ≡ get_or e.tree p d
  untouched_slot [] e apart p d off = refl
  untouched_slot (b ∷ bs) e apart p d off =
      let both = or_parts (b == p / 4) (list_any (λ c. c == p / 4) bs) off in
      untouched_slot bs (fill fits b e) (apart_fill fits b bs e apart) p d both.1
      ∙ slot_outside e.tree b (slots_of 4 (firsts 4 (fits b) e.left)) (four_slots fits b e.left) apart.0 p d (λ same. eqb-false b (p / 4) both.0 (sym same))

  untouched_bucket : (bs : List ℕ) (e : Evicted R) → Apart (length e.tree) bs → (c : ℕ) → list_any (λ x. x == c) bs ≡ false → bucket (evict fits bs e).tree c ≡ bucket e.tree c
  untouched_bucket [] e apart c off = refl
  untouched_bucket (b ∷ bs) e apart c off =
      let both = or_parts (b == c) (list_any (λ x. x == c) bs) off in
      untouched_bucket bs (fill fits b e) (apart_fill fits b bs e apart) c both.1
      ∙ other_bucket e.tree b (slots_of 4 (firsts 4 (fits b) e.left)) (four_slots fits b e.left) apart.0 c (λ same. eqb-false b c both.0 (sym same))

  pub filled_bucket : (bs : List ℕ) (e : Evicted R) → Apart (length e.tree) bs → (j : ℕ) → j < length bs
      → bucket (evict fits bs e).tree (get_or bs j 0) ≡ slots_of 4 (firsts 4 (fits (get_or bs j 0)) (evict fits (take j bs) e).left)
  filled_bucket [] e apart j within = absurd (omega (arith, within))
  filled_bucket (b ∷ bs) e apart zero within =
      untouched_bucket bs (fill fits b e) (apart_fill fits b bs e apart) b apart.1
      ∙ same_bucket e.tree b (slots_of 4 (firsts 4 (fits b) e.left)) (four_slots fits b e.left) apart.0
  filled_bucket (b ∷ bs) e apart (suc j) within = filled_bucket bs (fill fits b e) (apart_fill fits b bs e apart) j (omega (arith, within))

module _ {R : Type 0} (key : R → ℕ) where
  -- a row of a key is taken out of a list
  record TakenFirst (k : ℕ) (r : R) (t ys : List R) : Type 0 where
    rest : List R
    inserts : Inserts r rest ys
    mine : with_key key k rest ≡ t
    others : (j : ℕ) → (j ≡ k → ⊥) → with_key key j rest ≡ with_key key j ys

  take_first : (k : ℕ) (r : R) (t ys : List R) → with_key key k ys ≡ r ∷ t → TakenFirst k r t ys
  take_first k r t [] e = absurd (cc)
  take_first k r t (y ∷ ys) e = by_test (take_first k r t ys) (cases_Bool (key y == k))
    where
      by_test : (with_key key k ys ≡ r ∷ t → TakenFirst k r t ys) → ((key y == k) ≡ true) ⊎ ((key y == k) ≡ false) → TakenFirst k r t (y ∷ ys)
      by_test go (inl is) =
          let f : y ∷ with_key key k ys ≡ r ∷ t = subst (λ b. cond b (y ∷ with_key key k ys) (with_key key k ys) ≡ r ∷ t) is e in
          let same : y ≡ r = cc in
          record {
            rest = ys;
            inserts = subst (λ x. Inserts x ys (y ∷ ys)) same here;
            mine = cc f;
            others = λ j off. let no_such : (key y == j) ≡ false = ne_eqb (key y) j (λ eq. off (sym eq ∙ eqb-true (key y) k is)) in rw no_such refl;
          }
      by_test go (inr off) =
          let f : with_key key k ys ≡ r ∷ t = subst (λ b. cond b (y ∷ with_key key k ys) (with_key key k ys) ≡ r ∷ t) off e in
          let there = go f in
          record {
            rest = y ∷ there.rest;
            inserts = further there.inserts;
            mine = cond-false (key y == k) (y ∷ with_key key k there.rest) (with_key key k there.rest) off ∙ there.mine;
            others = λ j apart. ap (λ w. cond (key y == j) (y ∷ w) w) (there.others j apart);
          }

  -- lists with the same rows at each key are one bag
  pub Same-by_keys : (xs ys : List R) → ((j : ℕ) → with_key key j xs ≡ with_key key j ys) → Same xs ys
  Same-by_keys [] [] is = refl
  Same-by_keys [] (y ∷ ys) is =
      let itself : (key y == key y) ≡ true = eq-eqb (key y) (key y) refl in
      let e : [] ≡ y ∷ with_key key (key y) ys = subst (λ b. [] ≡ cond b (y ∷ with_key key (key y) ys) (with_key key (key y) ys)) itself (is (key y)) in
      absurd (cc)
  Same-by_keys (x ∷ xs) ys is =
      let itself : (key x == key x) ≡ true = eq-eqb (key x) (key x) refl in
      let e : x ∷ with_key key (key x) xs ≡ with_key key (key x) ys = subst (λ b. cond b (x ∷ with_key key (key x) xs) (with_key key (key x) xs) ≡ with_key key (key x) ys) itself (is (key x)) in
      let taken = take_first (key x) x (with_key key (key x) xs) ys (sym e) in
      (taken.rest, taken.inserts, Same-by_keys xs taken.rest (λ j. by_key' taken.rest j taken.mine taken.others (cases_eq j (key x))))
    where
      by_key' : (rest : List R) (j : ℕ) → with_key key (key x) rest ≡ with_key key (key x) xs → ((i : ℕ) → (i ≡ key x → ⊥) → with_key key i rest ≡ with_key key i ys) → (j ≡ key x) ⊎ (j ≡ key x → ⊥) → with_key key j xs ≡ with_key key j rest
      by_key' rest j mine others (inl same) = subst (λ i. with_key key i xs ≡ with_key key i rest) (sym same) (sym mine)
      by_key' rest j mine others (inr off) =
          let not_so : (key x == j) ≡ false = ne_eqb (key x) j (λ eq. off (sym eq)) in
          subst (λ b. cond b (x ∷ with_key key j xs) (with_key key j xs) ≡ with_key key j ys) not_so (is j) ∙ sym (others j off)

  pub one_bag : (h g : ℕ) (s t : State R) (m : ℕ → Option R) → Represents key h s m → Represents key g t m → Same (held s) (held t)
  one_bag h g s t m a b = Same-by_keys (held s) (held t) (λ j. a.rows j ∙ sym (b.rows j))

  pub Single-list_of : (all : List R) (m : ℕ → Option R) → ((k : ℕ) → with_key key k all ≡ list_of (m k)) → Single key all
  Single-list_of all m is k = omega (arith, ap length (is k), at_most (m k))
    where
      at_most : (o : Option R) → length (list_of o) ≤ 1
      at_most None = omega arith
      at_most (Some r) = omega arith

pub path_inside : (h leaf j : ℕ) → j ≤ h → j < length (path_up h leaf)
path_inside h leaf j within = omega (arith, within, length-upward (suc h) (2 ^ h - 1 + leaf))

pub list_of-first : {R : Type 0} (all : List R) → length all ≤ 1 → all ≡ list_of (first all)
list_of-first [] h = refl
list_of-first (r ∷ []) h = refl
list_of-first (r ∷ x ∷ all) h = absurd (omega (arith, h))

no_one : {R : Type 0} (key : R → ℕ) (n k : ℕ) (all : List R) → n ≤ k → All (λ (r : R). key r < n) all → with_key key k all ≡ []
no_one key n k [] past each = refl
no_one {R} key n k (r ∷ all) past each =
    let not_so : (key r == k) ≡ false = ne_eqb (key r) k (λ same. absurd (omega (arith, same, past, All-head (λ (x : R). key x < n) r all each))) in
    rw not_so (no_one key n k all past (All-tail (λ (x : R). key x < n) r all each))

pub stands_for : {R : Type 0} (key : R → ℕ) (h : ℕ) (s : State R) → Stands key h s → Represents key h s (map_of key s)
stands_for key h s st = record {
  size = st.size;
  leaves = st.leaves;
  range = λ k past. ap first (no_one key (length s.leaves) k (held s) past st.range);
  rows = λ k. list_of-first (with_key key k (held s)) (st.single k);
  placed = st.placed;
}

in_range : {R : Type 0} (key : R → ℕ) (n : ℕ) (all : List R) → ((k : ℕ) → n ≤ k → with_key key k all ≡ []) → All (λ (r : R). key r < n) all
in_range {R} key n [] none = All-nil (λ (r : R). key r < n)
in_range {R} key n (r ∷ all) none = All-cons (λ (x : R). key x < n) r all (below (cases_lt (key r) n)) (in_range key n all (λ k past. rest k past (cases_Bool (key r == k))))
  where
    below : (key r < n) ⊎ (n ≤ key r) → key r < n
    below (inl less) = less
    below (inr past) =
        let itself : (key r == key r) ≡ true = eq-eqb (key r) (key r) refl in
        let e : r ∷ with_key key (key r) all ≡ [] = subst (λ b. cond b (r ∷ with_key key (key r) all) (with_key key (key r) all) ≡ []) itself (none (key r) past) in
        absurd (cc)

    rest : (k : ℕ) → n ≤ k → ((key r == k) ≡ true) ⊎ ((key r == k) ≡ false) → with_key key k all ≡ []
    rest k past (inl is) = let e : r ∷ with_key key k all ≡ [] = subst (λ b. cond b (r ∷ with_key key k all) (with_key key k all) ≡ []) is (none k past) in absurd (cc)
    rest k past (inr off) = subst (λ b. cond b (r ∷ with_key key k all) (with_key key k all) ≡ []) off (none k past)

pub stands_too : {R : Type 0} (key : R → ℕ) (h : ℕ) (s : State R) (m : ℕ → Option R) → Represents key h s m → Stands key h s
stands_too key h s m rep = record {
  size = rep.size;
  leaves = rep.leaves;
  single = Single-list_of key (held s) m rep.rows;
  range = in_range key (length s.leaves) (held s) (λ k past. rep.rows k ∙ ap list_of (rep.range k past));
  placed = rep.placed;
}

module _ {R : Type 0} (fits : ℕ → R → Bool) (t : ℕ) where
  behind_four : (b : ℕ) (bs : List ℕ) (e : Evicted R) (n : ℕ) → drop (4 + n) (laid fits (b ∷ bs) t e.left) ≡ drop n (laid fits bs t (fill fits b e).left)
  behind_four b bs e n =
      sym (drop-drop n 4 (laid fits (b ∷ bs) t e.left))
      ∙ ap (drop n) (drop_at (slots_of 4 (firsts 4 (fits b) e.left)) (laid fits bs t (fill fits b e).left) 4 (four_slots fits b e.left))

  -- each four slots of a buffer are a bucket's
  laid_bucket : (bs : List ℕ) (e : Evicted R) (j : ℕ) → j < length bs → bucket (laid fits bs t e.left) j ≡ slots_of 4 (firsts 4 (fits (get_or bs j 0)) (evict fits (take j bs) e).left)
  laid_bucket [] e j within = absurd (omega (arith, within))
  laid_bucket (b ∷ bs) e zero within = take_at (slots_of 4 (firsts 4 (fits b) e.left)) (laid fits bs t (except_firsts 4 (fits b) e.left)) 4 (four_slots fits b e.left)
  laid_bucket (b ∷ bs) e (suc j) within =
      let more : 4 * suc j ≡ 4 + 4 * j = omega arith in
      ap (λ k. take 4 (drop k (laid fits (b ∷ bs) t e.left))) more ∙ ap (take 4) (behind_four b bs e (4 * j)) ∙ laid_bucket bs (fill fits b e) j (omega (arith, within))

  pub laid_in_tree : (bs : List ℕ) (e : Evicted R) → Apart (length e.tree) bs → (j : ℕ) → j < length bs → bucket (laid fits bs t e.left) j ≡ bucket (evict fits bs e).tree (get_or bs j 0)
  laid_in_tree bs e apart j within = laid_bucket bs e j within ∙ sym (filled_bucket fits bs e apart j within)

  pub laid_in_stash : (bs : List ℕ) (e : Evicted R) → drop (4 * length bs) (laid fits bs t e.left) ≡ slots_of t (evict fits bs e).left
  laid_in_stash [] e = refl
  laid_in_stash (b ∷ bs) e =
      let more : 4 * length (b ∷ bs) ≡ 4 + 4 * length bs = omega arith in
      ap (λ k. drop k (laid fits (b ∷ bs) t e.left)) more ∙ behind_four b bs e (4 * length bs) ∙ laid_in_stash bs (fill fits b e)

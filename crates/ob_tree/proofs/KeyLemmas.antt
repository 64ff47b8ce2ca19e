-- Rows of one key, and an operation applied at its key.
use Rattle.std.proofs.Common.{◌≡◌, ℕ, suc, Bool, true, false, not, cond, ◌==◌, ◌⊎◌, inl, inr, List, [], ◌∷◌, ◌++◌, Option, Some, None, get_or, refl, sym, ap, ◌∙◌, subst, append_assoc}
use Rattle.std.specs.Prelude.{nat_lt}
use Rattle.std.specs.List.{All}
use Rattle.std.proofs.lemmas.Bool.{eqb-true, ne_eqb, eq-eqb, cases_Bool, cases_eq}
use Rattle.std.proofs.lemmas.List.{append-nil}
use Rattle.std.proofs.lemmas.List.Elements.{filter-append, filter_passes, All-head}
use Rattle.ob_row.specs.Bags.{Same}
use Rattle.ob_path.specs.Rows.{rows, with_key, except, list_of, first}
use Rattle.ob_path.specs.Access.{Op, Get, Insert, Change, Remove, key_of, after, applied}
use Rattle.ob_tree.specs.Runs.{KeepsKey, map_after}
use Rattle.ob_row.proofs.BagLemmas.{Same-refl, Same-trans, Same-sym, Same-append, Same-filter}
use Rattle.ob_tree.proofs.Moves.{Same-is, Same-left, Same-right, Same-swapped, Same-cons, Same-middle, Same-one}

pub first-list_of : {R : Type 0} (o : Option R) → first (list_of o) ≡ o
first-list_of None = refl
first-list_of (Some r) = refl

module _ {R : Type 0} (key : R → ℕ) where
  split_parts : (r : R) (a b all : List R) (t : Bool) → Same (a ++ b) all → Same (cond t (r ∷ a) a ++ cond (not t) (r ∷ b) b) (r ∷ all)
  split_parts r a b all true s = Same-cons r (a ++ b) all s
  split_parts r a b all false s = Same-trans (a ++ r ∷ b) (r ∷ (a ++ b)) (r ∷ all) (Same-middle r a b) (Same-cons r (a ++ b) all s)

  pub Same-parts : (k : ℕ) (all : List R) → Same (with_key key k all ++ except key k all) all
  Same-parts k [] = refl
  Same-parts k (r ∷ all) = split_parts r (with_key key k all) (except key k all) all (key r == k) (Same-parts k all)

  pub at_except_same : (k : ℕ) (all : List R) → with_key key k (except key k all) ≡ []
  at_except_same k [] = refl
  at_except_same k (r ∷ all) = by_test (at_except_same k all) (cases_Bool (key r == k))
    where
      by_test : with_key key k (except key k all) ≡ [] → (((key r == k) ≡ true) ⊎ ((key r == k) ≡ false)) → with_key key k (except key k (r ∷ all)) ≡ []
      by_test rest (inl is) = rw is rest
      by_test rest (inr off) = rw off (rw off rest)

  pub at_except_other : (j k : ℕ) → (j ≡ k → ⊥) → (all : List R) → with_key key j (except key k all) ≡ with_key key j all
  at_except_other j k off [] = refl
  at_except_other j k off (r ∷ all) = by_test (at_except_other j k off all) (cases_Bool (key r == k))
    where
      by_test : with_key key j (except key k all) ≡ with_key key j all → (((key r == k) ≡ true) ⊎ ((key r == k) ≡ false)) → with_key key j (except key k (r ∷ all)) ≡ with_key key j (r ∷ all)
      by_test rest (inl is) =
          let other : (key r == j) ≡ false = ne_eqb (key r) j (λ same. off (sym same ∙ eqb-true (key r) k is)) in
          rw is (rw other rest)
      by_test rest (inr not_so) = rw not_so (ap (λ w. cond (key r == j) (r ∷ w) w) rest)

  pub at_keyed : (k : ℕ) (o : Option R) → ((r : R) → o ≡ Some r → key r ≡ k) → with_key key k (list_of o) ≡ list_of o
  at_keyed k None keyed = refl
  at_keyed k (Some r) keyed = let is : (key r == k) ≡ true = eq-eqb (key r) k (keyed r refl) in rw is

  pub at_other : (j k : ℕ) → (j ≡ k → ⊥) → (o : Option R) → ((r : R) → o ≡ Some r → key r ≡ k) → with_key key j (list_of o) ≡ []
  at_other j k off None keyed = refl
  at_other j k off (Some r) keyed = let not_so : (key r == j) ≡ false = ne_eqb (key r) j (λ same. off (sym same ∙ keyed r refl)) in rw not_so

  -- the one row of a key has this key
  pub keyed_row : (k : ℕ) (all : List R) (o : Option R) → with_key key k all ≡ list_of o → (r : R) → o ≡ Some r → key r ≡ k
  keyed_row k all o is r some =
      let one : with_key key k all ≡ r ∷ [] = is ∙ ap list_of some in
      let each : All (λ x. (key x == k) ≡ true) (r ∷ []) = subst (λ l. All (λ x. (key x == k) ≡ true) l) one (filter_passes (λ x. key x == k) all) in
      eqb-true (key r) k (All-head (λ x. (key x == k) ≡ true) r [] each)

  pub keyed_after : (op : Op R) → KeepsKey key op → (o : Option R) → ((r : R) → o ≡ Some r → key r ≡ key_of key op) → (r : R) → after op o ≡ Some r → key r ≡ key_of key op
  keyed_after (Get k) keeps o keyed r is = keyed r is
  keyed_after (Insert row) keeps None keyed r is = let same : row ≡ r = cc in ap key (sym same)
  keyed_after (Insert row) keeps (Some was) keyed r is = keyed r is
  keyed_after (Change k f) keeps None keyed r is = absurd (cc)
  keyed_after (Change k f) keeps (Some was) keyed r is = let same : f was ≡ r = cc in ap key (sym same) ∙ keeps was ∙ keyed was refl
  keyed_after (Remove k) keeps o keyed r is = absurd (cc)

  -- slots none of which has a row of this key
  pub none_at : (k : ℕ) (slots : List (Option R)) → ((p : ℕ) (r : R) → get_or slots p None ≡ Some r → (key r == k) ≡ false) → with_key key k (rows slots) ≡ []
  none_at k [] off = refl
  none_at k (None ∷ slots) off = none_at k slots (λ p r is. off (suc p) r is)
  none_at k (Some r ∷ slots) off = let not_so : (key r == k) ≡ false = off 0 r refl in rw not_so (none_at k slots (λ p r is. off (suc p) r is))

  module _ (n : ℕ) (op : Op R) where
    -- what an operation does to the rows of each key
    pub at_applied : KeepsKey key op → (m : ℕ → Option R) (all : List R) → ((j : ℕ) → with_key key j all ≡ list_of (m j)) → (j : ℕ) → with_key key j (applied key n op all) ≡ list_of (map_after key n op m j)
    at_applied keeps m all is j = by_tests (cases_Bool (nat_lt (key_of key op) n)) (cases_eq j (key_of key op))
      where
        by_tests : ((nat_lt (key_of key op) n ≡ true) ⊎ (nat_lt (key_of key op) n ≡ false)) → ((j ≡ key_of key op) ⊎ (j ≡ key_of key op → ⊥)) → with_key key j (applied key n op all) ≡ list_of (map_after key n op m j)
        by_tests (inr not_so) which = rw not_so (is j)
        by_tests (inl in_range) (inr off) =
            let e : (j == key_of key op) ≡ false = ne_eqb j (key_of key op) off in
            let v = after op (first (with_key key (key_of key op) all)) in
            let was : first (with_key key (key_of key op) all) ≡ m (key_of key op) = ap first (is (key_of key op)) ∙ first-list_of (m (key_of key op)) in
            let keyed : (r : R) → v ≡ Some r → key r ≡ key_of key op = λ r some. keyed_after op keeps (m (key_of key op)) (keyed_row (key_of key op) all (m (key_of key op)) (is (key_of key op))) r (ap (after op) (sym was) ∙ some) in
            rw in_range (rw e (
            filter-append (λ r. key r == j) (list_of v) (except key (key_of key op) all)
            ∙ ap (λ w. w ++ with_key key j (except key (key_of key op) all)) (at_other j (key_of key op) off v keyed)
            ∙ at_except_other j (key_of key op) off all ∙ is j))
        by_tests (inl in_range) (inl same) =
            let e : (j == key_of key op) ≡ true = eq-eqb j (key_of key op) same in
            let v = after op (first (with_key key (key_of key op) all)) in
            let was : first (with_key key (key_of key op) all) ≡ m (key_of key op) = ap first (is (key_of key op)) ∙ first-list_of (m (key_of key op)) in
            let keyed : (r : R) → v ≡ Some r → key r ≡ key_of key op = λ r some. keyed_after op keeps (m (key_of key op)) (keyed_row (key_of key op) all (m (key_of key op)) (is (key_of key op))) r (ap (after op) (sym was) ∙ some) in
            rw in_range (rw e (
            ap (λ i. with_key key i (list_of v ++ except key (key_of key op) all)) same
            ∙ filter-append (λ r. key r == key_of key op) (list_of v) (except key (key_of key op) all)
            ∙ ap (λ w. w ++ with_key key (key_of key op) (except key (key_of key op) all)) (at_keyed (key_of key op) v keyed)
            ∙ ap (λ w. list_of v ++ w) (at_except_same (key_of key op) all)
            ∙ append-nil (list_of v)
            ∙ ap (λ o. list_of (after op o)) (was ∙ ap m (sym same))))

    -- rows of other keys may stand aside
    pub applied_apart : (aside all : List R) → (nat_lt (key_of key op) n ≡ true → with_key key (key_of key op) aside ≡ []) → Same (aside ++ applied key n op all) (applied key n op (aside ++ all))
    applied_apart aside all off = by_test (cases_Bool (nat_lt (key_of key op) n))
      where
        by_test : ((nat_lt (key_of key op) n ≡ true) ⊎ (nat_lt (key_of key op) n ≡ false)) → Same (aside ++ applied key n op all) (applied key n op (aside ++ all))
        by_test (inr not_so) = rw not_so (Same-refl (aside ++ all))
        by_test (inl in_range) =
            let k = key_of key op in
            let none : with_key key k aside ≡ [] = off in_range in
            let now = list_of (after op (first (with_key key k all))) in
            let same_at : with_key key k (aside ++ all) ≡ with_key key k all = filter-append (λ r. key r == k) aside all ∙ ap (λ w. w ++ with_key key k all) none in
            let others : Same aside (except key k aside) = Same-sym (except key k aside) aside (subst (λ w. Same (w ++ except key k aside) aside) none (Same-parts k aside)) in
            let moved : Same (aside ++ (now ++ except key k all)) (now ++ (except key k aside ++ except key k all)) =
            Same-trans (aside ++ (now ++ except key k all)) ((aside ++ now) ++ except key k all) (now ++ (except key k aside ++ except key k all)) (Same-is _ _ (sym (append_assoc aside now (except key k all))))
            (Same-trans ((aside ++ now) ++ except key k all) ((now ++ except key k aside) ++ except key k all) (now ++ (except key k aside ++ except key k all))
            (Same-left (aside ++ now) (now ++ except key k aside) (except key k all) (Same-trans (aside ++ now) (now ++ aside) (now ++ except key k aside) (Same-swapped aside now) (Same-right now aside (except key k aside) others)))
            (Same-is _ _ (append_assoc now (except key k aside) (except key k all)))) in
            rw in_range (Same-trans (aside ++ (now ++ except key k all)) (now ++ (except key k aside ++ except key k all)) (list_of (after op (first (with_key key k (aside ++ all)))) ++ except key k (aside ++ all)) moved
            (Same-is _ _ (ap (λ w. now ++ w) (sym (filter-append (λ r. not (key r == k)) aside all)) ∙ ap (λ w. list_of (after op (first w)) ++ except key k (aside ++ all)) (sym same_at))))

    -- and rows of one bag go the same way
    pub applied_same : (xs ys : List R) (o : Option R) → with_key key (key_of key op) xs ≡ list_of o → Same xs ys → Same (applied key n op xs) (applied key n op ys)
    applied_same xs ys o is same = by_test (cases_Bool (nat_lt (key_of key op) n))
      where
        by_test : ((nat_lt (key_of key op) n ≡ true) ⊎ (nat_lt (key_of key op) n ≡ false)) → Same (applied key n op xs) (applied key n op ys)
        by_test (inr not_so) = rw not_so same
        by_test (inl in_range) =
            let k = key_of key op in
            let back : Same (with_key key k ys) (with_key key k xs) = Same-filter (λ r. key r == k) ys xs (Same-sym xs ys same) in
            let also : with_key key k ys ≡ list_of o = Same-one (with_key key k ys) o (subst (λ w. Same (with_key key k ys) w) is back) in
            rw in_range (Same-append (list_of (after op (first (with_key key k xs)))) (list_of (after op (first (with_key key k ys)))) (except key k xs) (except key k ys)
            (Same-is _ _ (ap (λ w. list_of (after op (first w))) (is ∙ sym also))) (Same-filter (λ r. not (key r == k)) xs ys same))

-- An access of an indexed table, and what its statement means.
use Rattle.std.proofs.Common.{◌≡◌, ◌≤◌, ◌<◌, ◌⊎◌, inl, inr, ℕ, ℤ, Bool, true, false, not, cond, ◌==◌, List, [], ◌∷◌, ◌++◌, map, length, Option, Some, None, refl, sym, ◌∙◌, ap, subst, arith}
use Rattle.std.specs.Prelude.{filter, pos, negsuc, nat_lt, if◌then◌else◌}
use Rattle.std.specs.List.{All}
use Rattle.std.specs.Ordering.{is_eq, int_cmp}
use Rattle.std.specs.Cmp.{ranked_equal}
use Rattle.std.specs.Bool.{Decides}
use Rattle.std.proofs.lemmas.Cmp.{int_ranked}
use Rattle.std.proofs.lemmas.Bool.{eqb-true, ne_eqb, eq-eqb, cases_lt, lt-ltb, le-ltb}
use Rattle.std.proofs.lemmas.List.Elements.{All-head, All-tail}
use Rattle.ob_row.specs.Bags.{Same}
use Rattle.ob_row.specs.declared.cell.Cell.{Cell}
use Rattle.ob_row.specs.declared.cell.Cell.TheVariants.{Int, Text}
use Rattle.ob_row.specs.Rows.{Row, cell_at, with_cells}
use Rattle.ob_row.specs.Truth.{is_true, updated}
use Rattle.ob_row.proofs.BagLemmas.{Same-refl, Same-trans}
use Rattle.ob_path.specs.Access.{Op, Change, Insert, Went, access, after, applied}
use Rattle.ob_path.specs.Rows.{with_key, except, list_of, first, Single}
use Rattle.ob_tree.specs.Runs.{KeepsKey}
use Rattle.ob_path.specs.States.{State, Stands, held, map_of}
use Rattle.ob_tree.proofs.AccessLemmas.{held_after_some}
use Rattle.ob_tree.proofs.KeyLemmas.{Same-parts}
use Rattle.ob_tree.proofs.RunLemmas.{access_answers}
use Rattle.ob_tree.proofs.PlaceLemmas.{stands_for, stands_too}
use Rattle.ob_tree.proofs.Moves.{Same-is, Same-cons, Same-middle, Same-swapped}
use Rattle.ob_row.specs.Keys.{cell_number, key_number, row_key, InRange}
use Rattle.ob_mean.specs.Keyed.{Ask, Find, Put, Set, Take, op_of}
use Rattle.ob_verdict.specs.Asking.{FitsIndex, IsNotPut, Settles, key_is, stepped}
use Rattle.ob_tree.proofs.KeyNumbers.{single_apart, none_agree, none_numbered}

false_is : (b : Bool) → (b ≡ true → ⊥) → b ≡ false
false_is true off = absurd (off refl)
false_is false off = refl

-- whether a number in range is this one
is_number : (n a : ℕ) (z : ℤ) → a < n → is_eq (int_cmp (pos a) z) ≡ (a == key_number n z)
is_number n a (negsuc b) low =
    let decides = ranked_equal (pos a) (negsuc b) (int_cmp (pos a) (negsuc b)) (int_ranked (pos a) (negsuc b) (int_cmp (pos a) (negsuc b)) refl) in
    false_is _ (λ yes. absurd (cc (decides.0 yes))) ∙ sym (ne_eqb a n (λ same. omega (arith, low, same)))
is_number n a (pos b) low = go (cases_lt b n)
  where
    decides : Decides (is_eq (int_cmp (pos a) (pos b))) (◌≡◌ {A = ℤ} (pos a) (pos b))
    decides = ranked_equal (pos a) (pos b) (int_cmp (pos a) (pos b)) (int_ranked (pos a) (pos b) (int_cmp (pos a) (pos b)) refl)

    by_equal : (t : Bool) → (a == b) ≡ t → is_eq (int_cmp (pos a) (pos b)) ≡ t
    by_equal true is = decides.1 (ap pos (eqb-true a b is))
    by_equal false off = false_is _ (λ yes. let same : a ≡ b = cc (decides.0 yes) in absurd (cc (off, eq-eqb a b same)))

    go : (b < n) ⊎ (n ≤ b) → is_eq (int_cmp (pos a) (pos b)) ≡ (a == (if nat_lt b n then b else n))
    go (inl inside) = let is : nat_lt b n ≡ true = lt-ltb b n inside in rw is (by_equal (a == b) refl)
    go (inr past) =
        let off : nat_lt b n ≡ false = le-ltb b n past in
        rw off (false_is _ (λ yes. let same : a ≡ b = cc (decides.0 yes) in omega (arith, same, past, low)) ∙ sym (ne_eqb a n (λ same. omega (arith, low, same))))

module _ (n i : ℕ) where
  abbrev key : Row → ℕ
  key row = row_key n i row

  -- a row in range makes the condition on its key true exactly where it has that number
  pub true_is : (z : ℤ) (row : Row) → key row < n → is_true (key_is i z) row ≡ (key row == key_number n z)
  true_is z row low = go (cell_at row i) refl low
    where
      go : (c : Option Cell) → cell_at row i ≡ c → cell_number n c < n → is_true (key_is i z) row ≡ (cell_number n (cell_at row i) == key_number n z)
      go None is low = absurd (omega (arith, low))
      go (Some (Text t)) is low = absurd (omega (arith, low))
      go (Some (Int (negsuc a))) is low = absurd (omega (arith, low))
      go (Some (Int (pos a))) is low = of_number (cases_lt a n)
        where
          of_number : (a < n) ⊎ (n ≤ a) → is_true (key_is i z) row ≡ (cell_number n (cell_at row i) == key_number n z)
          of_number (inl inside) = let yes : nat_lt a n ≡ true = lt-ltb a n inside in rw is (rw yes (is_number n a z inside))
          of_number (inr past) = let no : nat_lt a n ≡ false = le-ltb a n past in absurd (let low_is : n < n = subst (λ b. cond b a n < n) no low in omega (arith, low_is))

  -- the rows that DELETE leaves, and those that UPDATE leaves
  rest_is : (z : ℤ) (all : List Row) → InRange n i all → filter (λ row. not (is_true (key_is i z) row)) all ≡ except key (key_number n z) all
  rest_is z [] range = refl
  rest_is z (x ∷ xs) range =
      let rest = rest_is z xs (All-tail (λ (row : Row). row_key n i row < n) x xs range) in
      λ t. cond (not (true_is z x (All-head (λ (row : Row). row_key n i row < n) x xs range) t)) (x ∷ rest t) (rest t)

  changed_is : (z : ℤ) (sets : List (ℕ × Cell)) (all : List Row) → InRange n i all
      → Same (map (with_cells sets) (with_key key (key_number n z) all) ++ except key (key_number n z) all) (map (updated (key_is i z) sets) all)
  changed_is z sets [] range = refl
  changed_is z sets (x ∷ xs) range = go (key x == key_number n z) (true_is z x (All-head (λ (row : Row). row_key n i row < n) x xs range)) (changed_is z sets xs (All-tail (λ (row : Row). row_key n i row < n) x xs range))
    where
      f : Row → Row
      f = with_cells sets

      with_k : List Row
      with_k = with_key key (key_number n z) xs

      except_k : List Row
      except_k = except key (key_number n z) xs

      go : (b : Bool) → is_true (key_is i z) x ≡ b → Same (map f with_k ++ except_k) (map (updated (key_is i z) sets) xs)
          → Same (map f (cond b (x ∷ with_k) with_k) ++ cond (not b) (x ∷ except_k) except_k) (updated (key_is i z) sets x ∷ map (updated (key_is i z) sets) xs)
      go true is rest = rw is (Same-cons (f x) (map f with_k ++ except_k) (map (updated (key_is i z) sets) xs) rest)
      go false is rest = rw is (Same-trans (map f with_k ++ x ∷ except_k) (x ∷ (map f with_k ++ except_k)) (x ∷ map (updated (key_is i z) sets) xs)
          (Same-middle x (map f with_k) except_k) (Same-cons x (map f with_k ++ except_k) (map (updated (key_is i z) sets) xs) rest))

  -- no row of this key
  none_except : (k : ℕ) (all : List Row) → with_key key k all ≡ [] → except key k all ≡ all
  none_except k [] none = refl
  none_except k (x ∷ xs) none = go (key x == k) none (none_except k xs)
    where
      go : (b : Bool) → cond b (x ∷ with_key key k xs) (with_key key k xs) ≡ [] → (with_key key k xs ≡ [] → except key k xs ≡ xs) → cond (not b) (x ∷ except key k xs) (except key k xs) ≡ x ∷ xs
      go true none rest = absurd (cc none)
      go false none rest = ap (λ w. x ∷ w) (rest none)

  pub empty_is : {A : Type 0} (xs : List A) → length xs ≡ 0 → xs ≡ []
  empty_is [] none = refl
  empty_is (x ∷ xs) none = absurd (omega (arith, none))

  -- the rows of one key, where there are none or one
  one_or_none : {A : Type 0} (xs : List A) → length xs ≤ 1 → xs ≡ list_of (first xs)
  one_or_none [] few = refl
  one_or_none (x ∷ []) few = refl
  one_or_none (x ∷ y ∷ xs) few = absurd (omega (arith, few))

  -- what an operation leaves of a bag
  applied_steps : (ask : Ask) (all : List Row) → Single key all → InRange n i all → FitsIndex n i ask all → Same (applied key n (op_of n ask) all) (stepped i ask all)
  applied_steps (Find z) all single range fits = go (cases_lt (key_number n z) n)
    where
      k : ℕ
      k = key_number n z

      go : (k < n) ⊎ (n ≤ k) → Same (cond (nat_lt k n) (list_of (first (with_key key k all)) ++ except key k all) all) all
      go (inl inside) = let yes = lt-ltb k n inside in rw yes (subst (λ w. Same (w ++ except key k all) all) (one_or_none (with_key key k all) (single k)) (Same-parts key k all))
      go (inr past) = let no = le-ltb k n past in rw no (Same-refl all)
  applied_steps (Put row) all single range fits =
      let yes : nat_lt (key row) n ≡ true = lt-ltb (key row) n fits.0 in
      let none : with_key key (key row) all ≡ [] = empty_is (with_key key (key row) all) (none_numbered n i row all fits.0 fits.1) in
      rw yes (rw none (subst (λ w. Same (row ∷ w) (all ++ row ∷ [])) (sym (none_except (key row) all none)) (Same-swapped (row ∷ []) all)))
  applied_steps (Set z sets) all single range fits = go (cases_lt (key_number n z) n)
    where
      k : ℕ
      k = key_number n z

      one : (xs : List Row) → length xs ≤ 1 → list_of (after (Change k (with_cells sets)) (first xs)) ≡ map (with_cells sets) xs
      one [] few = refl
      one (x ∷ []) few = refl
      one (x ∷ y ∷ xs) few = absurd (omega (arith, few))

      past_none : (xs : List Row) → InRange n i xs → n ≤ k → with_key key k xs ≡ []
      past_none [] range past = refl
      past_none (x ∷ xs) range past =
          let low = All-head (λ (row : Row). row_key n i row < n) x xs range in
          let off : (key x == k) ≡ false = ne_eqb (key x) k (λ same. omega (arith, low, past, same)) in
          rw off (past_none xs (All-tail (λ (row : Row). row_key n i row < n) x xs range) past)

      go : (k < n) ⊎ (n ≤ k) → Same (cond (nat_lt k n) (list_of (after (Change k (with_cells sets)) (first (with_key key k all))) ++ except key k all) all) (map (updated (key_is i z) sets) all)
      go (inl inside) = let yes = lt-ltb k n inside in rw yes (subst (λ w. Same (w ++ except key k all) (map (updated (key_is i z) sets) all)) (sym (one (with_key key k all) (single k))) (changed_is z sets all range))
      go (inr past) =
          let no = le-ltb k n past in
          let none = past_none all range past in
          rw no (subst (λ w. Same w (map (updated (key_is i z) sets) all)) (none_except k all none)
          (subst (λ w. Same (map (with_cells sets) w ++ except key k all) (map (updated (key_is i z) sets) all)) none (changed_is z sets all range)))
  applied_steps (Take z) all single range fits = go (cases_lt (key_number n z) n)
    where
      k : ℕ
      k = key_number n z

      past_none : (xs : List Row) → InRange n i xs → n ≤ k → with_key key k xs ≡ []
      past_none [] range past = refl
      past_none (x ∷ xs) range past =
          let low = All-head (λ (row : Row). row_key n i row < n) x xs range in
          let off : (key x == k) ≡ false = ne_eqb (key x) k (λ same. omega (arith, low, past, same)) in
          rw off (past_none xs (All-tail (λ (row : Row). row_key n i row < n) x xs range) past)

      go : (k < n) ⊎ (n ≤ k) → Same (cond (nat_lt k n) (except key k all) all) (filter (λ row. not (is_true (key_is i z) row)) all)
      go (inl inside) = let yes = lt-ltb k n inside in rw yes (Same-is _ _ (sym (rest_is z all range)))
      go (inr past) = let no = le-ltb k n past in rw no (Same-is _ _ (sym (rest_is z all range ∙ none_except k all (past_none all range past))))

  keeps : (ask : Ask) (all : List Row) → FitsIndex n i ask all → KeepsKey key (op_of n ask)
  keeps (Set z sets) all fits = λ row. ap (cell_number n) (fits row)
  keeps other all fits = tt

  -- a row that is not put in leaves those that there are
  refused_keeps : (row : Row) (all : List Row) → Single key all → IsNotPut n i row all → Same (applied key n (op_of n (Put row)) all) all
  refused_keeps row all single (inr past) = let no = le-ltb (key row) n past in rw no (Same-refl all)
  refused_keeps row all single (inl there) = go (cases_lt (key row) n)
    where
      -- the one that is there stays
      stays : (xs : List Row) → length xs ≤ 1 → (length xs ≡ 0 → ⊥) → list_of (after (Insert row) (first xs)) ≡ xs
      stays [] few some = absurd (some refl)
      stays (x ∷ []) few some = refl
      stays (x ∷ y ∷ xs) few some = absurd (omega (arith, few))

      some : length (with_key key (key row) all) ≡ 0 → ⊥
      some none = let off = none_agree n i row all none in cc (there, off)

      go : (key row < n) ⊎ (n ≤ key row) → Same (cond (nat_lt (key row) n) (list_of (after (Insert row) (first (with_key key (key row) all))) ++ except key (key row) all) all) all
      go (inl inside) =
          let yes = lt-ltb (key row) n inside in
          rw yes (subst (λ w. Same (w ++ except key (key row) all) all) (sym (stays (with_key key (key row) all) (single (key row)) some)) (Same-parts key (key row) all))
      go (inr past) = let no = le-ltb (key row) n past in rw no (Same-refl all)

  -- an access that leaves these rows
  leaves : (h draw : ℕ) (s : State Row) (op : Op Row) (w : Went Row) (xs : List Row) → length s.leaves ≡ n → Stands key h s → KeepsKey key op
      → Same (applied key n op (held s)) xs → access key h s op draw ≡ Some w → Settles n i h w xs
  leaves h draw s op w xs size stands keeping same is =
      let rep = stands_for key h s stands in
      let went = access_answers key h s (map_of key s) op draw w rep keeping is in
      let after = stands_too key h w.state _ went.1 in
      let bag = held_after_some key h s (map_of key s) op draw rep w is in
      record {
        bag = Same-trans (held w.state) (applied key (length s.leaves) op (held s)) xs bag
            (subst (λ (m : ℕ). Same (applied key m op (held s)) xs) (sym size) same);
        keys = single_apart n i (held w.state) after.single;
        stands = after;
      }

  pub settles : (h draw : ℕ) (s : State Row) (ask : Ask) (w : Went Row) → length s.leaves ≡ n → Stands key h s → FitsIndex n i ask (held s)
      → access key h s (op_of n ask) draw ≡ Some w → Settles n i h w (stepped i ask (held s))
  settles h draw s ask w size stands fits is =
      let range : InRange n i (held s) = subst (λ (m : ℕ). All (λ (row : Row). row_key n i row < m) (held s)) size stands.range in
      leaves h draw s (op_of n ask) w (stepped i ask (held s)) size stands (keeps ask (held s) fits) (applied_steps ask (held s) stands.single range fits) is

  pub settles_refused : (h draw : ℕ) (s : State Row) (row : Row) (w : Went Row) → length s.leaves ≡ n → Stands key h s → IsNotPut n i row (held s)
      → access key h s (op_of n (Put row)) draw ≡ Some w → Settles n i h w (held s)
  settles_refused h draw s row w size stands off is = leaves h draw s (op_of n (Put row)) w (held s) size stands tt (refused_keeps row (held s) stands.single off) is

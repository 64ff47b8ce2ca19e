-- What an access answers.
use Rattle.std.proofs.Common.{◌≡◌, ◌≤◌, ◌<◌, ◌⊎◌, inl, inr, ℕ, ℤ, Bool, true, false, cond, ◌==◌, List, [], ◌∷◌, length, refl, sym, ◌∙◌, ap, subst, arith}
use Rattle.std.specs.Prelude.{Some, filter, count_by, nat_lt}
use Rattle.std.specs.List.{All}
use Rattle.std.proofs.lemmas.Bool.{ne_eqb, cases_lt, lt-ltb, le-ltb}
use Rattle.std.proofs.lemmas.List.Elements.{All-head, All-tail}
use Rattle.std.proofs.lemmas.List.Sums.{length-filter}
use Rattle.ob_row.specs.Rows.{Row, has_key, with_cells}
use Rattle.ob_row.specs.Truth.{is_true}
use Rattle.ob_path.specs.Access.{key_of, Get, Insert, Change, Remove, Got, OutOfRange, Went, access, answer, got}
use Rattle.ob_path.specs.Rows.{with_key, first, Single}
use Rattle.ob_path.specs.States.{State, Stands, held, map_of}
use Rattle.ob_tree.proofs.AccessLemmas.{went_is, got_is}
use Rattle.ob_tree.proofs.PlaceLemmas.{stands_for}
use Rattle.ob_row.specs.Keys.{key_number, row_key, InRange}
use Rattle.ob_mean.specs.Keyed.{Ask, Find, Put, Set, Take, op_of}
use Rattle.ob_verdict.specs.Asking.{key_is}
use Rattle.ob_verdict.specs.Answering.{Answered, PutAnswer, changed, found}
use Rattle.ob_verdict.proofs.AskProof.{true_is}
use Rattle.ob_tree.proofs.KeyNumbers.{none_agree, none_numbered}

module _ (n i : ℕ) where
  abbrev key : Row → ℕ
  key row = row_key n i row

  selected_is : (z : ℤ) (all : List Row) → InRange n i all → filter (is_true (key_is i z)) all ≡ with_key key (key_number n z) all
  selected_is z [] range = refl
  selected_is z (x ∷ xs) range =
      let rest = selected_is z xs (All-tail (λ (row : Row). row_key n i row < n) x xs range) in
      λ t. cond (true_is n i z x (All-head (λ (row : Row). row_key n i row < n) x xs range) t) (x ∷ rest t) (rest t)

  past_none : (k : ℕ) (xs : List Row) → InRange n i xs → n ≤ k → with_key key k xs ≡ []
  past_none k [] range past = refl
  past_none k (x ∷ xs) range past =
      let low = All-head (λ (row : Row). row_key n i row < n) x xs range in
      let off : (key x == k) ≡ false = ne_eqb (key x) k (λ same. omega (arith, low, past, same)) in
      rw off (past_none k xs (All-tail (λ (row : Row). row_key n i row < n) x xs range) past)

  -- the one row of a key, or none
  one_found : (k : ℕ) (xs : List Row) → length xs ≤ 1 → xs ≡ found (got (Get k) (first xs))
  one_found k [] few = refl
  one_found k (x ∷ []) few = refl
  one_found k (x ∷ y ∷ xs) few = absurd (omega (arith, few))

  one_set : (k : ℕ) (f : Row → Row) (xs : List Row) → length xs ≤ 1 → length xs ≡ changed (got (Change k f) (first xs))
  one_set k f [] few = refl
  one_set k f (x ∷ []) few = refl
  one_set k f (x ∷ y ∷ xs) few = absurd (omega (arith, few))

  one_taken : (k : ℕ) (xs : List Row) → length xs ≤ 1 → length xs ≡ changed (got {R = Row} (Remove k) (first xs))
  one_taken k [] few = refl
  one_taken k (x ∷ []) few = refl
  one_taken k (x ∷ y ∷ xs) few = absurd (omega (arith, few))

  module _ (all : List Row) (single : Single key all) (range : InRange n i all) where
    count_is : (z : ℤ) → count_by (is_true (key_is i z)) all ≡ length (with_key key (key_number n z) all)
    count_is z = sym (length-filter (is_true (key_is i z)) all) ∙ ap (λ (xs : List Row). length xs) (selected_is z all range)

    found_is : (z : ℤ) → filter (is_true (key_is i z)) all ≡ found (answer n (key_number n z) (Get (key_number n z)) (first (with_key key (key_number n z) all)))
    found_is z = selected_is z all range ∙ go (cases_lt (key_number n z) n)
      where
        k : ℕ
        k = key_number n z

        go : (k < n) ⊎ (n ≤ k) → with_key key k all ≡ found (cond (nat_lt k n) (got (Get k) (first (with_key key k all))) OutOfRange)
        go (inl inside) = let yes = lt-ltb k n inside in rw yes (one_found k (with_key key k all) (single k))
        go (inr past) = let no = le-ltb k n past in rw no (past_none k all range past)

    set_is : (z : ℤ) (f : Row → Row) → count_by (is_true (key_is i z)) all ≡ changed (answer n (key_number n z) (Change (key_number n z) f) (first (with_key key (key_number n z) all)))
    set_is z f = count_is z ∙ go (cases_lt (key_number n z) n)
      where
        k : ℕ
        k = key_number n z

        go : (k < n) ⊎ (n ≤ k) → length (with_key key k all) ≡ changed (cond (nat_lt k n) (got (Change k f) (first (with_key key k all))) OutOfRange)
        go (inl inside) = let yes = lt-ltb k n inside in rw yes (one_set k f (with_key key k all) (single k))
        go (inr past) = let no = le-ltb k n past in rw no (ap (λ (xs : List Row). length xs) (past_none k all range past))

    taken_is : (z : ℤ) → count_by (is_true (key_is i z)) all ≡ changed (answer n (key_number n z) (Remove (key_number n z)) (first (with_key key (key_number n z) all)))
    taken_is z = count_is z ∙ go (cases_lt (key_number n z) n)
      where
        k : ℕ
        k = key_number n z

        go : (k < n) ⊎ (n ≤ k) → length (with_key key k all) ≡ changed (cond (nat_lt k n) (got (Remove k) (first (with_key key k all))) OutOfRange)
        go (inl inside) = let yes = lt-ltb k n inside in rw yes (one_taken k (with_key key k all) (single k))
        go (inr past) = let no = le-ltb k n past in rw no (ap (λ (xs : List Row). length xs) (past_none k all range past))

    put_is : (row : Row) → PutAnswer n i row all (answer n (key row) (Insert row) (first (with_key key (key row) all)))
    put_is row = by_range (cases_lt (key row) n)
      where
        k : ℕ
        k = key row

        no_key : length (with_key key (key row) all) ≡ 0 → has_key (Some i) row all ≡ false
        no_key none = none_agree n i row all none

        by_rows : (xs : List Row) → with_key key (key row) all ≡ xs → key row < n → PutAnswer n i row all (got (Insert row) (first xs))
        by_rows [] is inside =
            let off = no_key (ap (λ (ys : List Row). length ys) is) in
            record { duplicate = (λ e. absurd (cc e), λ yes. absurd (cc (yes, off))); range = (λ e. absurd (cc e), λ past. absurd (omega (arith, past, inside))); done = (λ e. (off, inside), λ both. refl) }
        by_rows (x ∷ xs) is inside =
            let yes : has_key (Some i) row all ≡ true = has (has_key (Some i) row all) refl in
            record { duplicate = (λ e. yes, λ e. refl); range = (λ e. absurd (cc e), λ past. absurd (omega (arith, past, inside))); done = (λ e. absurd (cc e), λ both. absurd (cc (yes, both.0))) }
          where
            has : (b : Bool) → has_key (Some i) row all ≡ b → has_key (Some i) row all ≡ true
            has true e = e
            has false e = let none = none_numbered n i row all inside e in absurd (omega (arith, none, ap (λ (ys : List Row). length ys) is))

        by_range : (key row < n) ⊎ (n ≤ key row) → PutAnswer n i row all (cond (nat_lt (key row) n) (got (Insert row) (first (with_key key (key row) all))) OutOfRange)
        by_range (inl inside) = let yes = lt-ltb (key row) n inside in rw yes (by_rows (with_key key (key row) all) refl inside)
        by_range (inr past) =
            let no = le-ltb (key row) n past in
            let off = no_key (ap (λ (ys : List Row). length ys) (past_none (key row) all range past)) in
            rw no (record { duplicate = (λ e. absurd (cc e), λ yes. absurd (cc (yes, off))); range = (λ e. past, λ e. refl); done = (λ e. absurd (cc e), λ both. absurd (omega (arith, past, both.1))) })

    by_ask : (ask : Ask) → Answered n i ask all (answer n (key_of key (op_of n ask)) (op_of n ask) (first (with_key key (key_of key (op_of n ask)) all)))
    by_ask (Find z) = found_is z
    by_ask (Put row) = put_is row
    by_ask (Set z sets) = set_is z (with_cells sets)
    by_ask (Take z) = taken_is z

  pub answers : (h draw : ℕ) (s : State Row) (ask : Ask) (w : Went Row) → length s.leaves ≡ n → Stands key h s → access key h s (op_of n ask) draw ≡ Some w → Answered n i ask (held s) w.got
  answers h draw s ask w size stands is =
      let rep = stands_for key h s stands in
      let range : InRange n i (held s) = subst (λ (m : ℕ). All (λ (row : Row). row_key n i row < m) (held s)) size stands.range in
      let got_as = ap (λ (v : Went Row). v.got) (sym (went_is key h s (op_of n ask) draw w is)) ∙ got_is key h s (map_of key s) (op_of n ask) draw rep in
      subst (λ (g : Got Row). Answered n i ask (held s) g) (sym got_as)
      (subst (λ (m : ℕ). Answered n i ask (held s) (answer m (key_of key (op_of n ask)) (op_of n ask) (first (with_key key (key_of key (op_of n ask)) (held s))))) (sym size) (by_ask (held s) stands.single range ask))

-- One slot gets its row.
use Rattle.std.proofs.Common.{◌≡◌, ◌≤◌, ◌<◌, ℕ, zero, suc, ◌+◌, true, false, List, [], ◌∷◌, Option, Some, None, length, take, drop, get_or, set, refl, sym, ap, ◌∙◌, subst, arith}
use Rattle.std.specs.Prelude.{IsSome}
use Rattle.std.specs.List.{All}
use Rattle.std.proofs.lemmas.List.{get_or-drop, drop_more, length-set, length-drop, take-set, take-set-le}
use Rattle.std.proofs.lemmas.Bool.{false≢true}
use Rattle.std.proofs.lemmas.List.Elements.{All-nil, All-cons, All-tail}
use Rattle.ob_row.specs.Bags.{Same}
use Rattle.ob_path.specs.Rows.{rows, first, Single}
use Rattle.ob_row.proofs.BagLemmas.{Same-refl, Same-trans, Same-sym}
use Rattle.ob_tree.proofs.Moves.{Same-cons, Same-middle, Same-is}
use Rattle.ob_tree.proofs.OrderLemmas.{All-Same, Single-Same, Single-tail, by_key-Same, least_first, none_first}
use Rattle.ob_tree.specs.Places.{lies_at, NoneLies, IsLeast, StepDone, StepFull}

some_inside : {R : Type 0} (slots : List (Option R)) (k : ℕ) (row : R) → get_or slots k None ≡ Some row → k < length slots
some_inside [] k row is = absurd (cc)
some_inside (s ∷ slots) zero row is = omega arith
some_inside (s ∷ slots) (suc k) row is = omega (arith, some_inside slots k row is)

all_rows : {R : Type 0} (P : R → Type 0) (slots : List (Option R)) → ((k : ℕ) (row : R) → get_or slots k None ≡ Some row → P row) → All P (rows slots)
all_rows P [] each = All-nil P
all_rows P (None ∷ slots) each = all_rows P slots (λ k row is. each (suc k) row is)
all_rows P (Some r ∷ slots) each = All-cons P r (rows slots) (each 0 r refl) (all_rows P slots (λ k row is. each (suc k) row is))

two_rows : {R : Type 0} (a b : Option R) (slots : List (Option R)) → Same (rows (a ∷ b ∷ slots)) (rows (b ∷ a ∷ slots))
two_rows None None slots = Same-refl (rows slots)
two_rows None (Some b) slots = Same-refl (b ∷ rows slots)
two_rows (Some a) None slots = Same-refl (a ∷ rows slots)
two_rows (Some a) (Some b) slots = Same-middle b (a ∷ []) (rows slots)

rows_under : {R : Type 0} (a : Option R) (xs ys : List (Option R)) → Same (rows xs) (rows ys) → Same (rows (a ∷ xs)) (rows (a ∷ ys))
rows_under None xs ys s = s
rows_under (Some a) xs ys s = Same-cons a (rows xs) (rows ys) s

exchange_set : {R : Type 0} (a : Option R) (slots : List (Option R)) (m : ℕ) → m < length slots → Same (rows (a ∷ slots)) (rows (get_or slots m None ∷ set slots m a))
exchange_set a [] m within = absurd (omega (arith, within))
exchange_set a (b ∷ slots) zero within = two_rows a b slots
exchange_set a (b ∷ slots) (suc m) within =
    Same-trans (rows (a ∷ b ∷ slots)) (rows (b ∷ a ∷ slots)) (rows (get_or slots m None ∷ b ∷ set slots m a)) (two_rows a b slots)
    (Same-trans (rows (b ∷ a ∷ slots)) (rows (b ∷ get_or slots m None ∷ set slots m a)) (rows (get_or slots m None ∷ b ∷ set slots m a))
    (rows_under b (a ∷ slots) (get_or slots m None ∷ set slots m a) (exchange_set a slots m (omega (arith, within))))
    (two_rows b (get_or slots m None) (set slots m a)))

-- two slots exchanged
abbrev pub exchanged : {R : Type 0} → List (Option R) → ℕ → ℕ → List (Option R)
exchanged slots i q = set (set slots i (get_or slots q None)) q (get_or slots i None)

pub exchanged_rows : {R : Type 0} (slots : List (Option R)) (i q : ℕ) → i ≤ q → q < length slots → Same (rows (drop i slots)) (rows (drop i (exchanged slots i q)))
exchanged_rows [] i q low high = absurd (omega (arith, high))
exchanged_rows (a ∷ slots) zero zero low high = Same-refl (rows (a ∷ slots))
exchanged_rows (a ∷ slots) zero (suc q) low high = exchange_set a slots q (omega (arith, high))
exchanged_rows (a ∷ slots) (suc i) zero low high = absurd (omega (arith, low))
exchanged_rows (a ∷ slots) (suc i) (suc q) low high = exchanged_rows slots i q (omega (arith, low)) (omega (arith, high))

pub exchanged_slot : {R : Type 0} (slots : List (Option R)) (i q : ℕ) → i ≤ q → q < length slots → get_or (exchanged slots i q) i None ≡ get_or slots q None
exchanged_slot [] i q low high = absurd (omega (arith, high))
exchanged_slot (a ∷ slots) zero zero low high = refl
exchanged_slot (a ∷ slots) zero (suc q) low high = refl
exchanged_slot (a ∷ slots) (suc i) zero low high = absurd (omega (arith, low))
exchanged_slot (a ∷ slots) (suc i) (suc q) low high = exchanged_slot slots i q (omega (arith, low)) (omega (arith, high))

pub exchanged_front : {R : Type 0} (slots : List (Option R)) (i q : ℕ) → i ≤ q → take i (exchanged slots i q) ≡ take i slots
exchanged_front slots i q low = take-set-le i (set slots i (get_or slots q None)) q (get_or slots i None) low ∙ take-set slots i (get_or slots q None)

module _ {R : Type 0} (key lf : R → ℕ) (leaf height i q : ℕ) (old : List (Option R)) (low : i ≤ q) (high : q < length old) (single : Single key (rows (drop i old))) where
  length_is : length (exchanged old i q) ≡ length old
  length_is = length-set (set old i (get_or old q None)) q (get_or old i None) ∙ length-set old i (get_or old q None)

  parts : drop i (exchanged old i q) ≡ get_or old q None ∷ drop (i + 1) (exchanged old i q)
  parts = drop_more (exchanged old i q) i None (omega (arith, low, high, length_is)) ∙ ap (λ w. w ∷ drop (i + 1) (exchanged old i q)) (exchanged_slot old i q low high)

  split : (o : Option R) → get_or old q None ≡ o → Same (rows (drop i old)) (rows (o ∷ drop (i + 1) (exchanged old i q)))
  split o is = Same-trans (rows (drop i old)) (rows (drop i (exchanged old i q))) (rows (o ∷ drop (i + 1) (exchanged old i q))) (exchanged_rows old i q low high)
      (Same-is _ _ (ap rows parts ∙ ap (λ w. rows (w ∷ drop (i + 1) (exchanged old i q))) is))

  pub picked : (b : ℕ) → IsLeast key lf leaf height old i (length old) q b → StepDone key lf leaf height i old (exchanged old i q)
  picked b least =
      let s : Same (rows (drop i old)) (least.row ∷ rows (drop (i + 1) (exchanged old i q))) = split (Some least.row) least.here in
      let P : R → Type 0 = λ other. lies_at lf leaf height other ≡ true → key least.row ≤ key other in
      let all : All P (rows (drop i old)) = all_rows P (drop i old) (λ k other is. let at : get_or old (i + k) None ≡ Some other = sym (get_or-drop i old k None) ∙ is in least.least (i + k) other (omega arith) (some_inside old (i + k) other at) at) in
      let rest : All P (rows (drop (i + 1) (exchanged old i q))) = All-tail P least.row (rows (drop (i + 1) (exchanged old i q))) (All-Same P (least.row ∷ rows (drop (i + 1) (exchanged old i q))) (rows (drop i old)) (Same-sym (rows (drop i old)) (least.row ∷ rows (drop (i + 1) (exchanged old i q))) s) all) in
      let both = least_first key (lies_at lf leaf height) least.row (rows (drop (i + 1) (exchanged old i q))) (rows (drop i old)) single s least.lies rest in
      record {
        size = length_is;
        front = exchanged_front old i q low;
        slot = exchanged_slot old i q low high ∙ least.here ∙ ap first (sym both.0);
        left = sym both.1;
        single = Single-tail key least.row (rows (drop (i + 1) (exchanged old i q))) (Single-Same key (rows (drop i old)) (least.row ∷ rows (drop (i + 1) (exchanged old i q))) s single);
      }

  none_of : NoneLies lf leaf height old i (length old) → All (λ row. lies_at lf leaf height row ≡ false) (rows (drop i old))
  none_of none = all_rows (λ row. lies_at lf leaf height row ≡ false) (drop i old) (λ k other is. let at : get_or old (i + k) None ≡ Some other = sym (get_or-drop i old k None) ∙ is in none.none (i + k) other (omega arith) (some_inside old (i + k) other at) at)

  pub emptied : NoneLies lf leaf height old i (length old) → get_or old q None ≡ None → StepDone key lf leaf height i old (exchanged old i q)
  emptied none empty =
      let s : Same (rows (drop i old)) (rows (drop (i + 1) (exchanged old i q))) = split None empty in
      let both = none_first (lies_at lf leaf height) key 1 (rows (drop i old)) (none_of none) in
      record {
        size = length_is;
        front = exchanged_front old i q low;
        slot = exchanged_slot old i q low high ∙ empty ∙ ap first (sym both.0);
        left = by_key-Same key (rows (drop (i + 1) (exchanged old i q))) (rows (drop i old)) (Single-Same key (rows (drop i old)) (rows (drop (i + 1) (exchanged old i q))) s single) (Same-sym (rows (drop i old)) (rows (drop (i + 1) (exchanged old i q))) s) ∙ sym both.1;
        single = Single-Same key (rows (drop i old)) (rows (drop (i + 1) (exchanged old i q))) s single;
      }

all_some : {R : Type 0} (slots : List (Option R)) → ((k : ℕ) → k < length slots → IsSome (get_or slots k None)) → length (rows slots) ≡ length slots
all_some [] each = refl
all_some (None ∷ slots) each = absurd (false≢true (each 0 (omega arith)))
all_some (Some r ∷ slots) each = ap suc (all_some slots (λ k within. each (suc k) (omega (arith, within))))

pub stuck : {R : Type 0} (key lf : R → ℕ) (leaf height i : ℕ) (old : List (Option R)) → NoneLies lf leaf height old i (length old) → ((k : ℕ) → i ≤ k → k < length old → IsSome (get_or old k None)) → StepFull key lf leaf height i old
stuck key lf leaf height i old none each = record {
  left = (none_first (lies_at lf leaf height) key 1 (rows (drop i old)) (all_rows (λ row. lies_at lf leaf height row ≡ false) (drop i old) (λ k other is. let at : get_or old (i + k) None ≡ Some other = sym (get_or-drop i old k None) ∙ is in none.none (i + k) other (omega arith) (some_inside old (i + k) other at) at))).1;
  count = all_some (drop i old) (λ k within. subst IsSome (sym (get_or-drop i old k None)) (each (i + k) (omega arith) (omega (arith, within, length-drop i old)))) ∙ length-drop i old;
}

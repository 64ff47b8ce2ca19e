-- The loop over the slots of a buffer.
use Rattle.std.proofs.Common.{◌≡◌, ◌≤◌, ◌<◌, ℕ, zero, suc, ◌-◌, ◌+◌, ◌/◌, min, Bool, List, [], ◌∷◌, ◌++◌, Option, None, length, take, drop, get_or, sym, ap, ◌∙◌, arith, length-append, append_assoc}
use Rattle.std.proofs.lemmas.List.{drop_more, take_more, drop_all, append-nil}
use Rattle.ob_path.specs.Rows.{rows, by_key, firsts, except_firsts, Single}
use Rattle.ob_tree.specs.Slotwise.{laid_slots, left_behind}
use Rattle.ob_tree.proofs.RowLemmas.{Same-by_key, Same-firsts, length-firsts}
use Rattle.ob_tree.proofs.OrderLemmas.{length-Same}
use Rattle.ob_tree.specs.Places.{lies_at, tests, StepDone, StepFull}

-- so far the slots are those of the model, and what is left goes on as in the model
pub record Going {R : Type 0} (key lf : R → ℕ) (leaf h n i : ℕ) (start slots : List (Option R)) : Type 0 where
  pub room : length slots ≡ n + 1
  pub single : Single key (rows (drop i slots))
  pub laid : laid_slots (tests lf leaf h 0 n) (by_key key (rows start)) ≡ take i slots ++ laid_slots (tests lf leaf h i (n - i)) (by_key key (rows (drop i slots)))
  pub left : left_behind (tests lf leaf h 0 n) (by_key key (rows start)) ≡ left_behind (tests lf leaf h i (n - i)) (by_key key (rows (drop i slots)))

pub going_first : {R : Type 0} (key lf : R → ℕ) (leaf h n : ℕ) (start : List (Option R)) → length start ≡ n + 1 → Single key (rows start) → Going key lf leaf h n 0 start start
going_first key lf leaf h n start room single =
    let all : n - 0 ≡ n = omega arith in
    record {
      room = room;
      single = single;
      laid = ap (λ k. laid_slots (tests lf leaf h 0 k) (by_key key (rows start))) (sym all);
      left = ap (λ k. left_behind (tests lf leaf h 0 k) (by_key key (rows start))) (sym all);
    }

pub going_more : {R : Type 0} (key lf : R → ℕ) (leaf h n i height : ℕ) (start old new : List (Option R)) → i < n → height ≡ min (i / 4) h → Going key lf leaf h n i start old → StepDone key lf leaf height i old new → Going key lf leaf h n (i + 1) start new
going_more key lf leaf h n i height start old new within level go done =
    let more : n - i ≡ suc (n - (i + 1)) = omega (arith, within) in
    let next : suc i ≡ i + 1 = omega arith in
    let l = by_key key (rows (drop i old)) in
    let rest = tests lf leaf h (i + 1) (n - (i + 1)) in
    let now : tests lf leaf h i (n - i) ≡ lies_at lf leaf height ∷ rest =
    ap (tests lf leaf h i) more ∙ ap (λ a. lies_at lf leaf a ∷ tests lf leaf h (suc i) (n - (i + 1))) (sym level) ∙ ap (λ a. lies_at lf leaf height ∷ tests lf leaf h a (n - (i + 1))) next in
    let here : i < length new = omega (arith, within, done.size, go.room) in
    let front : take (i + 1) new ≡ take i old ++ get_or new i None ∷ [] = take_more new i None here ∙ ap (λ w. w ++ get_or new i None ∷ []) done.front in
    record {
      room = done.size ∙ go.room;
      single = done.single;
      laid = go.laid ∙ ap (λ ps. take i old ++ laid_slots ps l) now
          ∙ ap (λ o. take i old ++ o ∷ laid_slots rest (except_firsts 1 (lies_at lf leaf height) l)) (sym done.slot)
          ∙ ap (λ w. take i old ++ get_or new i None ∷ laid_slots rest w) (sym done.left)
          ∙ sym (append_assoc (take i old) (get_or new i None ∷ []) (laid_slots rest (by_key key (rows (drop (i + 1) new)))))
          ∙ ap (λ w. w ++ laid_slots rest (by_key key (rows (drop (i + 1) new)))) (sym front);
      left = go.left ∙ ap (λ ps. left_behind ps l) now ∙ ap (left_behind rest) (sym done.left);
    }

-- each slot takes at most one row
one_less : {R : Type 0} (p : R → Bool) (all : List R) → length all ≤ length (except_firsts 1 p all) + 1
one_less p all = omega (arith, length-Same (firsts 1 p all ++ except_firsts 1 p all) all (Same-firsts 1 p all), length-append (firsts 1 p all) (except_firsts 1 p all), length-firsts 1 p all)

some_left : {R : Type 0} (lf : R → ℕ) (leaf h n i : ℕ) (all : List R) → length all ≤ length (left_behind (tests lf leaf h i n) all) + n
some_left lf leaf h zero i all = omega arith
some_left lf leaf h (suc n) i all = omega (arith, some_left lf leaf h n (suc i) (except_firsts 1 (lies_at lf leaf (min (i / 4) h)) all), one_less (lies_at lf leaf (min (i / 4) h)) all)

pub going_stuck : {R : Type 0} (key lf : R → ℕ) (leaf h n i height : ℕ) (start old : List (Option R)) → i < n → height ≡ min (i / 4) h → Going key lf leaf h n i start old → StepFull key lf leaf height i old
    → 1 ≤ length (left_behind (tests lf leaf h 0 n) (by_key key (rows start)))
going_stuck key lf leaf h n i height start old within level go full =
    let more : n - i ≡ suc (n - (i + 1)) = omega (arith, within) in
    let l = by_key key (rows (drop i old)) in
    let rest = tests lf leaf h (suc i) (n - (i + 1)) in
    let now : tests lf leaf h i (n - i) ≡ lies_at lf leaf height ∷ rest = ap (tests lf leaf h i) more ∙ ap (λ a. lies_at lf leaf a ∷ rest) (sym level) in
    let same : left_behind (tests lf leaf h 0 n) (by_key key (rows start)) ≡ left_behind rest l = go.left ∙ ap (λ ps. left_behind ps l) now ∙ ap (left_behind rest) full.left in
    let count : length l ≡ n + 1 - i = length-Same l (rows (drop i old)) (Same-by_key key (rows (drop i old))) ∙ full.count ∙ ap (λ k. k - i) go.room in
    omega (arith, within, ap length same, count, some_left lf leaf h (n - (i + 1)) (suc i) l)

pub going_end : {R : Type 0} (key lf : R → ℕ) (leaf h n : ℕ) (start slots : List (Option R)) → Going key lf leaf h n n start slots
    → (take n slots ≡ laid_slots (tests lf leaf h 0 n) (by_key key (rows start))) × (length (left_behind (tests lf leaf h 0 n) (by_key key (rows start))) ≡ length (rows (get_or slots n None ∷ [])))
going_end key lf leaf h n start slots go =
    let none : n - n ≡ 0 = omega arith in
    let l = by_key key (rows (drop n slots)) in
    let last : drop n slots ≡ get_or slots n None ∷ [] =
    drop_more slots n None (omega (arith, go.room)) ∙ ap (λ w. get_or slots n None ∷ w) (drop_all (n + 1) slots (omega (arith, go.room))) in (
      sym (go.laid ∙ ap (λ k. take n slots ++ laid_slots (tests lf leaf h n k) l) none ∙ append-nil (take n slots)),
      ap length (go.left ∙ ap (λ k. left_behind (tests lf leaf h n k) l) none) ∙ length-Same l (rows (drop n slots)) (Same-by_key key (rows (drop n slots))) ∙ ap (λ w. length (rows w)) last,
    )

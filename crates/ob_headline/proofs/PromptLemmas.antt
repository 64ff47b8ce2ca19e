-- Texts are answered before more is read.
use Rattle.ob_headline.proofs.Words.{after_line, ap, append-nil, append_assoc, arith, Bool, drop, false, inl, inr, length, length-append, List, Public, refl, subst, suc, sym, take, take-append-drop, take-append-le, texts_in, true, zero, ℕ, [], ◌++◌, ◌-◌, ◌<◌, ◌==◌, ◌∙◌, ◌∷◌, ◌≡◌, ◌≤◌}
use Rattle.ob_headline.proofs.TextLemmas.{texts_of-append, texts_of-nil}
use Rattle.ob_headline.specs.Batches.{AllInsert, AnsweredExcept, Wait}
use Rattle.ob_headline.specs.Statements.{SpellFirst}
use Rattle.ob_headline.specs.Texts.{rest_of, texts_of}
use Rattle.ob_headline.specs.Words.{Begins, before_read}

-- the texts that were whole before the last read are among those of the bytes that were handed on, where no more than it
-- gave was not
pub prompt_by : (bytes passed ahead : List ℕ) (gave : ℕ) (more : List (List ℕ)) → bytes ≡ passed ++ ahead → length ahead ≤ gave
    → Begins (texts_in false (before_read gave bytes)) (texts_of [] passed ++ more)
prompt_by bytes passed ahead gave more is late =
    let n = length bytes - gave in
    let short : n ≤ length passed = omega (arith, late, ap length is, length-append passed ahead) in
    let first : take n bytes ≡ take n passed = ap (take n) is ∙ take-append-le n passed ahead short in
    let later = texts_of (rest_of [] (take n passed)) (drop n passed) in
    let texts : texts_of [] passed ≡ texts_of [] (take n bytes) ++ later =
    ap (texts_of []) (sym (take-append-drop n passed)) ∙ texts_of-append [] (take n passed) (drop n passed)
    ∙ ap (λ (xs : List ℕ). texts_of [] xs ++ later) (sym first) in
    record {
      rest = later ++ more;
      joined = ap (λ (xs : List (List ℕ)). xs ++ more) texts ∙ append_assoc (texts_of [] (take n bytes)) later more;
    }

pub prompt_all : (bytes passed ahead : List ℕ) (gave : ℕ) → bytes ≡ passed ++ ahead → length ahead ≤ gave
    → Begins (texts_in false (before_read gave bytes)) (texts_of [] passed)
prompt_all bytes passed ahead gave is late =
    subst (λ (xs : List (List ℕ)). Begins (texts_in false (before_read gave bytes)) xs) (append-nil (texts_of [] passed)) (prompt_by bytes passed ahead gave [] is late)

-- ---- after the first line
length-after_line-step : (t : Bool) (x : ℕ) (xs : List ℕ) → (x == 10) ≡ t → length (after_line xs) ≤ length xs → length (after_line (x ∷ xs)) ≤ length (x ∷ xs)
unfolding after_line
length-after_line-step true x xs is deep = rw is (omega arith)
length-after_line-step false x xs is deep = rw is (omega (arith, deep))

pub length-after_line : (xs : List ℕ) → length (after_line xs) ≤ length xs
unfolding after_line
length-after_line [] = omega arith
length-after_line (x ∷ xs) = length-after_line-step (x == 10) x xs refl (length-after_line xs)

after_line-take-step : (t : Bool) (m x : ℕ) (xs : List ℕ) → (x == 10) ≡ t
    → after_line (take m xs) ≡ take (m - (length xs - length (after_line xs))) (after_line xs)
    → after_line (x ∷ take m xs) ≡ take (suc m - (length (x ∷ xs) - length (after_line (x ∷ xs)))) (after_line (x ∷ xs))
unfolding after_line
after_line-take-step true m x xs is deep =
    let same : suc m - (suc (length xs) - length xs) ≡ m = omega arith in
    rw is (ap (λ (n : ℕ). take n xs) (sym same))
after_line-take-step false m x xs is deep =
    let few = length-after_line xs in
    let same : suc m - (suc (length xs) - length (after_line xs)) ≡ m - (length xs - length (after_line xs)) = omega (arith, few) in
    rw is (deep ∙ ap (λ (n : ℕ). take n (after_line xs)) (sym same))

after_line-take : (n : ℕ) (xs : List ℕ) → after_line (take n xs) ≡ take (n - (length xs - length (after_line xs))) (after_line xs)
unfolding after_line
after_line-take zero xs =
    let none : 0 - (length xs - length (after_line xs)) ≡ 0 = omega arith in
    ap (λ (n : ℕ). take n (after_line xs)) (sym none)
after_line-take (suc m) [] =
    let same : suc m - (0 - 0) ≡ suc m = omega arith in
    ap (λ (n : ℕ). take n []) (sym same)
after_line-take (suc m) (x ∷ xs) = after_line-take-step (x == 10) m x xs refl (after_line-take m xs)

-- of what follows the first line that came before the last read which came before it
pub after_line-before_read : (gave : ℕ) (taken : List ℕ) → after_line (before_read gave taken) ≡ before_read gave (after_line taken)
after_line-before_read gave taken =
    let few = length-after_line taken in
    let same : (length taken - gave) - (length taken - length (after_line taken)) ≡ length (after_line taken) - gave = omega (arith, few) in
    after_line-take (length taken - gave) taken ∙ ap (λ (n : ℕ). take n (after_line taken)) same

-- ---- where texts wait
pub none_waits : (most : ℕ) → 1 ≤ most → Wait most []
unfolding SpellFirst AllInsert
none_waits most some = record { few = omega (arith, some); stmts = []; whole = refl; spell = tt; table = []; insert = tt }

-- none does where all were answered
pub all_answered : (p : Public) (most flown : ℕ) (texts served : List (List ℕ)) → 1 ≤ most → Begins texts served → AnsweredExcept p most flown texts served
all_answered p most flown texts served some begins = record {
  waiting = [];
  wait = inl (none_waits most some);
  answered = subst (λ (xs : List (List ℕ)). Begins texts xs) (sym (append-nil served)) begins;
}

-- without batches and flights none may
pub none_may : {p : Public} (texts served : List (List ℕ)) → AnsweredExcept p 1 1 texts served → Begins texts served
none_may texts served waits = go waits.waiting (elim waits.wait [ inl wait ↦ wait.few | inr wait ↦ wait.few ]) waits.answered
  where
    go : (waiting : List (List ℕ)) → length waiting < 1 → Begins texts (served ++ waiting) → Begins texts served
    go [] few begins = subst (λ (xs : List (List ℕ)). Begins texts xs) (append-nil served) begins
    go (text ∷ waiting) few begins = absurd (omega (arith, few))

-- what follows the first line came by the last read
pub prompt_line : (gave : ℕ) (taken : List ℕ) (served : List (List ℕ)) → length (after_line taken) ≤ gave → Begins (texts_in false (after_line (before_read gave taken))) served
prompt_line gave taken served late =
    let none : length (after_line taken) - gave ≡ 0 = omega (arith, late) in
    let before : after_line (before_read gave taken) ≡ [] = after_line-before_read gave taken ∙ ap (λ (n : ℕ). take n (after_line taken)) none in
    subst (λ (xs : List (List ℕ)). Begins xs served) (sym (ap (texts_of []) before ∙ texts_of-nil [])) (record { rest = served; joined = refl })

pub waits_behind : (p : Public) (most flown gave : ℕ) (taken bytes : List ℕ) (served : List (List ℕ)) → after_line taken ≡ bytes → AnsweredExcept p most flown (texts_in false (before_read gave bytes)) served
    → AnsweredExcept p most flown (texts_in false (after_line (before_read gave taken))) served
waits_behind p most flown gave taken bytes served is waits =
    subst (λ (xs : List ℕ). AnsweredExcept p most flown (texts_in false xs) served) (sym (after_line-before_read gave taken ∙ ap (before_read gave) is)) waits

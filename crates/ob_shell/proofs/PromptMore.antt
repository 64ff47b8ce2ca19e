-- Texts that were answered after those of which it is said what waits.
use Rattle.ob_shell.proofs.Words.{All, All-tail, AllInsert, AnsweredExcept, ap, append-nil, append_assoc, arith, before_read, Begins, Bool, cases_lt, drop, false, inl, inr, length, length-append, List, map, may_fly, Ok, Public, refl, skeleton, SpellFirst, Stmt, subst, sym, true, ℕ, [], ◌++◌, ◌<◌, ◌∙◌, ◌∷◌, ◌≡◌, ◌≤◌, ◌⊎◌}
use Rattle.ob_headline.proofs.PromptLemmas.{prompt_by}
use Rattle.ob_headline.specs.Batches.{Wait}
use Rattle.ob_headline.specs.Flights.{WaitToFly}
use Rattle.ob_headline.specs.Texts.{rest_of, tail_text, texts_in, texts_of}

-- the first of those that wait was answered
rest_waits : (most : ℕ) (text : List ℕ) (texts : List (List ℕ)) → Wait most (text ∷ texts) → Wait most texts
unfolding SpellFirst AllInsert
rest_waits most text texts wait = go wait.stmts wait.whole wait.spell wait.insert
  where
    go : (stmts : List Stmt) → length stmts ≡ length (text ∷ texts) → SpellFirst (text ∷ texts) (map Ok stmts) → AllInsert wait.table stmts → Wait most texts
    go [] whole spell insert = absurd (omega (arith, whole))
    go (stmt ∷ stmts) whole spell insert = record { few = let few = wait.few in omega (arith, few); stmts = stmts; whole = omega (arith, whole); spell = spell.1; table = wait.table; insert = insert.1 }

rest_flies : (p : Public) (most : ℕ) (text : List ℕ) (texts : List (List ℕ)) → WaitToFly p most (text ∷ texts) → WaitToFly p most texts
unfolding SpellFirst
rest_flies p most text texts wait = go wait.stmts wait.whole wait.spell wait.select
  where
    go : (stmts : List Stmt) → length stmts ≡ length (text ∷ texts) → SpellFirst (text ∷ texts) (map Ok stmts) → All (λ (stmt : Stmt). may_fly p (skeleton stmt) ≡ true) stmts → WaitToFly p most texts
    go [] whole spell select = absurd (omega (arith, whole))
    go (stmt ∷ stmts) whole spell select = record { few = let few = wait.few in omega (arith, few); stmts = stmts; whole = omega (arith, whole); spell = spell.1; select = All-tail (λ (x : Stmt). may_fly p (skeleton x) ≡ true) stmt stmts select }

-- where these come next among all texts, of which those are the first
front : {A : Type 0} (texts rest : List A) (first more : List A) → texts ++ rest ≡ first ++ more → length texts ≤ length first → first ≡ texts ++ drop (length texts) first
front [] rest first more is few = refl
front (x ∷ texts) rest [] more is few = absurd (omega (arith, few))
front (x ∷ texts) rest (y ∷ first) more is few =
    let same : x ≡ y = cc is in
    let behind : texts ++ rest ≡ first ++ more = cc is in
    λ i. sym same i ∷ front texts rest first more behind (omega (arith, few)) i

-- nothing waits
nothing : (p : Public) (most flown : ℕ) (ws : List (List ℕ)) → Wait most ws ⊎ WaitToFly p flown ws → Wait most [] ⊎ WaitToFly p flown []
unfolding SpellFirst AllInsert
nothing p most flown ws (inl wait) = inl (record { few = let few = wait.few in omega (arith, few); stmts = []; whole = refl; spell = tt; table = wait.table; insert = tt })
nothing p most flown ws (inr wait) = inr (record { few = let few = wait.few in omega (arith, few); stmts = []; whole = refl; spell = tt; select = λ k d less. absurd (omega (arith, less)) })

rests : (p : Public) (most flown : ℕ) (text : List ℕ) (ws : List (List ℕ)) → Wait most (text ∷ ws) ⊎ WaitToFly p flown (text ∷ ws) → Wait most ws ⊎ WaitToFly p flown ws
rests p most flown text ws (inl wait) = inl (rest_waits most text ws wait)
rests p most flown text ws (inr wait) = inr (rest_flies p flown text ws wait)

cancel : {A : Type 0} (xs ys zs : List A) → xs ++ ys ≡ xs ++ zs → ys ≡ zs
cancel [] ys zs is = is
cancel (x ∷ xs) ys zs is = cancel xs ys zs (cc is)

-- one more was answered
module _ (p : Public) (most flown : ℕ) (texts : List (List ℕ)) where
  first_same : (served : List (List ℕ)) (x h : List ℕ) (w more r s : List (List ℕ)) → served ++ (x ∷ w) ≡ texts ++ r → served ++ (h ∷ more) ≡ texts ++ s → length served < length texts → h ≡ x
  first_same served x h w more r s one two less =
      let n = length served in
      let same : texts ≡ served ++ drop n texts = front served (x ∷ w) texts r one (omega (arith, less)) in
      let left : x ∷ w ≡ drop n texts ++ r = cancel served (x ∷ w) (drop n texts ++ r) (one ∙ ap (λ (l : List (List ℕ)). l ++ r) same ∙ append_assoc served (drop n texts) r) in
      let right : h ∷ more ≡ drop n texts ++ s = cancel served (h ∷ more) (drop n texts ++ s) (two ∙ ap (λ (l : List (List ℕ)). l ++ s) same ∙ append_assoc served (drop n texts) s) in
      let long = ap length same in
      go (drop n texts) (omega (arith, long, less, length-append served (drop n texts))) left right
    where
      go : (d : List (List ℕ)) → 1 ≤ length d → x ∷ w ≡ d ++ r → h ∷ more ≡ d ++ s → h ≡ x
      go [] some left right = absurd (omega (arith, some))
      go (y ∷ d) some left right = let a : x ≡ y = cc left in let b : h ≡ y = cc right in b ∙ sym a

  answered_one : (served : List (List ℕ)) (h : List ℕ) (more : List (List ℕ)) → AnsweredExcept p most flown texts served → Begins texts (served ++ (h ∷ more)) → AnsweredExcept p most flown texts (served ++ h ∷ [])
  answered_one served h more waits all = go waits.waiting waits.wait waits.answered.rest waits.answered.joined
    where
      short : length texts ≤ length served → (ws : List (List ℕ)) → Wait most ws ⊎ WaitToFly p flown ws → (r : List (List ℕ)) → served ++ ws ≡ texts ++ r → AnsweredExcept p most flown texts (served ++ h ∷ [])
      short less ws wait r joined =
          let same : served ≡ texts ++ drop (length texts) served = front texts r served ws (sym joined) less in
          record {
            waiting = [];
            wait = nothing p most flown ws wait;
            answered = record {
              rest = drop (length texts) served ++ (h ∷ []);
              joined = append-nil (served ++ h ∷ []) ∙ ap (λ (l : List (List ℕ)). l ++ h ∷ []) same ∙ append_assoc texts (drop (length texts) served) (h ∷ []);
            };
          }

      go : (ws : List (List ℕ)) → Wait most ws ⊎ WaitToFly p flown ws → (r : List (List ℕ)) → served ++ ws ≡ texts ++ r → AnsweredExcept p most flown texts (served ++ h ∷ [])
      go [] wait r joined = short (omega (arith, ap length joined, length-append served [], length-append texts r)) [] wait r joined
      go (x ∷ w) wait r joined = elim (cases_lt (length served) (length texts)) [
        | inl less ↦ record {
          waiting = w;
          wait = rests p most flown x w wait;
          answered = record {
            rest = r;
            joined = append_assoc served (h ∷ []) w ∙ ap (λ (y : List ℕ). served ++ (y ∷ w)) (first_same served x h w more r all.rest joined all.joined less) ∙ joined;
          };
        }
        | inr past ↦ short past (x ∷ w) wait r joined
      ]

  pub prompt_more : (served held : List (List ℕ)) → AnsweredExcept p most flown texts served → (more : List (List ℕ)) → Begins texts ((served ++ held) ++ more) → AnsweredExcept p most flown texts (served ++ held)
  prompt_more served [] waits more all = subst (AnsweredExcept p most flown texts) (sym (append-nil served)) waits
  prompt_more served (h ∷ held) waits more all =
      let one = answered_one served h (held ++ more) waits (subst (Begins texts) (append_assoc served (h ∷ held) more) all) in
      let joined : (served ++ h ∷ []) ++ held ≡ served ++ (h ∷ held) = append_assoc served (h ∷ []) held in
      subst (AnsweredExcept p most flown texts) joined (prompt_more (served ++ h ∷ []) held one more (subst (λ (l : List (List ℕ)). Begins texts (l ++ more)) (sym joined) all))

-- what was whole before the last read comes first of all
pub whole_before : (ended : Bool) (gave : ℕ) (bytes : List ℕ) (all : List (List ℕ)) → texts_in ended bytes ≡ all → Begins (texts_in false (before_read gave bytes)) all
whole_before false gave bytes all is =
    subst (Begins (texts_in false (before_read gave bytes))) (append-nil (texts_of [] bytes) ∙ is) (prompt_by bytes bytes [] gave [] (sym (append-nil bytes)) (omega arith))
whole_before true gave bytes all is = subst (Begins (texts_in false (before_read gave bytes))) is (prompt_by bytes bytes [] gave (tail_text (rest_of [] bytes)) (sym (append-nil bytes)) (omega arith))

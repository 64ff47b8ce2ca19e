-- The readers of conditions are good.
use Rattle.std.proofs.Common.{◌≡◌, ℕ, zero, suc, List, [], inr, true, false, Some, is_some, refl}
use Rattle.ob_grammar.specs.Language as G
use Rattle.ob_grammar.specs.Reader as R
use Rattle.ob_grammar.proofs.Good.{Reader, Good, Begins, good_token, good_choose}
use Rattle.ob_grammar.proofs.Forms.{begins_key, begins_so, nothing_begins, begins_token, begins_bind, begins_either, some_key, good_before, good_then, good_keyed, good_map, good_last, good_chain, good_keyed_or, good_keyed_or_empty}
use Rattle.ob_base.specs.declared.skeleton.ColumnName.{ColumnName}
use Rattle.ob_base.specs.declared.comparison.ComparisonOperator.TheVariants as O
use Rattle.ob_sql.specs.declared.stmt.Against.TheVariants as A
use Rattle.ob_sql.specs.declared.stmt.Against.{Against}
use Rattle.ob_sql.specs.declared.stmt.Literal.{Literal}
use Rattle.ob_token.specs.declared.token.Mark.{Mark}
use Rattle.ob_token.specs.declared.token.Mark.TheVariants as M
use Rattle.ob_token.specs.declared.token.Lexeme.{Lexeme}
use Rattle.ob_token.specs.declared.token.Lexeme.TheVariants as L
use Rattle.ob_token.specs.declared.token.Token.{Token}
use Rattle.ob_sql.specs.Search.{Search, Compare, Not, And, Or}
use Rattle.ob_condition.specs.Marks.{is, flag, key, literal_of, name_in, name_of, number_of, order_mark, order_of, plain_literal, sign_mark, sign_of, signed, marked}
use Rattle.ob_condition.specs.Conditions.{bare, qualified, Column, Comparison, Searching, CondOf, ConjOf, Constant, Grouped, Negated, Operand, Prim}
use Rattle.ob_condition.specs.Reading.{column, comparison, cond_of, condition, conj_of, constant, grouped, negated, operand, prim}
use Rattle.ob_condition.proofs.Told.{of, apart, apart_name, apart_some, no_key}

-- what may stand after a column, after AND's parts, and after a condition
abbrev pub AfterColumn : Token → Type 0
AfterColumn t = is M.Dot t.lexeme ≡ false

abbrev pub AfterConj : Token → Type 0
AfterConj t = (is M.Dot t.lexeme ≡ false) × (is M.And t.lexeme ≡ false)

abbrev pub AfterCond : Token → Type 0
AfterCond t = (is M.Dot t.lexeme ≡ false) × (is M.And t.lexeme ≡ false) × (is M.Or t.lexeme ≡ false)

semicolon : Token
semicolon = of (L.Mark M.Semicolon)

pub good_column : Good Column AfterColumn column
unfolding column semicolon
good_column = good_keyed name_of [] (of (L.Name [])) refl
    (λ a. G.Either (G.Bind (G.Token (key M.Dot)) (λ _. G.Bind (G.Token name_of) (λ b. G.Empty (qualified a b)))) (G.Empty (bare a))) AfterColumn
    (λ a. R.choose (λ t. is_some (key M.Dot t)) (R.bind (R.token (key M.Dot)) (λ _. R.bind (R.token name_of) (λ b. R.empty (qualified a b)))) (R.empty (bare a)))
    (λ a. good_keyed_or_empty (key M.Dot) tt (of (L.Mark M.Dot)) refl (λ _. G.Bind (G.Token name_of) (λ b. G.Empty (qualified a b))) (bare a) AfterColumn
    (λ _. R.bind (R.token name_of) (λ b. R.empty (qualified a b)))
    (λ _. good_last name_of [] (of (L.Name [])) refl (qualified a) AfterColumn (semicolon, refl))
    (λ t f. no_key M.Dot t.lexeme f) (semicolon, refl))
    (semicolon, refl)

pub column_first : (c : ColumnName) (w : List Token) → Column c w → Begins (λ t. is_some (name_of t) ≡ true) w
column_first c w h = begins_key name_of (λ a. G.Either (G.Bind (G.Token (key M.Dot)) (λ _. G.Bind (G.Token name_of) (λ b. G.Empty (qualified a b)))) (G.Empty (bare a)))
    (λ t. is_some (name_of t) ≡ true) (some_key name_of) c w h

module _ (text : List ℕ) where
  no_sign : (x : Lexeme) (place : ℕ) (v : Literal) → plain_literal text x place ≡ Some v → is_some (marked sign_mark x) ≡ false
  no_sign (L.Number n) place v e = refl
  no_sign L.Text place v e = refl
  no_sign other place v e = absurd (cc e)

  pub good_constant : (F : Token → Type 0) → ((t : Token) × F t) → Good (Constant text) F (constant text)
  unfolding constant
  good_constant F last = good_keyed_or sign_of false (of (L.Mark M.Plus)) refl (λ minus. G.Bind (G.Token number_of) (λ n. G.Empty (signed minus n))) (G.Token (literal_of text)) F
      (λ minus. R.bind (R.token number_of) (λ n. R.empty (signed minus n))) (R.token (literal_of text))
      (λ minus. good_last number_of 0 (of (L.Number 0)) refl (signed minus) F last)
      (good_token (literal_of text) F (signed false 0) (of (L.Number 0)) refl)
      (λ v w h. inr (begins_token (literal_of text) (λ t. is_some (sign_of t) ≡ false) (λ t v e. no_sign t.lexeme t.from v e) v w h))
      (λ v (t, e, h) c f. absurd (cc h)) last

  constant_no_name : (l : Literal) (w : List Token) → Constant text l w → Begins (λ t. is_some (name_of t) ≡ false) w
  constant_no_name l w h = begins_either (G.Bind (G.Token sign_of) (λ minus. G.Bind (G.Token number_of) (λ n. G.Empty (signed minus n)))) (G.Token (literal_of text)) (λ t. is_some (name_of t) ≡ false)
      (λ v w k. begins_key sign_of (λ minus. G.Bind (G.Token number_of) (λ n. G.Empty (signed minus n))) (λ t. is_some (name_of t) ≡ false)
      (λ t u e. apart_name (marked sign_mark) (λ n. refl) t.lexeme u e) v w k)
      (λ v w k. begins_token (literal_of text) (λ t. is_some (name_of t) ≡ false) (λ t u e. apart_name (λ x. plain_literal text x t.from) (λ n. refl) t.lexeme u e) v w k)
      l w h

  literal_operand : (v : Against) (w : List Token) → G.Bind (Constant text) (λ l. G.Empty (A.Literal l)) v w → Begins (λ t. is_some (name_of t) ≡ false) w
  literal_operand v w h = begins_bind (Constant text) (λ l. G.Empty (A.Literal l)) (λ t. is_some (name_of t) ≡ false) constant_no_name v w h

  pub good_operand : Good (Operand text) AfterColumn (operand text)
  unfolding operand semicolon
  good_operand = good_choose (G.Bind Column (λ c. G.Empty (A.Column c))) (G.Bind (Constant text) (λ l. G.Empty (A.Literal l))) AfterColumn (λ t. is_some (name_of t))
      (R.bind column (λ c. R.empty (A.Column c))) (R.bind (constant text) (λ l. R.empty (A.Literal l)))
      (good_map Column A.Column AfterColumn column good_column (semicolon, refl))
      (good_map (Constant text) A.Literal AfterColumn (constant text) (good_constant AfterColumn (semicolon, refl)) (semicolon, refl))
      (λ v w h. begins_bind Column (λ c. G.Empty (A.Column c)) (λ t. is_some (name_of t) ≡ true) column_first v w h)
      (λ v w h. inr (literal_operand v w h))
      (λ v h t f. absurd (nothing_begins (λ t. is_some (name_of t) ≡ false) (literal_operand v [] h)))

  pub good_comparison : Good (Comparison text) AfterColumn (comparison text)
  unfolding comparison semicolon
  good_comparison = good_before Column (λ c. G.Bind (G.Token order_of) (λ o. G.Bind (Operand text) (λ a. G.Empty (Compare c o a)))) AfterColumn AfterColumn
      column (λ c. R.bind (R.token order_of) (λ o. R.bind (operand text) (λ a. R.empty (Compare c o a)))) good_column
      (λ c. good_keyed order_of O.Equal (of (L.Mark M.Equal)) refl (λ o. G.Bind (Operand text) (λ a. G.Empty (Compare c o a))) AfterColumn
      (λ o. R.bind (operand text) (λ a. R.empty (Compare c o a))) (λ o. good_map (Operand text) (Compare c o) AfterColumn (operand text) good_operand (semicolon, refl)) (semicolon, refl))
      (λ c v w h. inr (begins_key order_of (λ o. G.Bind (Operand text) (λ a. G.Empty (Compare c o a))) AfterColumn (λ t o e. apart (marked order_mark) M.Dot refl t.lexeme o e) v w h))
      (λ t f. f) (semicolon, refl)

  comparison_first : (v : Search) (w : List Token) → Comparison text v w → Begins (λ t. is_some (name_of t) ≡ true) w
  comparison_first v w h = begins_bind Column (λ c. G.Bind (G.Token order_of) (λ o. G.Bind (Operand text) (λ a. G.Empty (Compare c o a)))) (λ t. is_some (name_of t) ≡ true) column_first v w h

-- AND and OR
pub good_conj_of : (P : Search → List Token → Type 0) (p : Reader Token Search) → Good P AfterColumn p → Good (ConjOf P) AfterConj (conj_of p)
unfolding semicolon
good_conj_of P p good = good_chain (key M.And) (of (L.Mark M.And)) refl (λ q. q) And P AfterColumn AfterConj p good (λ t f. no_key M.And t.lexeme f.1) (λ t f. f.0)
    (λ t e. apart_some (λ x. flag (is M.And x)) M.Dot refl t.lexeme e) (semicolon, (refl, refl))

pub good_cond_of : (P : Search → List Token → Type 0) (p : Reader Token Search) → Good P AfterColumn p → Good (CondOf P) AfterCond (cond_of p)
unfolding semicolon
good_cond_of P p good = good_chain (key M.Or) (of (L.Mark M.Or)) refl (λ q. q) Or (ConjOf P) AfterConj AfterCond (conj_of p) (good_conj_of P p good)
    (λ t f. no_key M.Or t.lexeme f.2) (λ t f. (f.0, f.1))
    (λ t e. (apart_some (λ x. flag (is M.Or x)) M.Dot refl t.lexeme e, apart_some (λ x. flag (is M.Or x)) M.And refl t.lexeme e)) (semicolon, (refl, refl, refl))

module _ (text : List ℕ) (P : Search → List Token → Type 0) (p : Reader Token Search) (good : Good P AfterColumn p) where
  good_negated : (u : Unit {0}) → Good (G.Bind P (λ q. G.Empty (Not q))) AfterColumn (R.bind p (λ q. R.empty (Not q)))
  unfolding semicolon
  good_negated u = good_map P Not AfterColumn p good (semicolon, refl)

  good_inside : (u : Unit {0}) → Good (G.Bind (CondOf P) (λ q. G.Bind (G.Token (key M.Close)) (λ _. G.Empty q))) AfterColumn (R.bind (cond_of p) (λ q. R.bind (R.token (key M.Close)) (λ _. R.empty q)))
  unfolding semicolon
  good_inside u = good_then (CondOf P) (λ q. G.Bind (G.Token (key M.Close)) (λ _. G.Empty q)) AfterCond AfterColumn (cond_of p) (λ q. R.bind (R.token (key M.Close)) (λ _. R.empty q))
      (good_cond_of P p good) (λ q. good_last (key M.Close) tt (of (L.Mark M.Close)) refl (λ _. q) AfterColumn (semicolon, refl))
      (λ q v w h. begins_key (key M.Close) (λ _. G.Empty q) AfterCond
      (λ t u e. (apart (λ x. flag (is M.Close x)) M.Dot refl t.lexeme u e, apart (λ x. flag (is M.Close x)) M.And refl t.lexeme u e, apart (λ x. flag (is M.Close x)) M.Or refl t.lexeme u e)) v w h)
      (semicolon, refl)

  comparison_begins : (m : Mark) → (v : Search) (w : List Token) → Comparison text v w → Begins (λ t. is_some (key m t) ≡ false) w
  comparison_begins m v w h = begins_so (λ t. is_some (name_of t) ≡ true) (λ t. is_some (key m t) ≡ false) w
      (λ t e. no_key m t.lexeme (apart_some name_in m refl t.lexeme e)) (comparison_first text v w h)

  good_group_or : Good (G.Either (Grouped P) (Comparison text)) AfterColumn (R.choose (λ t. is_some (key M.Open t)) (grouped p) (comparison text))
  unfolding semicolon
  good_group_or = good_keyed_or (key M.Open) tt (of (L.Mark M.Open)) refl (λ _. G.Bind (CondOf P) (λ q. G.Bind (G.Token (key M.Close)) (λ _. G.Empty q))) (Comparison text) AfterColumn
      (λ _. R.bind (cond_of p) (λ q. R.bind (R.token (key M.Close)) (λ _. R.empty q))) (comparison text) good_inside (good_comparison text)
      (λ v w h. inr (comparison_begins M.Open v w h))
      (λ v h t f. absurd (nothing_begins (λ t. is_some (key M.Open t) ≡ false) (comparison_begins M.Open v [] h))) (semicolon, refl)

  no_not : (v : Search) (w : List Token) → G.Either (Grouped P) (Comparison text) v w → Begins (λ t. is_some (key M.Not t) ≡ false) w
  no_not v w h = begins_either (Grouped P) (Comparison text) (λ t. is_some (key M.Not t) ≡ false)
      (λ v w k. begins_key (key M.Open) (λ _. G.Bind (CondOf P) (λ q. G.Bind (G.Token (key M.Close)) (λ _. G.Empty q))) (λ t. is_some (key M.Not t) ≡ false)
      (λ t u e. no_key M.Not t.lexeme (apart (λ x. flag (is M.Open x)) M.Not refl t.lexeme u e)) v w k)
      (comparison_begins M.Not) v w h

  one_deeper : Good (G.Either (Negated P) (G.Either (Grouped P) (Comparison text))) AfterColumn
      (R.choose (λ t. is_some (key M.Not t)) (negated p) (R.choose (λ t. is_some (key M.Open t)) (grouped p) (comparison text)))
  unfolding semicolon
  one_deeper = good_keyed_or (key M.Not) tt (of (L.Mark M.Not)) refl (λ _. G.Bind P (λ q. G.Empty (Not q))) (G.Either (Grouped P) (Comparison text)) AfterColumn
      (λ _. R.bind p (λ q. R.empty (Not q))) (R.choose (λ t. is_some (key M.Open t)) (grouped p) (comparison text)) good_negated good_group_or
      (λ v w h. inr (no_not v w h))
      (λ v h t f. absurd (nothing_begins (λ t. is_some (key M.Not t) ≡ false) (no_not v [] h))) (semicolon, refl)

pub good_prim : (text : List ℕ) (d : ℕ) → Good (Prim text d) AfterColumn (prim text d)
unfolding Prim prim
good_prim text zero = good_comparison text
good_prim text (suc d) = one_deeper text (Prim text d) (prim text d) (good_prim text d)

pub good_conj : (text : List ℕ) (d : ℕ) → Good (ConjOf (Prim text d)) AfterConj (conj_of (prim text d))
good_conj text d = good_conj_of (Prim text d) (prim text d) (good_prim text d)

pub good_condition : (text : List ℕ) (d : ℕ) → Good (Searching text d) AfterCond (condition text d)
unfolding Searching
good_condition text d = good_cond_of (Prim text d) (prim text d) (good_prim text d)

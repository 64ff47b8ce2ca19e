-- The grammar of conditions, with the value that each list of tokens spells. AND and OR group to the left, and
-- at most so many of NOT and ( stand on a path.
use Rattle.std.specs.Prelude.{ℕ, zero, suc, List, Option, Some, None}
use Rattle.ob_grammar.specs.Language.{Token as OneToken, Empty, Bind, Either, Chain, Perhaps}
use Rattle.ob_base.specs.declared.skeleton.ColumnName.{ColumnName}
use Rattle.ob_sql.specs.declared.stmt.Against.{Against}
use Rattle.ob_sql.specs.declared.stmt.Against.TheVariants as A
use Rattle.ob_sql.specs.declared.stmt.Literal.{Literal}
use Rattle.ob_token.specs.declared.token.Mark.TheVariants as M
use Rattle.ob_token.specs.declared.token.Token.{Token}
use Rattle.ob_sql.specs.Search.{Search, Compare, Not, And, Or}
use Rattle.ob_condition.specs.Marks.{key, literal_of, name_of, number_of, order_of, sign_of, signed}

abbrev pub bare : List ℕ → ColumnName
bare column = record { table = None; column = column }

abbrev pub qualified : List ℕ → List ℕ → ColumnName
qualified table column = record { table = Some table; column = column }

-- column = name [ '.' name ]
abbrev pub Column : ColumnName → List Token → Type 0
Column = Bind (OneToken name_of) (λ a. Either (Bind (OneToken (key M.Dot)) (λ _. Bind (OneToken name_of) (λ b. Empty (qualified a b)))) (Empty (bare a)))

module _ (text : List ℕ) where
  -- literal = [ '+' | '-' ] number | text
  abbrev pub Constant : Literal → List Token → Type 0
  Constant = Either (Bind (OneToken sign_of) (λ minus. Bind (OneToken number_of) (λ n. Empty (signed minus n)))) (OneToken (literal_of text))

  -- literal | column
  abbrev pub Operand : Against → List Token → Type 0
  Operand = Either (Bind Column (λ c. Empty (A.Column c))) (Bind Constant (λ l. Empty (A.Literal l)))

  -- column op ( literal | column )
  abbrev pub Comparison : Search → List Token → Type 0
  Comparison = Bind Column (λ c. Bind (OneToken order_of) (λ o. Bind Operand (λ a. Empty (Compare c o a))))

-- conj = prim { AND prim }
abbrev pub ConjOf : (Search → List Token → Type 0) → Search → List Token → Type 0
ConjOf P = Chain (key M.And) (λ p. p) And P

-- cond = conj { OR conj }
abbrev pub CondOf : (Search → List Token → Type 0) → Search → List Token → Type 0
CondOf P = Chain (key M.Or) (λ p. p) Or (ConjOf P)

abbrev pub Negated : (Search → List Token → Type 0) → Search → List Token → Type 0
Negated P = Bind (OneToken (key M.Not)) (λ _. Bind P (λ p. Empty (Not p)))

abbrev pub Grouped : (Search → List Token → Type 0) → Search → List Token → Type 0
Grouped P = Bind (OneToken (key M.Open)) (λ _. Bind (CondOf P) (λ p. Bind (OneToken (key M.Close)) (λ _. Empty p)))

-- prim = NOT prim | '(' cond ')' | comparison
unfoldable pub Prim : List ℕ → ℕ → Search → List Token → Type 0
Prim text zero = Comparison text
Prim text (suc depth) = Either (Negated (Prim text depth)) (Either (Grouped (Prim text depth)) (Comparison text))

-- cond, on a path of which so many NOT and ( may stand
unfoldable pub Searching : List ℕ → ℕ → Search → List Token → Type 0
Searching text depth = CondOf (Prim text depth)

-- [ WHERE cond ]
abbrev pub Where : List ℕ → Option Search → List Token → Type 0
Where text = Perhaps (key M.Where) (Searching text 32)

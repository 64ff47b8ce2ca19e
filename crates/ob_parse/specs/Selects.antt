-- SELECT, written as three forms that begin alike. Statements.Selection has what they have in common once.
use Rattle.std.specs.Prelude.{ℕ, List, Some, None}
use Rattle.ob_grammar.specs.Language.{Token as OneToken, Empty, Bind, Either, Listed}
use Rattle.ob_base.specs.declared.skeleton.Source.{Source}
use Rattle.ob_base.specs.declared.skeleton.Source.TheVariants as F
use Rattle.ob_sql.specs.declared.stmt.Stmt.{Stmt}
use Rattle.ob_token.specs.declared.token.Mark.TheVariants as M
use Rattle.ob_token.specs.declared.token.Token.{Token}
use Rattle.ob_condition.specs.Marks.{key, name_of}
use Rattle.ob_condition.specs.Conditions.{Column, Where}
use Rattle.ob_parse.specs.Statements.{of_table, rows, Group, Joins, OneItem}

-- [ INNER ] JOIN name ON column '=' column, after a table
abbrev pub Inners : List ℕ → Source → List Token → Type 0
Inners a = Either (Bind (OneToken (key M.Inner)) (λ _. Bind (OneToken (key M.Join)) (λ _. Joins a))) (Bind (OneToken (key M.Join)) (λ _. Joins a))

-- joined = name [ INNER ] JOIN name ON column '=' column
abbrev pub Joined : Source → List Token → Type 0
Joined = Bind (OneToken name_of) Inners

-- source = name | joined
abbrev pub OneSource : Source → List Token → Type 0
OneSource = Either (Bind (OneToken name_of) (λ a. Empty (F.Table a))) Joined

module _ (text : List ℕ) where
  -- '*' FROM source [ WHERE cond ]
  abbrev pub AllOf : Stmt → List Token → Type 0
  AllOf = Bind (OneToken (key M.Star)) (λ _. Bind (OneToken (key M.From)) (λ _. Bind OneSource (λ source. Bind (Where text) (λ cond. Empty (rows None source cond)))))

  -- column { ',' column } FROM joined [ WHERE cond ]
  abbrev pub ColumnsOfJoin : Stmt → List Token → Type 0
  ColumnsOfJoin = Bind (Listed (key M.Comma) Column) (λ columns. Bind (OneToken (key M.From)) (λ _. Bind Joined (λ source.
      Bind (Where text) (λ cond. Empty (rows (Some columns) source cond)))))

  -- item { ',' item } FROM name [ WHERE cond ] [ GROUP BY column ], which are rows or totals
  abbrev pub ItemsOfTable : Stmt → List Token → Type 0
  ItemsOfTable = Bind (Listed (key M.Comma) OneItem) (λ items. Bind (OneToken (key M.From)) (λ _. Bind (OneToken name_of) (λ a.
      Bind (Where text) (λ cond. Bind Group (λ group. Empty (of_table items a cond group))))))

  -- the three forms, without SELECT
  abbrev pub ThreeForms : Stmt → List Token → Type 0
  ThreeForms = Either AllOf (Either ColumnsOfJoin ItemsOfTable)

-- The grammar of statements, with the statement that each list of tokens spells.
use Rattle.std.specs.Prelude.{ℕ, ◌+◌, min, List, [], ◌∷◌, Bool, true, false, ◌&&◌, Option, Some, None, if◌then◌else◌}
use Rattle.std.specs.List.{flat_map}
use Rattle.ob_grammar.specs.Language.{Token as OneToken, Empty, Bind, Either, Iter, Listed, Perhaps}
use Rattle.ob_base.specs.declared.schema.Shape.{Shape}
use Rattle.ob_base.specs.declared.schema.Shape.TheVariants.{Flat, Indexed}
use Rattle.ob_base.specs.declared.skeleton.ColumnName.{ColumnName}
use Rattle.ob_base.specs.declared.skeleton.NewColumn.{NewColumn}
use Rattle.ob_base.specs.declared.skeleton.NewKind.{NewKind}
use Rattle.ob_base.specs.declared.skeleton.NewKind.TheVariants as K
use Rattle.ob_base.specs.declared.skeleton.Source.{Source}
use Rattle.ob_base.specs.declared.skeleton.Source.TheVariants as F
use Rattle.ob_sql.specs.declared.stmt.Listed.{Listed as Item}
use Rattle.ob_sql.specs.declared.stmt.Listed.TheVariants as I
use Rattle.ob_sql.specs.declared.stmt.Literal.{Literal}
use Rattle.ob_sql.specs.declared.stmt.Set.{Set}
use Rattle.ob_sql.specs.declared.stmt.Stmt.{Stmt}
use Rattle.ob_sql.specs.declared.stmt.Stmt.TheVariants as S
use Rattle.ob_token.specs.declared.token.Mark.{Mark}
use Rattle.ob_token.specs.declared.token.Mark.TheVariants as M
use Rattle.ob_token.specs.declared.token.Token.{Token}
use Rattle.ob_sql.specs.Search.{Search}
use Rattle.ob_sql.specs.Skeleton.{named_by}
use Rattle.ob_condition.specs.Marks.{key, marked, name_of, number_of}
use Rattle.ob_condition.specs.Conditions.{Column, Constant, Where}

abbrev pub integer_mark : Mark → Option NewKind
integer_mark M.Int = Some K.Int
integer_mark M.Integer = Some K.Int
integer_mark m = None

abbrev pub integer_of : Token → Option NewKind
integer_of t = marked integer_mark t.lexeme

-- sizes are kept up to the largest number of 32 bits
abbrev pub capped : ℕ → ℕ
capped n = min n 4294967295

-- kind = INT | INTEGER | VARCHAR '(' number ')'
abbrev pub Kind : NewKind → List Token → Type 0
Kind = Either
    (Bind (OneToken (key M.Varchar)) (λ _. Bind (OneToken (key M.Open)) (λ _. Bind (OneToken number_of) (λ n. Bind (OneToken (key M.Close)) (λ _. Empty (K.Varchar (capped n)))))))
    (OneToken integer_of)

-- NOT NULL | PRIMARY KEY, of which the second is counted
abbrev pub Constraint : ℕ → ℕ → List Token → Type 0
Constraint keys = Either
    (Bind (OneToken (key M.Not)) (λ _. Bind (OneToken (key M.Null)) (λ _. Empty keys)))
    (Bind (OneToken (key M.Primary)) (λ _. Bind (OneToken (key M.Key)) (λ _. Empty (capped (keys + 1)))))

abbrev pub new_column : List ℕ → NewKind → ℕ → NewColumn
new_column name kind keys = record { name = name; kind = kind; keys = keys }

-- coldef = name kind { NOT NULL | PRIMARY KEY }
abbrev pub Definition : NewColumn → List Token → Type 0
Definition = Bind (OneToken name_of) (λ name. Bind Kind (λ kind. Bind (Iter Constraint 0) (λ keys. Empty (new_column name kind keys))))

-- [ INDEXED ]
abbrev pub Shaped : Shape → List Token → Type 0
Shaped = Either (Bind (OneToken (key M.Indexed)) (λ _. Empty Indexed)) (Empty Flat)

-- create = CREATE TABLE name '(' coldef { ',' coldef } ')' CAPACITY number [ INDEXED ], without its first word
abbrev pub Create : Stmt → List Token → Type 0
Create = Bind (OneToken (key M.Table)) (λ _. Bind (OneToken name_of) (λ table. Bind (OneToken (key M.Open)) (λ _. Bind (Listed (key M.Comma) Definition) (λ columns.
    Bind (OneToken (key M.Close)) (λ _. Bind (OneToken (key M.Capacity)) (λ _. Bind (OneToken number_of) (λ n. Bind Shaped (λ shape.
    Empty (S.Create table columns (capped n) shape)))))))))

-- drop = DROP TABLE name, without its first word
abbrev pub Drop : Stmt → List Token → Type 0
Drop = Bind (OneToken (key M.Table)) (λ _. Bind (OneToken name_of) (λ table. Empty (S.Drop table)))

-- '(' name { ',' name } ')', without the parenthesis before it
abbrev pub Names : List (List ℕ) → List Token → Type 0
Names = Bind (Listed (key M.Comma) (OneToken name_of)) (λ names. Bind (OneToken (key M.Close)) (λ _. Empty names))

abbrev pub set_of : List ℕ → Literal → Set
set_of column value = record { column = column; value = value }

-- [ '(' name { ',' name } ')' ]
abbrev pub Targets : Option (List (List ℕ)) → List Token → Type 0
Targets = Perhaps (key M.Open) Names

module _ (text : List ℕ) where
  -- insert = INSERT INTO name [ '(' name { ',' name } ')' ] VALUES '(' literal { ',' literal } ')', without its first word
  abbrev pub Insert : Stmt → List Token → Type 0
  Insert = Bind (OneToken (key M.Into)) (λ _. Bind (OneToken name_of) (λ table. Bind Targets (λ columns. Bind (OneToken (key M.Values)) (λ _. Bind (OneToken (key M.Open)) (λ _.
      Bind (Listed (key M.Comma) (Constant text)) (λ values. Bind (OneToken (key M.Close)) (λ _. Empty (S.Insert table columns values))))))))

  -- name '=' literal
  abbrev pub Assignment : Set → List Token → Type 0
  Assignment = Bind (OneToken name_of) (λ column. Bind (OneToken (key M.Equal)) (λ _. Bind (Constant text) (λ value. Empty (set_of column value))))

  -- update = UPDATE name SET name '=' literal { ',' name '=' literal } [ WHERE cond ], without its first word
  abbrev pub Update : Stmt → List Token → Type 0
  Update = Bind (OneToken name_of) (λ table. Bind (OneToken (key M.Set)) (λ _. Bind (Listed (key M.Comma) Assignment) (λ sets. Bind (Where text) (λ cond. Empty (S.Update table sets cond)))))

  -- delete = DELETE FROM name [ WHERE cond ], without its first word
  abbrev pub Delete : Stmt → List Token → Type 0
  Delete = Bind (OneToken (key M.From)) (λ _. Bind (OneToken name_of) (λ table. Bind (Where text) (λ cond. Empty (S.Delete table cond))))

-- '(' column ')'
abbrev pub Argument : ColumnName → List Token → Type 0
Argument = Bind (OneToken (key M.Open)) (λ _. Bind Column (λ c. Bind (OneToken (key M.Close)) (λ _. Empty c)))

-- '(' ( '*' | column ) ')', of COUNT
abbrev pub Counted : Item → List Token → Type 0
Counted = Bind (OneToken (key M.Open)) (λ _. Bind (Either (Bind (OneToken (key M.Star)) (λ _. Empty I.CountAll)) (Bind Column (λ c. Empty (I.Count c))))
    (λ item. Bind (OneToken (key M.Close)) (λ _. Empty item)))

-- item = column | COUNT '(' ( '*' | column ) ')' | ( SUM | MIN | MAX ) '(' column ')'
abbrev pub OneItem : Item → List Token → Type 0
OneItem = Either (Bind (OneToken (key M.Count)) (λ _. Counted))
    (Either (Bind (OneToken (key M.Sum)) (λ _. Bind Argument (λ c. Empty (I.Sum c))))
    (Either (Bind (OneToken (key M.Min)) (λ _. Bind Argument (λ c. Empty (I.Min c))))
    (Either (Bind (OneToken (key M.Max)) (λ _. Bind Argument (λ c. Empty (I.Max c)))) (Bind Column (λ c. Empty (I.Column c))))))

-- name ON column '=' column, after a table and JOIN
abbrev pub Joins : List ℕ → Source → List Token → Type 0
Joins left = Bind (OneToken name_of) (λ right. Bind (OneToken (key M.On)) (λ _. Bind Column (λ on. Bind (OneToken (key M.Equal)) (λ _. Bind Column (λ equals. Empty (F.Join left right on equals))))))

-- [ GROUP BY column ]
abbrev pub Group : Option ColumnName → List Token → Type 0
Group = Perhaps (key M.Group) (Bind (OneToken (key M.By)) (λ _. Column))

abbrev pub rows : Option (List ColumnName) → Source → Option Search → Stmt
rows list source cond = S.SelectRows (record { list = list; source = source; cond = cond })

abbrev pub totals : List Item → List ℕ → Option Search → Option ColumnName → Stmt
totals items table cond group = S.SelectTotals (record { items = items; table = table; cond = cond; group = group })

abbrev pub is_column : Item → Bool
is_column (I.Column c) = true
is_column I.CountAll = false
is_column (I.Count c) = false
is_column (I.Sum c) = false
is_column (I.Min c) = false
is_column (I.Max c) = false

abbrev pub all_columns : List Item → Bool
all_columns [] = true
all_columns (item ∷ items) = is_column item && all_columns items

-- items of a table: plain columns without GROUP BY are rows, any other are totals
abbrev pub of_table : List Item → List ℕ → Option Search → Option ColumnName → Stmt
of_table items table cond (Some key) = totals items table cond (Some key)
of_table items table cond None = if all_columns items then rows (Some (flat_map named_by items)) (F.Table table) cond else totals items table cond None

-- and those of a join are rows
abbrev pub of_items : List Item → Source → Option Search → Option ColumnName → Stmt
of_items items (F.Table table) cond group = of_table items table cond group
of_items items (F.Join left right on equals) cond group = rows (Some (flat_map named_by items)) (F.Join left right on equals) cond

-- name | joined, after the name
abbrev pub AfterName : List ℕ → Source → List Token → Type 0
AfterName a = Either (Bind (OneToken (key M.Inner)) (λ _. Bind (OneToken (key M.Join)) (λ _. Joins a))) (Either (Bind (OneToken (key M.Join)) (λ _. Joins a)) (Empty (F.Table a)))

-- a join stands after plain columns alone
abbrev pub Sources : Bool → List ℕ → Source → List Token → Type 0
Sources true a = AfterName a
Sources false a = Empty (F.Table a)

-- GROUP BY stands after one table alone
abbrev pub Groups : Source → Option ColumnName → List Token → Type 0
Groups (F.Table a) = Group
Groups (F.Join left right on equals) = Empty None

module _ (text : List ℕ) where
  -- FROM source [ WHERE cond ], after SELECT '*'
  abbrev pub Starred : Stmt → List Token → Type 0
  Starred = Bind (OneToken (key M.From)) (λ _. Bind (OneToken name_of) (λ a. Bind (AfterName a) (λ source. Bind (Where text) (λ cond. Empty (rows None source cond)))))

  -- column { ',' column } FROM joined [ WHERE cond ] | item { ',' item } FROM name [ WHERE cond ] [ GROUP BY column ]
  abbrev pub Itemized : Stmt → List Token → Type 0
  Itemized = Bind (Listed (key M.Comma) OneItem) (λ items. Bind (OneToken (key M.From)) (λ _. Bind (OneToken name_of) (λ a. Bind (Sources (all_columns items) a) (λ source.
      Bind (Where text) (λ cond. Bind (Groups source) (λ group. Empty (of_items items source cond group)))))))

  -- select, without its first word
  abbrev pub Selection : Stmt → List Token → Type 0
  Selection = Either (Bind (OneToken (key M.Star)) (λ _. Starred)) Itemized

  -- create | insert | update | delete | drop | select
  abbrev pub Body : Stmt → List Token → Type 0
  Body = Either (Bind (OneToken (key M.Create)) (λ _. Create))
      (Either (Bind (OneToken (key M.Insert)) (λ _. Insert text))
      (Either (Bind (OneToken (key M.Update)) (λ _. Update text))
      (Either (Bind (OneToken (key M.Delete)) (λ _. Delete text))
      (Either (Bind (OneToken (key M.Drop)) (λ _. Drop)) (Bind (OneToken (key M.Select)) (λ _. Selection))))))

  -- statement = ( create | insert | update | delete | drop | select ) ';'
  unfoldable pub Statement : Stmt → List Token → Type 0
  Statement = Bind Body (λ s. Bind (OneToken (key M.Semicolon)) (λ _. Empty s))

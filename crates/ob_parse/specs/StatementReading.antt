-- What the parser computes for statements.
use Rattle.std.specs.Prelude.{ℕ, ◌+◌, List, ◌||◌, length, Bool, true, false, Option, None, is_some}
use Rattle.ob_grammar.specs.Reader as R
use Rattle.ob_base.specs.declared.schema.Shape.{Shape}
use Rattle.ob_base.specs.declared.schema.Shape.TheVariants.{Flat, Indexed}
use Rattle.ob_base.specs.declared.skeleton.ColumnName.{ColumnName}
use Rattle.ob_base.specs.declared.skeleton.NewColumn.{NewColumn}
use Rattle.ob_base.specs.declared.skeleton.NewKind.{NewKind}
use Rattle.ob_base.specs.declared.skeleton.NewKind.TheVariants as K
use Rattle.ob_base.specs.declared.skeleton.Source.{Source}
use Rattle.ob_base.specs.declared.skeleton.Source.TheVariants as F
use Rattle.ob_sql.specs.declared.stmt.Listed.{Listed as Item}
use Rattle.ob_sql.specs.declared.stmt.Listed.TheVariants as I
use Rattle.ob_sql.specs.declared.stmt.Set.{Set}
use Rattle.ob_sql.specs.declared.stmt.Stmt.{Stmt}
use Rattle.ob_sql.specs.declared.stmt.Stmt.TheVariants as S
use Rattle.ob_token.specs.declared.token.Mark.{Mark}
use Rattle.ob_token.specs.declared.token.Mark.TheVariants as M
use Rattle.ob_token.specs.declared.token.Token.{Token}
use Rattle.ob_condition.specs.Marks.{is, key, name_of, number_of}
use Rattle.ob_condition.specs.Reading.{Read, column, constant, where_part}
use Rattle.ob_parse.specs.Statements.{all_columns, capped, integer_of, new_column, of_items, rows, set_of}

abbrev pub expects : {V : Type 0} → Mark → (List Token → Read V) → List Token → Read V
expects m r = R.bind (R.token (key m)) (λ _. r)

unfoldable pub varchar : List Token → Read NewKind
varchar = expects M.Open (R.bind (R.token number_of) (λ n. expects M.Close (R.empty (K.Varchar (capped n)))))

unfoldable pub kind : List Token → Read NewKind
kind = R.choose (λ t. is_some (key M.Varchar t)) (expects M.Varchar varchar) (R.token integer_of)

unfoldable pub constraint : ℕ → List Token → Read ℕ
constraint keys = R.choose (λ t. is_some (key M.Not t)) (expects M.Not (expects M.Null (R.empty keys))) (expects M.Primary (expects M.Key (R.empty (capped (keys + 1)))))

abbrev pub constrains : Token → Bool
constrains t = is M.Not t.lexeme || is M.Primary t.lexeme

unfoldable pub constraints : List Token → Read ℕ
constraints ts = R.iter constrains constraint (length ts) 0 ts

unfoldable pub definition : List Token → Read NewColumn
definition = R.bind (R.token name_of) (λ name. R.bind kind (λ kind. R.bind constraints (λ keys. R.empty (new_column name kind keys))))

unfoldable pub shape : List Token → Read Shape
shape = R.choose (λ t. is_some (key M.Indexed t)) (expects M.Indexed (R.empty Indexed)) (R.empty Flat)

unfoldable pub create : List Token → Read Stmt
create = expects M.Table (R.bind (R.token name_of) (λ table. expects M.Open (R.bind (R.listed (key M.Comma) definition) (λ columns.
    expects M.Close (expects M.Capacity (R.bind (R.token number_of) (λ n. R.bind shape (λ shape.
    R.empty (S.Create table columns (capped n) shape)))))))))

unfoldable pub drop_table : List Token → Read Stmt
drop_table = expects M.Table (R.bind (R.token name_of) (λ table. R.empty (S.Drop table)))

unfoldable pub names : List Token → Read (List (List ℕ))
names = R.bind (R.listed (key M.Comma) (R.token name_of)) (λ names. expects M.Close (R.empty names))

unfoldable pub targets : List Token → Read (Option (List (List ℕ)))
targets = R.perhaps (key M.Open) names

module _ (text : List ℕ) where
  unfoldable pub insert : List Token → Read Stmt
  insert = expects M.Into (R.bind (R.token name_of) (λ table. R.bind targets (λ columns. expects M.Values (expects M.Open
      (R.bind (R.listed (key M.Comma) (constant text)) (λ values. expects M.Close (R.empty (S.Insert table columns values))))))))

  unfoldable pub assignment : List Token → Read Set
  assignment = R.bind (R.token name_of) (λ column. expects M.Equal (R.bind (constant text) (λ value. R.empty (set_of column value))))

  unfoldable pub update : List Token → Read Stmt
  update = R.bind (R.token name_of) (λ table. expects M.Set (R.bind (R.listed (key M.Comma) assignment) (λ sets. R.bind (where_part text) (λ cond. R.empty (S.Update table sets cond)))))

  unfoldable pub delete : List Token → Read Stmt
  delete = expects M.From (R.bind (R.token name_of) (λ table. R.bind (where_part text) (λ cond. R.empty (S.Delete table cond))))

unfoldable pub argument : List Token → Read ColumnName
argument = expects M.Open (R.bind column (λ c. expects M.Close (R.empty c)))

unfoldable pub all_or_column : List Token → Read Item
all_or_column = R.choose (λ t. is_some (key M.Star t)) (expects M.Star (R.empty I.CountAll)) (R.bind column (λ c. R.empty (I.Count c)))

unfoldable pub counted : List Token → Read Item
counted = expects M.Open (R.bind all_or_column (λ item. expects M.Close (R.empty item)))

unfoldable pub greatest : List Token → Read Item
greatest = R.choose (λ t. is_some (key M.Max t)) (expects M.Max (R.bind argument (λ c. R.empty (I.Max c)))) (R.bind column (λ c. R.empty (I.Column c)))

unfoldable pub least : List Token → Read Item
least = R.choose (λ t. is_some (key M.Min t)) (expects M.Min (R.bind argument (λ c. R.empty (I.Min c)))) greatest

unfoldable pub summed : List Token → Read Item
summed = R.choose (λ t. is_some (key M.Sum t)) (expects M.Sum (R.bind argument (λ c. R.empty (I.Sum c)))) least

unfoldable pub item : List Token → Read Item
item = R.choose (λ t. is_some (key M.Count t)) (expects M.Count counted) summed

unfoldable pub joins : List ℕ → List Token → Read Source
joins left = R.bind (R.token name_of) (λ right. expects M.On (R.bind column (λ on. expects M.Equal (R.bind column (λ equals. R.empty (F.Join left right on equals))))))

unfoldable pub joined_or : List ℕ → List Token → Read Source
joined_or a = R.choose (λ t. is_some (key M.Join t)) (expects M.Join (joins a)) (R.empty (F.Table a))

unfoldable pub behind : List ℕ → List Token → Read Source
behind a = R.choose (λ t. is_some (key M.Inner t)) (expects M.Inner (expects M.Join (joins a))) (joined_or a)

unfoldable pub sources : Bool → List ℕ → List Token → Read Source
sources true a = behind a
sources false a = R.empty (F.Table a)

unfoldable pub group : List Token → Read (Option ColumnName)
group = R.perhaps (key M.Group) (expects M.By column)

unfoldable pub groups : Source → List Token → Read (Option ColumnName)
groups (F.Table a) = group
groups (F.Join left right on equals) = R.empty None

module _ (text : List ℕ) where
  unfoldable pub starred : List Token → Read Stmt
  starred = expects M.From (R.bind (R.token name_of) (λ a. R.bind (behind a) (λ source. R.bind (where_part text) (λ cond. R.empty (rows None source cond)))))

  unfoldable pub itemized : List Token → Read Stmt
  itemized = R.bind (R.listed (key M.Comma) item) (λ items. expects M.From (R.bind (R.token name_of) (λ a. R.bind (sources (all_columns items) a) (λ source.
      R.bind (where_part text) (λ cond. R.bind (groups source) (λ group. R.empty (of_items items source cond group)))))))

  unfoldable pub selection : List Token → Read Stmt
  selection = R.choose (λ t. is_some (key M.Star t)) (expects M.Star starred) itemized

  unfoldable pub dropping : List Token → Read Stmt
  dropping = R.choose (λ t. is_some (key M.Drop t)) (expects M.Drop drop_table) (expects M.Select selection)

  unfoldable pub deleting : List Token → Read Stmt
  deleting = R.choose (λ t. is_some (key M.Delete t)) (expects M.Delete (delete text)) dropping

  unfoldable pub updating : List Token → Read Stmt
  updating = R.choose (λ t. is_some (key M.Update t)) (expects M.Update (update text)) deleting

  unfoldable pub inserting : List Token → Read Stmt
  inserting = R.choose (λ t. is_some (key M.Insert t)) (expects M.Insert (insert text)) updating

  unfoldable pub body : List Token → Read Stmt
  body = R.choose (λ t. is_some (key M.Create t)) (expects M.Create create) inserting

  unfoldable pub statement : List Token → Read Stmt
  statement = R.bind body (λ s. expects M.Semicolon (R.empty s))

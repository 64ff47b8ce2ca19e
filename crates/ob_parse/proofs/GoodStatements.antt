-- The readers of statements are good.
use Rattle.std.proofs.Common.{◌≡◌, ℕ, ◌+◌, List, [], ◌∷◌, ◌++◌, inl, inr, Bool, true, false, Option, Some, None, is_some, refl, sym, ◌∙◌, ap, subst}
use Rattle.std.specs.Prelude.{◌||◌}
use Rattle.ob_grammar.specs.Language as G
use Rattle.ob_grammar.specs.Reader as R
use Rattle.ob_grammar.proofs.Good.{Reader, Good, Begins, good_token, good_empty, good_iter}
use Rattle.ob_grammar.proofs.Forms.{Whatever, Leads, begins_token, begins_bind, begins_either, begins_on, begins_so, nothing_begins, good_before, good_then, good_keyed, good_map, good_chain, good_keyed_or, good_keyed_or_empty, good_perhaps, good_under, leads_perhaps}
use Rattle.ob_base.specs.declared.schema.Shape.TheVariants.{Flat, Indexed}
use Rattle.ob_base.specs.declared.skeleton.ColumnName.{ColumnName}
use Rattle.ob_base.specs.declared.skeleton.NewKind.TheVariants as K
use Rattle.ob_base.specs.declared.skeleton.Source.{Source}
use Rattle.ob_base.specs.declared.skeleton.Source.TheVariants as F
use Rattle.ob_sql.specs.declared.stmt.Listed.{Listed as Item}
use Rattle.ob_sql.specs.declared.stmt.Listed.TheVariants as I
use Rattle.ob_sql.specs.declared.stmt.Stmt.{Stmt}
use Rattle.ob_sql.specs.declared.stmt.Stmt.TheVariants as S
use Rattle.ob_token.specs.declared.token.Mark.{Mark}
use Rattle.ob_token.specs.declared.token.Mark.TheVariants as M
use Rattle.ob_token.specs.declared.token.Lexeme.TheVariants as L
use Rattle.ob_token.specs.declared.token.Token.{Token}
use Rattle.ob_sql.specs.Search.{Search}
use Rattle.ob_condition.specs.Marks.{flag, is, key, marked, name_in, name_of, number_of}
use Rattle.ob_condition.specs.Conditions.{Column, Searching, Constant, Where}
use Rattle.ob_condition.specs.Reading.{column, condition, constant, where_part}
use Rattle.ob_parse.specs.Statements.{all_columns, capped, integer_mark, integer_of, new_column, of_items, rows, set_of, Argument, Assignment, AfterName, Body, Constraint, Counted, Create, Definition, Delete, Drop, Group, Groups, Insert, Itemized, Joins, Kind, Names, OneItem, Selection, Shaped, Sources, Starred, Statement, Targets, Update}
use Rattle.ob_parse.specs.StatementReading.{all_or_column, argument, assignment, behind, body, constrains, constraint, constraints, counted, create, definition, delete, deleting, drop_table, dropping, expects, greatest, group, groups, insert, inserting, item, itemized, joined_or, joins, kind, least, names, selection, shape, sources, starred, statement, summed, targets, update, updating, varchar}
use Rattle.ob_condition.proofs.Told.{of, apart, apart_some, no_key}
use Rattle.ob_condition.proofs.GoodConditions.{AfterColumn, AfterCond, column_first, good_column, good_condition, good_constant}

-- ---- helpers

word : {V : Type 0} {A : V → List Token → Type 0} {a : Reader Token V} {F : Token → Type 0} (m : Mark) → key m (of (L.Mark m)) ≡ Some tt → Good A F a → ((t : Token) × F t)
    → Good (G.Bind (G.Token (key m)) (λ _. A)) F (R.bind (R.token (key m)) (λ _. a))
word {V} {A} {a} {F} m k good last = good_keyed (key m) tt (of (L.Mark m)) k (λ _. A) F (λ _. a) (λ _. good) last

named : {V : Type 0} {A : List ℕ → V → List Token → Type 0} {a : List ℕ → Reader Token V} {F : Token → Type 0} → ((n : List ℕ) → Good (A n) F (a n)) → ((t : Token) × F t)
    → Good (G.Bind (G.Token name_of) A) F (R.bind (R.token name_of) a)
named {V} {A} {a} {F} good last = good_keyed name_of [] (of (L.Name [])) refl A F a good last

numbered : {V : Type 0} {A : ℕ → V → List Token → Type 0} {a : ℕ → Reader Token V} {F : Token → Type 0} → ((n : ℕ) → Good (A n) F (a n)) → ((t : Token) × F t)
    → Good (G.Bind (G.Token number_of) A) F (R.bind (R.token number_of) a)
numbered {V} {A} {a} {F} good last = good_keyed number_of 0 (of (L.Number 0)) refl A F a good last

-- a token that is this mark is not that one
other : (m d : Mark) → flag (is m (L.Mark d)) ≡ None → (t : Token) (u : Unit {0}) → key m t ≡ Some u → is d t.lexeme ≡ false
other m d none t u e = apart (λ x. flag (is m x)) d none t.lexeme u e

other_some : (m d : Mark) → flag (is m (L.Mark d)) ≡ None → (t : Token) → is_some (key m t) ≡ true → is d t.lexeme ≡ false
other_some m d none t e = apart_some (λ x. flag (is m x)) d none t.lexeme e

begins_word : {W : Unit {0} → List Token → Type 0} (m : Mark) (Q : Token → Type 0) → ((t : Token) (u : Unit {0}) → key m t ≡ Some u → Q t) → (w : List Token)
    → (u : Unit {0}) × (x : List Token) × (y : List Token) × G.Token (key m) u x × W u y × (w ≡ x ++ y) → Begins Q w
begins_word m Q so w (u, x, y, (t, e, h), by, h2) = (t, y, so t u e, h2 ∙ ap (λ zs. zs ++ y) h)

-- a word, or else what begins with another token
or_word : {V : Type 0} {A B : V → List Token → Type 0} {a b : Reader Token V} {F : Token → Type 0} (m : Mark) → key m (of (L.Mark m)) ≡ Some tt → Good A F a → Good B F b
    → ((v : V) (w : List Token) → B v w → Begins (λ t. is m t.lexeme ≡ false) w) → ((t : Token) × F t)
    → Good (G.Either (G.Bind (G.Token (key m)) (λ _. A)) B) F (R.choose (λ t. is_some (key m t)) (R.bind (R.token (key m)) (λ _. a)) b)
or_word {V} {A} {B} {a} {b} {F} m k good_a good_b first last =
    good_keyed_or (key m) tt (of (L.Mark m)) k (λ _. A) B F (λ _. a) b (λ _. good_a) good_b
    (λ v w h. inr (begins_so (λ t. is m t.lexeme ≡ false) (λ t. is_some (key m t) ≡ false) w (λ t e. no_key m t.lexeme e) (first v w h)))
    (λ v h t f. absurd (nothing_begins (λ t. is m t.lexeme ≡ false) (first v [] h))) last

column_apart : (m : Mark) → name_in (L.Mark m) ≡ None → (c : ColumnName) (w : List Token) → Column c w → Begins (λ t. is m t.lexeme ≡ false) w
column_apart m none c w h = begins_so (λ t. is_some (name_of t) ≡ true) (λ t. is m t.lexeme ≡ false) w (λ t e. apart_some name_in m none t.lexeme e) (column_first c w h)

leads_any : (w : List Token) → Leads Whatever w
leads_any [] = inl refl
leads_any (t ∷ w) = inr (t, w, tt, refl)

leads_bind : {U V : Type 0} (A : U → List Token → Type 0) (B : U → V → List Token → Type 0) (Q : Token → Type 0) → ((u : U) (w : List Token) → A u w → Leads Q w)
    → ((u : U) (v : V) (w : List Token) → B u v w → Leads Q w) → (v : V) (w : List Token) → G.Bind A B v w → Leads Q w
leads_bind {U} {V} A B Q first second v w (u, x, y, ax, by, e) = go (first u x ax) (second u v y by) where
  go : Leads Q x → Leads Q y → Leads Q w
  go (inr b) l = inr (subst (Begins Q) (sym e) (begins_on Q x y b))
  go (inl n) l = subst (Leads Q) (sym (e ∙ ap (λ zs. zs ++ y) n)) l

-- a list of parts
list_of : {V : Type 0} {A : V → List Token → Type 0} {a : Reader Token V} {Fa : Token → Type 0} (F : Token → Type 0) → Good A Fa a → ((t : Token) → F t → is M.Comma t.lexeme ≡ false)
    → ((t : Token) → F t → Fa t) → ((t : Token) → is_some (key M.Comma t) ≡ true → Fa t) → ((t : Token) × F t) → Good (G.Listed (key M.Comma) A) F (R.listed (key M.Comma) a)
list_of {V} {A} {a} {Fa} F good stops ends between last =
    good_chain (key M.Comma) (of (L.Mark M.Comma)) refl (λ v. v ∷ []) (λ s v. s ++ v ∷ []) A Fa F a good (λ t f. no_key M.Comma t.lexeme (stops t f)) ends between last

-- ---- what may stand after a statement without its semicolon

abbrev pub Final : Token → Type 0
Final t = (is M.Dot t.lexeme ≡ false) × (is M.And t.lexeme ≡ false) × (is M.Or t.lexeme ≡ false) × (is M.Where t.lexeme ≡ false) × (is M.Group t.lexeme ≡ false)
    × (is M.Inner t.lexeme ≡ false) × (is M.Join t.lexeme ≡ false) × (is M.Comma t.lexeme ≡ false) × (is M.Indexed t.lexeme ≡ false)

final_end : (t : Token) × Final t
final_end = (of (L.Mark M.Semicolon), (refl, refl, refl, refl, refl, refl, refl, refl, refl))

abbrev NoComma : Token → Type 0
NoComma t = is M.Comma t.lexeme ≡ false

comma_end : (t : Token) × NoComma t
comma_end = (of (L.Mark M.Semicolon), refl)

abbrev AfterWhere : Token → Type 0
AfterWhere t = AfterCond t × (is M.Where t.lexeme ≡ false)

where_end : (t : Token) × AfterWhere t
where_end = (of (L.Mark M.Semicolon), ((refl, refl, refl), refl))

after_where : (t : Token) → Final t → AfterWhere t
after_where t f = ((f.0, f.1, f.2), f.3)

-- ---- CREATE and DROP

module _ (F : Token → Type 0) (last : (t : Token) × F t) where
  pub good_kind : Good Kind F kind
  unfolding kind varchar
  good_kind = or_word M.Varchar refl
      (word M.Open refl (numbered (λ n. word M.Close refl (good_empty (K.Varchar (capped n)) F) last) last) last)
      (good_token integer_of F K.Int (of (L.Mark M.Int)) refl)
      (λ v w h. begins_token integer_of (λ t. is M.Varchar t.lexeme ≡ false) (λ t k e. apart (marked integer_mark) M.Varchar refl t.lexeme k e) v w h)
      last

  pub good_constraint : (keys : ℕ) → Good (Constraint keys) F (constraint keys)
  unfolding constraint
  good_constraint keys = or_word M.Not refl (word M.Null refl (good_empty keys F) last) (word M.Primary refl (word M.Key refl (good_empty (capped (keys + 1)) F) last) last)
      (λ v w h. begins_word M.Primary (λ t. is M.Not t.lexeme ≡ false) (other M.Primary M.Not refl) w h) last

flag_true : (b : Bool) (u : Unit {0}) → flag b ≡ Some u → b ≡ true
flag_true true u e = refl
flag_true false u e = absurd (cc e)

or_first : (a b : Bool) → a ≡ true → (a || b) ≡ true
or_first a b e = ap (λ v. v || b) e

or_second : (a b : Bool) → b ≡ true → (a || b) ≡ true
or_second true b e = refl
or_second false b e = e

or_none : (a b : Bool) → a ≡ false → b ≡ false → (a || b) ≡ false
or_none a b e f = ap (λ v. v || b) e ∙ f

pub constraint_first : (keys v : ℕ) (w : List Token) → Constraint keys v w → Begins (λ t. constrains t ≡ true) w
constraint_first keys v w h = begins_either (G.Bind (G.Token (key M.Not)) (λ _. G.Bind (G.Token (key M.Null)) (λ _. G.Empty keys)))
    (G.Bind (G.Token (key M.Primary)) (λ _. G.Bind (G.Token (key M.Key)) (λ _. G.Empty (capped (keys + 1))))) (λ t. constrains t ≡ true)
    (λ v w k. begins_word M.Not (λ t. constrains t ≡ true) (λ t u e. or_first (is M.Not t.lexeme) (is M.Primary t.lexeme) (flag_true (is M.Not t.lexeme) u e)) w k)
    (λ v w k. begins_word M.Primary (λ t. constrains t ≡ true) (λ t u e. or_second (is M.Not t.lexeme) (is M.Primary t.lexeme) (flag_true (is M.Primary t.lexeme) u e)) w k)
    v w h

abbrev pub AfterDefinition : Token → Type 0
AfterDefinition t = constrains t ≡ false

pub definition_end : (t : Token) × AfterDefinition t
definition_end = (of (L.Mark M.Semicolon), refl)

pub any_end : (t : Token) × Whatever t
any_end = (of (L.Mark M.Semicolon), tt)

good_constraints : Good (G.Iter Constraint 0) AfterDefinition constraints
unfolding constraints
good_constraints = good_iter Constraint Whatever AfterDefinition constrains constraint (good_constraint Whatever any_end) constraint_first (λ t f. f) (λ t f. tt) (λ t e. tt) 0

pub good_definition : Good Definition AfterDefinition definition
unfolding definition
good_definition = named (λ name. good_before Kind (λ kind. G.Bind (G.Iter Constraint 0) (λ keys. G.Empty (new_column name kind keys))) Whatever AfterDefinition
    kind (λ kind. R.bind constraints (λ keys. R.empty (new_column name kind keys))) (good_kind Whatever any_end)
    (λ kind. good_map (G.Iter Constraint 0) (new_column name kind) AfterDefinition constraints good_constraints definition_end)
    (λ kind v w h. leads_any w) (λ t f. tt) definition_end) definition_end

abbrev DefinitionsEnd : Token → Type 0
DefinitionsEnd t = (is M.Comma t.lexeme ≡ false) × (constrains t ≡ false)

definitions_end : (t : Token) × DefinitionsEnd t
definitions_end = (of (L.Mark M.Close), (refl, refl))

no_constraint : (m : Mark) → flag (is m (L.Mark M.Not)) ≡ None → flag (is m (L.Mark M.Primary)) ≡ None → (t : Token) → is_some (key m t) ≡ true → constrains t ≡ false
no_constraint m a b t e = or_none (is M.Not t.lexeme) (is M.Primary t.lexeme) (other_some m M.Not a t e) (other_some m M.Primary b t e)

some_is : (m : Mark) (t : Token) (u : Unit {0}) → key m t ≡ Some u → is_some (key m t) ≡ true
some_is m t u e = ap is_some e

good_definitions : Good (G.Listed (key M.Comma) Definition) DefinitionsEnd (R.listed (key M.Comma) definition)
good_definitions = list_of DefinitionsEnd good_definition (λ t f. f.0) (λ t f. f.1) (no_constraint M.Comma refl refl) definitions_end

good_shape : Good Shaped Final shape
unfolding shape
good_shape = good_keyed_or_empty (key M.Indexed) tt (of (L.Mark M.Indexed)) refl (λ _. G.Empty Indexed) Flat Final (λ _. R.empty Indexed) (λ _. good_empty Indexed Final)
    (λ t f. no_key M.Indexed t.lexeme f.8) final_end

pub good_create : Good Create Final create
unfolding create
good_create = word M.Table refl (named (λ table. word M.Open refl (good_then (G.Listed (key M.Comma) Definition)
    (λ columns. G.Bind (G.Token (key M.Close)) (λ _. G.Bind (G.Token (key M.Capacity)) (λ _. G.Bind (G.Token number_of) (λ n. G.Bind Shaped (λ shape. G.Empty (S.Create table columns (capped n) shape))))))
    DefinitionsEnd Final (R.listed (key M.Comma) definition)
    (λ columns. expects M.Close (expects M.Capacity (R.bind (R.token number_of) (λ n. R.bind shape (λ shape. R.empty (S.Create table columns (capped n) shape))))))
    good_definitions
    (λ columns. word M.Close refl (word M.Capacity refl (numbered (λ n. good_map Shaped (S.Create table columns (capped n)) Final shape good_shape final_end) final_end) final_end) final_end)
    (λ columns v w h. begins_word M.Close DefinitionsEnd (λ t u e. (other M.Close M.Comma refl t u e, no_constraint M.Close refl refl t (some_is M.Close t u e))) w h)
    final_end) final_end) final_end) final_end

pub good_drop : Good Drop Final drop_table
unfolding drop_table
good_drop = word M.Table refl (named (λ table. good_empty (S.Drop table) Final) final_end) final_end

-- ---- INSERT, UPDATE and DELETE

abbrev NoOpen : Token → Type 0
NoOpen t = is M.Open t.lexeme ≡ false

open_end : (t : Token) × NoOpen t
open_end = (of (L.Mark M.Semicolon), refl)

good_names : Good Names NoOpen names
unfolding names
good_names = good_then (G.Listed (key M.Comma) (G.Token name_of)) (λ found. G.Bind (G.Token (key M.Close)) (λ _. G.Empty found)) NoComma NoOpen
    (R.listed (key M.Comma) (R.token name_of)) (λ found. expects M.Close (R.empty found))
    (list_of NoComma (good_token name_of Whatever [] (of (L.Name [])) refl) (λ t f. f) (λ t f. tt) (λ t e. tt) comma_end)
    (λ found. word M.Close refl (good_empty found NoOpen) open_end)
    (λ found v w h. begins_word M.Close NoComma (other M.Close M.Comma refl) w h) open_end

good_targets : Good Targets NoOpen targets
unfolding targets
good_targets = good_perhaps (key M.Open) (of (L.Mark M.Open)) refl Names NoOpen names good_names (λ t f. no_key M.Open t.lexeme f) open_end

pub where_leads : (text : List ℕ) (Q : Token → Type 0) → ((t : Token) (u : Unit {0}) → key M.Where t ≡ Some u → Q t) → (v : Option Search) (w : List Token) → Where text v w → Leads Q w
where_leads text Q so v w h = leads_perhaps (key M.Where) (Searching text 32) Q so v w h

module _ (text : List ℕ) where
  pub good_insert : Good (Insert text) Final (insert text)
  unfolding insert
  good_insert = word M.Into refl (named (λ table. good_then Targets
      (λ columns. G.Bind (G.Token (key M.Values)) (λ _. G.Bind (G.Token (key M.Open)) (λ _. G.Bind (G.Listed (key M.Comma) (Constant text)) (λ values. G.Bind (G.Token (key M.Close)) (λ _. G.Empty (S.Insert table columns values))))))
      NoOpen Final targets
      (λ columns. expects M.Values (expects M.Open (R.bind (R.listed (key M.Comma) (constant text)) (λ values. expects M.Close (R.empty (S.Insert table columns values))))))
      good_targets
      (λ columns. word M.Values refl (word M.Open refl (good_then (G.Listed (key M.Comma) (Constant text)) (λ values. G.Bind (G.Token (key M.Close)) (λ _. G.Empty (S.Insert table columns values)))
      NoComma Final (R.listed (key M.Comma) (constant text)) (λ values. expects M.Close (R.empty (S.Insert table columns values)))
      (list_of NoComma (good_constant text Whatever any_end) (λ t f. f) (λ t f. tt) (λ t e. tt) comma_end)
      (λ values. word M.Close refl (good_empty (S.Insert table columns values) Final) final_end)
      (λ values v w h. begins_word M.Close NoComma (other M.Close M.Comma refl) w h) final_end) final_end) final_end)
      (λ columns v w h. begins_word M.Values NoOpen (other M.Values M.Open refl) w h) final_end) final_end) final_end

  pub good_assignment : Good (Assignment text) Whatever (assignment text)
  unfolding assignment
  good_assignment = named (λ column. word M.Equal refl (good_map (Constant text) (set_of column) Whatever (constant text) (good_constant text Whatever any_end) any_end) any_end) any_end

  pub good_where : Good (Where text) AfterWhere (where_part text)
  unfolding where_part
  good_where = good_perhaps (key M.Where) (of (L.Mark M.Where)) refl (Searching text 32) AfterWhere (condition text 32)
      (good_under (Searching text 32) AfterCond AfterWhere (condition text 32) (good_condition text 32) (λ t f. f.0)) (λ t f. no_key M.Where t.lexeme f.1) where_end

  good_last_where : (f : Option Search → Stmt) → Good (G.Bind (Where text) (λ cond. G.Empty (f cond))) Final (R.bind (where_part text) (λ cond. R.empty (f cond)))
  good_last_where f = good_map (Where text) f Final (where_part text) (good_under (Where text) AfterWhere Final (where_part text) good_where after_where) final_end

  last_where_leads : (f : Option Search → Stmt) (Q : Token → Type 0) → ((t : Token) (u : Unit {0}) → key M.Where t ≡ Some u → Q t) → (v : Stmt) (w : List Token)
      → G.Bind (Where text) (λ cond. G.Empty (f cond)) v w → Leads Q w
  last_where_leads f Q so v w h = leads_bind (Where text) (λ cond. G.Empty (f cond)) Q (where_leads text Q so) (λ u v w e. inl e.1) v w h

  pub good_update : Good (Update text) Final (update text)
  unfolding update
  good_update = named (λ table. word M.Set refl (good_before (G.Listed (key M.Comma) (Assignment text)) (λ sets. G.Bind (Where text) (λ cond. G.Empty (S.Update table sets cond))) NoComma Final
      (R.listed (key M.Comma) (assignment text)) (λ sets. R.bind (where_part text) (λ cond. R.empty (S.Update table sets cond)))
      (list_of NoComma good_assignment (λ t f. f) (λ t f. tt) (λ t e. tt) comma_end)
      (λ sets. good_last_where (S.Update table sets))
      (λ sets v w h. last_where_leads (S.Update table sets) NoComma (other M.Where M.Comma refl) v w h)
      (λ t f. f.7) final_end) final_end) final_end

  pub good_delete : Good (Delete text) Final (delete text)
  unfolding delete
  good_delete = word M.From refl (named (λ table. good_last_where (S.Delete table)) final_end) final_end

-- ---- SELECT

pub column_end : (t : Token) × AfterColumn t
column_end = (of (L.Mark M.Semicolon), refl)

dot : (m : Mark) → flag (is m (L.Mark M.Dot)) ≡ None → (t : Token) (u : Unit {0}) → key m t ≡ Some u → AfterColumn t
dot m none = other m M.Dot none

good_argument : Good Argument AfterColumn argument
unfolding argument
good_argument = word M.Open refl (good_then Column (λ c. G.Bind (G.Token (key M.Close)) (λ _. G.Empty c)) AfterColumn AfterColumn column (λ c. expects M.Close (R.empty c)) good_column
    (λ c. word M.Close refl (good_empty c AfterColumn) column_end) (λ c v w h. begins_word M.Close AfterColumn (dot M.Close refl) w h) column_end) column_end

map_apart : (f : ColumnName → Item) (m : Mark) → name_in (L.Mark m) ≡ None → (v : Item) (w : List Token) → G.Bind Column (λ c. G.Empty (f c)) v w → Begins (λ t. is m t.lexeme ≡ false) w
map_apart f m none v w h = begins_bind Column (λ c. G.Empty (f c)) (λ t. is m t.lexeme ≡ false) (column_apart m none) v w h

good_plain : (f : ColumnName → Item) → Good (G.Bind Column (λ c. G.Empty (f c))) AfterColumn (R.bind column (λ c. R.empty (f c)))
good_plain f = good_map Column f AfterColumn column good_column column_end

good_all_or_column : Good (G.Either (G.Bind (G.Token (key M.Star)) (λ _. G.Empty I.CountAll)) (G.Bind Column (λ c. G.Empty (I.Count c)))) AfterColumn all_or_column
unfolding all_or_column
good_all_or_column = or_word M.Star refl (good_empty I.CountAll AfterColumn) (good_plain I.Count) (map_apart I.Count M.Star refl) column_end

good_counted : Good Counted AfterColumn counted
unfolding counted
good_counted = word M.Open refl (good_then (G.Either (G.Bind (G.Token (key M.Star)) (λ _. G.Empty I.CountAll)) (G.Bind Column (λ c. G.Empty (I.Count c))))
    (λ found. G.Bind (G.Token (key M.Close)) (λ _. G.Empty found)) AfterColumn AfterColumn all_or_column (λ found. expects M.Close (R.empty found)) good_all_or_column
    (λ found. word M.Close refl (good_empty found AfterColumn) column_end) (λ found v w h. begins_word M.Close AfterColumn (dot M.Close refl) w h) column_end) column_end

good_of : (f : ColumnName → Item) → Good (G.Bind Argument (λ c. G.Empty (f c))) AfterColumn (R.bind argument (λ c. R.empty (f c)))
good_of f = good_map Argument f AfterColumn argument good_argument column_end

abbrev Greatest : Item → List Token → Type 0
Greatest = G.Either (G.Bind (G.Token (key M.Max)) (λ _. G.Bind Argument (λ c. G.Empty (I.Max c)))) (G.Bind Column (λ c. G.Empty (I.Column c)))

abbrev Least : Item → List Token → Type 0
Least = G.Either (G.Bind (G.Token (key M.Min)) (λ _. G.Bind Argument (λ c. G.Empty (I.Min c)))) Greatest

abbrev Summed : Item → List Token → Type 0
Summed = G.Either (G.Bind (G.Token (key M.Sum)) (λ _. G.Bind Argument (λ c. G.Empty (I.Sum c)))) Least

greatest_apart : (m : Mark) → flag (is M.Max (L.Mark m)) ≡ None → name_in (L.Mark m) ≡ None → (v : Item) (w : List Token) → Greatest v w → Begins (λ t. is m t.lexeme ≡ false) w
greatest_apart m a none v w (inl h) = begins_word M.Max (λ t. is m t.lexeme ≡ false) (other M.Max m a) w h
greatest_apart m a none v w (inr h) = map_apart I.Column m none v w h

least_apart : (m : Mark) → flag (is M.Min (L.Mark m)) ≡ None → flag (is M.Max (L.Mark m)) ≡ None → name_in (L.Mark m) ≡ None → (v : Item) (w : List Token) → Least v w
    → Begins (λ t. is m t.lexeme ≡ false) w
least_apart m a b none v w (inl h) = begins_word M.Min (λ t. is m t.lexeme ≡ false) (other M.Min m a) w h
least_apart m a b none v w (inr h) = greatest_apart m b none v w h

summed_apart : (m : Mark) → flag (is M.Sum (L.Mark m)) ≡ None → flag (is M.Min (L.Mark m)) ≡ None → flag (is M.Max (L.Mark m)) ≡ None → name_in (L.Mark m) ≡ None
    → (v : Item) (w : List Token) → Summed v w → Begins (λ t. is m t.lexeme ≡ false) w
summed_apart m a b c none v w (inl h) = begins_word M.Sum (λ t. is m t.lexeme ≡ false) (other M.Sum m a) w h
summed_apart m a b c none v w (inr h) = least_apart m b c none v w h

good_greatest : Good Greatest AfterColumn greatest
unfolding greatest
good_greatest = or_word M.Max refl (good_of I.Max) (good_plain I.Column) (map_apart I.Column M.Max refl) column_end

good_least : Good Least AfterColumn least
unfolding least
good_least = or_word M.Min refl (good_of I.Min) good_greatest (greatest_apart M.Min refl refl) column_end

good_summed : Good Summed AfterColumn summed
unfolding summed
good_summed = or_word M.Sum refl (good_of I.Sum) good_least (least_apart M.Sum refl refl refl) column_end

pub good_item : Good OneItem AfterColumn item
unfolding item
good_item = or_word M.Count refl good_counted good_summed (summed_apart M.Count refl refl refl refl) column_end

-- after a table's name
abbrev AfterSource : Token → Type 0
AfterSource t = (is M.Dot t.lexeme ≡ false) × (is M.Inner t.lexeme ≡ false) × (is M.Join t.lexeme ≡ false)

source_end : (t : Token) × AfterSource t
source_end = (of (L.Mark M.Semicolon), (refl, refl, refl))

after_source : (m : Mark) → flag (is m (L.Mark M.Dot)) ≡ None → flag (is m (L.Mark M.Inner)) ≡ None → flag (is m (L.Mark M.Join)) ≡ None → (t : Token) (u : Unit {0})
    → key m t ≡ Some u → AfterSource t
after_source m a b c t u e = (other m M.Dot a t u e, other m M.Inner b t u e, other m M.Join c t u e)

good_joins : (left : List ℕ) → Good (Joins left) AfterSource (joins left)
unfolding joins
good_joins left = named (λ right. word M.On refl (good_then Column (λ on. G.Bind (G.Token (key M.Equal)) (λ _. G.Bind Column (λ equals. G.Empty (F.Join left right on equals)))) AfterColumn AfterSource
    column (λ on. expects M.Equal (R.bind column (λ equals. R.empty (F.Join left right on equals)))) good_column
    (λ on. word M.Equal refl (good_map Column (F.Join left right on) AfterSource column (good_under Column AfterColumn AfterSource column good_column (λ t f. f.0)) source_end) source_end)
    (λ on v w h. begins_word M.Equal AfterColumn (dot M.Equal refl) w h) source_end) source_end) source_end

good_joined_or : (a : List ℕ) → Good (G.Either (G.Bind (G.Token (key M.Join)) (λ _. Joins a)) (G.Empty (F.Table a))) AfterSource (joined_or a)
unfolding joined_or
good_joined_or a = good_keyed_or (key M.Join) tt (of (L.Mark M.Join)) refl (λ _. Joins a) (G.Empty (F.Table a)) AfterSource (λ _. joins a) (R.empty (F.Table a))
    (λ _. good_joins a) (good_empty (F.Table a) AfterSource) (λ v w h. inl h.1) (λ v h t f. no_key M.Join t.lexeme f.2) source_end

good_behind : (a : List ℕ) → Good (AfterName a) AfterSource (behind a)
unfolding behind
good_behind a = good_keyed_or (key M.Inner) tt (of (L.Mark M.Inner)) refl (λ _. G.Bind (G.Token (key M.Join)) (λ _. Joins a)) (G.Either (G.Bind (G.Token (key M.Join)) (λ _. Joins a)) (G.Empty (F.Table a)))
    AfterSource (λ _. expects M.Join (joins a)) (joined_or a) (λ _. word M.Join refl (good_joins a) source_end) (good_joined_or a) no_inner (λ v h t f. no_key M.Inner t.lexeme f.1) source_end where
      no_inner : (v : Source) (w : List Token) → G.Either (G.Bind (G.Token (key M.Join)) (λ _. Joins a)) (G.Empty (F.Table a)) v w → Leads (λ t. is_some (key M.Inner t) ≡ false) w
      no_inner v w (inl h) = inr (begins_word M.Join (λ t. is_some (key M.Inner t) ≡ false) (λ t u e. no_key M.Inner t.lexeme (other M.Join M.Inner refl t u e)) w h)
      no_inner v w (inr h) = inl h.1

good_sources : (b : Bool) (a : List ℕ) → Good (Sources b a) AfterSource (sources b a)
unfolding sources
good_sources true a = good_behind a
good_sources false a = good_empty (F.Table a) AfterSource

good_group : Good Group Final group
unfolding group
good_group = good_perhaps (key M.Group) (of (L.Mark M.Group)) refl (G.Bind (G.Token (key M.By)) (λ _. Column)) Final (expects M.By column)
    (word M.By refl (good_under Column AfterColumn Final column good_column (λ t f. f.0)) final_end) (λ t f. no_key M.Group t.lexeme f.4) final_end

good_groups : (s : Source) → Good (Groups s) Final (groups s)
unfolding groups
good_groups (F.Table a) = good_group
good_groups (F.Join left right on equals) = good_empty None Final

groups_lead : (s : Source) (v : Option ColumnName) (w : List Token) → Groups s v w → Leads AfterWhere w
groups_lead (F.Table a) v w h = leads_perhaps (key M.Group) (G.Bind (G.Token (key M.By)) (λ _. Column)) AfterWhere
    (λ t u e. ((other M.Group M.Dot refl t u e, other M.Group M.And refl t u e, other M.Group M.Or refl t u e), other M.Group M.Where refl t u e)) v w h
groups_lead (F.Join left right on equals) v w h = inl h.1

final_source : (t : Token) → Final t → AfterSource t
final_source t f = (f.0, f.5, f.6)

groups_source : (s : Source) (v : Option ColumnName) (w : List Token) → Groups s v w → Leads AfterSource w
groups_source (F.Table a) v w h = leads_perhaps (key M.Group) (G.Bind (G.Token (key M.By)) (λ _. Column)) AfterSource (after_source M.Group refl refl refl) v w h
groups_source (F.Join left right on equals) v w h = inl h.1

module _ (text : List ℕ) where
  good_starred : Good (Starred text) Final (starred text)
  unfolding starred
  good_starred = word M.From refl (named (λ a. good_before (AfterName a) (λ source. G.Bind (Where text) (λ cond. G.Empty (rows None source cond))) AfterSource Final
      (behind a) (λ source. R.bind (where_part text) (λ cond. R.empty (rows None source cond))) (good_behind a)
      (λ source. good_last_where text (λ cond. rows None source cond))
      (λ source v w h. last_where_leads text (λ cond. rows None source cond) AfterSource (after_source M.Where refl refl refl) v w h)
      final_source final_end) final_end) final_end

  abbrev Ending : List Item → Source → Stmt → List Token → Type 0
  Ending items source = G.Bind (Where text) (λ cond. G.Bind (Groups source) (λ found. G.Empty (of_items items source cond found)))

  good_ending : (items : List Item) (source : Source) → Good (Ending items source) Final
      (R.bind (where_part text) (λ cond. R.bind (groups source) (λ found. R.empty (of_items items source cond found))))
  good_ending items source = good_before (Where text) (λ cond. G.Bind (Groups source) (λ found. G.Empty (of_items items source cond found))) AfterWhere Final
      (where_part text) (λ cond. R.bind (groups source) (λ found. R.empty (of_items items source cond found))) (good_where text)
      (λ cond. good_map (Groups source) (of_items items source cond) Final (groups source) (good_groups source) final_end)
      (λ cond v w h. leads_bind (Groups source) (λ found. G.Empty (of_items items source cond found)) AfterWhere (groups_lead source) (λ u v w e. inl e.1) v w h)
      after_where final_end

  ending_leads : (items : List Item) (source : Source) (v : Stmt) (w : List Token) → Ending items source v w → Leads AfterSource w
  ending_leads items source v w h = leads_bind (Where text) (λ cond. G.Bind (Groups source) (λ found. G.Empty (of_items items source cond found))) AfterSource
      (where_leads text AfterSource (after_source M.Where refl refl refl))
      (λ cond v w k. leads_bind (Groups source) (λ found. G.Empty (of_items items source cond found)) AfterSource (groups_source source) (λ u v w e. inl e.1) v w k) v w h

  abbrev ItemsEnd : Token → Type 0
  ItemsEnd t = (is M.Dot t.lexeme ≡ false) × (is M.Comma t.lexeme ≡ false)

  good_itemized : Good (Itemized text) Final (itemized text)
  unfolding itemized
  good_itemized = good_then (G.Listed (key M.Comma) OneItem)
      (λ items. G.Bind (G.Token (key M.From)) (λ _. G.Bind (G.Token name_of) (λ a. G.Bind (Sources (all_columns items) a) (Ending items)))) ItemsEnd Final
      (R.listed (key M.Comma) item)
      (λ items. expects M.From (R.bind (R.token name_of) (λ a. R.bind (sources (all_columns items) a) (λ source.
      R.bind (where_part text) (λ cond. R.bind (groups source) (λ found. R.empty (of_items items source cond found)))))))
      (list_of ItemsEnd good_item (λ t f. f.1) (λ t f. f.0) (other_some M.Comma M.Dot refl) (of (L.Mark M.Semicolon), (refl, refl)))
      (λ items. word M.From refl (named (λ a. good_before (Sources (all_columns items) a) (Ending items) AfterSource Final
      (sources (all_columns items) a) (λ source. R.bind (where_part text) (λ cond. R.bind (groups source) (λ found. R.empty (of_items items source cond found))))
      (good_sources (all_columns items) a) (good_ending items) (ending_leads items) final_source final_end) final_end) final_end)
      (λ items v w h. begins_word M.From ItemsEnd (λ t u e. (other M.From M.Dot refl t u e, other M.From M.Comma refl t u e)) w h) final_end

item_apart : (m : Mark) → flag (is M.Count (L.Mark m)) ≡ None → flag (is M.Sum (L.Mark m)) ≡ None → flag (is M.Min (L.Mark m)) ≡ None → flag (is M.Max (L.Mark m)) ≡ None
    → name_in (L.Mark m) ≡ None → (v : Item) (w : List Token) → OneItem v w → Begins (λ t. is m t.lexeme ≡ false) w
item_apart m a b c d none v w (inl h) = begins_word M.Count (λ t. is m t.lexeme ≡ false) (other M.Count m a) w h
item_apart m a b c d none v w (inr h) = summed_apart m b c d none v w h

items_begin : (items : List Item) (w : List Token) → G.Listed (key M.Comma) OneItem items w → Begins (λ t. is M.Star t.lexeme ≡ false) w
items_begin items w h = begins_bind OneItem (λ u v. G.Iter (G.Next (key M.Comma) (λ s v. s ++ v ∷ []) OneItem) (u ∷ []) v) (λ t. is M.Star t.lexeme ≡ false)
    (item_apart M.Star refl refl refl refl refl) items w h

module _ (text : List ℕ) where
  itemized_begins : (v : Stmt) (w : List Token) → Itemized text v w → Begins (λ t. is M.Star t.lexeme ≡ false) w
  itemized_begins v w h = begins_bind (G.Listed (key M.Comma) OneItem)
      (λ items. G.Bind (G.Token (key M.From)) (λ _. G.Bind (G.Token name_of) (λ a. G.Bind (Sources (all_columns items) a) (Ending text items)))) (λ t. is M.Star t.lexeme ≡ false) items_begin v w h

  good_selection : Good (Selection text) Final (selection text)
  unfolding selection
  good_selection = or_word M.Star refl (good_starred text) (good_itemized text) itemized_begins final_end

  abbrev Dropping : Stmt → List Token → Type 0
  Dropping = G.Either (G.Bind (G.Token (key M.Drop)) (λ _. Drop)) (G.Bind (G.Token (key M.Select)) (λ _. Selection text))

  abbrev Deleting : Stmt → List Token → Type 0
  Deleting = G.Either (G.Bind (G.Token (key M.Delete)) (λ _. Delete text)) Dropping

  abbrev Updating : Stmt → List Token → Type 0
  Updating = G.Either (G.Bind (G.Token (key M.Update)) (λ _. Update text)) Deleting

  abbrev Inserting : Stmt → List Token → Type 0
  Inserting = G.Either (G.Bind (G.Token (key M.Insert)) (λ _. Insert text)) Updating

  selecting_apart : (m : Mark) → flag (is M.Select (L.Mark m)) ≡ None → (v : Stmt) (w : List Token) → G.Bind (G.Token (key M.Select)) (λ _. Selection text) v w
      → Begins (λ t. is m t.lexeme ≡ false) w
  selecting_apart m a v w h = begins_word M.Select (λ t. is m t.lexeme ≡ false) (other M.Select m a) w h

  dropping_apart : (m : Mark) → flag (is M.Drop (L.Mark m)) ≡ None → flag (is M.Select (L.Mark m)) ≡ None → (v : Stmt) (w : List Token) → Dropping v w → Begins (λ t. is m t.lexeme ≡ false) w
  dropping_apart m a b v w (inl h) = begins_word M.Drop (λ t. is m t.lexeme ≡ false) (other M.Drop m a) w h
  dropping_apart m a b v w (inr h) = selecting_apart m b v w h

  deleting_apart : (m : Mark) → flag (is M.Delete (L.Mark m)) ≡ None → flag (is M.Drop (L.Mark m)) ≡ None → flag (is M.Select (L.Mark m)) ≡ None
      → (v : Stmt) (w : List Token) → Deleting v w → Begins (λ t. is m t.lexeme ≡ false) w
  deleting_apart m a b c v w (inl h) = begins_word M.Delete (λ t. is m t.lexeme ≡ false) (other M.Delete m a) w h
  deleting_apart m a b c v w (inr h) = dropping_apart m b c v w h

  updating_apart : (m : Mark) → flag (is M.Update (L.Mark m)) ≡ None → flag (is M.Delete (L.Mark m)) ≡ None → flag (is M.Drop (L.Mark m)) ≡ None → flag (is M.Select (L.Mark m)) ≡ None
      → (v : Stmt) (w : List Token) → Updating v w → Begins (λ t. is m t.lexeme ≡ false) w
  updating_apart m a b c d v w (inl h) = begins_word M.Update (λ t. is m t.lexeme ≡ false) (other M.Update m a) w h
  updating_apart m a b c d v w (inr h) = deleting_apart m b c d v w h

  inserting_apart : (v : Stmt) (w : List Token) → Inserting v w → Begins (λ t. is M.Create t.lexeme ≡ false) w
  inserting_apart v w (inl h) = begins_word M.Insert (λ t. is M.Create t.lexeme ≡ false) (other M.Insert M.Create refl) w h
  inserting_apart v w (inr h) = updating_apart M.Create refl refl refl refl v w h

  good_dropping : Good Dropping Final (dropping text)
  unfolding dropping
  good_dropping = or_word M.Drop refl good_drop (word M.Select refl good_selection final_end) (selecting_apart M.Drop refl) final_end

  good_deleting : Good Deleting Final (deleting text)
  unfolding deleting
  good_deleting = or_word M.Delete refl (good_delete text) good_dropping (dropping_apart M.Delete refl refl) final_end

  good_updating : Good Updating Final (updating text)
  unfolding updating
  good_updating = or_word M.Update refl (good_update text) good_deleting (deleting_apart M.Update refl refl refl) final_end

  good_inserting : Good Inserting Final (inserting text)
  unfolding inserting
  good_inserting = or_word M.Insert refl (good_insert text) good_updating (updating_apart M.Insert refl refl refl refl) final_end

  good_body : Good (Body text) Final (body text)
  unfolding body
  good_body = or_word M.Create refl good_create good_inserting inserting_apart final_end

  pub good_statement : Good (Statement text) Whatever (statement text)
  unfolding statement Statement
  good_statement = good_then (Body text) (λ s. G.Bind (G.Token (key M.Semicolon)) (λ _. G.Empty s)) Final Whatever (body text) (λ s. expects M.Semicolon (R.empty s)) good_body
      (λ s. word M.Semicolon refl (good_empty s Whatever) any_end)
      (λ s v w h. begins_word M.Semicolon Final (λ t u e. (
        other M.Semicolon M.Dot refl t u e,
        other M.Semicolon M.And refl t u e,
        other M.Semicolon M.Or refl t u e,
        other M.Semicolon M.Where refl t u e,
        other M.Semicolon M.Group refl t u e,
        other M.Semicolon M.Inner refl t u e,
        other M.Semicolon M.Join refl t u e,
        other M.Semicolon M.Comma refl t u e,
        other M.Semicolon M.Indexed refl t u e,
      )) w h) any_end

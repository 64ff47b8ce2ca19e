-- What the parser computes on the tokens of a text.
use Rattle.std.specs.Prelude.{◌≡◌, ℕ, zero, suc, List, [], ◌∷◌, Bool, false, Option, Some, None, is_some, Result, Ok, Err, ⊤}
use Rattle.std.specs.Borrow.{Bor}
use Rattle.std.specs.Global.{Box}
use Rattle.ob_grammar.specs.Reader as R
use Rattle.ob_base.specs.declared.skeleton.ColumnName.{ColumnName}
use Rattle.ob_sql.specs.declared.stmt.Against.{Against}
use Rattle.ob_sql.specs.declared.stmt.Against.TheVariants as A
use Rattle.ob_sql.specs.declared.stmt.CondTree.{CondTree}
use Rattle.ob_sql.specs.declared.stmt.Literal.{Literal}
use Rattle.ob_token.specs.declared.token.Mark.TheVariants as M
use Rattle.ob_token.specs.declared.token.Token.{Token}
use Rattle.ob_condition.specs.declared.reader.Fault.{Fault}
use Rattle.ob_condition.specs.declared.reader.Fault.TheVariants.{Memory, Stuck}
use Rattle.ob_sql.specs.Search.{Search, search_of, Compare, Not, And, Or}
use Rattle.ob_condition.specs.Marks.{key, literal_of, name_of, number_of, order_of, sign_of, signed}
use Rattle.ob_condition.specs.Conditions.{bare, qualified}

-- what reading tokens gives: a value and the tokens after it, or the tokens at which it is stuck
abbrev pub Read : Type 0 → Type 0
Read V = Result (V × List Token) (List Token)

-- the condition of a tree in a box
abbrev pub search_in : Box CondTree → Search
search_in tree = search_of tree.value

-- the code's answer is what reading gives, unless memory ran out
abbrev pub Fails : {V : Type 0} → Fault → Read V → Type 0
Fails Memory read = Unit {0}
Fails (Stuck rest) read = read ≡ Err rest.now

-- the answer is not want of memory
abbrev pub IsStuck : Fault → Type 0
IsStuck Memory = ⊥
IsStuck (Stuck rest) = ⊤

abbrev pub Gives : {U V : Type 0} → (U → V) → Result (U × Bor (List Token)) Fault → Read V → Type 0
Gives view (Ok p) read = read ≡ Ok (view p.0, p.1.now)
Gives view (Err fault) read = Fails fault read

abbrev pub Takes : Result (Bor (List Token)) Fault → Read (Unit {0}) → Type 0
Takes (Ok rest) read = read ≡ Ok (tt, rest.now)
Takes (Err fault) read = Fails fault read

-- the tokens after the first one, where that is the one sought
abbrev pub Skips : {U : Type 0} → (Token → Option U) → List Token → Option (Bor (List Token)) → Type 0
Skips k ts None = (t : Token) (after : List Token) → ts ≡ t ∷ after → k t ≡ None
Skips {U} k ts (Some rest) = (t : Token) × (u : U) × (k t ≡ Some u) × (ts ≡ t ∷ rest.now)

-- the first token's value and the tokens after it, where it has one
abbrev pub Begun : {U : Type 0} → (Token → Option U) → List Token → Option (U × Bor (List Token)) → Type 0
Begun k ts None = (t : Token) (after : List Token) → ts ≡ t ∷ after → k t ≡ None
Begun k ts (Some p) = (t : Token) × (k t ≡ Some p.0) × (ts ≡ t ∷ p.1.now)

-- whether there is a first token, of which p holds
abbrev pub begins : (Token → Bool) → List Token → Bool
begins p [] = false
begins p (t ∷ ts) = p t

unfoldable pub column : List Token → Read ColumnName
column = R.bind (R.token name_of) (λ a. R.choose (λ t. is_some (key M.Dot t)) (R.bind (R.token (key M.Dot)) (λ _. R.bind (R.token name_of) (λ b. R.empty (qualified a b)))) (R.empty (bare a)))

unfoldable pub constant : List ℕ → List Token → Read Literal
constant text = R.choose (λ t. is_some (sign_of t)) (R.bind (R.token sign_of) (λ minus. R.bind (R.token number_of) (λ n. R.empty (signed minus n)))) (R.token (literal_of text))

unfoldable pub operand : List ℕ → List Token → Read Against
operand text = R.choose (λ t. is_some (name_of t)) (R.bind column (λ c. R.empty (A.Column c))) (R.bind (constant text) (λ l. R.empty (A.Literal l)))

unfoldable pub comparison : List ℕ → List Token → Read Search
comparison text = R.bind column (λ c. R.bind (R.token order_of) (λ o. R.bind (operand text) (λ a. R.empty (Compare c o a))))

abbrev pub conj_of : (List Token → Read Search) → List Token → Read Search
conj_of p = R.chain (key M.And) (λ q. q) And p

abbrev pub cond_of : (List Token → Read Search) → List Token → Read Search
cond_of p = R.chain (key M.Or) (λ q. q) Or (conj_of p)

abbrev pub negated : (List Token → Read Search) → List Token → Read Search
negated p = R.bind (R.token (key M.Not)) (λ _. R.bind p (λ q. R.empty (Not q)))

abbrev pub grouped : (List Token → Read Search) → List Token → Read Search
grouped p = R.bind (R.token (key M.Open)) (λ _. R.bind (cond_of p) (λ q. R.bind (R.token (key M.Close)) (λ _. R.empty q)))

unfoldable pub prim : List ℕ → ℕ → List Token → Read Search
prim text zero = comparison text
prim text (suc depth) =
    R.choose (λ t. is_some (key M.Not t)) (negated (prim text depth)) (R.choose (λ t. is_some (key M.Open t)) (grouped (prim text depth)) (comparison text))

abbrev pub condition : List ℕ → ℕ → List Token → Read Search
condition text depth = cond_of (prim text depth)

unfoldable pub where_part : List ℕ → List Token → Read (Option Search)
where_part text = R.perhaps (key M.Where) (condition text 32)

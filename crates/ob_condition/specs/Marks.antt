-- What a token is in the grammar.
use Rattle.std.specs.Prelude.{ℕ, ◌+◌, ℤ, pos, ◌-ℤ◌, List, length, drop, Bool, true, false, ◌&&◌, nat_le, int_le, Option, Some, None, if◌then◌else◌}
use Rattle.ob_base.specs.declared.comparison.ComparisonOperator.{ComparisonOperator}
use Rattle.ob_base.specs.declared.comparison.ComparisonOperator.TheVariants as O
use Rattle.ob_sql.specs.declared.stmt.Literal.{Literal}
use Rattle.ob_sql.specs.declared.stmt.Literal.TheVariants as V
use Rattle.ob_token.specs.declared.token.Mark.{Mark}
use Rattle.ob_token.specs.declared.token.Mark.TheVariants as M
use Rattle.ob_token.specs.declared.token.Lexeme.{Lexeme}
use Rattle.ob_token.specs.declared.token.Lexeme.TheVariants as L
use Rattle.ob_token.specs.declared.token.Token.{Token}
use Rattle.ob_token.specs.contracts.token.MarkPartialEq.TheImpl as mark
use Rattle.ob_token.specs.Bytes.{unquoted}

abbrev pub is : Mark → Lexeme → Bool
is m (L.Mark n) = mark.ghosts.eq m n
is m (L.Name name) = false
is m (L.Number n) = false
is m L.Text = false
is m L.Bad = false

abbrev pub flag : Bool → Option (Unit {0})
flag true = Some tt
flag false = None

-- a keyword or a sign
abbrev pub key : Mark → Token → Option (Unit {0})
key m t = flag (is m t.lexeme)

abbrev pub name_in : Lexeme → Option (List ℕ)
name_in (L.Name name) = Some name
name_in (L.Mark m) = None
name_in (L.Number n) = None
name_in L.Text = None
name_in L.Bad = None

abbrev pub name_of : Token → Option (List ℕ)
name_of t = name_in t.lexeme

abbrev pub number_in : Lexeme → Option ℕ
number_in (L.Number n) = Some n
number_in (L.Mark m) = None
number_in (L.Name name) = None
number_in L.Text = None
number_in L.Bad = None

abbrev pub number_of : Token → Option ℕ
number_of t = number_in t.lexeme

-- of an enum's value by its mark
abbrev pub marked : {V : Type 0} → (Mark → Option V) → Lexeme → Option V
marked f (L.Mark m) = f m
marked f (L.Name name) = None
marked f (L.Number n) = None
marked f L.Text = None
marked f L.Bad = None

abbrev pub order_mark : Mark → Option ComparisonOperator
order_mark M.Equal = Some O.Equal
order_mark M.NotEqual = Some O.NotEqual
order_mark M.Less = Some O.Less
order_mark M.LessOrEqual = Some O.LessOrEqual
order_mark M.Greater = Some O.Greater
order_mark M.GreaterOrEqual = Some O.GreaterOrEqual
order_mark m = None

abbrev pub order_of : Token → Option ComparisonOperator
order_of t = marked order_mark t.lexeme

-- whether a sign makes a number negative
abbrev pub sign_mark : Mark → Option Bool
sign_mark M.Plus = Some false
sign_mark M.Minus = Some true
sign_mark m = None

abbrev pub sign_of : Token → Option Bool
sign_of t = marked sign_mark t.lexeme

-- ---- literals

-- an integer is kept where it fits 64 bits
abbrev pub held : ℤ → Literal
held x = if int_le (pos 0 -ℤ pos 9223372036854775808) x && int_le x (pos 9223372036854775807) then V.Int x else V.OutOfRange

abbrev pub signed : Bool → ℕ → Literal
signed false n = held (pos n)
signed true n = held (pos 0 -ℤ pos n)

-- a text is kept where it has at most 255 bytes
abbrev pub short_text : List ℕ → Literal
short_text bytes = if nat_le (length bytes) 255 then V.Text bytes else V.TooLong

-- the text whose opening quote stands there
abbrev pub text_at : List ℕ → ℕ → Literal
text_at text place = short_text (unquoted true (drop (place + 1) text))

abbrev pub plain_literal : List ℕ → Lexeme → ℕ → Option Literal
plain_literal text (L.Number n) place = Some (signed false n)
plain_literal text L.Text place = Some (text_at text place)
plain_literal text (L.Mark m) place = None
plain_literal text (L.Name name) place = None
plain_literal text L.Bad place = None

-- a literal that is one token
abbrev pub literal_of : List ℕ → Token → Option Literal
literal_of text t = plain_literal text t.lexeme t.from

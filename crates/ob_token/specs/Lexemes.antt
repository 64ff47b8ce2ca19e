-- The piece at the front of a text.
use Rattle.std.specs.Prelude.{ℕ, suc, List, [], ◌∷◌, length, map, ◌&&◌, ◌==◌, nat_le, Option, Some, None, true, if◌then◌else◌}
use Rattle.ob_token.specs.declared.token.Mark.{Mark}
use Rattle.ob_token.specs.declared.token.Lexeme.{Lexeme}
use Rattle.ob_token.specs.declared.token.Lexeme.TheVariants as L
use Rattle.ob_token.specs.declared.lex.Lexed.{Lexed}
use Rattle.ob_token.specs.Bytes.{all_digits, comment_len, is_blank, is_digit, is_run, lower, magnitude, quoted_len, run}
use Rattle.ob_token.specs.Words.{keyword, lone_sign, pair_sign}

abbrev pub named : Option Mark → List ℕ → Lexeme
named (Some m) w = L.Mark m
named None w = L.Name w

-- a keyword, or a name of at most 32 bytes
abbrev pub word_lexeme : List ℕ → Lexeme
word_lexeme w = if nat_le (length w) 32 then named (keyword (map lower w)) (map lower w) else L.Bad

abbrev pub number_lexeme : List ℕ → Lexeme
number_lexeme digits = if all_digits digits then L.Number (magnitude digits) else L.Bad

-- a run is a word unless it begins with a digit
abbrev pub run_lexeme : List ℕ → Lexeme
run_lexeme [] = L.Bad
run_lexeme (b ∷ bs) = if is_digit b then number_lexeme (b ∷ bs) else word_lexeme (b ∷ bs)

abbrev pub some_piece : ℕ → Lexeme → Lexed
some_piece n lexeme = record { len = n; lexeme = Some lexeme }

-- blanks and comments are no tokens
abbrev pub gap : ℕ → Lexed
gap n = record { len = n; lexeme = None }

abbrev pub text_piece : Option ℕ → Lexed
text_piece None = some_piece 1 L.Bad
text_piece (Some n) = some_piece (suc n) L.Text

abbrev pub lone_piece : Option Mark → Lexed
lone_piece None = some_piece 1 L.Bad
lone_piece (Some m) = some_piece 1 (L.Mark m)

abbrev pub sign_piece : Option Mark → ℕ → Lexed
sign_piece (Some m) a = some_piece 2 (L.Mark m)
sign_piece None a = lone_piece (lone_sign a)

-- the first byte, or 0 where there is none, which no sign has
abbrev pub first_byte : List ℕ → ℕ
first_byte [] = 0
first_byte (b ∷ bs) = b

abbrev pub piece : List ℕ → Lexed
piece [] = gap 0
piece (b ∷ bs) =
    if is_blank b then gap 1
    else if b == 45 && first_byte bs == 45 then gap (comment_len (b ∷ bs))
    else if is_run b then some_piece (length (run (b ∷ bs))) (run_lexeme (run (b ∷ bs)))
    else if b == 39 then text_piece (quoted_len 0 true bs)
    else sign_piece (pair_sign b (first_byte bs)) b

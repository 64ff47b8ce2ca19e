-- How many bytes a piece takes.
use Rattle.std.proofs.Common.{◌≡◌, ℕ, suc, ◌+◌, ◌≤◌, ◌<◌, List, [], ◌∷◌, length, take, drop, Bool, true, false, Option, Some, None, get_or, refl, sym, ◌∙◌, ap, subst, arith, eq-eqb}
use Rattle.std.proofs.lemmas.Bool.{ne_eqb}
use Rattle.ob_token.specs.declared.token.Mark.{Mark}
use Rattle.ob_token.specs.Words.{lone_sign, pair_sign}
use Rattle.ob_token.specs.Lexemes.{first_byte, gap, lone_piece, piece, run_lexeme, sign_piece, some_piece, text_piece}
use Rattle.std.proofs.Math.Seq.{drop-cons}
use Rattle.std.specs.Prelude.{◌==◌, ◌&&◌, if◌then◌else◌, not}
use Rattle.ob_token.specs.Bytes.{comment_len, is_blank, is_printable, is_run, quoted_len, run}

pub run_short : (bs : List ℕ) → length (run bs) ≤ length bs
run_short [] = omega arith
run_short (b ∷ bs) = go (is_run b) (run_short bs) where
  go : (v : Bool) → length (run bs) ≤ length bs → length (if v then b ∷ run bs else []) ≤ length (b ∷ bs)
  go true le = omega (arith, le)
  go false le = omega arith

pub run_taken : (bs : List ℕ) → take (length (run bs)) bs ≡ run bs
run_taken [] = refl
run_taken (b ∷ bs) = go (is_run b) (run_taken bs) where
  go : (v : Bool) → take (length (run bs)) bs ≡ run bs → take (length (if v then b ∷ run bs else [])) (b ∷ bs) ≡ (if v then b ∷ run bs else [])
  go true e = ap (λ xs. b ∷ xs) e
  go false e = refl

pub comment_short : (bs : List ℕ) → comment_len bs ≤ length bs
comment_short [] = omega arith
comment_short (b ∷ bs) = go (b == 10) (comment_short bs) where
  go : (v : Bool) → comment_len bs ≤ length bs → (if v then 1 else suc (comment_len bs)) ≤ length (b ∷ bs)
  go true le = omega (arith)
  go false le = omega (arith, le)

short_step : (n m : ℕ) (inside v w : Bool) (bs : List ℕ) → ((o : Bool) → quoted_len (suc n) o bs ≡ Some m → m ≤ suc n + length bs)
    → (if v then quoted_len (suc n) (not inside) bs else if inside then (if w then quoted_len (suc n) true bs else None) else Some n) ≡ Some m → m ≤ suc n + length bs
short_step n m inside true w bs ih e = ih (not inside) e
short_step n m true false true bs ih e = ih true e
short_step n m true false false bs ih e = absurd (cc e)
short_step n m false false w bs ih e = let same : n ≡ m = cc e in omega (arith, same)

pub quoted_short : (n m : ℕ) (inside : Bool) (bs : List ℕ) → quoted_len n inside bs ≡ Some m → m ≤ n + length bs
quoted_short n m true [] e = absurd (cc e)
quoted_short n m false [] e = let same : n ≡ m = cc e in omega (arith, same)
quoted_short n m true (b ∷ bs) e = omega (arith, short_step n m true (b == 39) (is_printable b) bs (λ o. quoted_short (suc n) m o bs) e)
quoted_short n m false (b ∷ bs) e = omega (arith, short_step n m false (b == 39) (is_printable b) bs (λ o. quoted_short (suc n) m o bs) e)

pub quote_turns : (n : ℕ) (inside : Bool) (b : ℕ) (bs : List ℕ) → (b == 39) ≡ true → quoted_len n inside (b ∷ bs) ≡ quoted_len (suc n) (not inside) bs
quote_turns n true b bs e = ap (λ v. if v then quoted_len (suc n) false bs else if is_printable b then quoted_len (suc n) true bs else None) e
quote_turns n false b bs e = ap (λ v. if v then quoted_len (suc n) true bs else Some n) e

pub no_quote : (n : ℕ) (b : ℕ) (bs : List ℕ) → (b == 39) ≡ false → is_printable b ≡ true → quoted_len n true (b ∷ bs) ≡ quoted_len (suc n) true bs
no_quote n b bs e f = ap (λ v. if v then quoted_len (suc n) false bs else if is_printable b then quoted_len (suc n) true bs else None) e
    ∙ ap (λ v. if v then quoted_len (suc n) true bs else None) f

-- what the loop over a text's bytes keeps
abbrev pub Quotes : List ℕ → ℕ → Bool → Type 0
Quotes bytes i inside = quoted_len 0 true bytes ≡ quoted_len i inside (drop i bytes)

step_on : (i : ℕ) → i + 1 ≡ suc i
step_on i = omega arith

pub quotes_turn : (bytes : List ℕ) (i : ℕ) (inside : Bool) → i < length bytes → get_or bytes i 0 ≡ 39 → Quotes bytes i inside → Quotes bytes (i + 1) (not inside)
quotes_turn bytes i inside lt e k =
    subst (λ j. Quotes bytes j (not inside)) (sym (step_on i))
    (k ∙ ap (quoted_len i inside) (drop-cons bytes i 0 lt) ∙ quote_turns i inside (get_or bytes i 0) (drop (suc i) bytes) (eq-eqb (get_or bytes i 0) 39 e))

pub quotes_on : (bytes : List ℕ) (i : ℕ) (inside found : Bool) → i < length bytes → (get_or bytes i 0 ≡ 39 → ⊥) → inside ≡ true → found ≡ true
    → found ≡ is_printable (get_or bytes i 0) → Quotes bytes i inside → Quotes bytes (i + 1) inside
quotes_on bytes i inside found lt other open_is found_is shows k =
    subst (λ o. Quotes bytes (i + 1) o) (sym open_is)
    (subst (λ j. Quotes bytes j true) (sym (step_on i))
    (k ∙ ap (λ o. quoted_len i o (drop i bytes)) open_is ∙ ap (quoted_len i true) (drop-cons bytes i 0 lt)
    ∙ no_quote i (get_or bytes i 0) (drop (suc i) bytes) (ne_eqb (get_or bytes i 0) 39 other) (sym shows ∙ found_is)))

-- ---- a piece takes at least one byte, and no more than there are

abbrev Sized : ℕ → ℕ → Type 0
Sized n most = (n ≤ most) × (0 < n)

lone_sized : (n : ℕ) (found : Option Mark) → Sized (lone_piece found).len (suc n)
lone_sized n None = (omega arith, omega arith)
lone_sized n (Some m) = (omega arith, omega arith)

pair_sized : (a n : ℕ) (found : Option Mark) → Sized (sign_piece found a).len (suc (suc n))
pair_sized a n None = lone_sized (suc n) (lone_sign a)
pair_sized a n (Some m) = (omega arith, omega arith)

pub and_false : (v : Bool) → (v && false) ≡ false
and_false true = refl
and_false false = refl

pub no_pair : (a : ℕ) → pair_sign a 0 ≡ None
no_pair a = rw (and_false (a == 60), and_false (a == 33), and_false (a == 62)) refl

sign_sized : (a : ℕ) (bs : List ℕ) → Sized (sign_piece (pair_sign a (first_byte bs)) a).len (suc (length bs))
sign_sized a [] = subst (λ o. Sized (sign_piece o a).len 1) (sym (no_pair a)) (lone_sized 0 (lone_sign a))
sign_sized a (b ∷ bs) = pair_sized a (length bs) (pair_sign a b)

text_sized : (bs : List ℕ) (o : Option ℕ) → quoted_len 0 true bs ≡ o → Sized (text_piece o).len (suc (length bs))
text_sized bs None e = (omega arith, omega arith)
text_sized bs (Some n) e = (omega (arith, quoted_short 0 n true bs e), omega arith)

comment_sized : (b : ℕ) (bs : List ℕ) → Sized (comment_len (b ∷ bs)) (suc (length bs))
comment_sized b bs = (comment_short (b ∷ bs), go (b == 10)) where
  go : (v : Bool) → 0 < (if v then 1 else suc (comment_len bs))
  go true = omega arith
  go false = omega arith

run_sized : (b : ℕ) (bs : List ℕ) → is_run b ≡ true → Sized (length (run (b ∷ bs))) (suc (length bs))
run_sized b bs e = (run_short (b ∷ bs), subst (λ v. 0 < length (if v then b ∷ run bs else [])) (sym e) (omega arith))

sized : (b : ℕ) (bs : List ℕ) (blank comment in_run quote : Bool) → is_run b ≡ in_run → Sized
    (if blank then gap 1 else if comment then gap (comment_len (b ∷ bs)) else if in_run then some_piece (length (run (b ∷ bs))) (run_lexeme (run (b ∷ bs)))
    else if quote then text_piece (quoted_len 0 true bs) else sign_piece (pair_sign b (first_byte bs)) b).len (suc (length bs))
sized b bs true comment in_run quote e = (omega arith, omega arith)
sized b bs false true in_run quote e = comment_sized b bs
sized b bs false false true quote e = run_sized b bs e
sized b bs false false false true e = text_sized bs (quoted_len 0 true bs) refl
sized b bs false false false false e = sign_sized b bs

piece_sized : (b : ℕ) (bs : List ℕ) → Sized (piece (b ∷ bs)).len (suc (length bs))
piece_sized b bs = sized b bs (is_blank b) (b == 45 && first_byte bs == 45) (is_run b) (b == 39) refl

pub piece_fits : (bs : List ℕ) → (piece bs).len ≤ length bs
piece_fits [] = omega arith
piece_fits (b ∷ bs) = (piece_sized b bs).0

pub piece_moves : (bs : List ℕ) → 0 < length bs → 0 < (piece bs).len
piece_moves [] lt = absurd (omega (arith, lt))
piece_moves (b ∷ bs) lt = (piece_sized b bs).1

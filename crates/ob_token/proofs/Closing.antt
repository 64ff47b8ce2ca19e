-- Cutting and tokens agree on quotes and comments: of a cut text's tokens only the last byte's is a semicolon.
use Rattle.std.proofs.Common.{◌≡◌, ℕ, zero, suc, ◌+◌, ◌-◌, ◌≤◌, ◌<◌, List, [], ◌∷◌, length, map, take, drop, ◌⊎◌, inl, inr, Bool, true, false, Option, Some, None, is_some, refl, sym, ◌∙◌, ap, subst, arith, length-drop, length-take}
use Rattle.std.specs.Prelude.{◌==◌, ◌&&◌, nat_le, if◌then◌else◌, ⊤}
use Rattle.std.proofs.lemmas.Bool.{eqb-true}
use Rattle.std.specs.Str.{bytes_eq}
use Rattle.std.specs.Prelude.{codes}
use Rattle.ob_token.specs.declared.token.Mark.{Mark}
use Rattle.ob_token.specs.declared.token.Mark.TheVariants as M
use Rattle.ob_token.specs.declared.token.Lexeme.{Lexeme}
use Rattle.ob_token.specs.declared.token.Lexeme.TheVariants as L
use Rattle.ob_token.specs.declared.cut.Mode.{Mode}
use Rattle.ob_token.specs.declared.cut.Mode.TheVariants.{Plain, Dash, Comment, Quote}
use Rattle.ob_token.specs.declared.cut.Piece.TheVariants.{Stmt}
use Rattle.ob_token.specs.Bytes.{all_digits, comment_len, is_blank, is_digit, is_printable, is_run, lower, magnitude, quoted_len, run}
use Rattle.std.specs.Option.{option_or}
use Rattle.ob_token.specs.Words.{aggregate_word, clause_word, column_word, keyword, lone_sign, pair_sign, statement_word}
use Rattle.ob_token.specs.Lexemes.{first_byte, gap, lone_piece, named, piece, run_lexeme, sign_piece, some_piece, text_piece}
use Rattle.ob_token.specs.Tokens.{then_piece, tokens_from, tokens_of}
use Rattle.ob_token.specs.Cutting.{blanks, cut, cut_from, ended, ends_at, is_solid, mode_after, solid_after}
use Rattle.ob_token.specs.Closing.{SemicolonsEndAt}
use Rattle.ob_token.proofs.Lexed.{at_piece}
use Rattle.ob_token.proofs.Pieces.{and_false, no_pair, piece_fits, piece_moves}

-- ---- bytes that end with the semicolon at which they are cut

abbrev Then : Bool → List ℕ → Type 0 → Type 0
Then true bs rest = bs ≡ []
Then false bs rest = rest

abbrev Closed : Mode → List ℕ → Type 0
Closed mode [] = ⊥
Closed mode (b ∷ bs) = Then (ends_at mode b) bs (Closed (mode_after mode b) bs)

ended_at : (from at : ℕ) (solid : Bool) (f to : ℕ) → ended from at solid ≡ Stmt f to → (to ≡ at) × (f ≡ from)
ended_at from at true f to e = (cc e, cc e)
ended_at from at false f to e = absurd (cc e)

cut_closes : (from at : ℕ) (mode : Mode) (solid : Bool) (bs : List ℕ) (f to : ℕ) → cut_from from at mode solid bs ≡ Stmt f to
    → (at < to) × (to ≤ at + length bs) × (f ≡ from) × Closed mode (take (to - at) bs)
unfolding cut_from
cut_closes from at mode solid [] f to e = absurd (cc e)
cut_closes from at mode solid (b ∷ bs) f to e = go (λ s h. cut_closes from (suc at) (mode_after mode b) s bs f to h) (ends_at mode b) refl e where
  go : ((s : Bool) → cut_from from (suc at) (mode_after mode b) s bs ≡ Stmt f to → (suc at < to) × (to ≤ suc at + length bs) × (f ≡ from) × Closed (mode_after mode b) (take (to - suc at) bs))
      → (v : Bool) → ends_at mode b ≡ v → (if v then ended from (suc at) (is_solid mode solid) else cut_from from (suc at) (mode_after mode b) (solid_after mode solid b) bs) ≡ Stmt f to
      → (at < to) × (to ≤ at + suc (length bs)) × (f ≡ from) × Closed mode (take (to - at) (b ∷ bs))
  go ih true h e =
      let same = ended_at from (suc at) (is_solid mode solid) f to e in
      let one : to - at ≡ 1 = omega (arith, same.0) in
      (omega (arith, same.0), omega (arith, same.0), same.1, subst (λ n. Closed mode (take n (b ∷ bs))) (sym one) (subst (λ v. Then v [] (Closed (mode_after mode b) [])) (sym h) refl))
  go ih false h e =
      let more = ih (solid_after mode solid b) e in
      let one : to - at ≡ suc (to - suc at) = omega (arith, more.0) in (
        omega (arith, more.0),
        omega (arith, more.1),
        more.2,
        subst (λ n. Closed mode (take n (b ∷ bs))) (sym one)
            (subst (λ v. Then v (take (to - suc at) bs) (Closed (mode_after mode b) (take (to - suc at) bs))) (sym h) more.3),
      )

-- ---- bytes that are nothing to a cut

not_this : (p : ℕ → Bool) (n : ℕ) → p n ≡ false → (b : ℕ) → p b ≡ true → (b == n) ≡ false
not_this p n e b f = go (b == n) refl where
  go : (v : Bool) → (b == n) ≡ v → v ≡ false
  go false h = refl
  go true h = let both : true ≡ false = sym f ∙ ap p (eqb-true b n h) ∙ e in absurd (cc both)

plain_on : (b : ℕ) (bs : List ℕ) → (b == 59) ≡ false → (b == 39) ≡ false → (b == 45) ≡ false → Closed Plain (b ∷ bs) → Closed Plain bs
plain_on b bs e f g c = subst (λ m. Closed m bs) (ap (λ v. if v then Quote else if b == 45 then Dash else Plain) f ∙ ap (λ v. if v then Dash else Plain) g)
    (subst (λ v. Then v bs (Closed (mode_after Plain b) bs)) e c)

-- after a dash, what isn't one
dash_plain : (bs : List ℕ) → (first_byte bs == 45) ≡ false → Closed Dash bs → Closed Plain bs
dash_plain [] e c = c
dash_plain (b ∷ bs) e c = subst (λ m. Then (b == 59) bs (Closed m bs)) (ap (λ v. if v then Comment else if b == 39 then Quote else Plain) e
    ∙ ap (λ v. if b == 39 then Quote else if v then Dash else Plain) (sym e)) c

in_comment : (bs : List ℕ) → Closed Comment bs → Closed Plain (drop (comment_len bs) bs)
in_comment [] c = absurd c
in_comment (b ∷ bs) c = go (in_comment bs) (b == 10) c where
  go : (Closed Comment bs → Closed Plain (drop (comment_len bs) bs)) → (v : Bool) → Closed (if v then Plain else Comment) bs → Closed Plain (drop (if v then 1 else suc (comment_len bs)) (b ∷ bs))
  go ih true c = c
  go ih false c = ih c

comment_after : (b : ℕ) (bs : List ℕ) → b ≡ 45 → first_byte bs ≡ 45 → Closed Plain (b ∷ bs) → Closed Plain (drop (comment_len (b ∷ bs)) (b ∷ bs))
comment_after b [] e f c = absurd (cc f)
comment_after b (d ∷ bs) e f c =
    let dashes : Closed Plain (45 ∷ 45 ∷ bs) = subst (λ n. Closed Plain (45 ∷ n ∷ bs)) f (subst (λ n. Closed Plain (n ∷ d ∷ bs)) e c) in
    subst (λ n. Closed Plain (drop (comment_len (n ∷ d ∷ bs)) (n ∷ d ∷ bs))) (sym e)
    (subst (λ n. Closed Plain (drop (comment_len (45 ∷ n ∷ bs)) (45 ∷ n ∷ bs))) (sym f) (in_comment bs dashes))

run_after : (bs : List ℕ) → Closed Plain bs → Closed Plain (drop (length (run bs)) bs)
run_after [] c = c
run_after (b ∷ bs) c = go (run_after bs) (is_run b) refl where
  go : (Closed Plain bs → Closed Plain (drop (length (run bs)) bs)) → (v : Bool) → is_run b ≡ v → Closed Plain (drop (length (if v then b ∷ run bs else [])) (b ∷ bs))
  go ih true e = ih (plain_on b bs (not_this is_run 59 refl b e) (not_this is_run 39 refl b e) (not_this is_run 45 refl b e) c)
  go ih false e = c

abbrev text_mode : Bool → Mode
text_mode true = Quote
text_mode false = Plain

quotes : (k m : ℕ) (inside : Bool) (bs : List ℕ) → Closed (text_mode inside) bs → quoted_len k inside bs ≡ Some m → (j : ℕ) × (m ≡ k + j) × Closed Plain (drop j bs)
quotes k m true [] c e = absurd c
quotes k m false [] c e = absurd c
quotes k m true (b ∷ bs) c e = go (λ o. quotes (suc k) m o bs) (b == 39) (is_printable b) c e where
  go : ((o : Bool) → Closed (text_mode o) bs → quoted_len (suc k) o bs ≡ Some m → (j : ℕ) × (m ≡ suc k + j) × Closed Plain (drop j bs)) → (v w : Bool) → Closed (if v then Plain else Quote) bs → (if v then quoted_len (suc k) false bs else if w then quoted_len (suc k) true bs else None) ≡ Some m
      → (j : ℕ) × (m ≡ k + j) × Closed Plain (drop j (b ∷ bs))
  go ih true w c e = let more = ih false c e in (suc more.0, omega (arith, more.1), more.2)
  go ih false true c e = let more = ih true c e in (suc more.0, omega (arith, more.1), more.2)
  go ih false false c e = absurd (cc e)
quotes k m false (b ∷ bs) c e = go (λ o. quotes (suc k) m o bs) (b == 39) refl e where
  go : ((o : Bool) → Closed (text_mode o) bs → quoted_len (suc k) o bs ≡ Some m → (j : ℕ) × (m ≡ suc k + j) × Closed Plain (drop j bs)) → (v : Bool) → (b == 39) ≡ v → (if v then quoted_len (suc k) true bs else Some k) ≡ Some m → (j : ℕ) × (m ≡ k + j) × Closed Plain (drop j (b ∷ bs))
  go ih true h e = let more = ih true (subst (λ n. Closed Plain (n ∷ bs)) (eqb-true b 39 h) c) e in (suc more.0, omega (arith, more.1), more.2)
  go ih false h e = let same : k ≡ m = cc e in (0, omega (arith, same), c)

-- ---- words and signs that are no semicolon

abbrev other : Mark → Bool
other M.Semicolon = false
other m = true

abbrev none_or_other : Option Mark → Bool
none_or_other None = true
none_or_other (Some m) = other m

on : (v : Bool) (m : Mark) (rest : Option Mark) → other m ≡ true → none_or_other rest ≡ true → none_or_other (if v then Some m else rest) ≡ true
on true m rest e f = e
on false m rest e f = f

passed : (v : Bool) (m : Mark) (rest : Option Mark) → v ≡ false → none_or_other rest ≡ true → none_or_other (if v then Some m else rest) ≡ true
passed true m rest e f = absurd (cc e)
passed false m rest e f = f

either_other : (a b : Option Mark) → none_or_other a ≡ true → none_or_other b ≡ true → none_or_other (option_or a b) ≡ true
either_other (Some m) b e f = e
either_other None b e f = f

statement_other : (w : List ℕ) → none_or_other (statement_word w) ≡ true
statement_other w = on (bytes_eq w (codes "select")) M.Select _ refl (on (bytes_eq w (codes "insert")) M.Insert _ refl (on (bytes_eq w (codes "update")) M.Update _ refl
    (on (bytes_eq w (codes "delete")) M.Delete _ refl (on (bytes_eq w (codes "create")) M.Create _ refl (on (bytes_eq w (codes "drop")) M.Drop _ refl
    (on (bytes_eq w (codes "into")) M.Into _ refl (on (bytes_eq w (codes "values")) M.Values _ refl (on (bytes_eq w (codes "set")) M.Set _ refl refl))))))))

clause_other : (w : List ℕ) → none_or_other (clause_word w) ≡ true
clause_other w = on (bytes_eq w (codes "from")) M.From _ refl (on (bytes_eq w (codes "where")) M.Where _ refl (on (bytes_eq w (codes "group")) M.Group _ refl
    (on (bytes_eq w (codes "by")) M.By _ refl (on (bytes_eq w (codes "inner")) M.Inner _ refl (on (bytes_eq w (codes "join")) M.Join _ refl
    (on (bytes_eq w (codes "on")) M.On _ refl (on (bytes_eq w (codes "and")) M.And _ refl (on (bytes_eq w (codes "or")) M.Or _ refl refl))))))))

column_other : (w : List ℕ) → none_or_other (column_word w) ≡ true
column_other w = on (bytes_eq w (codes "not")) M.Not _ refl (on (bytes_eq w (codes "null")) M.Null _ refl (on (bytes_eq w (codes "table")) M.Table _ refl
    (on (bytes_eq w (codes "primary")) M.Primary _ refl (on (bytes_eq w (codes "key")) M.Key _ refl (on (bytes_eq w (codes "int")) M.Int _ refl
    (on (bytes_eq w (codes "integer")) M.Integer _ refl (on (bytes_eq w (codes "varchar")) M.Varchar _ refl (on (bytes_eq w (codes "capacity")) M.Capacity _ refl
    (on (bytes_eq w (codes "indexed")) M.Indexed _ refl refl)))))))))

aggregate_other : (w : List ℕ) → none_or_other (aggregate_word w) ≡ true
aggregate_other w = on (bytes_eq w (codes "count")) M.Count _ refl (on (bytes_eq w (codes "sum")) M.Sum _ refl (on (bytes_eq w (codes "min")) M.Min _ refl
    (on (bytes_eq w (codes "max")) M.Max _ refl refl)))

keyword_other : (w : List ℕ) → none_or_other (keyword w) ≡ true
keyword_other w = either_other (statement_word w) (option_or (clause_word w) (option_or (column_word w) (aggregate_word w))) (statement_other w)
    (either_other (clause_word w) (option_or (column_word w) (aggregate_word w)) (clause_other w)
    (either_other (column_word w) (aggregate_word w) (column_other w) (aggregate_other w)))

pair_other : (a b : ℕ) → none_or_other (pair_sign a b) ≡ true
pair_other a b = on (a == 60 && b == 62) M.NotEqual _ refl (on (a == 33 && b == 61) M.NotEqual _ refl (on (a == 60 && b == 61) M.LessOrEqual _ refl
    (on (a == 62 && b == 61) M.GreaterOrEqual _ refl refl)))

lone_other : (a : ℕ) → (a == 59) ≡ false → none_or_other (lone_sign a) ≡ true
lone_other a e = on (a == 40) M.Open _ refl (on (a == 41) M.Close _ refl (on (a == 44) M.Comma _ refl (passed (a == 59) M.Semicolon _ e
    (on (a == 46) M.Dot _ refl (on (a == 42) M.Star _ refl (on (a == 61) M.Equal _ refl (on (a == 60) M.Less _ refl (on (a == 62) M.Greater _ refl
    (on (a == 43) M.Plus _ refl (on (a == 45) M.Minus _ refl refl))))))))))

abbrev other_lexeme : Lexeme → Bool
other_lexeme (L.Mark m) = other m
other_lexeme other = true

named_other : (o : Option Mark) (w : List ℕ) → none_or_other o ≡ true → other_lexeme (named o w) ≡ true
named_other (Some m) w e = e
named_other None w e = refl

run_other : (w : List ℕ) → other_lexeme (run_lexeme w) ≡ true
run_other [] = refl
run_other (b ∷ bs) = go (is_digit b) (all_digits (b ∷ bs)) (nat_le (length (b ∷ bs)) 32) where
  go : (u v w : Bool) → other_lexeme (if u then (if v then L.Number (magnitude (b ∷ bs)) else L.Bad)
      else (if w then named (keyword (map lower (b ∷ bs))) (map lower (b ∷ bs)) else L.Bad)) ≡ true
  go true true w = refl
  go true false w = refl
  go false v true = named_other (keyword (map lower (b ∷ bs))) (map lower (b ∷ bs)) (keyword_other (map lower (b ∷ bs)))
  go false v false = refl

-- ---- a piece, and what is after it

abbrev After : Option Lexeme → List ℕ → Type 0
After (Some L.Bad) rest = ⊤
After (Some (L.Mark m)) rest = ((m ≡ M.Semicolon) × (rest ≡ [])) ⊎ ((other m ≡ true) × Closed Plain rest)
After other rest = Closed Plain rest

after_other : (x : Lexeme) (rest : List ℕ) → other_lexeme x ≡ true → Closed Plain rest → After (Some x) rest
after_other (L.Mark m) rest e c = inr (e, c)
after_other L.Bad rest e c = tt
after_other other rest e c = c

no_second : (a n : ℕ) → (n == 62) ≡ false → (n == 61) ≡ false → pair_sign a n ≡ None
no_second a n e f = go (a == 60) (a == 33) (a == 62) where
  go : (u v w : Bool) → (if u && n == 62 then Some M.NotEqual else if v && n == 61 then Some M.NotEqual else if u && n == 61 then Some M.LessOrEqual else if w && n == 61 then Some M.GreaterOrEqual else None) ≡ None
  go u v w = rw (e, f, and_false u, and_false v, and_false w) refl

pair_after : (a : ℕ) (bs : List ℕ) (m : Mark) → pair_sign a (first_byte bs) ≡ Some m → Closed Plain (a ∷ bs) → After (Some (L.Mark m)) (drop 2 (a ∷ bs))
pair_after a [] m e c = let none : Some m ≡ None = sym e ∙ no_pair a in absurd (cc none)
pair_after a (b ∷ bs) m e c =
    let first : is_some (pair_sign a b) ≡ true = ap is_some e in
    let behind = plain_on a (b ∷ bs) (not_this (λ x. is_some (pair_sign x b)) 59 refl a first) (not_this (λ x. is_some (pair_sign x b)) 39 refl a first)
    (not_this (λ x. is_some (pair_sign x b)) 45 refl a first) c in
    inr (
      ap none_or_other (sym e) ∙ pair_other a b,
      plain_on b bs (not_this (λ x. is_some (pair_sign a x)) 59 (ap is_some (no_second a 59 refl refl)) b first) (not_this (λ x. is_some (pair_sign a x)) 39 (ap is_some (no_second a 39 refl refl)) b first)
          (not_this (λ x. is_some (pair_sign a x)) 45 (ap is_some (no_second a 45 refl refl)) b first) behind,
    )

module _ (a : ℕ) (bs : List ℕ) (c : Closed Plain (a ∷ bs)) (no_comment : (a == 45 && first_byte bs == 45) ≡ false) (no_quote : (a == 39) ≡ false) where
  behind_dash : (v : Bool) → (a == 45) ≡ v → (a == 59) ≡ false → Closed Plain bs
  behind_dash false h e = plain_on a bs e no_quote h c
  behind_dash true h e = dash_plain bs (ap (λ v. v && first_byte bs == 45) (sym h) ∙ no_comment) (subst (λ n. Closed Plain (n ∷ bs)) (eqb-true a 45 h) c)

  lone_mark : (m : Mark) → lone_sign a ≡ Some m → After (Some (L.Mark m)) bs
  lone_mark m e = go (a == 59) refl where
    go : (v : Bool) → (a == 59) ≡ v → After (Some (L.Mark m)) bs
    go true h =
        let semicolon : Some m ≡ Some M.Semicolon = sym e ∙ ap lone_sign (eqb-true a 59 h) in
        inl (cc semicolon, subst (λ n. Closed Plain (n ∷ bs)) (eqb-true a 59 h) c)
    go false h = inr (ap none_or_other (sym e) ∙ lone_other a h, behind_dash (a == 45) refl h)

  lone_after : (o : Option Mark) → lone_sign a ≡ o → After (lone_piece o).lexeme (drop (lone_piece o).len (a ∷ bs))
  lone_after None e = tt
  lone_after (Some m) e = lone_mark m e

  sign_after : (o : Option Mark) → pair_sign a (first_byte bs) ≡ o → After (sign_piece o a).lexeme (drop (sign_piece o a).len (a ∷ bs))
  sign_after None e = lone_after (lone_sign a) refl
  sign_after (Some m) e = pair_after a bs m e c

text_after : (bs : List ℕ) → Closed Quote bs → (b : ℕ) (o : Option ℕ) → quoted_len 0 true bs ≡ o → After (text_piece o).lexeme (drop (text_piece o).len (b ∷ bs))
text_after bs c b None e = tt
text_after bs c b (Some n) e = let end = quotes 0 n true bs c e in let same : n ≡ end.0 = omega (arith, end.1) in subst (λ k. Closed Plain (drop k bs)) (sym same) end.2

piece_after : (b : ℕ) (bs : List ℕ) → Closed Plain (b ∷ bs) → After (piece (b ∷ bs)).lexeme (drop (piece (b ∷ bs)).len (b ∷ bs))
piece_after b bs c = go (is_blank b) refl (b == 45 && first_byte bs == 45) refl (is_run b) (b == 39) refl where
  first : (u v : Bool) → (u && v) ≡ true → u ≡ true
  first true v e = refl
  first false v e = absurd (cc e)

  second : (u v : Bool) → (u && v) ≡ true → v ≡ true
  second true v e = e
  second false v e = absurd (cc e)

  go : (blank : Bool) → is_blank b ≡ blank → (comment : Bool) → (b == 45 && first_byte bs == 45) ≡ comment → (in_run quote : Bool) → (b == 39) ≡ quote →
      After (if blank then gap 1 else if comment then gap (comment_len (b ∷ bs)) else if in_run then some_piece (length (run (b ∷ bs))) (run_lexeme (run (b ∷ bs)))
      else if quote then text_piece (quoted_len 0 true bs) else sign_piece (pair_sign b (first_byte bs)) b).lexeme
      (drop (if blank then gap 1 else if comment then gap (comment_len (b ∷ bs)) else if in_run then some_piece (length (run (b ∷ bs))) (run_lexeme (run (b ∷ bs)))
      else if quote then text_piece (quoted_len 0 true bs) else sign_piece (pair_sign b (first_byte bs)) b).len (b ∷ bs))
  go true e comment f in_run quote g = plain_on b bs (not_this is_blank 59 refl b e) (not_this is_blank 39 refl b e) (not_this is_blank 45 refl b e) c
  go false e true f in_run quote g = comment_after b bs (eqb-true b 45 (first (b == 45) (first_byte bs == 45) f)) (eqb-true (first_byte bs) 45 (second (b == 45) (first_byte bs == 45) f)) c
  go false e false f true quote g = after_other (run_lexeme (run (b ∷ bs))) (drop (length (run (b ∷ bs))) (b ∷ bs)) (run_other (run (b ∷ bs))) (run_after (b ∷ bs) c)
  go false e false f false true g = text_after bs (subst (λ n. Closed Plain (n ∷ bs)) (eqb-true b 39 g) c) b (quoted_len 0 true bs) refl
  go false e false f false false g = sign_after b bs c f g (pair_sign b (first_byte bs)) refl

-- ---- all of the tokens

one_more : (x : Option Lexeme) (from to end : ℕ) (rest : List ℕ) → After x rest → (Closed Plain rest → SemicolonsEndAt end (tokens_from 0 to rest)) → (rest ≡ [] → to ≡ end)
    → SemicolonsEndAt end (then_piece x from to (tokens_from 0 to rest))
unfolding tokens_from
one_more None from to end rest a more last = more a
one_more (Some (L.Mark m)) from to end rest (inl (is, none)) more last =
    let here : (L.Mark m ≡ L.Mark M.Semicolon → to ≡ end) × SemicolonsEndAt end (tokens_from 0 to []) = (λ e. last none, tt) in
    (here.0, subst (λ r. SemicolonsEndAt end (tokens_from 0 to r)) (sym none) here.1)
one_more (Some (L.Mark m)) from to end rest (inr (not_one, c)) more last =
    (λ e. let both : true ≡ false = sym not_one ∙ ap other_lexeme e in absurd (cc both), more c)
one_more (Some L.Bad) from to end rest a more last = (λ e. absurd (cc e), tt)
one_more other from to end rest c more last = (λ e. absurd (cc e), more c)

closes : (fuel at : ℕ) (bs : List ℕ) → length bs ≤ fuel → Closed Plain bs → SemicolonsEndAt (at + length bs) (tokens_from 0 at bs)
closes fuel at [] le c = absurd c
closes zero at (b ∷ bs) le c = absurd (omega (arith, le))
closes (suc fuel) at (b ∷ bs) le c =
    let n = (piece (b ∷ bs)).len in
    let moves : 0 < n = piece_moves (b ∷ bs) (omega arith) in
    let fits : n ≤ suc (length bs) = piece_fits (b ∷ bs) in
    let rest = drop n (b ∷ bs) in
    let left : length rest ≡ suc (length bs) - n = length-drop n (b ∷ bs) in
    let end : at + n + length rest ≡ at + suc (length bs) = omega (arith, fits, left) in
    subst (SemicolonsEndAt (at + suc (length bs))) (sym (at_piece n at (b ∷ bs) (piece (b ∷ bs)).lexeme (omega arith) moves refl refl))
    (one_more (piece (b ∷ bs)).lexeme at (at + n) (at + suc (length bs)) rest (piece_after b bs c)
    (λ d. subst (λ k. SemicolonsEndAt k (tokens_from 0 (at + n) rest)) end (closes fuel (at + n) rest (omega (arith, moves, fits, left, le)) d))
    (λ none. let nothing : length rest ≡ 0 = ap length none in omega (arith, end, nothing)))

pub semicolon_last : (bytes : List ℕ) (from to : ℕ) → cut bytes ≡ Stmt from to → SemicolonsEndAt (to - from) (tokens_of (take (to - from) (drop from bytes)))
semicolon_last bytes from to e =
    let start = blanks bytes in
    let rest = drop start bytes in
    let found = cut_closes start start Plain false rest from to e in
    let text = take (to - start) rest in
    let size : 0 + length text ≡ to - start = omega (arith, found.0, found.1, length-take (to - start) rest) in
    subst (λ n. SemicolonsEndAt (to - n) (tokens_of (take (to - n) (drop n bytes)))) (sym found.2)
    (subst (λ n. SemicolonsEndAt n (tokens_of text)) size (closes (length text) 0 text (omega arith) found.3))

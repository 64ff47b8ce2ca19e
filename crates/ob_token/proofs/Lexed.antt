-- The tokens after a piece.
use Rattle.std.proofs.Common.{◌≡◌, ℕ, zero, suc, pred, ◌+◌, ◌≤◌, ◌<◌, List, [], ◌∷◌, ◌++◌, length, drop, Bool, true, false, Option, Some, None, refl, sym, ◌∙◌, ap, arith, append-nil, length-drop}
use Rattle.std.specs.Prelude.{if◌then◌else◌}
use Rattle.ob_token.specs.declared.token.Lexeme.{Lexeme}
use Rattle.ob_token.specs.declared.token.Token.{Token}
use Rattle.ob_token.specs.Lexemes.{piece}
use Rattle.ob_token.specs.Tokens.{bad, then_piece, tokens_from, tokens_of}

skipped : (k at : ℕ) (bs : List ℕ) → tokens_from k at bs ≡ tokens_from 0 (at + k) (drop k bs)
unfolding tokens_from
skipped zero at bs = let e : at ≡ at + 0 = omega arith in ap (λ n. tokens_from 0 n bs) e
skipped (suc k) at [] = refl
skipped (suc k) at (b ∷ bs) = let e : suc at + k ≡ at + suc k = omega arith in skipped k (suc at) bs ∙ ap (λ n. tokens_from 0 n (drop k bs)) e

pub at_piece : (n at : ℕ) (bs : List ℕ) (found : Option Lexeme) → 0 < length bs → 0 < n → (piece bs).len ≡ n → (piece bs).lexeme ≡ found
    → tokens_from 0 at bs ≡ then_piece found at (at + n) (tokens_from 0 (at + n) (drop n bs))
unfolding tokens_from
at_piece n at [] found lt m e f = absurd (omega (arith, lt))
at_piece zero at (b ∷ bs) found lt m e f = absurd (omega (arith, m))
at_piece (suc n) at (b ∷ bs) found lt m e f =
    let next : suc at + n ≡ at + suc n = omega arith in
    ap (λ o. then_piece o at (at + (piece (b ∷ bs)).len) (tokens_from (pred (piece (b ∷ bs)).len) (suc at) bs)) f
    ∙ ap (λ k. then_piece found at (at + k) (tokens_from (pred k) (suc at) bs)) e
    ∙ ap (λ ts. then_piece found at (at + suc n) ts) (skipped n (suc at) bs ∙ ap (λ k. tokens_from 0 k (drop n bs)) next)

-- what the loop over the pieces before a token keeps
pub record Left (offset : ℕ) (bytes : List ℕ) (at : ℕ) (rest : List ℕ) : Type 0 where
  pub same : tokens_from 0 offset bytes ≡ tokens_from 0 at rest
  pub place : at + length rest ≡ offset + length bytes
  pub within : length rest ≤ length bytes

pub behind_gap : (offset : ℕ) (bytes : List ℕ) (at n : ℕ) (rest : List ℕ) → Left offset bytes at rest → 0 < length rest → 0 < n → n ≤ length rest
    → (piece rest).len ≡ n → (piece rest).lexeme ≡ None → Left offset bytes (at + n) (drop n rest)
behind_gap offset bytes at n rest left lt m le e f = record {
  same = left.same ∙ at_piece n at rest None lt m e f;
  place = omega (arith, left.place, length-drop n rest, le);
  within = omega (arith, left.within, length-drop n rest);
}

nothing_left : (b : Bool) (at : ℕ) (bs : List ℕ) → (if b then [] else tokens_from 0 at bs) ≡ tokens_from 0 at (if b then [] else bs)
unfolding tokens_from
nothing_left true at bs = refl
nothing_left false at bs = refl

pub at_token : (offset : ℕ) (bytes : List ℕ) (at n : ℕ) (rest : List ℕ) (lexeme : Lexeme) → Left offset bytes at rest → 0 < length rest → 0 < n
    → (piece rest).len ≡ n → (piece rest).lexeme ≡ Some lexeme
    → tokens_from 0 offset bytes ≡ record { lexeme = lexeme; from = at; to = at + n } ∷ tokens_from 0 (at + n) (if bad lexeme then [] else drop n rest)
at_token offset bytes at n rest lexeme left lt m e f =
    left.same ∙ at_piece n at rest (Some lexeme) lt m e f ∙ ap (λ ts. record { lexeme = lexeme; from = at; to = at + n } ∷ ts) (nothing_left (bad lexeme) (at + n) (drop n rest))

pub unless_short : (b : Bool) (bs left : List ℕ) → left ≡ (if b then [] else bs) → length left ≤ length bs
unless_short true bs left e = omega (arith, ap length e)
unless_short false bs left e = omega (arith, ap length e)

pub at_end : (offset : ℕ) (bytes : List ℕ) (at : ℕ) (rest : List ℕ) → Left offset bytes at rest → length rest ≡ 0 → tokens_from 0 offset bytes ≡ []
unfolding tokens_from
at_end offset bytes at [] left e = left.same
at_end offset bytes at (b ∷ rest) left e = absurd (omega (arith, e))

-- what the loops over the tokens keep
pub record Counted (text : List ℕ) (n at : ℕ) (rest : List ℕ) : Type 0 where
  pub count : n + length (tokens_from 0 at rest) ≡ length (tokens_of text)
  pub place : at + length rest ≤ length text
  pub bound : n + length rest ≤ length text

pub record Filled (text : List ℕ) (found : List Token) (len capacity at : ℕ) (rest : List ℕ) : Type 0 where
  pub tokens : tokens_of text ≡ found ++ tokens_from 0 at rest
  pub room : len + length (tokens_from 0 at rest) ≡ capacity
  pub exact : capacity ≡ length (tokens_of text)
  pub place : at + length rest ≤ length text

pub filled_all : (text : List ℕ) (found : List Token) (len capacity at : ℕ) (rest : List ℕ) → Filled text found len capacity at rest → tokens_from 0 at rest ≡ [] → found ≡ tokens_of text
filled_all text found len capacity at rest filled e = let all : found ++ [] ≡ found = simp append-nil refl in sym (filled.tokens ∙ ap (λ ts. found ++ ts) e ∙ all)

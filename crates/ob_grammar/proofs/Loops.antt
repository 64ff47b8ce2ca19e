-- A loop that reads A { k A }.
use Rattle.std.proofs.Common.{◌≡◌, ℕ, zero, suc, ◌≤◌, List, [], ◌∷◌, length, ◌<◌, Bool, true, false, cond, Option, Some, None, is_some, Ok, Err, refl, ◌∙◌, ap, arith}
use Rattle.ob_grammar.specs.Reader.{◌>>=◌, empty, bind, iter, taken, next, chain}
use Rattle.ob_grammar.proofs.Good.{Reader}

module _ {T U V : Type 0} (k : T → Option (Unit {0})) (g : U → V) (f : V → U → V) (a : Reader T U) where
  -- the turns that are left, with the value so far, from rest, give what A { k A } gives at ts
  abbrev pub Left : List T → V → List T → Type 0
  Left ts s rest = (n : ℕ) × (length rest ≤ n) × (chain k g f a ts ≡ iter (λ t. is_some (k t)) (next k f a) n s rest)

  pub left_start : (ts : List T) (u : U) (rest : List T) → a ts ≡ Ok (u, rest) → Left ts (g u) rest
  left_start ts u rest e = (length rest, omega arith, ap (λ o. o >>= λ p. iter (λ t. is_some (k t)) (next k f a) (length p.1) (g p.0) p.1) e)

  pub start_stuck : (ts rest : List T) → a ts ≡ Err rest → chain k g f a ts ≡ Err rest
  start_stuck ts rest e = ap (λ o. o >>= λ p. iter (λ t. is_some (k t)) (next k f a) (length p.1) (g p.0) p.1) e

  step : (n : ℕ) (s : V) (t : T) (after : List T) → k t ≡ Some tt
      → iter (λ t. is_some (k t)) (next k f a) (suc n) s (t ∷ after) ≡ (bind a (λ v. empty (f s v)) after >>= λ q. iter (λ t. is_some (k t)) (next k f a) n q.0 q.1)
  unfolding iter
  step n s t after e =
      ap (λ o. cond (is_some o) ((taken o (t ∷ after) after >>= λ p. bind a (λ v. empty (f s v)) p.1) >>= λ q. iter (λ t. is_some (k t)) (next k f a) n q.0 q.1) (Ok (s, t ∷ after))) e

  pub left_next : (ts : List T) (s : V) (t : T) (after : List T) (v : U) (rest : List T) → Left ts s (t ∷ after) → k t ≡ Some tt
      → a after ≡ Ok (v, rest) → length rest ≤ length after → Left ts (f s v) rest
  left_next ts s t after v rest (zero, le, e) kt h short = absurd (omega arith)
  left_next ts s t after v rest (suc n, le, e) kt h short =
      (n, omega arith, e ∙ step n s t after kt ∙ ap (λ o. (o >>= λ p. empty (f s p.0) p.1) >>= λ q. iter (λ t. is_some (k t)) (next k f a) n q.0 q.1) h)

  pub left_stuck : (ts : List T) (s : V) (t : T) (after rest : List T) → Left ts s (t ∷ after) → k t ≡ Some tt → a after ≡ Err rest → chain k g f a ts ≡ Err rest
  left_stuck ts s t after rest (zero, le, e) kt h = absurd (omega arith)
  left_stuck ts s t after rest (suc n, le, e) kt h =
      e ∙ step n s t after kt ∙ ap (λ o. (o >>= λ p. empty (f s p.0) p.1) >>= λ q. iter (λ t. is_some (k t)) (next k f a) n q.0 q.1) h

  pub left_end : (ts : List T) (s : V) (rest : List T) → Left ts s rest → ((t : T) (after : List T) → rest ≡ t ∷ after → k t ≡ None) → chain k g f a ts ≡ Ok (s, rest)
  unfolding iter
  left_end ts s [] (zero, le, e) other = e
  left_end ts s [] (suc n, le, e) other = e
  left_end ts s (t ∷ rest) (zero, le, e) other = absurd (omega arith)
  left_end ts s (t ∷ rest) (suc n, le, e) other =
      e ∙ ap (λ o. cond (is_some o) (next k f a s (t ∷ rest) >>= λ q. iter (λ t. is_some (k t)) (next k f a) n q.0 q.1) (Ok (s, t ∷ rest))) (other t rest refl)

-- a loop that reads { a }, as long as the next token passes
module _ {T V : Type 0} (p : T → Bool) (a : V → Reader T V) (start : V) where
  -- the turns that are left
  abbrev pub Turns : List T → V → List T → Type 0
  Turns ts s rest = (n : ℕ) × (length rest ≤ n) × (iter p a (length ts) start ts ≡ iter p a n s rest)

  pub turns_start : (ts : List T) → Turns ts start ts
  turns_start ts = (length ts, omega arith, refl)

  turn_on : (n : ℕ) (s : V) (t : T) (after : List T) → p t ≡ true → iter p a (suc n) s (t ∷ after) ≡ (a s (t ∷ after) >>= λ q. iter p a n q.0 q.1)
  unfolding iter
  turn_on n s t after e = ap (λ v. cond v (a s (t ∷ after) >>= λ q. iter p a n q.0 q.1) (Ok (s, t ∷ after))) e

  pub turns_next : (ts : List T) (s : V) (t : T) (after : List T) (v : V) (rest : List T) → Turns ts s (t ∷ after) → p t ≡ true
      → a s (t ∷ after) ≡ Ok (v, rest) → length rest < length (t ∷ after) → Turns ts v rest
  turns_next ts s t after v rest (zero, le, e) pt h short = absurd (omega arith)
  turns_next ts s t after v rest (suc n, le, e) pt h short = (n, omega arith, e ∙ turn_on n s t after pt ∙ ap (λ o. o >>= λ q. iter p a n q.0 q.1) h)

  pub turns_stuck : (ts : List T) (s : V) (t : T) (after rest : List T) → Turns ts s (t ∷ after) → p t ≡ true → a s (t ∷ after) ≡ Err rest
      → iter p a (length ts) start ts ≡ Err rest
  turns_stuck ts s t after rest (zero, le, e) pt h = absurd (omega arith)
  turns_stuck ts s t after rest (suc n, le, e) pt h = e ∙ turn_on n s t after pt ∙ ap (λ o. o >>= λ q. iter p a n q.0 q.1) h

  pub turns_end : (ts : List T) (s : V) (rest : List T) → Turns ts s rest → ((t : T) (after : List T) → rest ≡ t ∷ after → p t ≡ false)
      → iter p a (length ts) start ts ≡ Ok (s, rest)
  unfolding iter
  turns_end ts s [] (zero, le, e) other = e
  turns_end ts s [] (suc n, le, e) other = e
  turns_end ts s (t ∷ rest) (zero, le, e) other = absurd (omega arith)
  turns_end ts s (t ∷ rest) (suc n, le, e) other = e ∙ ap (λ v. cond v (a s (t ∷ rest) >>= λ q. iter p a n q.0 q.1) (Ok (s, t ∷ rest))) (other t rest refl)

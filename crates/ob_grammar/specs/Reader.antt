-- Readers of lists of tokens: each answers a value and what is left, or what is left where it is stuck.
use Rattle.std.specs.Prelude.{ℕ, zero, suc, List, [], ◌∷◌, ◌++◌, length, Bool, cond, Option, Some, None, is_some, Result, Ok, Err}

infixl 10 ◌>>=◌
abbrev pub ◌>>=◌ : {A B E : Type 0} → Result A E → (A → Result B E) → Result B E
(Ok x) >>= f = f x
(Err e) >>= f = Err e

abbrev pub taken : {T V : Type 0} → Option V → List T → List T → Result (V × List T) (List T)
taken None ts rest = Err ts
taken (Some v) ts rest = Ok (v, rest)

abbrev pub token : {T V : Type 0} → (T → Option V) → List T → Result (V × List T) (List T)
token p [] = Err []
token p (t ∷ ts) = taken (p t) (t ∷ ts) ts

abbrev pub empty : {T V : Type 0} → V → List T → Result (V × List T) (List T)
empty v ts = Ok (v, ts)

abbrev pub bind : {T U V : Type 0} → (List T → Result (U × List T) (List T)) → (U → List T → Result (V × List T) (List T)) → List T → Result (V × List T) (List T)
bind a b ts = a ts >>= λ p. b p.0 p.1

-- a where the next token passes, else b
abbrev pub choose : {T V : Type 0} → (T → Bool) → (List T → Result (V × List T) (List T)) → (List T → Result (V × List T) (List T)) → List T → Result (V × List T) (List T)
choose p a b [] = b []
choose p a b (t ∷ ts) = cond (p t) (a (t ∷ ts)) (b (t ∷ ts))

-- a as long as the next token passes, at most n times
unfoldable pub iter : {T V : Type 0} → (T → Bool) → (V → List T → Result (V × List T) (List T)) → ℕ → V → List T → Result (V × List T) (List T)
iter p a zero v ts = Ok (v, ts)
iter p a (suc n) v [] = Ok (v, [])
iter p a (suc n) v (t ∷ ts) = cond (p t) (a v (t ∷ ts) >>= λ q. iter p a n q.0 q.1) (Ok (v, t ∷ ts))

abbrev pub next : {T U V : Type 0} → (T → Option (Unit {0})) → (V → U → V) → (List T → Result (U × List T) (List T)) → V → List T → Result (V × List T) (List T)
next k f a s = bind (token k) (λ _. bind a (λ u. empty (f s u)))

abbrev pub chain : {T U V : Type 0} → (T → Option (Unit {0})) → (U → V) → (V → U → V) → (List T → Result (U × List T) (List T)) → List T → Result (V × List T) (List T)
chain k g f a = bind a (λ u ts. iter (λ t. is_some (k t)) (next k f a) (length ts) (g u) ts)

abbrev pub listed : {T V : Type 0} → (T → Option (Unit {0})) → (List T → Result (V × List T) (List T)) → List T → Result (List V × List T) (List T)
listed k a = chain k (λ v. v ∷ []) (λ s v. s ++ v ∷ []) a

abbrev pub perhaps : {T V : Type 0} → (T → Option (Unit {0})) → (List T → Result (V × List T) (List T)) → List T → Result (Option V × List T) (List T)
perhaps k a = choose (λ t. is_some (k t)) (bind (token k) (λ _. bind a (λ v. empty (Some v)))) (empty None)

-- A reader that reads exactly a grammar, and where it is stuck no word goes on.
use Rattle.std.proofs.Common.{◌≡◌, ℕ, zero, suc, ◌≤◌, List, [], ◌∷◌, ◌++◌, length, ◌⊎◌, inl, inr, Bool, true, false, cond, Option, Some, None, Result, Ok, Err, refl, sym, ◌∙◌, ap, subst, arith, append_assoc, append-nil, length-append}
use Rattle.ob_grammar.specs.Language.{Token, Empty, Bind, Either, Iter, stop, turn}
use Rattle.ob_grammar.specs.Reader.{◌>>=◌, taken, token, empty, bind, choose, iter}

abbrev pub Reader : Type 0 → Type 0 → Type 0
Reader T V = List T → Result (V × List T) (List T)

-- what a reader's answer at ts says: what it read spells its value, or begins a word, and the answer
-- depends on no token after the next one
abbrev pub Outcome : {T V : Type 0} → (V → List T → Type 0) → Reader T V → List T → Result (V × List T) (List T) → Type 0
Outcome {T} {V} L r ts (Ok p) = (front : List T) × (ts ≡ front ++ p.1) × L p.0 front
    × ((t : T) (after z : List T) → p.1 ≡ t ∷ after → r (front ++ t ∷ z) ≡ Ok (p.0, t ∷ z))
Outcome {T} {V} L r ts (Err rest) = (front : List T) × (ts ≡ front ++ rest) × ((tail : List T) × (v : V) × L v (front ++ tail))
    × ((t : T) (after z : List T) → rest ≡ t ∷ after → r (front ++ t ∷ z) ≡ Err (t ∷ z))

-- F holds of the tokens that may stand after a word
pub record Good {T V : Type 0} (L : V → List T → Type 0) (F : T → Type 0) (r : Reader T V) : Type 0 where
  pub complete : (v : V) (w : List T) (t : T) (u : List T) → L v w → F t → r (w ++ t ∷ u) ≡ Ok (v, t ∷ u)
  pub whole : (v : V) (w : List T) → L v w → r w ≡ Ok (v, [])
  pub outcome : (ts : List T) → Outcome L r ts (r ts)
  pub word : (v : V) × (w : List T) × L v w

-- a list begins with a token of which F holds
abbrev pub Begins : {T : Type 0} → (T → Type 0) → List T → Type 0
Begins {T} F ts = (t : T) × (u : List T) × F t × (ts ≡ t ∷ u)

-- a list begins with a token on which p is v
abbrev pub Starts : {T : Type 0} → (T → Bool) → Bool → List T → Type 0
Starts {T} p v ts = (t : T) × (u : List T) × (p t ≡ v) × (ts ≡ t ∷ u)

-- ---- one token

module _ {T V : Type 0} (p : T → Option V) where
  read_token : (v : V) (w u : List T) → Token p v w → token p (w ++ u) ≡ Ok (v, u)
  read_token v w u (t, e, h) = ap (λ xs. token p (xs ++ u)) h ∙ ap (λ o. taken o (t ∷ u) u) e

  token_outcome : (v : V) (t : T) → p t ≡ Some v → (ts : List T) → Outcome (Token p) (token p) ts (token p ts)
  token_outcome v t e [] = ([], refl, (t ∷ [], v, (t, e, refl)), λ t after z h. absurd (cc))
  token_outcome v t e (c ∷ ts) = go (p c) refl where
    go : (o : Option V) → p c ≡ o → Outcome (Token p) (token p) (c ∷ ts) (taken o (c ∷ ts) ts)
    go None h = (
      [],
      refl,
      (t ∷ [], v, (t, e, refl)),
      λ t' after z k.
          let same : c ≡ t' = cc in ap (λ o. taken o (t' ∷ z) z) (ap p (sym same) ∙ h),
    )
    go (Some x) h = (c ∷ [], refl, (c, h, refl), λ t' after z k. ap (λ o. taken o (c ∷ t' ∷ z) (t' ∷ z)) h)

  pub good_token : (F : T → Type 0) (v : V) (t : T) → p t ≡ Some v → Good (Token p) F (token p)
  good_token F v t e = record {
    complete = λ v w t u h f. read_token v w (t ∷ u) h;
    whole = λ v w h. ap (token p) (sym (append-nil w)) ∙ read_token v w [] h;
    outcome = token_outcome v t e;
    word = (v, t ∷ [], (t, e, refl));
  }

-- ---- nothing

module _ {T V : Type 0} (x : V) (F : T → Type 0) where
  pub good_empty : Good (Empty x) F (empty x)
  good_empty = record {
    complete = λ v w t u h f. ap (λ zs. Ok (x, zs ++ t ∷ u)) h.1 ∙ ap (λ y. Ok (y, t ∷ u)) (sym h.0);
    whole = λ v w h. ap (λ zs. Ok (x, zs)) h.1 ∙ ap (λ y. Ok (y, [])) (sym h.0);
    outcome = λ ts. ([], refl, (refl, refl), λ t after z k. refl);
    word = (x, [], (refl, refl));
  }

-- ---- one after the other

module _ {T U V : Type 0} (A : U → List T → Type 0) (B : U → V → List T → Type 0) (Fa Fb : T → Type 0) (a : Reader T U) (b : U → Reader T V)
    (good_a : Good A Fa a) (good_b : (u : U) → Good (B u) Fb (b u))
    (link : (u : U) (v : V) (y : List T) (t : T) (z : List T) → B u v y → Fb t → Begins Fa (y ++ t ∷ z)) (next : (t : T) × Fb t) where
  first_in : (c : T) (v : List T) (ts : List T) → Begins Fa (c ∷ (v ++ ts)) → Fa c
  first_in c v ts (d, u, fd, e) = let same : d ≡ c = cc in subst Fa same fd

  bind_whole : (u : U) (v : V) (w x y : List T) → A u x → B u v y → w ≡ x ++ y → bind a b w ≡ Ok (v, [])
  bind_whole u v w x [] ax by e =
      ap (bind a b) (e ∙ append-nil x) ∙ ap (λ o. o >>= λ p. b p.0 p.1) (good_a.whole u x ax) ∙ (good_b u).whole v [] by
  bind_whole u v w x (c ∷ y) ax by e =
      ap (bind a b) e ∙ ap (λ o. o >>= λ p. b p.0 p.1) (good_a.complete u x c y ax (first_in c y (next.0 ∷ []) (link u v (c ∷ y) next.0 [] by next.1)))
      ∙ (good_b u).whole v (c ∷ y) by

  bind_complete : (v : V) (w : List T) (t : T) (z : List T) → Bind A B v w → Fb t → bind a b (w ++ t ∷ z) ≡ Ok (v, t ∷ z)
  bind_complete v w t z (u, x, y, ax, by, e) f = go (link u v y t z by f) where
    go : Begins Fa (y ++ t ∷ z) → bind a b (w ++ t ∷ z) ≡ Ok (v, t ∷ z)
    go (c, s, fc, h) =
        ap (λ zs. a (zs ++ t ∷ z) >>= λ p. b p.0 p.1) e
        ∙ ap (λ zs. a zs >>= λ p. b p.0 p.1) (append_assoc x y (t ∷ z) ∙ ap (λ zs. x ++ zs) h)
        ∙ ap (λ o. o >>= λ p. b p.0 p.1) (good_a.complete u x c s ax fc)
        ∙ ap (b u) (sym h)
        ∙ (good_b u).complete v y t z by f

  -- what a read before is read again before what b reads
  passes : (u : U) (fa fb mid rest : List T) (t : T) (after z : List T)
      → ((t : T) (after z : List T) → mid ≡ t ∷ after → a (fa ++ t ∷ z) ≡ Ok (u, t ∷ z))
      → mid ≡ fb ++ rest → rest ≡ t ∷ after → bind a b ((fa ++ fb) ++ t ∷ z) ≡ b u (fb ++ t ∷ z)
  passes u fa [] mid rest t after z local e h =
      ap (λ zs. a (zs ++ t ∷ z) >>= λ p. b p.0 p.1) (append-nil fa) ∙ ap (λ o. o >>= λ p. b p.0 p.1) (local t after z (e ∙ h))
  passes u fa (c ∷ fb) mid rest t after z local e h =
      ap (λ zs. a zs >>= λ p. b p.0 p.1) (append_assoc fa (c ∷ fb) (t ∷ z)) ∙ ap (λ o. o >>= λ p. b p.0 p.1) (local c (fb ++ rest) (fb ++ t ∷ z) e)

  bind_second : (u : U) (ts fa mid : List T) → ts ≡ fa ++ mid → A u fa
      → ((t : T) (after z : List T) → mid ≡ t ∷ after → a (fa ++ t ∷ z) ≡ Ok (u, t ∷ z))
      → (o : Result (V × List T) (List T)) → Outcome (B u) (b u) mid o → Outcome (Bind A B) (bind a b) ts o
  bind_second u ts fa mid e ax local (Ok p) (fb, h, by, again) = (
    fa ++ fb,
    e ∙ ap (λ zs. fa ++ zs) h ∙ sym (append_assoc fa fb p.1),
    (u, fa, fb, ax, by, refl),
    λ t after z k. passes u fa fb mid p.1 t after z local h k ∙ again t after z k,
  )
  bind_second u ts fa mid e ax local (Err rest) (fb, h, (tail, v, by), again) = (
    fa ++ fb,
    e ∙ ap (λ zs. fa ++ zs) h ∙ sym (append_assoc fa fb rest),
    (tail, v, (u, fa, fb ++ tail, ax, by, append_assoc fa fb tail)),
    λ t after z k. passes u fa fb mid rest t after z local h k ∙ again t after z k,
  )

  bind_outcome : (ts : List T) (o : Result (U × List T) (List T)) → Outcome A a ts o → Outcome (Bind A B) (bind a b) ts (o >>= λ p. b p.0 p.1)
  bind_outcome ts (Ok p) (fa, e, ax, local) = bind_second p.0 ts fa p.1 e ax local (b p.0 p.1) ((good_b p.0).outcome p.1)
  bind_outcome ts (Err rest) (fa, e, (tail, u, ax), local) =
      let w = (good_b u).word in (
        fa,
        e,
        (tail ++ w.1, w.0, (u, fa ++ tail, w.1, ax, w.2, sym (append_assoc fa tail w.1))),
        λ t after z k. ap (λ o. o >>= λ p. b p.0 p.1) (local t after z k),
      )

  pub good_bind : Good (Bind A B) Fb (bind a b)
  good_bind = record {
    complete = bind_complete;
    whole = λ v w (u, x, y, ax, by, e). bind_whole u v w x y ax by e;
    outcome = λ ts. bind_outcome ts (a ts) (good_a.outcome ts);
    word = let w = good_a.word in let y = (good_b w.0).word in (y.0, w.1 ++ y.1, (w.0, w.1, y.1, w.2, y.2, refl));
  }

-- ---- one or the other, by the next token

module _ {T V : Type 0} (A B : V → List T → Type 0) (F : T → Type 0) (p : T → Bool) (a b : Reader T V) (good_a : Good A F a) (good_b : Good B F b)
    (first_a : (v : V) (w : List T) → A v w → Starts p true w) (first_b : (v : V) (w : List T) → B v w → (w ≡ []) ⊎ Starts p false w)
    (stops : (v : V) → B v [] → (t : T) → F t → p t ≡ false) where
  chosen : (t : T) (u : List T) → p t ≡ true → choose p a b (t ∷ u) ≡ a (t ∷ u)
  chosen t u e = ap (λ v. cond v (a (t ∷ u)) (b (t ∷ u))) e

  otherwise : (t : T) (u : List T) → p t ≡ false → choose p a b (t ∷ u) ≡ b (t ∷ u)
  otherwise t u e = ap (λ v. cond v (a (t ∷ u)) (b (t ∷ u))) e

  choose_complete : (v : V) (w : List T) (t : T) (u : List T) → Either A B v w → F t → choose p a b (w ++ t ∷ u) ≡ Ok (v, t ∷ u)
  choose_complete v w t u (inl ax) f = go (first_a v w ax) where
    go : Starts p true w → choose p a b (w ++ t ∷ u) ≡ Ok (v, t ∷ u)
    go (c, s, pc, e) =
        ap (λ zs. choose p a b (zs ++ t ∷ u)) e ∙ chosen c (s ++ t ∷ u) pc ∙ ap (λ zs. a (zs ++ t ∷ u)) (sym e) ∙ good_a.complete v w t u ax f
  choose_complete v w t u (inr bx) f = go (first_b v w bx) where
    go : (w ≡ []) ⊎ Starts p false w → choose p a b (w ++ t ∷ u) ≡ Ok (v, t ∷ u)
    go (inl e) =
        ap (λ zs. choose p a b (zs ++ t ∷ u)) e ∙ otherwise t u (stops v (subst (B v) e bx) t f) ∙ ap (λ zs. b (zs ++ t ∷ u)) (sym e) ∙ good_b.complete v w t u bx f
    go (inr (c, s, pc, e)) =
        ap (λ zs. choose p a b (zs ++ t ∷ u)) e ∙ otherwise c (s ++ t ∷ u) pc ∙ ap (λ zs. b (zs ++ t ∷ u)) (sym e) ∙ good_b.complete v w t u bx f

  choose_whole : (v : V) (w : List T) → Either A B v w → choose p a b w ≡ Ok (v, [])
  choose_whole v w (inl ax) = go (first_a v w ax) where
    go : Starts p true w → choose p a b w ≡ Ok (v, [])
    go (c, s, pc, e) = ap (choose p a b) e ∙ chosen c s pc ∙ ap a (sym e) ∙ good_a.whole v w ax
  choose_whole v w (inr bx) = go (first_b v w bx) where
    go : (w ≡ []) ⊎ Starts p false w → choose p a b w ≡ Ok (v, [])
    go (inl e) = ap (choose p a b) e ∙ ap b (sym e) ∙ good_b.whole v w bx
    go (inr (c, s, pc, e)) = ap (choose p a b) e ∙ otherwise c s pc ∙ ap b (sym e) ∙ good_b.whole v w bx

  -- the same choice is made before any other tokens after the next one
  same_a : (ts front rest : List T) (t : T) (after z : List T) → ((c : T) (s : List T) → ts ≡ c ∷ s → p c ≡ true)
      → ts ≡ front ++ rest → rest ≡ t ∷ after → choose p a b (front ++ t ∷ z) ≡ a (front ++ t ∷ z)
  same_a ts [] rest t after z test e h = chosen t z (test t after (e ∙ h))
  same_a ts (c ∷ front) rest t after z test e h = chosen c (front ++ t ∷ z) (test c (front ++ rest) e)

  same_b : (ts front rest : List T) (t : T) (after z : List T) → ((c : T) (s : List T) → ts ≡ c ∷ s → p c ≡ false)
      → ts ≡ front ++ rest → rest ≡ t ∷ after → choose p a b (front ++ t ∷ z) ≡ b (front ++ t ∷ z)
  same_b ts [] rest t after z test e h = otherwise t z (test t after (e ∙ h))
  same_b ts (c ∷ front) rest t after z test e h = otherwise c (front ++ t ∷ z) (test c (front ++ rest) e)

  from_a : (ts : List T) (o : Result (V × List T) (List T)) → ((c : T) (s : List T) → ts ≡ c ∷ s → p c ≡ true)
      → Outcome A a ts o → Outcome (Either A B) (choose p a b) ts o
  from_a ts (Ok q) test (front, e, ax, local) =
      (front, e, inl ax, λ t after z k. same_a ts front q.1 t after z test e k ∙ local t after z k)
  from_a ts (Err rest) test (front, e, (tail, v, ax), local) =
      (front, e, (tail, v, inl ax), λ t after z k. same_a ts front rest t after z test e k ∙ local t after z k)

  from_b : (ts : List T) (o : Result (V × List T) (List T)) → ((c : T) (s : List T) → ts ≡ c ∷ s → p c ≡ false)
      → Outcome B b ts o → Outcome (Either A B) (choose p a b) ts o
  from_b ts (Ok q) test (front, e, bx, local) =
      (front, e, inr bx, λ t after z k. same_b ts front q.1 t after z test e k ∙ local t after z k)
  from_b ts (Err rest) test (front, e, (tail, v, bx), local) =
      (front, e, (tail, v, inr bx), λ t after z k. same_b ts front rest t after z test e k ∙ local t after z k)

  choose_outcome : (ts : List T) → Outcome (Either A B) (choose p a b) ts (choose p a b ts)
  choose_outcome [] = from_b [] (b []) (λ c s e. absurd (cc)) (good_b.outcome [])
  choose_outcome (t ∷ ts) = go (p t) refl where
    go : (v : Bool) → p t ≡ v → Outcome (Either A B) (choose p a b) (t ∷ ts) (cond v (a (t ∷ ts)) (b (t ∷ ts)))
    go true e = from_a (t ∷ ts) (a (t ∷ ts)) (λ c s h. let same : t ≡ c = cc in ap p (sym same) ∙ e) (good_a.outcome (t ∷ ts))
    go false e = from_b (t ∷ ts) (b (t ∷ ts)) (λ c s h. let same : t ≡ c = cc in ap p (sym same) ∙ e) (good_b.outcome (t ∷ ts))

  pub good_choose : Good (Either A B) F (choose p a b)
  good_choose = record {
    complete = choose_complete;
    whole = choose_whole;
    outcome = choose_outcome;
    word = let w = good_a.word in (w.0, w.1, inl w.2);
  }

-- ---- turn by turn, as long as the next token passes

module _ {T V : Type 0} (A : V → V → List T → Type 0) (Fa F : T → Type 0) (p : T → Bool) (a : V → Reader T V) (good_a : (s : V) → Good (A s) Fa (a s))
    (first_a : (s v : V) (w : List T) → A s v w → Starts p true w) (stops : (t : T) → F t → p t ≡ false)
    (ends : (t : T) → F t → Fa t) (goes_on : (t : T) → p t ≡ true → Fa t) where
  again : (n : ℕ) → V × List T → Result (V × List T) (List T)
  again n q = iter p a n q.0 q.1

  step : (n : ℕ) (s : V) (t : T) (u : List T) → p t ≡ true → iter p a (suc n) s (t ∷ u) ≡ (a s (t ∷ u) >>= λ q. iter p a n q.0 q.1)
  unfolding iter
  step n s t u e = ap (λ v. cond v (a s (t ∷ u) >>= λ q. iter p a n q.0 q.1) (Ok (s, t ∷ u))) e

  last : (n : ℕ) (s : V) (t : T) (u : List T) → p t ≡ false → iter p a n s (t ∷ u) ≡ Ok (s, t ∷ u)
  unfolding iter
  last zero s t u e = refl
  last (suc n) s t u e = ap (λ v. cond v (a s (t ∷ u) >>= λ q. iter p a n q.0 q.1) (Ok (s, t ∷ u))) e

  ended : (n : ℕ) (s : V) → iter p a n s [] ≡ Ok (s, [])
  unfolding iter
  ended zero s = refl
  ended (suc n) s = refl

  -- a word of A is read first
  front_step : (n : ℕ) (s v : V) (x u : List T) → A s v x → iter p a (suc n) s (x ++ u) ≡ (a s (x ++ u) >>= λ q. iter p a n q.0 q.1)
  front_step n s v x u ax = go (first_a s v x ax) where
    go : Starts p true x → iter p a (suc n) s (x ++ u) ≡ (a s (x ++ u) >>= λ q. iter p a n q.0 q.1)
    go (c, d, pc, e) =
        ap (λ zs. iter p a (suc n) s (zs ++ u)) e ∙ step n s c (d ++ u) pc ∙ ap (λ zs. a s (zs ++ u) >>= λ q. iter p a n q.0 q.1) (sym e)

  long : (s v : V) (x : List T) → A s v x → 1 ≤ length x
  long s v x ax = go (first_a s v x ax) where
    go : Starts p true x → 1 ≤ length x
    go (c, d, pc, e) = omega (arith, ap length e)

  -- what stands after a word of A
  pub behind : (s v : V) (xs : List T) (t : T) (u : List T) → Iter A s v xs → F t → Begins Fa (xs ++ t ∷ u)
  behind _ _ _ t u (stop s) f = (t, u, ends t f, refl)
  behind _ _ _ t u (turn s m v x xs ax ms) f = go (first_a s m x ax) where
    go : Starts p true x → Begins Fa ((x ++ xs) ++ t ∷ u)
    go (c, d, pc, e) = (c, (d ++ xs) ++ t ∷ u, goes_on c pc, ap (λ zs. (zs ++ xs) ++ t ∷ u) e)

  iter_complete : (n : ℕ) (s v : V) (w : List T) (t : T) (u : List T) → Iter A s v w → F t → length (w ++ t ∷ u) ≤ n → iter p a n s (w ++ t ∷ u) ≡ Ok (v, t ∷ u)
  iter_complete n _ _ _ t u (stop s) f le = last n s t u (stops t f)
  iter_complete zero _ _ _ t u (turn s m v x xs ax ms) f le = absurd (omega (arith, long s m x ax, length-append (x ++ xs) (t ∷ u), length-append x xs))
  iter_complete (suc n) _ _ _ t u (turn s m v x xs ax ms) f le =
      go (behind m v xs t u ms f) (iter_complete n m v xs t u ms f (omega (arith, long s m x ax, length-append (x ++ xs) (t ∷ u), length-append x xs, length-append xs (t ∷ u)))) where
        go : Begins Fa (xs ++ t ∷ u) → iter p a n m (xs ++ t ∷ u) ≡ Ok (v, t ∷ u) → iter p a (suc n) s ((x ++ xs) ++ t ∷ u) ≡ Ok (v, t ∷ u)
        go (c, d, fc, e) ih =
            ap (iter p a (suc n) s) (append_assoc x xs (t ∷ u))
            ∙ front_step n s m x (xs ++ t ∷ u) ax
            ∙ ap (λ zs. a s (x ++ zs) >>= λ q. iter p a n q.0 q.1) e
            ∙ ap (λ o. o >>= λ q. iter p a n q.0 q.1) ((good_a s).complete m x c d ax fc)
            ∙ ap (iter p a n m) (sym e)
            ∙ ih

  iter_whole : (n : ℕ) (s v : V) (w : List T) → Iter A s v w → length w ≤ n → iter p a n s w ≡ Ok (v, [])
  iter_whole n _ _ _ (stop s) le = ended n s
  iter_whole zero _ _ _ (turn s m v x xs ax ms) le = absurd (omega (arith, long s m x ax, length-append x xs))
  iter_whole (suc n) _ _ _ (turn s m v x xs ax ms) le =
      front_step n s m x xs ax
      ∙ ap (λ o. o >>= λ q. iter p a n q.0 q.1) (go v xs ms)
      ∙ iter_whole n m v xs ms (omega (arith, long s m x ax, length-append x xs)) where
        at : (y ys : List T) → Starts p true y → a s (x ++ (y ++ ys)) ≡ Ok (m, y ++ ys)
        at y ys (c, d, pc, e) =
            ap (λ zs. a s (x ++ (zs ++ ys))) e ∙ (good_a s).complete m x c (d ++ ys) ax (goes_on c pc) ∙ ap (λ zs. Ok (m, zs ++ ys)) (sym e)

        go : (v : V) (xs : List T) → Iter A m v xs → a s (x ++ xs) ≡ Ok (m, xs)
        go _ _ (stop k) = ap (a s) (append-nil x) ∙ (good_a s).whole m x ax
        go _ _ (turn k l w y ys ay rest) = at y ys (first_a k l y ay)

  -- an outcome at any measure that is large enough
  abbrev Outcomes : V → List T → Result (V × List T) (List T) → Type 0
  Outcomes s ts (Ok q) = (front : List T) × (ts ≡ front ++ q.1) × Iter A s q.0 front
      × ((t : T) (after z : List T) (n : ℕ) → q.1 ≡ t ∷ after → length (front ++ t ∷ z) ≤ n → iter p a n s (front ++ t ∷ z) ≡ Ok (q.0, t ∷ z))
  Outcomes s ts (Err rest) = (front : List T) × (ts ≡ front ++ rest) × ((tail : List T) × (v : V) × Iter A s v (front ++ tail))
      × ((t : T) (after z : List T) (n : ℕ) → rest ≡ t ∷ after → length (front ++ t ∷ z) ≤ n → iter p a n s (front ++ t ∷ z) ≡ Err (t ∷ z))

  one_of : (s v : V) (x : List T) → A s v x → Iter A s v x
  one_of s v x ax = subst (Iter A s v) (append-nil x) (turn s v v x [] ax (stop v))

  -- after one turn that read fa
  again_at : (s m : V) (fa fb mid rest : List T) (t : T) (after z : List T) (n : ℕ) → A s m fa
      → ((t : T) (after z : List T) → mid ≡ t ∷ after → a s (fa ++ t ∷ z) ≡ Ok (m, t ∷ z))
      → mid ≡ fb ++ rest → rest ≡ t ∷ after → iter p a (suc n) s ((fa ++ fb) ++ t ∷ z) ≡ iter p a n m (fb ++ t ∷ z)
  again_at s m fa [] mid rest t after z n ax local e h =
      ap (λ zs. iter p a (suc n) s (zs ++ t ∷ z)) (append-nil fa) ∙ front_step n s m fa (t ∷ z) ax ∙ ap (λ o. o >>= λ q. iter p a n q.0 q.1) (local t after z (e ∙ h))
  again_at s m fa (c ∷ fb) mid rest t after z n ax local e h =
      ap (iter p a (suc n) s) (append_assoc fa (c ∷ fb) (t ∷ z)) ∙ front_step n s m fa (c ∷ fb ++ t ∷ z) ax
      ∙ ap (λ o. o >>= λ q. iter p a n q.0 q.1) (local c (fb ++ rest) (fb ++ t ∷ z) e)

  second : (s m : V) (ts fa mid : List T) → ts ≡ fa ++ mid → A s m fa
      → ((t : T) (after z : List T) → mid ≡ t ∷ after → a s (fa ++ t ∷ z) ≡ Ok (m, t ∷ z))
      → (o : Result (V × List T) (List T)) → Outcomes m mid o → Outcomes s ts o
  second s m ts fa mid e ax local (Ok q) (fb, h, by, again) =
      (fa ++ fb, e ∙ ap (λ zs. fa ++ zs) h ∙ sym (append_assoc fa fb q.1), turn s m q.0 fa fb ax by, go) where
        go : (t : T) (after z : List T) (n : ℕ) → q.1 ≡ t ∷ after → length ((fa ++ fb) ++ t ∷ z) ≤ n → iter p a n s ((fa ++ fb) ++ t ∷ z) ≡ Ok (q.0, t ∷ z)
        go t after z zero k le = absurd (omega (arith, long s m fa ax, length-append (fa ++ fb) (t ∷ z), length-append fa fb))
        go t after z (suc n) k le = again_at s m fa fb mid q.1 t after z n ax local h k
            ∙ again t after z n k (omega (arith, long s m fa ax, length-append (fa ++ fb) (t ∷ z), length-append fa fb, length-append fb (t ∷ z)))
  second s m ts fa mid e ax local (Err rest) (fb, h, (tail, v, by), again) = (
    fa ++ fb,
    e ∙ ap (λ zs. fa ++ zs) h ∙ sym (append_assoc fa fb rest),
    (tail, v, subst (Iter A s v) (sym (append_assoc fa fb tail)) (turn s m v fa (fb ++ tail) ax by)),
    go,
  ) where
    go : (t : T) (after z : List T) (n : ℕ) → rest ≡ t ∷ after → length ((fa ++ fb) ++ t ∷ z) ≤ n → iter p a n s ((fa ++ fb) ++ t ∷ z) ≡ Err (t ∷ z)
    go t after z zero k le = absurd (omega (arith, long s m fa ax, length-append (fa ++ fb) (t ∷ z), length-append fa fb))
    go t after z (suc n) k le = again_at s m fa fb mid rest t after z n ax local h k
        ∙ again t after z n k (omega (arith, long s m fa ax, length-append (fa ++ fb) (t ∷ z), length-append fa fb, length-append fb (t ∷ z)))

  -- a token that passes stands first, whatever stands after the next token
  first_step : (s : V) (ts front rest : List T) (t : T) (after z : List T) (n : ℕ) → Starts p true ts → ts ≡ front ++ rest → rest ≡ t ∷ after
      → length (front ++ t ∷ z) ≤ n → (m : ℕ) × (iter p a n s (front ++ t ∷ z) ≡ (a s (front ++ t ∷ z) >>= λ q. iter p a m q.0 q.1))
  first_step s ts [] rest t after z zero st e k le = absurd (omega arith)
  first_step s ts (d ∷ front) rest t after z zero st e k le = absurd (omega arith)
  first_step s ts [] rest t after z (suc m) (c, v, pc, h) e k le =
      let same : c ≡ t = cc (sym h, e, k) in (m, step m s t z (ap p (sym same) ∙ pc))
  first_step s ts (d ∷ front) rest t after z (suc m) (c, v, pc, h) e k le =
      let same : c ≡ d = cc (sym h, e) in (m, step m s d (front ++ t ∷ z) (ap p (sym same) ∙ pc))

  one_turn : (n : ℕ) (s : V) (ts : List T) → Starts p true ts → length ts ≤ suc n → (o : Result (V × List T) (List T)) → Outcome (A s) (a s) ts o
      → ((m : V) (mid : List T) → length mid ≤ n → Outcomes m mid (iter p a n m mid)) → Outcomes s ts (o >>= λ q. iter p a n q.0 q.1)
  one_turn n s ts st le (Ok q) (fa, e, ax, local) ih =
      second s q.0 ts fa q.1 e ax local (iter p a n q.0 q.1) (ih q.0 q.1 (omega (arith, long s q.0 fa ax, ap length e, length-append fa q.1)))
  one_turn n s ts st le (Err rest) (fa, e, (tail, v, ax), local) ih = (
    fa,
    e,
    (tail, v, one_of s v (fa ++ tail) ax),
    λ t after z m k lm.
        let w = first_step s ts fa rest t after z m st e k lm in
        w.1 ∙ ap (λ o. o >>= λ q. iter p a w.0 q.0 q.1) (local t after z k),
  )

  iter_outcomes : (n : ℕ) (s : V) (ts : List T) → length ts ≤ n → Outcomes s ts (iter p a n s ts)
  iter_outcomes n s [] le = subst (Outcomes s []) (sym (ended n s)) ([], refl, stop s, λ t after z m k lm. absurd (cc k))
  iter_outcomes zero s (t ∷ ts) le = absurd (omega arith)
  iter_outcomes (suc n) s (t ∷ ts) le = go (iter_outcomes n) (p t) refl where
    go : ((m : V) (mid : List T) → length mid ≤ n → Outcomes m mid (iter p a n m mid)) → (v : Bool) → p t ≡ v → Outcomes s (t ∷ ts) (iter p a (suc n) s (t ∷ ts))
    go ih true e = subst (Outcomes s (t ∷ ts)) (sym (step n s t ts e))
        (one_turn n s (t ∷ ts) (t, ts, e, refl) le (a s (t ∷ ts)) ((good_a s).outcome (t ∷ ts)) ih)
    go ih false e = subst (Outcomes s (t ∷ ts)) (sym (last (suc n) s t ts e))
        ([], refl, stop s, λ c after z m k lm. let same : t ≡ c = cc k in last m s c z (ap p (sym same) ∙ e))

  iter_outcome : (s : V) (ts : List T) (o : Result (V × List T) (List T)) → Outcomes s ts o → Outcome (Iter A s) (λ zs. iter p a (length zs) s zs) ts o
  iter_outcome s ts (Ok q) (front, e, ms, local) = (front, e, ms, λ t after z k. local t after z (length (front ++ t ∷ z)) k (omega arith))
  iter_outcome s ts (Err rest) (front, e, ms, local) = (front, e, ms, λ t after z k. local t after z (length (front ++ t ∷ z)) k (omega arith))

  pub good_iter : (s : V) → Good (Iter A s) F (λ ts. iter p a (length ts) s ts)
  good_iter s = record {
    complete = λ v w t u ms f. iter_complete (length (w ++ t ∷ u)) s v w t u ms f (omega arith);
    whole = λ v w ms. iter_whole (length w) s v w ms (omega arith);
    outcome = λ ts. iter_outcome s ts (iter p a (length ts) s ts) (iter_outcomes (length ts) s ts (omega arith));
    word = (s, [], stop s);
  }

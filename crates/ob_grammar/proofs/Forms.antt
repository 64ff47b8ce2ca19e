-- Good readers of the forms that are built of the five.
use Rattle.std.proofs.Common.{◌≡◌, List, [], ◌∷◌, ◌++◌, length, ◌⊎◌, inl, inr, true, false, Option, Some, None, is_some, Ok, ◌<◌, refl, ◌∙◌, ap, subst, arith, length-append}
use Rattle.ob_grammar.specs.Language.{Token, Empty, Bind, Either, Iter, Next, Chain, Perhaps}
use Rattle.ob_grammar.specs.Reader.{token, empty, bind, choose, iter, next, chain, perhaps}
use Rattle.ob_grammar.proofs.Good.{Reader, Good, Outcome, Begins, Starts, good_token, good_empty, good_bind, good_choose, good_iter, behind}

abbrev pub Whatever : {T : Type 0} → T → Type 0
Whatever t = Unit {0}

-- nothing, or a list that begins with a token of which F holds
abbrev pub Leads : {T : Type 0} → (T → Type 0) → List T → Type 0
Leads {T} F w = (w ≡ []) ⊎ Begins F w

begins_any : {T : Type 0} (y : List T) (t : T) (u : List T) → Begins Whatever (y ++ t ∷ u)
begins_any [] t u = (t, u, tt, refl)
begins_any (c ∷ v) t u = (c, v ++ t ∷ u, tt, refl)

pub leads_on : {T : Type 0} (F : T → Type 0) (y : List T) (t : T) (z : List T) → Leads F y → F t → Begins F (y ++ t ∷ z)
leads_on F y t z (inl e) f = (t, z, f, ap (λ zs. zs ++ t ∷ z) e)
leads_on F y t z (inr (c, u, fc, e)) f = (c, u ++ t ∷ z, fc, ap (λ zs. zs ++ t ∷ z) e)

pub begins_on : {T : Type 0} (F : T → Type 0) (y z : List T) → Begins F y → Begins F (y ++ z)
begins_on F y z (c, u, fc, e) = (c, u ++ z, fc, ap (λ zs. zs ++ z) e)

pub begins_so : {T : Type 0} (F G : T → Type 0) (w : List T) → ((t : T) → F t → G t) → Begins F w → Begins G w
begins_so F G w so (t, u, f, e) = (t, u, so t f, e)

pub nothing_begins : {T : Type 0} (F : T → Type 0) → Begins F [] → ⊥
nothing_begins F (t, u, f, e) = absurd (cc e)

-- a word that begins with one token
pub begins_key : {T U V : Type 0} (k : T → Option U) (B : U → V → List T → Type 0) (F : T → Type 0) → ((t : T) (u : U) → k t ≡ Some u → F t)
    → (v : V) (w : List T) → Bind (Token k) B v w → Begins F w
begins_key k B F holds v w (u, x, y, (t, e, h), by, h2) = (t, y, holds t u e, h2 ∙ ap (λ zs. zs ++ y) h)

pub begins_token : {T V : Type 0} (k : T → Option V) (F : T → Type 0) → ((t : T) (v : V) → k t ≡ Some v → F t) → (v : V) (w : List T) → Token k v w → Begins F w
begins_token k F holds v w (t, e, h) = (t, [], holds t v e, h)

pub begins_bind : {T U V : Type 0} (A : U → List T → Type 0) (B : U → V → List T → Type 0) (F : T → Type 0) → ((u : U) (w : List T) → A u w → Begins F w)
    → (v : V) (w : List T) → Bind A B v w → Begins F w
begins_bind A B F first v w (u, x, y, ax, by, e) = go (first u x ax) where
  go : Begins F x → Begins F w
  go (t, z, f, h) = (t, z ++ y, f, e ∙ ap (λ zs. zs ++ y) h)

pub begins_either : {T V : Type 0} (A B : V → List T → Type 0) (F : T → Type 0) → ((v : V) (w : List T) → A v w → Begins F w) → ((v : V) (w : List T) → B v w → Begins F w)
    → (v : V) (w : List T) → Either A B v w → Begins F w
begins_either A B F a b v w (inl h) = a v w h
begins_either A B F a b v w (inr h) = b v w h

pub some_key : {T U : Type 0} (k : T → Option U) (t : T) (u : U) → k t ≡ Some u → is_some (k t) ≡ true
some_key k t u e = ap is_some e

-- A, then B, of which it is known how its words begin
module _ {T U V : Type 0} (A : U → List T → Type 0) (B : U → V → List T → Type 0) (Fa F : T → Type 0) (a : Reader T U) (b : U → Reader T V)
    (good_a : Good A Fa a) (good_b : (u : U) → Good (B u) F (b u)) (leads : (u : U) (v : V) (w : List T) → B u v w → Leads Fa w) (ends : (t : T) → F t → Fa t)
    (last : (t : T) × F t) where
  pub good_before : Good (Bind A B) F (bind a b)
  good_before = good_bind A B Fa F a b good_a good_b (λ u v y t z h f. leads_on Fa y t z (leads u v y h) (ends t f)) last

-- A, then B, each of whose words begins with what may stand after A
module _ {T U V : Type 0} (A : U → List T → Type 0) (B : U → V → List T → Type 0) (Fa F : T → Type 0) (a : Reader T U) (b : U → Reader T V)
    (good_a : Good A Fa a) (good_b : (u : U) → Good (B u) F (b u)) (first : (u : U) (v : V) (w : List T) → B u v w → Begins Fa w) (last : (t : T) × F t) where
  pub good_then : Good (Bind A B) F (bind a b)
  good_then = good_bind A B Fa F a b good_a good_b (λ u v y t z h f. begins_on Fa y (t ∷ z) (first u v y h)) last

-- one token, then A
module _ {T U V : Type 0} (k : T → Option U) (u : U) (c : T) (kc : k c ≡ Some u) (A : U → V → List T → Type 0) (F : T → Type 0) (a : U → Reader T V)
    (good_a : (u : U) → Good (A u) F (a u)) (last : (t : T) × F t) where
  pub good_keyed : Good (Bind (Token k) A) F (bind (token k) a)
  good_keyed = good_bind (Token k) A Whatever F (token k) a (good_token k Whatever u c kc) good_a (λ u v y t z e ft. begins_any y t z) last

-- a value made of another
module _ {T U V : Type 0} (A : U → List T → Type 0) (f : U → V) (F : T → Type 0) (a : Reader T U) (good_a : Good A F a) (last : (t : T) × F t) where
  pub good_map : Good (Bind A (λ u. Empty (f u))) F (bind a (λ u. empty (f u)))
  good_map = good_bind A (λ u. Empty (f u)) F F a (λ u. empty (f u)) good_a (λ u. good_empty (f u) F) (λ u v y t z e ft. (t, z, ft, ap (λ zs. zs ++ t ∷ z) e.1)) last

-- one token at the end
module _ {T U V : Type 0} (k : T → Option U) (u : U) (c : T) (kc : k c ≡ Some u) (f : U → V) (F : T → Type 0) (last : (t : T) × F t) where
  pub good_last : Good (Bind (Token k) (λ u. Empty (f u))) F (bind (token k) (λ u. empty (f u)))
  good_last = good_map (Token k) f F (token k) (good_token k F u c kc) last

-- A { k A }
module _ {T U V : Type 0} (k : T → Option (Unit {0})) (c : T) (kc : k c ≡ Some tt) (g : U → V) (f : V → U → V) (A : U → List T → Type 0) (Fa F : T → Type 0)
    (a : Reader T U) (good_a : Good A Fa a) (stops : (t : T) → F t → is_some (k t) ≡ false) (ends : (t : T) → F t → Fa t)
    (between : (t : T) → is_some (k t) ≡ true → Fa t) (last : (t : T) × F t) where
  turns : (s : V) → Good (Next k f A s) Fa (next k f a s)
  turns s = good_keyed k tt c kc (λ _. Bind A (λ u. Empty (f s u))) Fa (λ _. bind a (λ u. empty (f s u))) (λ _. good_map A (f s) Fa a good_a (last.0, ends last.0 last.1)) (last.0, ends last.0 last.1)

  starts_turn : (s v : V) (w : List T) → Next k f A s v w → Starts (λ t. is_some (k t)) true w
  starts_turn s v w h = begins_key k (λ _. Bind A (λ x. Empty (f s x))) (λ t. is_some (k t) ≡ true) (some_key k) v w h

  pub good_chain : Good (Chain k g f A) F (chain k g f a)
  good_chain = good_bind A (λ u v. Iter (Next k f A) (g u) v) Fa F a (λ u ts. iter (λ t. is_some (k t)) (next k f a) (length ts) (g u) ts) good_a
      (λ u. good_iter (Next k f A) Fa F (λ t. is_some (k t)) (next k f a) turns starts_turn stops ends between (g u))
      (λ u v y t z ms ft. behind (Next k f A) Fa F (λ t. is_some (k t)) (next k f a) turns starts_turn stops ends between (g u) v y t z ms ft)
      last

-- k A, or else B, whose words are empty or begin with no k
module _ {T U V : Type 0} (k : T → Option U) (u : U) (c : T) (kc : k c ≡ Some u) (A : U → V → List T → Type 0) (B : V → List T → Type 0) (F : T → Type 0)
    (a : U → Reader T V) (b : Reader T V) (good_a : (u : U) → Good (A u) F (a u)) (good_b : Good B F b)
    (other : (v : V) (w : List T) → B v w → Leads (λ t. is_some (k t) ≡ false) w) (stops : (v : V) → B v [] → (t : T) → F t → is_some (k t) ≡ false)
    (last : (t : T) × F t) where
  pub good_keyed_or : Good (Either (Bind (Token k) A) B) F (choose (λ t. is_some (k t)) (bind (token k) a) b)
  good_keyed_or = good_choose (Bind (Token k) A) B F (λ t. is_some (k t)) (bind (token k) a) b (good_keyed k u c kc A F a good_a last) good_b
      (λ v w h. begins_key k A (λ t. is_some (k t) ≡ true) (some_key k) v w h) other stops

-- [ k A ], which has a value of its own where it is left out
module _ {T U V : Type 0} (k : T → Option U) (u : U) (c : T) (kc : k c ≡ Some u) (A : U → V → List T → Type 0) (x : V) (F : T → Type 0)
    (a : U → Reader T V) (good_a : (u : U) → Good (A u) F (a u)) (stops : (t : T) → F t → is_some (k t) ≡ false) (last : (t : T) × F t) where
  pub good_keyed_or_empty : Good (Either (Bind (Token k) A) (Empty x)) F (choose (λ t. is_some (k t)) (bind (token k) a) (empty x))
  good_keyed_or_empty = good_keyed_or k u c kc A (Empty x) F a (empty x) good_a (good_empty x F) (λ v w h. inl h.1) (λ v h t f. stops t f) last

-- [ k A ]
module _ {T V : Type 0} (k : T → Option (Unit {0})) (c : T) (kc : k c ≡ Some tt) (A : V → List T → Type 0) (F : T → Type 0) (a : Reader T V) (good_a : Good A F a)
    (stops : (t : T) → F t → is_some (k t) ≡ false) (last : (t : T) × F t) where
  pub good_perhaps : Good (Perhaps k A) F (perhaps k a)
  good_perhaps = good_keyed_or_empty k tt c kc (λ _. Bind A (λ v. Empty (Some v))) None F (λ _. bind a (λ v. empty (Some v))) (λ _. good_map A Some F a good_a last) stops last

pub leads_perhaps : {T V : Type 0} (k : T → Option (Unit {0})) (A : V → List T → Type 0) (F : T → Type 0) → ((t : T) (u : Unit {0}) → k t ≡ Some u → F t)
    → (v : Option V) (w : List T) → Perhaps k A v w → Leads F w
leads_perhaps k A F holds v w (inl h) = inr (begins_key k (λ _. Bind A (λ v. Empty (Some v))) F holds v w h)
leads_perhaps k A F holds v w (inr h) = inl h.1

-- what may stand after a word may be fewer tokens
module _ {T V : Type 0} (L : V → List T → Type 0) (F G : T → Type 0) (r : Reader T V) (good : Good L F r) (so : (t : T) → G t → F t) where
  pub good_under : Good L G r
  good_under = record {
    complete = λ v w t u h g. good.complete v w t u h (so t g);
    whole = good.whole;
    outcome = good.outcome;
    word = good.word;
  }

-- a reader takes at least one token where each word begins with one
module _ {T V : Type 0} (L : V → List T → Type 0) (F G : T → Type 0) (r : Reader T V) (good : Good L F r) (first : (v : V) (w : List T) → L v w → Begins G w) where
  longer_than : (v : V) (front rest ts : List T) → ts ≡ front ++ rest → Begins G front → length rest < length ts
  longer_than v front rest ts e (t, u, g, h) = omega (arith, ap length e, ap length h, length-append front rest)

  pub takes_some : (ts : List T) (v : V) (rest : List T) → r ts ≡ Ok (v, rest) → length rest < length ts
  takes_some ts v rest at = go (subst (Outcome L r ts) at (good.outcome ts)) where
    go : Outcome L r ts (Ok (v, rest)) → length rest < length ts
    go (front, e, word, local) = longer_than v front rest ts e (first v front word)

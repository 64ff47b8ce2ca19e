-- Where a good reader of a grammar is stuck, or leaves something, is the place of the refusal.
use Rattle.std.proofs.Common.{◌≡◌, ℕ, zero, suc, ◌-◌, ◌<◌, ◌≤◌, List, [], ◌∷◌, ◌++◌, length, take, drop, Result, Ok, Err, refl, sym, ◌∙◌, ap, subst, arith, append_assoc, append-nil, length-append}
use Rattle.std.proofs.lemmas.List.{take_at, drop_at}
use Rattle.ob_grammar.specs.Place.{BeginsWord, IsPlace}
use Rattle.ob_grammar.proofs.Good.{Reader, Good, Outcome}

-- the parts of an answer
ok_parts : {T V : Type 0} (v w : V) (xs ys : List T) → ◌≡◌ {A = Result (V × List T) (List T)} (Ok (v, xs)) (Ok (w, ys)) → (v ≡ w) × (xs ≡ ys)
ok_parts {T} {V} v w xs ys e =
    let p : ◌≡◌ {A = V × List T} (v, xs) (w, ys) = cc e in
    (ap (λ (q : V × List T). q.0) p, ap (λ (q : V × List T). q.1) p)

-- a longer front of the tokens has the next token in it
longer : {T : Type 0} (front rest : List T) (j : ℕ) → length front < j → j ≤ length (front ++ rest)
    → (t : T) × (after : List T) × (z : List T) × (rest ≡ t ∷ after) × (take j (front ++ rest) ≡ front ++ t ∷ z)
longer [] [] j h le = absurd (omega arith)
longer [] (t ∷ rest) zero h le = absurd (omega arith)
longer [] (t ∷ rest) (suc j) h le = (t, rest, take j rest, refl, refl)
longer (c ∷ front) rest zero h le = absurd (omega arith)
longer {T} (c ∷ front) rest (suc j) h le = go (longer front rest j (omega arith) (omega arith)) where
  go : ((t : T) × (after : List T) × (z : List T) × (rest ≡ t ∷ after) × (take j (front ++ rest) ≡ front ++ t ∷ z))
      → (t : T) × (after : List T) × (z : List T) × (rest ≡ t ∷ after) × (c ∷ take j (front ++ rest) ≡ c ∷ (front ++ t ∷ z))
  go (t, after, z, e, f) = (t, after, z, e, ap (λ zs. c ∷ zs) f)

module _ {T V : Type 0} (L : V → List T → Type 0) (F : T → Type 0) (r : Reader T V) (good : Good L F r) (next : (t : T) × F t) where
  -- no word goes on with a token at which the reader is stuck
  stuck : (v : V) (front : List T) (t : T) (z : List T) → ((z : List T) → r (front ++ t ∷ z) ≡ Err (t ∷ z)) → L v (front ++ t ∷ z) → ⊥
  stuck v front t z again word =
      let read = good.complete v (front ++ t ∷ z) next.0 [] word next.1 in
      let same : front ++ (t ∷ z ++ next.0 ∷ []) ≡ (front ++ t ∷ z) ++ next.0 ∷ [] = sym (append_assoc front (t ∷ z) (next.0 ∷ [])) in
      cc (sym (again (z ++ next.0 ∷ [])) ∙ ap r same ∙ read)

  -- nor with one that it leaves
  left : (v w : V) (front : List T) (t : T) (z : List T) → ((z : List T) → r (front ++ t ∷ z) ≡ Ok (v, t ∷ z)) → L w (front ++ t ∷ z) → ⊥
  left v w front t z again word =
      let read = good.complete w (front ++ t ∷ z) next.0 [] word next.1 in
      let same : front ++ (t ∷ z ++ next.0 ∷ []) ≡ (front ++ t ∷ z) ++ next.0 ∷ [] = sym (append_assoc front (t ∷ z) (next.0 ∷ [])) in
      let both : ◌≡◌ {A = Result (V × List T) (List T)} (Ok (v, t ∷ z ++ next.0 ∷ [])) (Ok (w, next.0 ∷ [])) = sym (again (z ++ next.0 ∷ [])) ∙ ap r same ∙ read in
      let lists : t ∷ z ++ next.0 ∷ [] ≡ next.0 ∷ [] = (ok_parts v w (t ∷ z ++ next.0 ∷ []) (next.0 ∷ []) both).1 in
      omega (arith, ap length lists, length-append z (next.0 ∷ []))

  place_of : (ts front rest : List T) → ts ≡ front ++ rest → BeginsWord L front
      → ((t : T) (after z : List T) (v : V) → rest ≡ t ∷ after → L v (front ++ t ∷ z) → ⊥) → IsPlace L ts (length ts - length rest)
  place_of ts front rest e begins never =
      let here : length ts - length rest ≡ length front = omega (arith, ap length e, length-append front rest) in
      let taken : take (length ts - length rest) ts ≡ front = ap (λ k. take k ts) here ∙ ap (take (length front)) e ∙ take_at front rest (length front) refl in
      record {
        within = omega arith;
        begins = subst (BeginsWord L) (sym taken) begins;
        longest = λ j lt le (more, v, word).
            let l = longer front rest j (omega arith) (omega (arith, ap length e)) in
            let cut : take j ts ≡ front ++ l.0 ∷ l.2 = ap (take j) e ∙ l.4 in
            never l.0 l.1 (l.2 ++ more) v l.3
            (subst (L v) (ap (λ zs. zs ++ more) cut ∙ append_assoc front (l.0 ∷ l.2) more) word);
      }

  -- the tokens spell at most one value
  pub one_value : (ts : List T) (v w : V) → L v ts → L w ts → v ≡ w
  one_value ts v w a b = (ok_parts v w [] [] (sym (good.whole v ts a) ∙ good.whole w ts b)).0

  pub accepted : (ts : List T) (v : V) (rest : List T) → r ts ≡ Ok (v, rest) → length rest ≡ 0 → L v ts
  accepted ts v [] at h = go (subst (Outcome L r ts) at (good.outcome ts)) where
    go : Outcome L r ts (Ok (v, [])) → L v ts
    go (front, e, word, local) = subst (L v) (sym (append-nil front) ∙ sym e) word
  accepted ts v (t ∷ rest) at h = absurd (omega arith)

  pub left_over : (ts : List T) (v : V) (rest : List T) → r ts ≡ Ok (v, rest) → 0 < length rest → IsPlace L ts (length ts - length rest) × ((w : V) → L w ts → ⊥)
  left_over ts v [] at h = absurd (omega arith)
  left_over ts v (t ∷ rest) at h = go (subst (Outcome L r ts) at (good.outcome ts)) where
    go : Outcome L r ts (Ok (v, t ∷ rest)) → IsPlace L ts (length ts - length (t ∷ rest)) × ((w : V) → L w ts → ⊥)
    go (front, e, word, local) = (
      place_of ts front (t ∷ rest) e ([], v, subst (L v) (sym (append-nil front)) word) (λ c after z w k. left v w front c z (λ y. local c after y k)),
      λ w all. let lists = (ok_parts w v [] (t ∷ rest) (sym (good.whole w ts all) ∙ at)).1 in cc lists,
    )

  pub refused : (ts rest : List T) → r ts ≡ Err rest → IsPlace L ts (length ts - length rest) × ((w : V) → L w ts → ⊥)
  refused ts rest at = go (subst (Outcome L r ts) at (good.outcome ts)) where
    go : Outcome L r ts (Err rest) → IsPlace L ts (length ts - length rest) × ((w : V) → L w ts → ⊥)
    go (front, e, begins, local) = (
      place_of ts front rest e begins (λ c after z w k. stuck w front c z (λ y. local c after y k)),
      λ w all. cc (sym (good.whole w ts all) ∙ at),
    )

  -- a good reader leaves no more than there was
  pub shorter : (ts : List T) (v : V) (rest : List T) → r ts ≡ Ok (v, rest) → length rest ≤ length ts
  shorter ts v rest at = go (subst (Outcome L r ts) at (good.outcome ts)) where
    go : Outcome L r ts (Ok (v, rest)) → length rest ≤ length ts
    go (front, e, word, local) = omega (arith, ap length e, length-append front rest)

  pub no_longer : (ts rest : List T) → r ts ≡ Err rest → length rest ≤ length ts
  no_longer ts rest at = go (subst (Outcome L r ts) at (good.outcome ts)) where
    go : Outcome L r ts (Err rest) → length rest ≤ length ts
    go (front, e, begins, local) = omega (arith, ap length e, length-append front rest)

-- what a good reader leaves is what stands after the tokens that it took
dropped : {T : Type 0} (ts front rest : List T) → ts ≡ front ++ rest → drop (length ts - length rest) ts ≡ rest
dropped ts front rest e =
    let here : length ts - length rest ≡ length front = omega (arith, ap length e, length-append front rest) in
    ap (λ k. drop k ts) here ∙ ap (drop (length front)) e ∙ drop_at front rest (length front) refl

module _ {T V : Type 0} (L : V → List T → Type 0) (F : T → Type 0) (r : Reader T V) (good : Good L F r) where
  pub left_behind : (ts : List T) (v : V) (rest : List T) → r ts ≡ Ok (v, rest) → drop (length ts - length rest) ts ≡ rest
  left_behind ts v rest at = go (subst (Outcome L r ts) at (good.outcome ts)) where
    go : Outcome L r ts (Ok (v, rest)) → drop (length ts - length rest) ts ≡ rest
    go (front, e, word, local) = dropped ts front rest e

  pub stuck_behind : (ts rest : List T) → r ts ≡ Err rest → drop (length ts - length rest) ts ≡ rest
  stuck_behind ts rest at = go (subst (Outcome L r ts) at (good.outcome ts)) where
    go : Outcome L r ts (Err rest) → drop (length ts - length rest) ts ≡ rest
    go (front, e, begins, local) = dropped ts front rest e

-- a grammar with the same words has the same readers
module _ {T V : Type 0} (L K : V → List T → Type 0) (F : T → Type 0) (r : Reader T V) (good : Good L F r)
    (to : (v : V) (ts : List T) → L v ts → K v ts) (from : (v : V) (ts : List T) → K v ts → L v ts) where
  same_outcome : (ts : List T) (o : Result (V × List T) (List T)) → Outcome L r ts o → Outcome K r ts o
  same_outcome ts (Ok q) (front, e, word, local) = (front, e, to q.0 front word, local)
  same_outcome ts (Err rest) (front, e, (tail, v, word), local) = (front, e, (tail, v, to v (front ++ tail) word), local)

  pub good_same : Good K F r
  good_same = record {
    complete = λ v w t u kw f. good.complete v w t u (from v w kw) f;
    whole = λ v w kw. good.whole v w (from v w kw);
    outcome = λ ts. same_outcome ts (r ts) (good.outcome ts);
    word = let w = good.word in (w.0, w.1, to w.0 w.1 w.2);
  }

-- No draw of many runs is read twice.
use Rattle.std.proofs.Common.{◌≡◌, ◌≤◌, ◌<◌, ◌≢◌, ℕ, zero, suc, ◌-◌, ◌+◌, ◌⊎◌, inl, inr, true, false, ◌==◌, List, [], ◌∷◌, ◌++◌, Option, Some, None, length, get_or, set, refl, sym, ap, ◌∙◌, subst, arith, length-append}
use Rattle.std.specs.List.{All, AllPairs}
use Rattle.std.proofs.lemmas.Bool.{cases_eq, cases_lt, ne_eqb, or_from, true≢false}
use Rattle.std.proofs.lemmas.List.{length-set, get_or_past, get_or_default, get_or-set_same, get_or-set_other, get_or_append_left, get_or-append_right}
use Rattle.std.proofs.lemmas.List.Elements.{All-cons, All-nil}
use Rattle.ob_tree.specs.Scripts.{numbers}
use Rattle.ob_tree.proofs.RunLemmas.{length-numbers, get_or-numbers}
use Rattle.ob_linked.specs.Linked.{is_among}
use Rattle.ob_linked.specs.Leaves.{Event, Made, Failed, Accessed, Killed, Renewed, renewed, numbers_read, NoneHas, IsMended}

-- the draws of the keys are apart, and before the next
record Given (next : ℕ) (given : List ℕ) : Type 0 where
  apart : AllPairs (λ a b. a ≢ b) given
  below : (j d : ℕ) → j < length given → get_or given j d < next

given_later : (next n : ℕ) (given : List ℕ) → Given next given → Given (next + n) given
given_later next n given g = record { apart = g.apart; below = λ j d within. omega (arith, g.below j d within) }

module _ (next n : ℕ) (given : List ℕ) where
  abbrev more : List ℕ
  more = given ++ numbers next n

  in_front : (j d : ℕ) → j < length given → get_or more j d ≡ get_or given j d
  in_front j d within = get_or_append_left given (numbers next n) d j within

  behind : (j d : ℕ) → length given ≤ j → j < length more → get_or more j d ≡ next + (j - length given)
  behind j d past within =
      let size = length-append given (numbers next n) in
      let count = length-numbers next n in
      let off : j - length given < n = omega (arith, past, within, size, count) in
      get_or-append_right given (numbers next n) (length given) j d refl past ∙ get_or-numbers n next (j - length given) d off

  given_more : Given next given → Given (next + n) more
  given_more g = record {
    apart = λ i j d less within. by (cases_lt i (length given)) (cases_lt j (length given)) d less within;
    below = λ j d within. elim (cases_lt j (length given)) [
      | inl front ↦ omega (arith, in_front j d front, g.below j d front)
      | inr past ↦ omega (arith, behind j d past within, past, within, length-append given (numbers next n), length-numbers next n)
    ];
  }
    where
      by : {i j : ℕ} → (i < length given) ⊎ (length given ≤ i) → (j < length given) ⊎ (length given ≤ j) → (d : ℕ) → i < j → j < length more → get_or more i d ≢ get_or more j d
      by {i} {j} (inl one) (inl two) d less within same = g.apart i j d less two (sym (in_front i d one) ∙ same ∙ in_front j d two)
      by {i} {j} (inl one) (inr two) d less within same = omega (arith, same, in_front i d one, g.below i d one, behind j d two within)
      by {i} {j} (inr one) (inl two) d less within same = omega (arith, one, two, less)
      by {i} {j} (inr one) (inr two) d less within same = omega (arith, same, behind i d one (omega (arith, less, within)), behind j d two within, less, one)

-- a key reads its draw, and takes the next
module _ (next k : ℕ) (given : List ℕ) (g : Given next given) where
  at_most : get_or given k next ≤ next
  at_most = elim (cases_lt k (length given)) [ inl inside ↦ omega (arith, g.below k next inside) | inr past ↦ omega (arith, get_or_past given k next past) ]

  same_at : (i d : ℕ) → i ≡ k → i < length given → get_or (set given k next) i d ≡ next
  same_at i d same within = ap (λ a. get_or (set given k next) a d) same ∙ get_or-set_same given k next d (subst (λ a. a < length given) same within)

  inside : (j : ℕ) → j < length (set given k next) → j < length given
  inside j within = subst (λ n. j < n) (length-set given k next) within

  given_set : Given (next + 1) (set given k next)
  given_set = record {
    apart = λ i j d less within. by i j d less (inside j within) (cases_eq i k) (cases_eq j k);
    below = λ j d within. elim (cases_eq j k) [
      | inl same ↦ omega (arith, same_at j d same (inside j within))
      | inr off ↦ omega (arith, get_or-set_other given k j next d off, g.below j d (inside j within))
    ];
  }
    where
      by : (i j d : ℕ) → i < j → j < length given → (i ≡ k) ⊎ (i ≡ k → ⊥) → (j ≡ k) ⊎ (j ≡ k → ⊥) → get_or (set given k next) i d ≢ get_or (set given k next) j d
      by i j d less within (inl one) (inl two) equal = absurd (omega (arith, less, one, two))
      by i j d less within (inl one) (inr two) equal = absurd (omega (arith, equal, same_at i d one (omega (arith, less, within)), get_or-set_other given k j next d two, g.below j d within))
      by i j d less within (inr one) (inl two) equal = absurd (omega (arith, equal, same_at j d two within, get_or-set_other given k i next d one, g.below i d (omega (arith, less, within))))
      by i j d less within (inr one) (inr two) equal = g.apart i j d less within (sym (get_or-set_other given k i next d one) ∙ equal ∙ get_or-set_other given k j next d two)

  -- which no key has any more
  read_off : (j d : ℕ) → j < length (set given k next) → get_or given k next ≢ get_or (set given k next) j d
  read_off j d within equal = by (cases_eq j k) (cases_lt k (length given))
    where
      differ : (i : ℕ) → i < length given → j < length given → (j ≡ i → ⊥) → get_or given i d ≢ get_or given j d
      differ i hi hj off same = elim (cases_lt i j) [
        | inl less ↦ g.apart i j d less hj same
        | inr more ↦ g.apart j i d (omega (arith, more, λ (e : j ≡ i). off e)) hi (sym same)
      ]

      by : (j ≡ k) ⊎ (j ≡ k → ⊥) → (k < length given) ⊎ (length given ≤ k) → ⊥
      by (inl same) (inl front) = omega (arith, equal, same_at j d same (inside j within), g.below k next front)
      by (inl same) (inr past) = omega (arith, same, inside j within, past)
      by (inr off) (inl front) = differ k front (inside j within) off (get_or_default given k d next front ∙ equal ∙ get_or-set_other given k j next d off)
      by (inr off) (inr past) = omega (arith, equal, get_or_past given k next past, get_or-set_other given k j next d off, g.below j d (inside j within))

-- what holds of the draws given, and of all later ones, holds of those of keys that are renewed
renewed_all : (P : ℕ → Type 0) (ks : List ℕ) (given : List ℕ) (next : ℕ) → ((j d : ℕ) → j < length given → P (get_or given j d)) → ((i : ℕ) → next ≤ i → P i) → (j d : ℕ) → j < length (renewed given ks next) → P (get_or (renewed given ks next) j d)
renewed_all P [] given next old new = old
renewed_all P (k ∷ ks) given next old new =
    renewed_all P ks (set given k next) (suc next) (λ j d within. there j d (subst (λ n. j < n) (length-set given k next) within) (cases_eq j k)) (λ i more. new i (omega (arith, more)))
  where
    there : (j d : ℕ) → j < length given → (j ≡ k) ⊎ (j ≡ k → ⊥) → P (get_or (set given k next) j d)
    there j d within (inl same) =
        subst (λ i. P (get_or (set given k next) i d)) (sym same)
        (subst P (sym (get_or-set_same given k next d (subst (λ i. i < length given) same within))) (new next (omega arith)))
    there j d within (inr off) = subst P (sym (get_or-set_other given k j next d off)) (old j d within)

given_renewed : (ks : List ℕ) (next : ℕ) (given : List ℕ) → Given next given → Given (next + length ks) (renewed given ks next)
given_renewed [] next given g = given_later next 0 given g
given_renewed (k ∷ ks) next given g =
    subst (λ n. Given n (renewed (set given k next) ks (suc next))) (omega arith)
    (given_renewed ks (suc next) (set given k next) (subst (λ n. Given n (set given k next)) (omega arith) (given_set next k given g)))

read_here : (P : ℕ → Type 0) (k next : ℕ) (given : List ℕ) → ((j d : ℕ) → j < length given → P (get_or given j d)) → ((i : ℕ) → next ≤ i → P i) → P (get_or given k next)
read_here P k next given old new = elim (cases_lt k (length given)) [ inl inside ↦ old k next inside | inr past ↦ subst P (sym (get_or_past given k next past)) (new next (omega arith)) ]

-- what holds of the draws given and of all later ones holds of those that are read
read_all : (P : ℕ → Type 0) (events : List Event) (next : ℕ) (given : List ℕ) → ((j d : ℕ) → j < length given → P (get_or given j d)) → ((i : ℕ) → next ≤ i → P i) → All P (numbers_read next given events)
read_all P [] next given old new = All-nil P
read_all P (Made n ∷ events) next given old new = read_all P events (next + n) (given ++ numbers next n) longer (λ i more. new i (omega (arith, more)))
  where
    longer : (j d : ℕ) → j < length (given ++ numbers next n) → P (get_or (given ++ numbers next n) j d)
    longer j d within = elim (cases_lt j (length given)) [
      | inl front ↦ subst P (sym (in_front next n given j d front)) (old j d front)
      | inr past ↦ subst P (sym (behind next n given j d past within)) (new (next + (j - length given)) (omega arith))
    ]
read_all P (Failed n ∷ events) next given old new = read_all P events (next + n) given old (λ i more. new i (omega (arith, more)))
read_all P (Accessed k ∷ events) next given old new =
    All-cons P (get_or given k next) (numbers_read (next + 1) (set given k next) events) (read_here P k next given old new)
    (read_all P events (next + 1) (set given k next) (renewed_all P (k ∷ []) given next old new) (λ i more. new i (omega (arith, more))))
read_all P (Killed k ∷ events) next given old new =
    All-cons P (get_or given k next) (numbers_read (next + 1) given events) (read_here P k next given old new)
    (read_all P events (next + 1) given old (λ i more. new i (omega (arith, more))))
read_all P (Renewed ks ∷ events) next given old new =
    read_all P events (next + length ks) (renewed given ks next) (renewed_all P ks given next old new) (λ i more. new i (omega (arith, more)))

pairs_cons : (x : ℕ) (xs : List ℕ) → All (λ y. x ≢ y) xs → AllPairs (λ a b. a ≢ b) xs → AllPairs (λ a b. a ≢ b) (x ∷ xs)
pairs_cons x xs first rest zero zero d less within = absurd (omega (arith, less))
pairs_cons x xs first rest zero (suc j) d less within = first j d (omega (arith, within))
pairs_cons x xs first rest (suc i) zero d less within = absurd (omega (arith, less))
pairs_cons x xs first rest (suc i) (suc j) d less within = rest i j d (omega (arith, less)) (omega (arith, within))

-- what was read when a run was killed is read no more once it is mended
pending_off : (events : List Event) (draw next : ℕ) (given : List ℕ) → draw < next → IsMended next given (Some draw) events → All (λ y. draw ≢ y) (numbers_read next given events)
pending_off [] draw next given less mended = All-nil (λ y. draw ≢ y)
pending_off (Made n ∷ events) draw next given less mended = absurd mended
pending_off (Failed n ∷ events) draw next given less mended = pending_off events draw (next + n) given (omega (arith, less)) mended
pending_off (Accessed k ∷ events) draw next given less mended = absurd mended
pending_off (Killed k ∷ events) draw next given less mended = absurd mended
pending_off (Renewed ks ∷ events) draw next given less (none, mended) =
    read_all (λ y. draw ≢ y) events (next + length ks) (renewed given ks next)
    (λ j d within same. none.none j within (get_or_default (renewed given ks next) j 0 d within ∙ sym same))
    (λ i more same. absurd (omega (arith, more, same, less)))

reads_apart : (events : List Event) (next : ℕ) (given : List ℕ) (pending : Option ℕ) → Given next given → IsMended next given pending events → AllPairs (λ a b. a ≢ b) (numbers_read next given events)
reads_apart [] next given pending g mended = λ i j d less within. absurd (omega (arith, within))
reads_apart (Made n ∷ events) next given None g mended = reads_apart events (next + n) (given ++ numbers next n) None (given_more next n given g) mended
reads_apart (Made n ∷ events) next given (Some draw) g mended = absurd mended
reads_apart (Failed n ∷ events) next given None g mended = reads_apart events (next + n) given None (given_later next n given g) mended
reads_apart (Failed n ∷ events) next given (Some draw) g mended = reads_apart events (next + n) given (Some draw) (given_later next n given g) mended
reads_apart (Accessed k ∷ events) next given None g mended =
    pairs_cons (get_or given k next) (numbers_read (next + 1) (set given k next) events)
    (read_all (λ y. get_or given k next ≢ y) events (next + 1) (set given k next) (read_off next k given g) (λ i more same. absurd (omega (arith, more, same, at_most next k given g))))
    (reads_apart events (next + 1) (set given k next) None (given_set next k given g) mended)
reads_apart (Accessed k ∷ events) next given (Some draw) g mended = absurd mended
reads_apart (Killed k ∷ events) next given None g mended =
    pairs_cons (get_or given k next) (numbers_read (next + 1) given events)
    (pending_off events (get_or given k next) (next + 1) given (omega (arith, at_most next k given g)) mended)
    (reads_apart events (next + 1) given (Some (get_or given k next)) (given_later next 1 given g) mended)
reads_apart (Killed k ∷ events) next given (Some draw) g mended = absurd mended
reads_apart (Renewed ks ∷ events) next given None g mended = reads_apart events (next + length ks) (renewed given ks next) None (given_renewed ks next given g) mended
reads_apart (Renewed ks ∷ events) next given (Some draw) g (none, mended) = reads_apart events (next + length ks) (renewed given ks next) None (given_renewed ks next given g) mended

pub runs_apart : (events : List Event) → IsMended 0 [] None events → AllPairs (λ a b. a ≢ b) (numbers_read 0 [] events)
runs_apart events mended = reads_apart events 0 [] None (record { apart = λ i j d less within. absurd (omega (arith, within)); below = λ j d within. absurd (omega (arith, within)) }) mended

-- ---- the keys of a leaf
length-renewed : (ks given : List ℕ) (next : ℕ) → length (renewed given ks next) ≡ length given
length-renewed [] given next = refl
length-renewed (k ∷ ks) given next = length-renewed ks (set given k next) (suc next) ∙ length-set given k next

-- a key that isn't renewed has its draw, and one that is has a later one
kept_or_later : (ks given : List ℕ) (next j : ℕ) → j < length given → ((get_or (renewed given ks next) j 0 ≡ get_or given j 0) × (is_among ks j ≡ false)) ⊎ (next ≤ get_or (renewed given ks next) j 0)
kept_or_later [] given next j within = inl (refl, refl)
kept_or_later (k ∷ ks) given next j within = by_rest (kept_or_later ks (set given k next) (suc next) j (subst (λ n. j < n) (sym (length-set given k next)) within)) (cases_eq j k)
  where
    by_rest : ((get_or (renewed (set given k next) ks (suc next)) j 0 ≡ get_or (set given k next) j 0) × (is_among ks j ≡ false)) ⊎ (suc next ≤ get_or (renewed (set given k next) ks (suc next)) j 0) → (j ≡ k) ⊎ (j ≡ k → ⊥)
        → ((get_or (renewed given (k ∷ ks) next) j 0 ≡ get_or given j 0) × (is_among (k ∷ ks) j ≡ false)) ⊎ (next ≤ get_or (renewed given (k ∷ ks) next) j 0)
    by_rest (inl (same, off)) (inl is) =
        let at : get_or (set given k next) j 0 ≡ next = ap (λ a. get_or (set given k next) a 0) is ∙ get_or-set_same given k next 0 (subst (λ a. a < length given) is within) in
        inr (omega (arith, same, at))
    by_rest (inl (same, off)) (inr not) = inl (same ∙ get_or-set_other given k j next 0 not, or_from (k == j) (is_among ks j) (ne_eqb k j (λ e. not (sym e))) off)
    by_rest (inr later) which = inr (omega (arith, later))

pub enough : (leaf : ℕ → ℕ) (draw next : ℕ) (given ks : List ℕ) → draw < next → ((j : ℕ) → j < length given → leaf (get_or given j 0) ≡ leaf draw → is_among ks j ≡ true) → NoneHas draw (renewed given ks next)
enough leaf draw next given ks less all = record { none = λ j within same. by j same (subst (λ n. j < n) (length-renewed ks given next) within) (kept_or_later ks given next j (subst (λ n. j < n) (length-renewed ks given next) within)) }
  where
    by : (j : ℕ) → get_or (renewed given ks next) j 0 ≡ draw → j < length given → ((get_or (renewed given ks next) j 0 ≡ get_or given j 0) × (is_among ks j ≡ false)) ⊎ (next ≤ get_or (renewed given ks next) j 0) → ⊥
    by j same within (inl (kept, off)) = true≢false (sym (all j within (ap leaf (sym kept ∙ same))) ∙ off)
    by j same within (inr later) = omega (arith, later, same, less)

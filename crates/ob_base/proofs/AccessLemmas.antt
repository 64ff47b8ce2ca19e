-- Numbers after one more access.
use Rattle.std.proofs.Common.{◌≡◌, ◌≢◌, ◌⊎◌, inl, inr, zero, suc, take, slice_get, sym, ◌==◌, ◌&&◌, ℕ, ◌+◌, ◌-◌, ◌<◌, ◌≤◌, Bool, true, false, Some, None, length, List, [], ◌∷◌, ◌++◌, if◌then◌else◌, refl, ◌∙◌, ap, arith}
use Rattle.std.proofs.lemmas.Bool.{cases_eq}
use Rattle.std.proofs.lemmas.Bool.Decides.{nat_tests}
use Rattle.ob_base.specs.declared.access.Access.{Access}
use Rattle.ob_base.specs.declared.access.Access.TheVariants.{Make, Read, Write, Discard, Open}
use Rattle.ob_base.specs.Accesses.{highest, AllBelow, region_of, writes, makes, number_from, nth_write}

-- a read leaves the numbers
pub number_read : (n found region place q x : ℕ) (asked : List Access) → number_from n found region place (asked ++ Read q x ∷ []) ≡ number_from n found region place asked
unfolding number_from
number_read n found region place q x [] = refl
number_read n found region place q x (Make a b c ∷ rest) = number_read n found region place q x rest
number_read n found region place q x (Read a b ∷ rest) = number_read n found region place q x rest
number_read n found region place q x (Write a b ∷ rest) = number_read (n + 1) (if (a == region) && (b == place) then n + 1 else found) region place q x rest
number_read n found region place q x (Discard a ∷ rest) = number_read n found region place q x rest
number_read n found region place q x (Open a blocks len ∷ rest) = number_read n found region place q x rest

-- a write gives its place the next number, and leaves the others
pub number_write : (n found region place q x : ℕ) (asked : List Access) → number_from n found region place (asked ++ Write q x ∷ []) ≡ (if (q == region) && (x == place) then n + writes asked + 1 else number_from n found region place asked)
unfolding number_from writes
number_write n found region place q x [] = ap (λ (k : ℕ). if (q == region) && (x == place) then k + 1 else found) (omega arith)
number_write n found region place q x (Make a b c ∷ rest) = number_write n found region place q x rest
number_write n found region place q x (Read a b ∷ rest) = number_write n found region place q x rest
number_write n found region place q x (Write a b ∷ rest) =
    let put = if (a == region) && (b == place) then n + 1 else found in
    let sum : n + 1 + writes rest ≡ n + (1 + writes rest) = omega arith in
    number_write (n + 1) put region place q x rest ∙ ap (λ (k : ℕ). if (q == region) && (x == place) then k + 1 else number_from (n + 1) put region place rest) sum
number_write n found region place q x (Discard a ∷ rest) = number_write n found region place q x rest
number_write n found region place q x (Open a blocks len ∷ rest) = number_write n found region place q x rest

pub writes_read : (q x : ℕ) (asked : List Access) → writes (asked ++ Read q x ∷ []) ≡ writes asked
unfolding writes
writes_read q x [] = refl
writes_read q x (Make a b c ∷ rest) = writes_read q x rest
writes_read q x (Read a b ∷ rest) = writes_read q x rest
writes_read q x (Write a b ∷ rest) = ap (λ (n : ℕ). 1 + n) (writes_read q x rest)
writes_read q x (Discard a ∷ rest) = writes_read q x rest
writes_read q x (Open a blocks len ∷ rest) = writes_read q x rest

pub writes_write : (q x : ℕ) (asked : List Access) → writes (asked ++ Write q x ∷ []) ≡ writes asked + 1
unfolding writes
writes_write q x [] = refl
writes_write q x (Make a b c ∷ rest) = writes_write q x rest
writes_write q x (Read a b ∷ rest) = writes_write q x rest
writes_write q x (Write a b ∷ rest) = let more : 1 + (writes rest + 1) ≡ 1 + writes rest + 1 = omega arith in ap (λ (n : ℕ). 1 + n) (writes_write q x rest) ∙ more
writes_write q x (Discard a ∷ rest) = writes_write q x rest
writes_write q x (Open a blocks len ∷ rest) = writes_write q x rest

pub number_write_here : (n found region place : ℕ) (asked : List Access) → number_from n found region place (asked ++ Write region place ∷ []) ≡ n + writes asked + 1
number_write_here n found region place asked = number_write n found region place region place asked ∙ grind (arith, nat_tests)

pub number_write_other : (n found region place q x : ℕ) (asked : List Access) → (region ≡ q → place ≡ x → ⊥) → number_from n found region place (asked ++ Write q x ∷ []) ≡ number_from n found region place asked
number_write_other n found region place q x asked off = number_write n found region place q x asked ∙ other (n + writes asked + 1) (number_from n found region place asked)
  where
    first : (u v : ℕ) → region ≢ q → (if (q == region) && (x == place) then u else v) ≡ v
    first u v na = grind (arith, nat_tests)

    second : (u v : ℕ) → place ≢ x → (if (q == region) && (x == place) then u else v) ≡ v
    second u v nb = grind (arith, nat_tests)

    other : (u v : ℕ) → (if (q == region) && (x == place) then u else v) ≡ v
    other u v = elim (cases_eq region q) [
      | inl a ↦ elim (cases_eq place x) [ inl b ↦ absurd (off a b) | inr nb ↦ second u v nb ]
      | inr na ↦ first u v na
    ]

pub number_make : (n found region place q blocks len : ℕ) (asked : List Access) → number_from n found region place (asked ++ Make q blocks len ∷ []) ≡ number_from n found region place asked
unfolding number_from
number_make n found region place q x y [] = refl
number_make n found region place q x y (Make a b c ∷ rest) = number_make n found region place q x y rest
number_make n found region place q x y (Read a b ∷ rest) = number_make n found region place q x y rest
number_make n found region place q x y (Write a b ∷ rest) = number_make (n + 1) (if (a == region) && (b == place) then n + 1 else found) region place q x y rest
number_make n found region place q x y (Discard a ∷ rest) = number_make n found region place q x y rest
number_make n found region place q x y (Open a blocks len ∷ rest) = number_make n found region place q x y rest

pub number_discard : (n found region place q : ℕ) (asked : List Access) → number_from n found region place (asked ++ Discard q ∷ []) ≡ number_from n found region place asked
unfolding number_from
number_discard n found region place q [] = refl
number_discard n found region place q (Make a b c ∷ rest) = number_discard n found region place q rest
number_discard n found region place q (Read a b ∷ rest) = number_discard n found region place q rest
number_discard n found region place q (Write a b ∷ rest) = number_discard (n + 1) (if (a == region) && (b == place) then n + 1 else found) region place q rest
number_discard n found region place q (Discard a ∷ rest) = number_discard n found region place q rest
number_discard n found region place q (Open a blocks len ∷ rest) = number_discard n found region place q rest

pub number_open : (n found region place q blocks len : ℕ) (asked : List Access) → number_from n found region place (asked ++ Open q blocks len ∷ []) ≡ number_from n found region place asked
unfolding number_from
number_open n found region place q x y [] = refl
number_open n found region place q x y (Make a b c ∷ rest) = number_open n found region place q x y rest
number_open n found region place q x y (Read a b ∷ rest) = number_open n found region place q x y rest
number_open n found region place q x y (Write a b ∷ rest) = number_open (n + 1) (if (a == region) && (b == place) then n + 1 else found) region place q x y rest
number_open n found region place q x y (Discard a ∷ rest) = number_open n found region place q x y rest
number_open n found region place q x y (Open a b c ∷ rest) = number_open n found region place q x y rest

pub writes_make : (q blocks len : ℕ) (asked : List Access) → writes (asked ++ Make q blocks len ∷ []) ≡ writes asked
unfolding writes
writes_make q x y [] = refl
writes_make q x y (Make a b c ∷ rest) = writes_make q x y rest
writes_make q x y (Read a b ∷ rest) = writes_make q x y rest
writes_make q x y (Write a b ∷ rest) = ap (λ (n : ℕ). 1 + n) (writes_make q x y rest)
writes_make q x y (Discard a ∷ rest) = writes_make q x y rest
writes_make q x y (Open a blocks len ∷ rest) = writes_make q x y rest

pub writes_discard : (q : ℕ) (asked : List Access) → writes (asked ++ Discard q ∷ []) ≡ writes asked
unfolding writes
writes_discard q [] = refl
writes_discard q (Make a b c ∷ rest) = writes_discard q rest
writes_discard q (Read a b ∷ rest) = writes_discard q rest
writes_discard q (Write a b ∷ rest) = ap (λ (n : ℕ). 1 + n) (writes_discard q rest)
writes_discard q (Discard a ∷ rest) = writes_discard q rest
writes_discard q (Open a blocks len ∷ rest) = writes_discard q rest

pub writes_open : (q blocks len : ℕ) (asked : List Access) → writes (asked ++ Open q blocks len ∷ []) ≡ writes asked
unfolding writes
writes_open q x y [] = refl
writes_open q x y (Make a b c ∷ rest) = writes_open q x y rest
writes_open q x y (Read a b ∷ rest) = writes_open q x y rest
writes_open q x y (Write a b ∷ rest) = ap (λ (n : ℕ). 1 + n) (writes_open q x y rest)
writes_open q x y (Discard a ∷ rest) = writes_open q x y rest
writes_open q x y (Open a b c ∷ rest) = writes_open q x y rest

-- how many regions one more access makes
abbrev pub made : Access → ℕ
made (Make q blocks len) = 1
made other = 0

pub makes_more : (asked : List Access) (a : Access) → makes (asked ++ a ∷ []) ≡ makes asked + made a
unfolding makes
makes_more [] (Make q blocks len) = refl
makes_more [] (Read q x) = refl
makes_more [] (Write q x) = refl
makes_more [] (Discard q) = refl
makes_more [] (Open q blocks len) = refl
makes_more (Make q blocks len ∷ rest) a = omega (arith, makes_more rest a)
makes_more (Read q x ∷ rest) a = makes_more rest a
makes_more (Write q x ∷ rest) a = makes_more rest a
makes_more (Discard q ∷ rest) a = makes_more rest a
makes_more (Open q blocks len ∷ rest) a = makes_more rest a

-- the region of an access
pub below_more : (n : ℕ) (asked : List Access) (a : Access) → AllBelow n asked → region_of a < n → AllBelow n (asked ++ a ∷ [])
below_more n [] (Make q blocks len) all h = (h, tt)
below_more n [] (Read q x) all h = (h, tt)
below_more n [] (Write q x) all h = (h, tt)
below_more n [] (Discard q) all h = (h, tt)
below_more n [] (Open q blocks len) all h = (h, tt)
below_more n (Make q blocks len ∷ rest) a all h = (all.0, below_more n rest a all.1 h)
below_more n (Read q x ∷ rest) a all h = (all.0, below_more n rest a all.1 h)
below_more n (Write q x ∷ rest) a all h = (all.0, below_more n rest a all.1 h)
below_more n (Discard q ∷ rest) a all h = (all.0, below_more n rest a all.1 h)
below_more n (Open q blocks len ∷ rest) a all h = (all.0, below_more n rest a all.1 h)

pub below_up : (n m : ℕ) (asked : List Access) → n ≤ m → AllBelow n asked → AllBelow m asked
below_up n m [] le all = tt
below_up n m (Make q blocks len ∷ rest) le all = (omega (arith, all.0), below_up n m rest le all.1)
below_up n m (Read q x ∷ rest) le all = (omega (arith, all.0), below_up n m rest le all.1)
below_up n m (Write q x ∷ rest) le all = (omega (arith, all.0), below_up n m rest le all.1)
below_up n m (Discard q ∷ rest) le all = (omega (arith, all.0), below_up n m rest le all.1)
below_up n m (Open q blocks len ∷ rest) le all = (omega (arith, all.0), below_up n m rest le all.1)

pub highest_below : (n : ℕ) (asked : List Access) → 1 ≤ n → AllBelow n asked → highest asked < n
highest_below n [] one all = one
highest_below n (Make q blocks len ∷ rest) one all = omega (arith, all.0, highest_below n rest one all.1)
highest_below n (Read q x ∷ rest) one all = highest_below n rest one all.1
highest_below n (Write q x ∷ rest) one all = highest_below n rest one all.1
highest_below n (Discard q ∷ rest) one all = highest_below n rest one all.1
highest_below n (Open q blocks len ∷ rest) one all = highest_below n rest one all.1

-- no place of a region above all was written
pub number_fresh : (n found region place : ℕ) (asked : List Access) → AllBelow region asked → number_from n found region place asked ≡ found
unfolding number_from
number_fresh n found region place [] all = refl
number_fresh n found region place (Make q blocks len ∷ rest) all = number_fresh n found region place rest all.1
number_fresh n found region place (Read q x ∷ rest) all = number_fresh n found region place rest all.1
number_fresh n found region place (Discard q ∷ rest) all = number_fresh n found region place rest all.1
number_fresh n found region place (Open q blocks len ∷ rest) all = number_fresh n found region place rest all.1
number_fresh n found region place (Write q x ∷ rest) all =
    number_fresh (n + 1) (if (q == region) && (x == place) then n + 1 else found) region place rest all.1 ∙ off (n + 1) found (omega (arith, all.0))
  where
    off : (u v : ℕ) → q ≢ region → (if (q == region) && (x == place) then u else v) ≡ v
    off u v na = grind (arith, nat_tests)

pub writes_few : (asked : List Access) → writes asked ≤ length asked
unfolding writes
writes_few [] = omega arith
writes_few (Make q blocks len ∷ rest) = omega (arith, writes_few rest)
writes_few (Read q x ∷ rest) = omega (arith, writes_few rest)
writes_few (Write q x ∷ rest) = omega (arith, writes_few rest)
writes_few (Discard q ∷ rest) = omega (arith, writes_few rest)
writes_few (Open q blocks len ∷ rest) = omega (arith, writes_few rest)

pub makes_few : (asked : List Access) → makes asked ≤ length asked
unfolding makes
makes_few [] = omega arith
makes_few (Make q blocks len ∷ rest) = omega (arith, makes_few rest)
makes_few (Read q x ∷ rest) = omega (arith, makes_few rest)
makes_few (Write q x ∷ rest) = omega (arith, makes_few rest)
makes_few (Discard q ∷ rest) = omega (arith, makes_few rest)
makes_few (Open q blocks len ∷ rest) = omega (arith, makes_few rest)

pub went_on : (n : ℕ) (asked more : List Access) (p : ℕ × ℕ) → nth_write n asked ≡ Some p → nth_write n (asked ++ more) ≡ Some p
unfolding nth_write
went_on n [] more p is = absurd (cc is)
went_on n (Write q x ∷ rest) more p is = go (n == 1) (went_on (n - 1) rest more p) is
  where
    go : (b : Bool) → (nth_write (n - 1) rest ≡ Some p → nth_write (n - 1) (rest ++ more) ≡ Some p) → (if b then Some (q, x) else nth_write (n - 1) rest) ≡ Some p
        → (if b then Some (q, x) else nth_write (n - 1) (rest ++ more)) ≡ Some p
    go true on is = is
    go false on is = on is
went_on n (Make a b c ∷ rest) more p is = went_on n rest more p is
went_on n (Read a b ∷ rest) more p is = went_on n rest more p is
went_on n (Discard a ∷ rest) more p is = went_on n rest more p is
went_on n (Open a blocks len ∷ rest) more p is = went_on n rest more p is

pub went_last : (n q x : ℕ) (asked : List Access) → n ≡ writes asked + 1 → nth_write n (asked ++ Write q x ∷ []) ≡ Some (q, x)
unfolding nth_write writes
went_last n q x [] is = let one : n ≡ 1 = omega arith in ap (λ (k : ℕ). if k == 1 then Some (q, x) else None) one
went_last n q x (Write a b ∷ rest) is =
    let other : (n == 1) ≡ false = not_one n (omega arith) in
    ap (λ (t : Bool). if t then Some (a, b) else nth_write (n - 1) (rest ++ Write q x ∷ [])) other ∙ went_last (n - 1) q x rest (omega arith)
  where
    not_one : (n : ℕ) → n ≢ 1 → (n == 1) ≡ false
    not_one n off = grind (arith, nat_tests)
went_last n q x (Make a b c ∷ rest) is = went_last n q x rest is
went_last n q x (Read a b ∷ rest) is = went_last n q x rest is
went_last n q x (Discard a ∷ rest) is = went_last n q x rest is
went_last n q x (Open a blocks len ∷ rest) is = went_last n q x rest is

-- the regions of two lists of accesses
pub makes-append : (asked more : List Access) → makes (asked ++ more) ≡ makes asked + makes more
unfolding makes
makes-append [] more = omega arith
makes-append (Make q blocks len ∷ rest) more = omega (arith, makes-append rest more)
makes-append (Read q x ∷ rest) more = makes-append rest more
makes-append (Write q x ∷ rest) more = makes-append rest more
makes-append (Discard q ∷ rest) more = makes-append rest more
makes-append (Open q blocks len ∷ rest) more = makes-append rest more

-- where a place's number is from: it was found before, or it is that of a write to the place
abbrev pub NumberFrom : ℕ → ℕ → ℕ → ℕ → ℕ → List Access → Type 0
NumberFrom m n found region place asked = (m ≡ found) ⊎ ((n < m) × (nth_write (m - n) asked ≡ Some (region, place)))

own_write : (n found region place a b : ℕ) (rest : List Access) → ((f : ℕ) → NumberFrom (number_from (n + 1) f region place rest) (n + 1) f region place rest)
    → NumberFrom (number_from n found region place (Write a b ∷ rest)) n found region place (Write a b ∷ rest)
unfolding number_from nth_write
own_write n found region place a b rest behind = go ((a == region) && (b == place)) refl
  where
    after : (m : ℕ) → n + 1 < m → nth_write (m - (n + 1)) rest ≡ Some (region, place) → (n < m) × ((if m - n == 1 then Some (a, b) else nth_write (m - n - 1) rest) ≡ Some (region, place))
    after m more is =
        let not_first : (m - n == 1) ≡ false = grind (arith, nat_tests) in
        let less : m - n - 1 ≡ m - (n + 1) = omega arith in
        (omega arith, ap (λ (t : Bool). if t then Some (a, b) else nth_write (m - n - 1) rest) not_first ∙ ap (λ (k : ℕ). nth_write k rest) less ∙ is)

    first : (m : ℕ) → m ≡ n + 1 → ((a == region) && (b == place)) ≡ true → (n < m) × ((if m - n == 1 then Some (a, b) else nth_write (m - n - 1) rest) ≡ Some (region, place))
    first m is here =
        let one : (m - n == 1) ≡ true = grind (arith, nat_tests) in
        let in_region : a ≡ region = grind (arith, nat_tests) in
        let at_place : b ≡ place = grind (arith, nat_tests) in
        (omega arith, ap (λ (t : Bool). if t then Some (a, b) else nth_write (m - n - 1) rest) one ∙ (λ i. Some (in_region i, at_place i)))

    go : (t : Bool) → ((a == region) && (b == place)) ≡ t → NumberFrom (number_from (n + 1) (if t then n + 1 else found) region place rest) n found region place (Write a b ∷ rest)
    go true here = elim (behind (n + 1)) [ inl is ↦ inr (first _ is here) | inr more ↦ inr (after _ more.0 more.1) ]
    go false off = elim (behind found) [ inl is ↦ inl is | inr more ↦ inr (after _ more.0 more.1) ]

pub number_own : (n found region place : ℕ) (asked : List Access) → NumberFrom (number_from n found region place asked) n found region place asked
unfolding number_from nth_write
number_own n found region place [] = inl refl
number_own n found region place (Make a b c ∷ rest) = number_own n found region place rest
number_own n found region place (Read a b ∷ rest) = number_own n found region place rest
number_own n found region place (Discard a ∷ rest) = number_own n found region place rest
number_own n found region place (Open a blocks len ∷ rest) = number_own n found region place rest
number_own n found region place (Write a b ∷ rest) = own_write n found region place a b rest (λ f. number_own (n + 1) f region place rest)

-- the write at a position has the number of the writes before it and 1
pub write_named : (asked : List Access) (i q x : ℕ) → slice_get asked i ≡ Some (Write q x) → nth_write (writes (take i asked) + 1) asked ≡ Some (q, x)
unfolding writes nth_write
write_named [] i q x is = absurd (cc is)
write_named (Write a b ∷ rest) zero q x is = let r : a ≡ q = cc is in let p : b ≡ x = cc is in λ i. Some (r i, p i)
write_named (Make a b c ∷ rest) zero q x is = absurd (cc is)
write_named (Read a b ∷ rest) zero q x is = absurd (cc is)
write_named (Discard a ∷ rest) zero q x is = absurd (cc is)
write_named (Open a blocks len ∷ rest) zero q x is = absurd (cc is)
write_named (Write a b ∷ rest) (suc i) q x is =
    let n = writes (take i rest) in
    let later : (1 + n + 1 == 1) ≡ false = grind (arith, nat_tests) in
    let back : 1 + n + 1 - 1 ≡ n + 1 = omega arith in
    ap (λ (t : Bool). if t then Some (a, b) else nth_write (1 + n + 1 - 1) rest) later ∙ ap (λ (k : ℕ). nth_write k rest) back ∙ write_named rest i q x is
write_named (Make a b c ∷ rest) (suc i) q x is = write_named rest i q x is
write_named (Read a b ∷ rest) (suc i) q x is = write_named rest i q x is
write_named (Discard a ∷ rest) (suc i) q x is = write_named rest i q x is
write_named (Open a blocks len ∷ rest) (suc i) q x is = write_named rest i q x is

some_before : (a : Access) (rest : List Access) (j q x : ℕ) → a ≡ Write q x → 0 ≡ writes (take (suc j) (a ∷ rest)) → ⊥
unfolding writes
some_before (Write a b) rest j q x is none = omega (arith, none)
some_before other rest j q x is none = cc is

one_less : (a : Access) (xs ys : List Access) → writes (a ∷ xs) ≡ writes (a ∷ ys) → writes xs ≡ writes ys
unfolding writes
one_less (Write a b) xs ys same = omega (arith, same)
one_less other xs ys same = same

-- no two writes have as many before them
pub write_apart : (asked : List Access) (i j q x r y : ℕ) → slice_get asked i ≡ Some (Write q x) → slice_get asked j ≡ Some (Write r y) → writes (take i asked) ≡ writes (take j asked) → i ≡ j
unfolding writes
write_apart [] i j q x r y is at same = absurd (cc is)
write_apart (a ∷ rest) zero zero q x r y is at same = refl
write_apart (a ∷ rest) zero (suc j) q x r y is at same = absurd (some_before a rest j q x (cc is) same)
write_apart (a ∷ rest) (suc i) zero q x r y is at same = absurd (some_before a rest i r y (cc at) (sym same))
write_apart (a ∷ rest) (suc i) (suc j) q x r y is at same = ap suc (write_apart rest i j q x r y is at (one_less a (take i rest) (take j rest) same))

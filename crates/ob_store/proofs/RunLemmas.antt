-- The accesses that runs spell, after one more.
use Rattle.std.proofs.Common.{◌≡◌, ◌==◌, ◌&&◌, ◌≤◌, ◌+◌, ℕ, suc, Bool, true, false, if◌then◌else◌, List, [], ◌∷◌, ◌++◌, length, refl, sym, ◌∙◌, ap, arith, append_assoc, add-zero}
use Rattle.std.proofs.lemmas.Bool.Decides.{nat_tests}
use Rattle.ob_base.specs.Lists.{tabulate}
use Rattle.ob_base.specs.declared.access.Access.{Access}
use Rattle.ob_base.specs.declared.access.Access.TheVariants.{Make, Read, Write, Discard, Open}
use Rattle.ob_store.specs.Logs.{Run, raised, entry, spelt_run, spelt, is_raised, is_next, is_turn, goes_on, comes_round, lengthened, added}

-- each run has a cycle, which is no longer than the run
abbrev pub Full : List Run → Type 0
Full [] = Unit {0}
Full (run ∷ before) = (1 ≤ length run.cycle) × (length run.cycle ≤ run.count) × Full before

left_of : (q r u v : ℕ) → ((q == r) && (u == v)) ≡ true → q ≡ r
left_of q r u v is = grind (arith, nat_tests)

right_of : (q r u v : ℕ) → ((q == r) && (u == v)) ≡ true → u ≡ v
right_of q r u v is = grind (arith, nat_tests)

both_true : (a b : Bool) → (a && b) ≡ true → (a ≡ true) × (b ≡ true)
both_true true true is = (refl, refl)
both_true true false is = absurd (cc is)
both_true false b is = absurd (cc is)

pub raised_is : (n : ℕ) (first a : Access) → is_raised n first a ≡ true → raised n first ≡ a
raised_is n (Read q x) (Read r y) is = let e = left_of q r (x + n) y is in let f = right_of q r (x + n) y is in cc
raised_is n (Write q x) (Write r y) is = let e = left_of q r (x + n) y is in let f = right_of q r (x + n) y is in cc
raised_is n (Read q x) (Write r y) is = absurd (cc is)
raised_is n (Read q x) (Make r b l) is = absurd (cc is)
raised_is n (Read q x) (Discard r) is = absurd (cc is)
raised_is n (Read q x) (Open r b l) is = absurd (cc is)
raised_is n (Write q x) (Read r y) is = absurd (cc is)
raised_is n (Write q x) (Make r b l) is = absurd (cc is)
raised_is n (Write q x) (Discard r) is = absurd (cc is)
raised_is n (Write q x) (Open r b l) is = absurd (cc is)
raised_is n other a is = absurd (cc is)

raised_zero : (a : Access) → raised 0 a ≡ a
raised_zero (Read q x) = ap (Read q) (add-zero x)
raised_zero (Write q x) = ap (Write q) (add-zero x)
raised_zero other = refl

pub entry_one : (a : Access) → entry (a ∷ []) 0 ≡ a
entry_one a = raised_zero a

grown : (cycle : List Access) (count : ℕ) (a : Access) → is_next cycle count a ≡ true → tabulate (count + 1) (entry cycle) ≡ tabulate count (entry cycle) ++ a ∷ []
grown cycle count a is =
    let next : count + 1 ≡ suc count = omega arith in
    ap (λ (n : ℕ). tabulate n (entry cycle)) next ∙ ap (λ (x : Access). tabulate count (entry cycle) ++ x ∷ []) (raised_is _ _ a is)

-- a run of one access
record IsOne (run : Run) : Type 0 where
  access : Access
  cycle : run.cycle ≡ access ∷ []
  count : run.count ≡ 1

one_of : (cycle : List Access) (count : ℕ) → 1 ≤ length cycle → length cycle ≤ count → count ≡ 1 → IsOne (record { cycle = cycle; count = count })
one_of [] count some few is = absurd (omega arith)
one_of (a ∷ []) count some few is = record { access = a; cycle = refl; count = is }
one_of (a ∷ b ∷ rest) count some few is = absurd (omega arith)

spelt_one : (a : Access) → tabulate 1 (entry (a ∷ [])) ≡ a ∷ []
spelt_one a = ap (λ (x : Access). x ∷ []) (entry_one a)

spelt_two : (p q a : Access) → raised 1 p ≡ a → tabulate 3 (entry (p ∷ q ∷ [])) ≡ p ∷ q ∷ a ∷ []
spelt_two p q a is = let e = raised_zero p in let f = raised_zero q in cc

spelt_three : (p q r a : Access) → raised 1 p ≡ a → tabulate 4 (entry (p ∷ q ∷ r ∷ [])) ≡ p ∷ q ∷ r ∷ a ∷ []
spelt_three p q r a is = let e = raised_zero p in let f = raised_zero q in let g = raised_zero r in cc

new_run : (a : Access) (runs : List Run) → spelt (lengthened 0 a runs) ≡ spelt runs ++ a ∷ []
unfolding spelt
new_run a runs = ap (λ (l : List Access). spelt runs ++ l) (spelt_one a)

same_of : (m n : ℕ) → (m == n) ≡ true → m ≡ n
same_of m n is = grind (arith, nat_tests)

two_ones : (m n : ℕ) → 1 ≤ m → 1 ≤ n → m + n ≡ 2 → (m ≡ 1) × (n ≡ 1)
two_ones m n some more is = (omega arith, omega arith)

three_ones : (l m n : ℕ) → 1 ≤ l → 1 ≤ m → 1 ≤ n → l + m + n ≡ 3 → (l ≡ 1) × (m ≡ 1) × (n ≡ 1)
three_ones l m n one some more is = (omega arith, omega arith, omega arith)

join_one : (a : Access) (runs : List Run) → goes_on a runs ≡ true → spelt (lengthened 1 a runs) ≡ spelt runs ++ a ∷ []
unfolding spelt
join_one a [] is = absurd (cc is)
join_one a (z ∷ before) is =
    let count : 0 + z.count + 1 ≡ z.count + 1 = omega arith in
    ap (λ (n : ℕ). spelt before ++ tabulate n (entry z.cycle)) count
    ∙ ap (λ (l : List Access). spelt before ++ l) (grown z.cycle z.count a is)
    ∙ sym (append_assoc (spelt before) (spelt_run z) (a ∷ []))

join_two : (a : Access) (runs : List Run) → Full runs → comes_round 2 a runs ≡ true → spelt (lengthened 2 a runs) ≡ spelt runs ++ a ∷ []
unfolding spelt
join_two a [] full is = absurd (cc is)
join_two a (z ∷ []) full is = absurd (cc is)
join_two a (z ∷ y ∷ before) full is =
    let tests = both_true _ _ (both_true _ _ is).1 in
    let sum : y.count + z.count ≡ 2 = omega (arith, same_of (0 + y.count + z.count) 2 tests.0) in
    let ones = two_ones y.count z.count (omega (arith, full.2.0, full.2.1)) (omega (arith, full.0, full.1)) sum in
    let p = one_of y.cycle y.count full.2.0 full.2.1 ones.0 in
    let q = one_of z.cycle z.count full.0 full.1 ones.1 in
    let cycle : y.cycle ++ z.cycle ≡ p.access ∷ q.access ∷ [] = ap (λ (c : List Access). c ++ z.cycle) p.cycle ∙ ap (λ (c : List Access). (p.access ∷ []) ++ c) q.cycle in
    let round : is_turn (p.access ∷ q.access ∷ []) a ≡ true = ap (λ (c : List Access). is_turn c a) (sym cycle) ∙ tests.1 in
    let up : raised 1 p.access ≡ a = raised_is 1 p.access a (both_true _ _ round).1 in
    let count : 0 + y.count + z.count + 1 ≡ 3 = omega (arith, sum) in
    let all : tabulate (0 + y.count + z.count + 1) (entry (y.cycle ++ z.cycle)) ≡ p.access ∷ q.access ∷ a ∷ [] =
    ap (λ (n : ℕ). tabulate n (entry (y.cycle ++ z.cycle))) count ∙ ap (λ (c : List Access). tabulate 3 (entry c)) cycle ∙ spelt_two p.access q.access a up in
    let first : spelt_run y ≡ p.access ∷ [] = ap (λ (n : ℕ). tabulate n (entry y.cycle)) ones.0 ∙ ap (λ (c : List Access). tabulate 1 (entry c)) p.cycle ∙ spelt_one p.access in
    let second : spelt_run z ≡ q.access ∷ [] = ap (λ (n : ℕ). tabulate n (entry z.cycle)) ones.1 ∙ ap (λ (c : List Access). tabulate 1 (entry c)) q.cycle ∙ spelt_one q.access in
    ap (λ (l : List Access). spelt before ++ l) all
    ∙ spread (spelt before) p.access q.access a
    ∙ ap (λ (l : List Access). spelt before ++ l ++ (q.access ∷ []) ++ a ∷ []) (sym first)
    ∙ ap (λ (l : List Access). spelt before ++ spelt_run y ++ l ++ a ∷ []) (sym second)
  where
    spread : (l : List Access) (p q a : Access) → l ++ (p ∷ q ∷ a ∷ []) ≡ l ++ (p ∷ []) ++ (q ∷ []) ++ a ∷ []
    spread l p q a = sym (append_assoc (l ++ p ∷ []) (q ∷ []) (a ∷ []) ∙ append_assoc l (p ∷ []) (q ∷ a ∷ []))

join_three : (a : Access) (runs : List Run) → Full runs → comes_round 3 a runs ≡ true → spelt (lengthened 3 a runs) ≡ spelt runs ++ a ∷ []
unfolding spelt
join_three a [] full is = absurd (cc is)
join_three a (z ∷ []) full is = absurd (cc is)
join_three a (z ∷ y ∷ []) full is = absurd (cc is)
join_three a (z ∷ y ∷ x ∷ before) full is =
    let tests = both_true _ _ (both_true _ _ is).1 in
    let sum : x.count + y.count + z.count ≡ 3 = omega (arith, same_of (0 + x.count + y.count + z.count) 3 tests.0) in
    let ones = three_ones x.count y.count z.count (omega (arith, full.2.2.0, full.2.2.1)) (omega (arith, full.2.0, full.2.1)) (omega (arith, full.0, full.1)) sum in
    let o = one_of x.cycle x.count full.2.2.0 full.2.2.1 ones.0 in
    let p = one_of y.cycle y.count full.2.0 full.2.1 ones.1 in
    let q = one_of z.cycle z.count full.0 full.1 ones.2 in
    let cycle : x.cycle ++ y.cycle ++ z.cycle ≡ o.access ∷ p.access ∷ q.access ∷ [] =
    ap (λ (c : List Access). c ++ y.cycle ++ z.cycle) o.cycle ∙ ap (λ (c : List Access). (o.access ∷ []) ++ c ++ z.cycle) p.cycle ∙ ap (λ (c : List Access). (o.access ∷ []) ++ (p.access ∷ []) ++ c) q.cycle in
    let round : is_turn (o.access ∷ p.access ∷ q.access ∷ []) a ≡ true = ap (λ (c : List Access). is_turn c a) (sym cycle) ∙ tests.1 in
    let up : raised 1 o.access ≡ a = raised_is 1 o.access a (both_true _ _ round).1 in
    let count : 0 + x.count + y.count + z.count + 1 ≡ 4 = omega (arith, sum) in
    let all : tabulate (0 + x.count + y.count + z.count + 1) (entry (x.cycle ++ y.cycle ++ z.cycle)) ≡ o.access ∷ p.access ∷ q.access ∷ a ∷ [] =
    ap (λ (n : ℕ). tabulate n (entry (x.cycle ++ y.cycle ++ z.cycle))) count ∙ ap (λ (c : List Access). tabulate 4 (entry c)) cycle ∙ spelt_three o.access p.access q.access a up in
    let first : spelt_run x ≡ o.access ∷ [] = ap (λ (n : ℕ). tabulate n (entry x.cycle)) ones.0 ∙ ap (λ (c : List Access). tabulate 1 (entry c)) o.cycle ∙ spelt_one o.access in
    let second : spelt_run y ≡ p.access ∷ [] = ap (λ (n : ℕ). tabulate n (entry y.cycle)) ones.1 ∙ ap (λ (c : List Access). tabulate 1 (entry c)) p.cycle ∙ spelt_one p.access in
    let third : spelt_run z ≡ q.access ∷ [] = ap (λ (n : ℕ). tabulate n (entry z.cycle)) ones.2 ∙ ap (λ (c : List Access). tabulate 1 (entry c)) q.cycle ∙ spelt_one q.access in
    ap (λ (l : List Access). spelt before ++ l) all
    ∙ spread (spelt before) o.access p.access q.access a
    ∙ ap (λ (l : List Access). spelt before ++ l ++ (p.access ∷ []) ++ (q.access ∷ []) ++ a ∷ []) (sym first)
    ∙ ap (λ (l : List Access). spelt before ++ spelt_run x ++ l ++ (q.access ∷ []) ++ a ∷ []) (sym second)
    ∙ ap (λ (l : List Access). spelt before ++ spelt_run x ++ spelt_run y ++ l ++ a ∷ []) (sym third)
  where
    spread : (l : List Access) (o p q a : Access) → l ++ (o ∷ p ∷ q ∷ a ∷ []) ≡ l ++ (o ∷ []) ++ (p ∷ []) ++ (q ∷ []) ++ a ∷ []
    spread l o p q a = sym (append_assoc (l ++ o ∷ [] ++ p ∷ []) (q ∷ []) (a ∷ []) ∙ append_assoc (l ++ o ∷ []) (p ∷ []) (q ∷ a ∷ []) ∙ append_assoc l (o ∷ []) (p ∷ q ∷ a ∷ []))

-- the runs after one more access spell that access too
pub spelt_added : (a : Access) (runs : List Run) → Full runs → spelt (added a runs) ≡ spelt runs ++ a ∷ []
spelt_added a runs full = by_one (goes_on a runs) (comes_round 2 a runs) (comes_round 3 a runs) refl refl refl
  where
    by_one : (p q r : Bool) → goes_on a runs ≡ p → comes_round 2 a runs ≡ q → comes_round 3 a runs ≡ r
        → spelt (lengthened (if p then 1 else (if q then 2 else (if r then 3 else 0))) a runs) ≡ spelt runs ++ a ∷ []
    by_one true q r is two three = join_one a runs is
    by_one false true r is two three = join_two a runs full two
    by_one false false true is two three = join_three a runs full three
    by_one false false false is two three = new_run a runs

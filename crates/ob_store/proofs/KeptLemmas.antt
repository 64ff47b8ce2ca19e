-- How the runs that a log keeps are laid out.
use Rattle.std.proofs.Common.{◌≡◌, ◌≢◌, ◌⊎◌, inl, inr, ◌==◌, ◌&&◌, ◌<◌, ◌≤◌, ◌+◌, ◌-◌, ◌^◌, ℕ, zero, suc, Bool, true, false, if◌then◌else◌, List, [], ◌∷◌, ◌++◌, length, take, drop, get_or, nat_le, slice_range, refl, sym, ◌∙◌, ap, subst, arith, length-append, length-take, length-drop}
use Rattle.std.proofs.lemmas.List.{take-append-le, drop-append-le, get_or_append_left, get_or_push, get_or-take, drop-drop}
use Rattle.std.proofs.Math.Seq.{get_or-append_right, take-add, drop-append_seam}
use Rattle.std.proofs.lemmas.Bool.{cases_eq}
use Rattle.std.proofs.lemmas.Bool.Decides.{nat_tests}
use Rattle.ob_base.specs.Lists.{tabulate}
use Rattle.ob_base.specs.declared.access.Access.{Access}
use Rattle.ob_base.specs.declared.access.Access.TheVariants.{Make}
use Rattle.ob_store.specs.declared.runs.Start.{Start}
use Rattle.ob_store.specs.Logs.{Run, access_at, entry, spelt, whole, is_next, is_turn, goes_on, comes_round, joins, lengthened, added}
use Rattle.ob_store.specs.Kept.{start_of, runs_of, place_of, Sound, IsLog}
use Rattle.ob_store.proofs.RunLemmas.{Full, spelt_added}

pub length-tabulate : {A : Type 0} (f : ℕ → A) (n : ℕ) → length (tabulate n f) ≡ n
length-tabulate f zero = refl
length-tabulate f (suc n) = omega (arith, length-append (tabulate n f) (f n ∷ []), length-tabulate f n)

pub get_or-tabulate : {A : Type 0} (f : ℕ → A) (n i : ℕ) (d : A) → i < n → get_or (tabulate n f) i d ≡ f i
get_or-tabulate f zero i d below = absurd (omega arith)
get_or-tabulate f (suc n) i d below = elim (cases_eq i n) [
  | inl is ↦ get_or_push (tabulate n f) (f n) d i (length-tabulate f n ∙ sym is) ∙ ap f (sym is)
  | inr off ↦ get_or_append_left (tabulate n f) (f n ∷ []) d i (omega (arith, length-tabulate f n)) ∙ get_or-tabulate f n i d (omega arith)
]

-- as many accesses as runs at least, and as many as their cycles have
pub reach : (starts : List Start) (k to end : ℕ) → Sound starts k to end → (k ≤ to) × (to ≤ end)
unfolding Sound
reach starts zero to end sound = (omega arith, omega (arith, sound.0, sound.1))
reach starts (suc k) to end sound =
    let before = reach starts k (start_of starts k).cycle (start_of starts k).access sound.2 in
    (omega (arith, before.0, sound.0), omega (arith, before.1, sound.0, sound.1))

-- where the run at an index begins
pub record BeginsAt (starts : List Start) (i k to end : ℕ) : Type 0 where
  pub sound : Sound starts i (start_of starts i).cycle (start_of starts i).access
  pub cycles : (start_of starts i).cycle + (k - i) ≤ to
  pub size : to - (start_of starts i).cycle ≤ end - (start_of starts i).access
  pub before : (start_of starts i).access < end

pub begins_at : (starts : List Start) (i k to end : ℕ) → Sound starts k to end → i < k → BeginsAt starts i k to end
unfolding Sound
begins_at starts i zero to end sound below = absurd (omega arith)
begins_at starts i (suc k) to end sound below =
    let s = start_of starts k in
    elim (cases_eq i k) [
      | inl is ↦
          subst (λ (j : ℕ). BeginsAt starts j (suc k) to end) (sym is)
          (record { sound = sound.2; cycles = omega (arith, sound.0); size = sound.1; before = omega (arith, sound.0, sound.1) })
      | inr off ↦
          let rest = begins_at starts i k s.cycle s.access sound.2 (omega arith) in
          record {
            sound = rest.sound;
            cycles = omega (arith, rest.cycles, sound.0);
            size = omega (arith, rest.size, rest.before, rest.cycles, sound.0, sound.1);
            before = omega (arith, rest.before, sound.0, sound.1);
          }
    ]

pub starts_at_none : (starts : List Start) (k to end : ℕ) → Sound starts k to end → 0 < k → (start_of starts 0).access ≡ 0
unfolding Sound
starts_at_none starts k to end sound some = (begins_at starts 0 k to end sound some).sound.1

pub some_run : (starts : List Start) (k to end i : ℕ) → Sound starts k to end → i < end → 0 < k
unfolding Sound
some_run starts zero to end i sound below = absurd (omega (arith, sound.1))
some_run starts (suc k) to end i sound below = omega arith

pub length-runs_of : (cycles : List Access) (starts : List Start) (k to end : ℕ) → length (runs_of cycles starts k to end) ≡ k
unfolding runs_of
length-runs_of cycles starts zero to end = refl
length-runs_of cycles starts (suc k) to end = omega (arith, length-runs_of cycles starts k (start_of starts k).cycle (start_of starts k).access)

pub length-spelt : (cycles : List Access) (starts : List Start) (k to end : ℕ) → Sound starts k to end → length (spelt (runs_of cycles starts k to end)) ≡ end
unfolding runs_of spelt Sound
length-spelt cycles starts zero to end sound = sym sound.1
length-spelt cycles starts (suc k) to end sound =
    let s = start_of starts k in
    let before = runs_of cycles starts k s.cycle s.access in
    let f = entry (slice_range cycles s.cycle to) in
    omega (arith, length-append (spelt before) (tabulate (end - s.access) f), length-spelt cycles starts k s.cycle s.access sound.2, length-tabulate f (end - s.access), sound.0, sound.1)

pub length-range : {A : Type 0} (l : List A) (a b : ℕ) → b ≤ length l → length (slice_range l a b) ≡ b - a
length-range l a b inside = omega (arith, length-take (b - a) (drop a l), length-drop a l)

pub full_of : (cycles : List Access) (starts : List Start) (k to end : ℕ) → to ≤ length cycles → Sound starts k to end → Full (runs_of cycles starts k to end)
unfolding runs_of Sound
full_of cycles starts zero to end inside sound = tt
full_of cycles starts (suc k) to end inside sound =
    let s = start_of starts k in
    let size = length-range cycles s.cycle to inside in
    (omega (arith, size, sound.0), omega (arith, size, sound.1), full_of cycles starts k s.cycle s.access (omega (arith, sound.0)) sound.2)

-- the layout is the same where the first starts and the cycles up to a point are
pub record SameUpTo (k to : ℕ) (cycles more : List Access) (starts others : List Start) : Type 0 where
  pub start : (i : ℕ) → i < k → start_of others i ≡ start_of starts i
  pub range : (a b : ℕ) → b ≤ to → slice_range more a b ≡ slice_range cycles a b

same_less : (k to below : ℕ) (cycles more : List Access) (starts others : List Start) → SameUpTo (suc k) to cycles more starts others → below ≤ to → SameUpTo k below cycles more starts others
same_less k to below cycles more starts others same less = record {
  start = λ i h. same.start i (omega arith);
  range = λ a b h. same.range a b (omega arith);
}

pub same_runs : (k to end : ℕ) (cycles more : List Access) (starts others : List Start) → SameUpTo k to cycles more starts others → Sound starts k to end → runs_of more others k to end ≡ runs_of cycles starts k to end
unfolding runs_of Sound
same_runs zero to end cycles more starts others same sound = refl
same_runs (suc k) to end cycles more starts others same sound =
    let s = start_of starts k in
    ap (λ (o : Start). record { cycle = slice_range more o.cycle to; count = end - o.access } ∷ runs_of more others k o.cycle o.access) (same.start k (omega arith))
    ∙ ap (λ (c : List Access). record { cycle = c; count = end - s.access } ∷ runs_of more others k s.cycle s.access) (same.range s.cycle to (omega arith))
    ∙ ap (λ (l : List Run). record { cycle = slice_range cycles s.cycle to; count = end - s.access } ∷ l)
    (same_runs k s.cycle s.access cycles more starts others (same_less k to s.cycle cycles more starts others same (omega (arith, sound.0))) sound.2)

pub same_sound : (k to end : ℕ) (starts others : List Start) → ((i : ℕ) → i < k → start_of others i ≡ start_of starts i) → Sound starts k to end → Sound others k to end
unfolding Sound
same_sound zero to end starts others same sound = sound
same_sound (suc k) to end starts others same sound =
    let s = start_of starts k in
    subst (λ (o : Start). (o.cycle < to) × (to - o.cycle ≤ end - o.access) × Sound others k o.cycle o.access) (sym (same k (omega arith)))
    (sound.0, sound.1, same_sound k s.cycle s.access starts others (λ i h. same i (omega arith)) sound.2)

-- the run in which an access lies
pub record Found (cycles : List Access) (starts : List Start) (k to end j i until : ℕ) : Type 0 where
  pub below : i < end
  pub is : access_at (spelt (runs_of cycles starts k to end)) i ≡ entry (slice_range cycles (start_of starts j).cycle until) (i - (start_of starts j).access)
  pub some : (start_of starts j).cycle < until
  pub inside : until ≤ to

pub found : (cycles : List Access) (starts : List Start) (k to end j i until : ℕ) → Sound starts k to end → j < k → (start_of starts j).access ≤ i
    → (j + 1 ≡ k → i < end) → (j + 1 < k → i < (start_of starts (j + 1)).access) → (j + 1 ≡ k → until ≡ to) → (j + 1 < k → until ≡ (start_of starts (j + 1)).cycle) → Found cycles starts k to end j i until
unfolding runs_of spelt Sound
found cycles starts zero to end j i until sound within from last next to_last to_next = absurd (omega arith)
found cycles starts (suc k) to end j i until sound within from last next to_last to_next =
    let s = start_of starts k in
    let before = runs_of cycles starts k s.cycle s.access in
    let f = entry (slice_range cycles s.cycle to) in
    let long = length-spelt cycles starts k s.cycle s.access sound.2 in
    elim (cases_eq j k) [
      | inl is ↦
          let t = to_last (omega arith) in
          let below = last (omega arith) in
          let at_k : start_of starts j ≡ s = ap (start_of starts) is in
          let from_k : s.access ≤ i = subst (λ (o : Start). o.access ≤ i) at_k from in
          let value : access_at (spelt before ++ tabulate (end - s.access) f) i ≡ f (i - s.access) =
          get_or-append_right (spelt before) (tabulate (end - s.access) f) i (Make 0 0 0) (omega (arith, long)) ∙ ap (λ (n : ℕ). access_at (tabulate (end - s.access) f) (i - n)) long
          ∙ get_or-tabulate f (end - s.access) (i - s.access) (Make 0 0 0) (omega arith) in
          record {
            below = below;
            is = value ∙ ap (λ (o : Start). entry (slice_range cycles o.cycle to) (i - o.access)) (sym at_k) ∙ ap (λ (n : ℕ). entry (slice_range cycles (start_of starts j).cycle n) (i - (start_of starts j).access)) (sym t);
            some = subst (λ (o : Start). o.cycle < until) (sym at_k) (omega (arith, t, sound.0));
            inside = omega (arith, t);
          }
      | inr off ↦
          let rest = found cycles starts k s.cycle s.access j i until sound.2 (omega arith) from
          (λ h. subst (λ (n : ℕ). i < (start_of starts n).access) h (next (omega arith))) (λ h. next (omega arith))
          (λ h. to_next (omega arith) ∙ ap (λ (n : ℕ). (start_of starts n).cycle) h) (λ h. to_next (omega arith)) in
          record {
            below = omega (arith, rest.below, sound.0, sound.1);
            is = get_or_append_left (spelt before) (tabulate (end - s.access) f) (Make 0 0 0) i (omega (arith, long, rest.below)) ∙ rest.is;
            some = rest.some;
            inside = omega (arith, rest.inside, sound.0);
          }
    ]

range_join : {A : Type 0} (l : List A) (a b c : ℕ) → a ≤ b → b ≤ c → slice_range l a b ++ slice_range l b c ≡ slice_range l a c
range_join {A = A} l a b c first second =
    let there : a + (b - a) ≡ b = omega arith in
    let both : (b - a) + (c - b) ≡ c - a = omega arith in
    ap (λ (r : List A). take (b - a) (drop a l) ++ take (c - b) r) (sym (drop-drop (b - a) a l ∙ ap (λ (n : ℕ). drop n l) there))
    ∙ sym (take-add (b - a) (c - b) (drop a l)) ∙ ap (λ (n : ℕ). take n (drop a l)) both

-- the last n + 1 runs as one
pub whole_is : (cycles : List Access) (starts : List Start) (n k to end i : ℕ) → Sound starts k to end → i + suc n ≡ k
    → whole (suc n) (runs_of cycles starts k to end) ≡ record { cycle = slice_range cycles (start_of starts i).cycle to; count = end - (start_of starts i).access }
unfolding runs_of Sound
whole_is cycles starts n zero to end i sound is = absurd (omega arith)
whole_is cycles starts zero (suc k) to end i sound is =
    let s = start_of starts k in
    let here : k ≡ i = omega arith in
    let count : 0 + (end - s.access) ≡ end - s.access = omega arith in
    ap (λ (m : ℕ). record { cycle = slice_range cycles s.cycle to; count = m }) count
    ∙ ap (λ (j : ℕ). record { cycle = slice_range cycles (start_of starts j).cycle to; count = end - (start_of starts j).access }) here
whole_is cycles starts (suc n) (suc k) to end i sound is =
    let s = start_of starts k in
    let rest = whole_is cycles starts n k s.cycle s.access i sound.2 (omega arith) in
    let b = begins_at starts i k s.cycle s.access sound.2 (omega arith) in
    let f = start_of starts i in
    let count : s.access - f.access + (end - s.access) ≡ end - f.access = omega (arith, b.before, sound.0, sound.1) in
    ap (λ (w : Run). record { cycle = w.cycle ++ slice_range cycles s.cycle to; count = w.count + (end - s.access) }) rest
    ∙ ap (λ (c : List Access). record { cycle = c; count = s.access - f.access + (end - s.access) }) (range_join cycles f.cycle s.cycle to (omega (arith, b.cycles)) (omega (arith, sound.0)))
    ∙ ap (λ (m : ℕ). record { cycle = slice_range cycles f.cycle to; count = m }) count

pub drop_runs : (cycles : List Access) (starts : List Start) (n k to end i : ℕ) → i + suc n ≡ k
    → drop (suc n) (runs_of cycles starts k to end) ≡ runs_of cycles starts i (start_of starts i).cycle (start_of starts i).access
unfolding runs_of
drop_runs cycles starts n zero to end i is = absurd (omega arith)
drop_runs cycles starts zero (suc k) to end i is =
    let here : k ≡ i = omega arith in ap (λ (j : ℕ). runs_of cycles starts j (start_of starts j).cycle (start_of starts j).access) here
drop_runs cycles starts (suc n) (suc k) to end i is = drop_runs cycles starts n k (start_of starts k).cycle (start_of starts k).access i (omega arith)

at_least : (n m : ℕ) → n ≤ m → nat_le n m ≡ true
at_least n m h = grind (arith, nat_tests)

not_least : (n m : ℕ) → m < n → nat_le n m ≡ false
not_least n m h = grind (arith, nat_tests)

not_same : (m n : ℕ) → m ≢ n → (m == n) ≡ false
not_same m n off = grind (arith, nat_tests)

same : (m n : ℕ) → m ≡ n → (m == n) ≡ true
same m n is = grind (arith, nat_tests)

-- too few runs
pub comes_short : (cycles : List Access) (starts : List Start) (n k to end : ℕ) (a : Access) → k < n → comes_round n a (runs_of cycles starts k to end) ≡ false
comes_short cycles starts n k to end a few =
    let runs = runs_of cycles starts k to end in
    ap (λ (b : Bool). b && ((whole n runs).count == n && is_turn (whole n runs).cycle a)) (not_least n (length runs) (omega (arith, length-runs_of cycles starts k to end)))

round_by : (cycles : List Access) (starts : List Start) (n k to end i : ℕ) (a : Access) → Sound starts k to end → i + suc n ≡ k
    → comes_round (suc n) a (runs_of cycles starts k to end) ≡ ((end - (start_of starts i).access == suc n) && is_turn (slice_range cycles (start_of starts i).cycle to) a)
round_by cycles starts n k to end i a sound is =
    let runs = runs_of cycles starts k to end in
    ap (λ (b : Bool). b && ((whole (suc n) runs).count == suc n && is_turn (whole (suc n) runs).cycle a)) (at_least (suc n) (length runs) (omega (arith, length-runs_of cycles starts k to end)))
    ∙ ap (λ (w : Run). (w.count == suc n) && is_turn w.cycle a) (whole_is cycles starts n k to end i sound is)

-- runs of more than one access
pub comes_late : (cycles : List Access) (starts : List Start) (n k to end i : ℕ) (a : Access) → Sound starts k to end → i + suc n ≡ k → end - (start_of starts i).access ≢ suc n
    → comes_round (suc n) a (runs_of cycles starts k to end) ≡ false
comes_late cycles starts n k to end i a sound is off =
    round_by cycles starts n k to end i a sound is
    ∙ ap (λ (b : Bool). b && is_turn (slice_range cycles (start_of starts i).cycle to) a) (not_same (end - (start_of starts i).access) (suc n) off)

pub comes_by : (cycles : List Access) (starts : List Start) (n k to end i : ℕ) (a : Access) → Sound starts k to end → i + suc n ≡ k → end - (start_of starts i).access ≡ suc n
    → comes_round (suc n) a (runs_of cycles starts k to end) ≡ is_turn (slice_range cycles (to - suc n) to) a
comes_by cycles starts n k to end i a sound is count =
    let b = begins_at starts i k to end sound (omega arith) in
    let from : (start_of starts i).cycle ≡ to - suc n = omega (arith, b.cycles, b.size) in
    round_by cycles starts n k to end i a sound is
    ∙ ap (λ (b : Bool). b && is_turn (slice_range cycles (start_of starts i).cycle to) a) (same (end - (start_of starts i).access) (suc n) count)
    ∙ ap (λ (m : ℕ). is_turn (slice_range cycles m to) a) from

pub goes_by : (cycles : List Access) (starts : List Start) (k to end i : ℕ) (a : Access) → i + 1 ≡ k
    → goes_on a (runs_of cycles starts k to end) ≡ is_next (slice_range cycles (start_of starts i).cycle to) (end - (start_of starts i).access) a
unfolding runs_of
goes_by cycles starts zero to end i a is = absurd (omega arith)
goes_by cycles starts (suc k) to end i a is =
    let here : k ≡ i = omega arith in
    ap (λ (j : ℕ). is_next (slice_range cycles (start_of starts j).cycle to) (end - (start_of starts j).access) a) here

-- the same for a size of at least one
pub late : (cycles : List Access) (starts : List Start) (size k to end i : ℕ) (a : Access) → Sound starts k to end → 0 < size → i + size ≡ k → end - (start_of starts i).access ≢ size
    → comes_round size a (runs_of cycles starts k to end) ≡ false
late cycles starts zero k to end i a sound some is off = absurd (omega arith)
late cycles starts (suc n) k to end i a sound some is off = comes_late cycles starts n k to end i a sound is off

pub round : (cycles : List Access) (starts : List Start) (size k to end i : ℕ) (a : Access) → Sound starts k to end → 0 < size → i + size ≡ k → end - (start_of starts i).access ≡ size
    → comes_round size a (runs_of cycles starts k to end) ≡ is_turn (slice_range cycles (to - size) to) a
round cycles starts zero k to end i a sound some is count = absurd (omega arith)
round cycles starts (suc n) k to end i a sound some is count = comes_by cycles starts n k to end i a sound is count

pub joins_none : (cycles : List Access) (starts : List Start) (k to end : ℕ) (a : Access) → k ≡ 0 → 0 ≡ joins a (runs_of cycles starts k to end)
unfolding runs_of
joins_none cycles starts k to end a none = ap (λ (n : ℕ). joins a (runs_of cycles starts n to end)) (sym none)

pub joins_by : (a : Access) (runs : List Run) (p q r : Bool) → goes_on a runs ≡ p → comes_round 2 a runs ≡ q → comes_round 3 a runs ≡ r → (if p then 1 else (if q then 2 else (if r then 3 else 0))) ≡ joins a runs
joins_by a runs p q r one two three =
    sym (ap (λ (b : Bool). if b then 1 else (if comes_round 2 a runs then 2 else (if comes_round 3 a runs then 3 else 0))) one
    ∙ ap (λ (b : Bool). if p then 1 else (if b then 2 else (if comes_round 3 a runs then 3 else 0))) two ∙ ap (λ (b : Bool). if p then 1 else (if q then 2 else (if b then 3 else 0))) three)

reaches : (n m : ℕ) (b : Bool) → (nat_le n m && b) ≡ true → n ≤ m
reaches n m b is = grind (arith, nat_tests)

pub joins_few : (a : Access) (runs : List Run) → joins a runs ≤ length runs
joins_few a runs = by (goes_on a runs) (comes_round 2 a runs) (comes_round 3 a runs) refl refl refl
  where
    goes : (l : List Run) → goes_on a l ≡ true → 1 ≤ length l
    goes [] is = absurd (cc is)
    goes (z ∷ before) is = omega arith

    by : (p q r : Bool) → goes_on a runs ≡ p → comes_round 2 a runs ≡ q → comes_round 3 a runs ≡ r → (if p then 1 else (if q then 2 else (if r then 3 else 0))) ≤ length runs
    by true q r one two three = goes runs one
    by false true r one two three = reaches 2 (length runs) _ two
    by false false true one two three = reaches 3 (length runs) _ three
    by false false false one two three = omega arith

-- the range up to an old end
old_range : (l : List Access) (x : Access) (a b : ℕ) → b ≤ length l → slice_range (l ++ x ∷ []) a b ≡ slice_range l a b
old_range l x a b inside = elim (cases_le a (length l)) [
  | inl from ↦ ap (λ (r : List Access). take (b - a) r) (drop-append-le a l (x ∷ []) from) ∙ take-append-le (b - a) (drop a l) (x ∷ []) (omega (arith, length-drop a l))
  | inr past ↦
      let none : b - a ≡ 0 = omega arith in
      ap (λ (n : ℕ). take n (drop a (l ++ x ∷ []))) none ∙ sym (ap (λ (n : ℕ). take n (drop a l)) none)
]
  where
    cases_le : (m n : ℕ) → (m ≤ n) ⊎ (n < m)
    cases_le m n = grind arith

-- a log's accesses after one more
pub places_more : (a : Access) (runs : List Run) (count : ℕ) → Full runs → length (spelt runs) ≡ count → place_of a < 2 ^ 32
    → ((i : ℕ) → i < count → place_of (access_at (spelt runs) i) < 2 ^ 32) → (i : ℕ) → i < count + 1 → place_of (access_at (spelt (added a runs)) i) < 2 ^ 32
places_more a runs count full long place old i below = elim (cases_eq i count) [
  | inl is ↦ subst (λ (x : Access). place_of x < 2 ^ 32) (sym (ap (λ (l : List Access). access_at l i) (spelt_added a runs full) ∙ get_or_push (spelt runs) a (Make 0 0 0) i (long ∙ sym is))) place
  | inr off ↦
      let less : i < count = omega arith in
      subst (λ (x : Access). place_of x < 2 ^ 32) (sym (ap (λ (l : List Access). access_at l i) (spelt_added a runs full) ∙ get_or_append_left (spelt runs) (a ∷ []) (Make 0 0 0) i (omega (arith, long)))) (old i less)
]

abbrev pub runs_in : List Access → List Start → ℕ → List Run
runs_in cycles starts count = runs_of cycles starts (length starts) (length cycles) count

pub log_by : (a : Access) (cycles more : List Access) (starts others : List Start) (count : ℕ) → IsLog cycles starts count → place_of a < 2 ^ 32
    → Sound others (length others) (length more) (count + 1) → runs_in more others (count + 1) ≡ added a (runs_in cycles starts count) → IsLog more others (count + 1)
log_by a cycles more starts others count log place sound runs = record {
  sound = sound;
  places = λ i below. subst (λ (l : List Run). place_of (access_at (spelt l) i) < 2 ^ 32) (sym runs)
      (places_more a (runs_in cycles starts count) count (full_of cycles starts _ _ _ (omega arith) log.sound) (length-spelt cycles starts _ _ _ log.sound) place log.places i below);
}

-- a run of its own
new_start : (starts : List Start) (s : Start) → start_of (starts ++ s ∷ []) (length starts) ≡ s
new_start starts s = get_or_push starts s (record { access = 0; cycle = 0 }) (length starts) refl

old_start : (starts : List Start) (s : Start) (i : ℕ) → i < length starts → start_of (starts ++ s ∷ []) i ≡ start_of starts i
old_start starts s i below = get_or_append_left starts (s ∷ []) (record { access = 0; cycle = 0 }) i below

pub new_sound : (cycles : List Access) (starts : List Start) (count : ℕ) (a : Access) (s : Start) → s ≡ record { access = count; cycle = length cycles } → Sound starts (length starts) (length cycles) count
    → Sound (starts ++ s ∷ []) (length (starts ++ s ∷ [])) (length (cycles ++ a ∷ [])) (count + 1)
unfolding Sound
new_sound cycles starts count a s is sound =
    let k : length (starts ++ s ∷ []) ≡ suc (length starts) = omega (arith, length-append starts (s ∷ [])) in
    let m : length (cycles ++ a ∷ []) ≡ length cycles + 1 = omega (arith, length-append cycles (a ∷ [])) in
    let one : count + 1 - count ≡ 1 = omega arith in
    let here : start_of (starts ++ s ∷ []) (length starts) ≡ record { access = count; cycle = length cycles } = new_start starts s ∙ is in
    let rest : Sound (starts ++ s ∷ []) (length starts) (length cycles) count = same_sound (length starts) (length cycles) count starts (starts ++ s ∷ []) (λ i h. old_start starts s i h) sound in
    subst (λ (n : ℕ). Sound (starts ++ s ∷ []) n (length (cycles ++ a ∷ [])) (count + 1)) (sym k)
    (subst (λ (o : Start). (o.cycle < length (cycles ++ a ∷ [])) × (length (cycles ++ a ∷ []) - o.cycle ≤ count + 1 - o.access) × Sound (starts ++ s ∷ []) (length starts) o.cycle o.access) (sym here)
    (omega arith, omega arith, rest))

pub new_runs : (cycles : List Access) (starts : List Start) (count : ℕ) (a : Access) (s : Start) → s ≡ record { access = count; cycle = length cycles } → Sound starts (length starts) (length cycles) count
    → runs_in (cycles ++ a ∷ []) (starts ++ s ∷ []) (count + 1) ≡ lengthened 0 a (runs_in cycles starts count)
unfolding runs_of
new_runs cycles starts count a s is sound =
    let more = cycles ++ a ∷ [] in
    let others = starts ++ s ∷ [] in
    let k : length others ≡ suc (length starts) = omega (arith, length-append starts (s ∷ [])) in
    let m : length more ≡ length cycles + 1 = omega (arith, length-append cycles (a ∷ [])) in
    let one : count + 1 - count ≡ 1 = omega arith in
    let size : length more - length cycles ≡ 1 = omega arith in
    let here : start_of others (length starts) ≡ record { access = count; cycle = length cycles } = new_start starts s ∙ is in
    let cycle : slice_range more (length cycles) (length more) ≡ a ∷ [] = ap (λ (n : ℕ). take n (drop (length cycles) more)) size ∙ ap (λ (l : List Access). take 1 l) (drop-append_seam cycles (a ∷ [])) in
    let rest : runs_of more others (length starts) (length cycles) count ≡ runs_in cycles starts count =
    same_runs (length starts) (length cycles) count cycles more starts others (record { start = λ i h. old_start starts s i h; range = λ x y h. old_range cycles a x y h }) sound in
    ap (λ (n : ℕ). runs_of more others n (length more) (count + 1)) k
    ∙ ap (λ (o : Start). record { cycle = slice_range more o.cycle (length more); count = count + 1 - o.access } ∷ runs_of more others (length starts) o.cycle o.access) here
    ∙ ap (λ (c : List Access). record { cycle = c; count = count + 1 - count } ∷ runs_of more others (length starts) (length cycles) count) cycle
    ∙ ap (λ (n : ℕ). record { cycle = a ∷ []; count = n } ∷ runs_of more others (length starts) (length cycles) count) one
    ∙ ap (λ (l : List Run). record { cycle = a ∷ []; count = 1 } ∷ l) rest

-- the last n + 1 runs as one
kept_start : (starts : List Start) (i j : ℕ) → j < i + 1 → start_of (take (i + 1) starts) j ≡ start_of starts j
kept_start starts i j below = get_or-take (i + 1) starts j (record { access = 0; cycle = 0 }) below

pub joined_sound : (cycles : List Access) (starts : List Start) (count i : ℕ) → Sound starts (length starts) (length cycles) count → i < length starts
    → Sound (take (i + 1) starts) (length (take (i + 1) starts)) (length cycles) (count + 1)
unfolding Sound
joined_sound cycles starts count i sound below =
    let others = take (i + 1) starts in
    let b = begins_at starts i (length starts) (length cycles) count sound below in
    let s = start_of starts i in
    let k : length others ≡ suc i = omega (arith, length-take (i + 1) starts) in
    let rest : Sound others i s.cycle s.access = same_sound i s.cycle s.access starts others (λ j h. kept_start starts i j (omega arith)) b.sound in
    subst (λ (n : ℕ). Sound others n (length cycles) (count + 1)) (sym k)
    (subst (λ (o : Start). (o.cycle < length cycles) × (length cycles - o.cycle ≤ count + 1 - o.access) × Sound others i o.cycle o.access) (sym (kept_start starts i i (omega arith)))
    (omega (arith, b.cycles), omega (arith, b.size, b.before), rest))

pub joined_runs : (cycles : List Access) (starts : List Start) (count n i : ℕ) (a : Access) → Sound starts (length starts) (length cycles) count → i + suc n ≡ length starts
    → runs_in cycles (take (i + 1) starts) (count + 1) ≡ lengthened (suc n) a (runs_in cycles starts count)
unfolding runs_of
joined_runs cycles starts count n i a sound is =
    let others = take (i + 1) starts in
    let b = begins_at starts i (length starts) (length cycles) count sound (omega arith) in
    let s = start_of starts i in
    let runs = runs_in cycles starts count in
    let k : length others ≡ suc i = omega (arith, length-take (i + 1) starts) in
    let one : count + 1 - s.access ≡ count - s.access + 1 = omega (arith, b.before) in
    let rest : runs_of cycles others i s.cycle s.access ≡ runs_of cycles starts i s.cycle s.access =
    same_runs i s.cycle s.access cycles cycles starts others (record { start = λ j h. kept_start starts i j (omega arith); range = λ x y h. refl }) b.sound in
    ap (λ (m : ℕ). runs_of cycles others m (length cycles) (count + 1)) k
    ∙ ap (λ (o : Start). record { cycle = slice_range cycles o.cycle (length cycles); count = count + 1 - o.access } ∷ runs_of cycles others i o.cycle o.access) (kept_start starts i i (omega arith))
    ∙ ap (λ (m : ℕ). record { cycle = slice_range cycles s.cycle (length cycles); count = m } ∷ runs_of cycles others i s.cycle s.access) one
    ∙ ap (λ (l : List Run). record { cycle = slice_range cycles s.cycle (length cycles); count = count - s.access + 1 } ∷ l) rest
    ∙ ap (λ (w : Run). record { cycle = w.cycle; count = w.count + 1 } ∷ runs_of cycles starts i s.cycle s.access) (sym (whole_is cycles starts n (length starts) (length cycles) count i sound is))
    ∙ ap (λ (l : List Run). record { cycle = (whole (suc n) runs).cycle; count = (whole (suc n) runs).count + 1 } ∷ l) (sym (drop_runs cycles starts n (length starts) (length cycles) count i is))

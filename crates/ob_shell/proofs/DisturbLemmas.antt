-- Before others disturb a store, what is asked and answered is what is meant.
use Rattle.ob_shell.proofs.Words.{Access, ap, append_assoc, AreDraws, arith, Begins, Bool, Disturbance, Does, Draws, drop, Err, false, held_headings, inl, inr, IsBefore, IsSteady, IsTrue, length, length-append, FalseRead, List, Machine, met_script, nat_le, nat_lt, nat_tests, None, Option, Outcome, Public, public_of, Read, refl, Represents, Result, RevState, RunStop, script, seen_of, session_of, Skeleton, skeleton, Some, Stmt, subst, sym, Tables, take, take-append-drop, take-append-le, true, World, world_of, ℕ, [], ◌++◌, ◌+◌, ◌<◌, ◌∙◌, ◌∷◌, ◌≡◌, ◌≤◌, ◌⊎◌}
use Rattle.std.specs.List.{list_all}
use Rattle.ob_exec.specs.Ran.{ServedCause}
use Rattle.ob_tables.specs.declared.stop.RunStop.TheVariants.{Tampered}
use Rattle.ob_headline.proofs.FullLemmas.{met_reads}
use Rattle.ob_shell.proofs.UntamperedLemmas.{first_calm}
use Rattle.ob_shell.proofs.FirstPartLemmas.{begins_length, begins_met}
use Rattle.ob_shell.proofs.ShareLemmas.{share_reads}
use Rattle.ob_vault.specs.Tied.{Untampered, EndsAt, ReadsIn}

-- ---- fewer accesses come before as well
less_tail : (d : Disturbance) (list : List Disturbance) (m : ℕ) → list_all (λ d. nat_lt m d.before) (d ∷ list) ≡ true → list_all (λ d. nat_lt m d.before) list ≡ true
less_tail d list m all = grind arith

all_less : (list : List Disturbance) (n m : ℕ) → n ≤ m → list_all (λ d. nat_lt m d.before) list ≡ true → list_all (λ d. nat_lt n d.before) list ≡ true
all_less [] n m le all = refl
all_less (d ∷ list) n m le all = grind (arith, all_less list n m le (less_tail d list m all))

pub before_less : (o : Option (List Disturbance)) (n m : ℕ) → n ≤ m → IsBefore o m → IsBefore o n
before_less None n m le before = absurd before
before_less (Some list) n m le before = all_less list n m le before

-- ---- first parts of lists of accesses
take_more : (n : ℕ) (part rest : List Access) → Begins (take n part) (part ++ rest)
take_more n part rest = record {
  rest = drop n part ++ rest;
  joined = ap (λ (l : List Access). l ++ rest) (sym (take-append-drop n part)) ∙ append_assoc (take n part) (drop n part) rest;
}

pub take_begins : (n : ℕ) (all : List Access) → Begins (take n all) all
take_begins n all = record { rest = drop n all; joined = sym (take-append-drop n all) }

begins_take : (n : ℕ) (part whole : List Access) → Begins part whole → Begins (take n part) whole
begins_take n part whole b = subst (λ (l : List Access). Begins (take n part) l) (sym b.joined) (take_more n part b.rest)

pub begins_more : (part whole rest : List Access) → Begins part whole → Begins part (whole ++ rest)
begins_more part whole rest b = record {
  rest = b.rest ++ rest;
  joined = ap (λ (l : List Access). l ++ rest) b.joined ∙ append_assoc part b.rest rest;
}

begins_after : (front part whole : List Access) → Begins part whole → Begins (front ++ part) (front ++ whole)
begins_after front part whole b = record { rest = b.rest; joined = ap (λ (l : List Access). front ++ l) b.joined ∙ sym (append_assoc front part b.rest) }

pub few_or_more : (n m : ℕ) → (n ≤ m) ⊎ (m < n)
few_or_more n m = go (nat_le n m) refl where
  go : (b : Bool) → nat_le n m ≡ b → (n ≤ m) ⊎ (m < n)
  go true e = inl (grind (arith, nat_tests))
  go false e = inr (grind (arith, nat_tests))

-- two lists that begin with the reads before a lie
same_before : (n : ℕ) (lie : FalseRead) (xs ys : List Access) → n ≤ length lie.before → ReadsIn lie xs → ReadsIn lie ys → Begins (take n xs) ys
same_before n lie xs ys few a b =
    let first : take n xs ≡ take n lie.before = ap (take n) (sym a.is) ∙ take-append-le n lie.before (Read lie.region lie.place ∷ a.rest) few in
    subst (λ (l : List Access). Begins l ys) (sym first)
    (subst (λ (l : List Access). Begins (take n lie.before) l) b.is (take_more n lie.before (Read lie.region lie.place ∷ b.rest)))

-- ---- one statement
-- the read of a lie was asked
ends_in : (q x : ℕ) (w : World) (lie : FalseRead) → w.store.lie ≡ Some lie → EndsAt q x w → ReadsIn lie w.store.asked
ends_in q x w lie is ends =
    let same : ends.lie ≡ lie = cc (sym ends.told ∙ is) in
    subst (λ (l : FalseRead). ReadsIn l w.store.asked) same (record { rest = []; is = sym ends.asked })

lie_within : (p : Public) (outline : Skeleton) (result : Result Outcome RunStop) (old new : World) (lie : FalseRead) → ServedCause p outline result old new → Untampered old → new.store.lie ≡ Some lie → ReadsIn lie new.store.asked
lie_within p outline (Err (Tampered q x)) old new lie cause calm is = elim (cause.2 calm) [ inl still ↦ still.within lie is | inr ends ↦ ends_in q x new lie is ends ]
lie_within p outline other old new lie cause calm is = (cause.1 calm).within lie is

module _ {R : Type 0} (state : R → RevState) (m0 m1 : Machine R) (d : Draws) (drawn : AreDraws m0.engine d) (tables : Tables) (stmt : Stmt) (result : Result Outcome RunStop) (does : Does state m0 m1 stmt result)
    (tells : IsTrue m0.store.tells) (steady : IsSteady m0.store) (held : Represents state m0.engine m0.store tables) (n : ℕ) (before : IsBefore m0.store.disturbed n)
    (few : length m0.store.asked ≤ n) where
  abbrev pub all_met : List Access
  all_met = m0.store.asked ++ met_script (session_of m0 d tables) stmt

  -- what is asked until the first disturbance is a first part of what is meant; where that comes before, it is asked
  pub record Crosses : Type 0 where
    pub begins : Begins (take n m1.store.asked) all_met
    pub within : length all_met ≤ n → length m1.store.asked ≤ n

  honest : m0.store.lie ≡ None
  honest = (steady.quiet (before_less m0.store.disturbed (length m0.store.asked) n few before)).lie

  crosses_lied : (lie : FalseRead) → m1.store.lie ≡ Some lie → Crosses
  crosses_lied lie is =
      let later = does.ran.later in
      let meant : ReadsIn lie all_met =
      met_reads (session_of m0 d tables) stmt (held_headings _ _ _ tables _ held.held) lie m0.store.asked
      (share_reads state m0 does.agrees d tables held stmt lie (does.means.begun tables d drawn (record { tells = tells; held = held; nolie = honest }) lie is)) in
      let asked : ReadsIn lie m1.store.asked = lie_within (public_of m0.engine) (skeleton stmt) result (world_of state m0.engine m0.store) (world_of state m1.engine m1.store) lie does.ran.cause (first_calm state m0.engine m0.store honest) is in
      let there : IsBefore m1.store.disturbed n = subst (λ (o : Option (List Disturbance)). IsBefore o n) (sym later.disturbed) before in
      let behind : length lie.before + 1 ≤ n → ⊥ = λ le. (later.steady steady).lied lie is (before_less m1.store.disturbed (length lie.before + 1) n le there) in
      let late : n ≤ length lie.before = elim (few_or_more (length lie.before + 1) n) [ inl le ↦ absurd (behind le) | inr lt ↦ omega (arith, lt) ] in
      let long = ap length meant.is in
      let split = length-append lie.before (Read lie.region lie.place ∷ meant.rest) in
      record {
        begins = same_before n lie m1.store.asked all_met late asked meant;
        within = λ le. absurd (omega (arith, le, late, long, split));
      }

  crosses_true : m1.store.lie ≡ None → Crosses
  crosses_true none =
      let begins = begins_met state m0 m1 d drawn tables stmt result does (record {
        tells = tells;
        held = held;
        calm = first_calm state m0.engine m0.store honest;
        unfit = record { unfit = λ lie is. absurd (cc (none, is)) };
      }) none in
      let all : Begins m1.store.asked all_met =
      subst (λ (l : List Access). Begins l all_met) (sym does.ran.asked)
      (begins_after m0.store.asked (script (public_of m0.engine) (skeleton stmt) (seen_of m1.engine)) (met_script (session_of m0 d tables) stmt) begins) in
      let most = begins_length m1.store.asked all_met all in
      record {
        begins = begins_take n m1.store.asked all_met all;
        within = λ le. omega (arith, le, most);
      }

  pub crosses : Crosses
  crosses = go m1.store.lie refl where
    go : (o : Option FalseRead) → m1.store.lie ≡ o → Crosses
    go None is = crosses_true is
    go (Some lie) is = crosses_lied lie is

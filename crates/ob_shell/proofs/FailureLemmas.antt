-- At least as many calls of the store failed as statements were cut off, and as texts were answered so one by one.
use Rattle.ob_shell.proofs.Words.{Answer, ap, arith, begins_batch, Bool, by_fault, Cut, cut_off, End, Err, false, Gathering, if◌then◌else◌, inserts_into, is_cut, is_fault, is_some, is_store_fault, Batched, length, List, None, Ok, Option, option_map, Outcome, Public, refl, Refusal, Refused, Rises, RisesBy, Position, Seen, skeleton, Some, Spelt, statements, Stmt, subst, sym, take, true, ℕ, [], ◌++◌, ◌+◌, ◌∷◌, ◌≡◌, ◌≤◌}
use Rattle.ob_base.specs.declared.refusal.Refusal.TheVariants.{StoreFault}
use Rattle.ob_headline.specs.Accesses.{AreSeen, cut_in_flight}
use Rattle.ob_headline.specs.Flights.{LeftAt}
use Rattle.ob_headline.specs.Batches.{is_failed}
use Rattle.ob_headline.specs.Failures.{FailsBeside, failures, outcome_failures, refusal_failures}
use Rattle.ob_mean.specs.Batches.{and_one, begun_by, gathering_after, goes_into}
use Rattle.ob_script.specs.Trace.{Served}
use Rattle.ob_shell.specs.Steps.{has_failed}

stays : (a b : ℕ) → b ≡ a → RisesBy 0 a b
stays a b same = omega (arith, same)

grows : (a b c n m : ℕ) → RisesBy n a b → RisesBy m b c → RisesBy (n + m) a c
grows a b c n m first second = omega (arith, first, second)

-- the answer that the store failed comes only where the count rose
no_failure : (o : Outcome) → is_fault o ≡ false → outcome_failures o ≡ 0
no_failure (Refused r) e = ap (λ (b : Bool). if b then 1 else 0) e
no_failure other e = refl

one_failure : (o : Outcome) → outcome_failures o ≤ 1
one_failure (Refused r) = at_most (is_store_fault r) where
  at_most : (b : Bool) → (if b then 1 else 0) ≤ 1
  at_most true = omega arith
  at_most false = omega arith
one_failure other = omega arith

pub answered : (o : Outcome) (a b : ℕ) → by_fault (is_fault o) (Rises a b) (b ≡ a) → RisesBy (outcome_failures o) a b
answered o a b cause = go (is_fault o) refl cause where
  go : (failed : Bool) → is_fault o ≡ failed → by_fault failed (Rises a b) (b ≡ a) → RisesBy (outcome_failures o) a b
  go true e rose = let few = one_failure o in omega (arith, rose, few)
  go false e same = subst (λ (n : ℕ). RisesBy n a b) (sym (no_failure o e)) (stays a b same)

-- ---- of statements that were cut off
pub beside_none : (a b : ℕ) → Rises a b → FailsBeside [] a b
unfolding cut_off
beside_none a b rose = omega (arith, rose)

pub beside_more : (x : Served) (seen : List Served) (a b c : ℕ) → RisesBy (if is_cut x.seen.end then 1 else 0) a b → FailsBeside seen b c → FailsBeside (x ∷ seen) a c
unfolding cut_off
beside_more x seen a b c first rest = let all = grows a b c (if is_cut x.seen.end then 1 else 0) (cut_off seen + 1) first rest in omega (arith, all)

pub cuts_none : (a b : ℕ) → a ≤ b → RisesBy (cut_off [] + 0) a b
unfolding cut_off
cuts_none a b le = omega (arith, le)

pub cuts_more : (x : Served) (seen : List Served) (n a b c : ℕ) → RisesBy (if is_cut x.seen.end then 1 else 0) a b → RisesBy (cut_off seen + n) b c → RisesBy (cut_off (x ∷ seen) + n) a c
unfolding cut_off
cuts_more x seen n a b c first rest = let all = grows a b c (if is_cut x.seen.end then 1 else 0) (cut_off seen + n) first rest in omega (arith, all)

-- no more than were cut off among those begun
few_in_flight : (o : Option LeftAt) (n : ℕ) → (if is_some o then n else 0) ≤ n
few_in_flight None n = omega arith
few_in_flight (Some stand) n = omega arith

pub cut_few : (positions : List Position) (last : List Served) → cut_in_flight positions last ≤ cut_off last
cut_few [] last = omega arith
cut_few (v ∷ positions) last = few_in_flight v.left (cut_off last)

-- ---- of answers
pub fails_none : (a b : ℕ) → a ≤ b → RisesBy (failures []) a b
unfolding failures
fails_none a b le = omega (arith, le)

pub fails_more : (one : Answer) (answers : List Answer) (a b c : ℕ) → RisesBy (outcome_failures one.outcome) a b → RisesBy (failures answers) b c → RisesBy (failures (one ∷ answers)) a c
unfolding failures
fails_more one answers a b c first rest = grows a b c (outcome_failures one.outcome) (failures answers) first rest

-- the store failed none
pub own_rises : (o : Outcome) (a b : ℕ) → is_fault o ≡ false → b ≡ a → RisesBy (outcome_failures o) a b
own_rises o a b own same = subst (λ (n : ℕ). RisesBy n a b) (sym (no_failure o own)) (stays a b same)

-- it was cut off exactly where the store failed it
pub cut_rises : (o : Outcome) (cut : Bool) (a b : ℕ) → cut ≡ is_fault o → by_fault (is_fault o) (Rises a b) (b ≡ a) → RisesBy (if cut then 1 else 0) a b
cut_rises o true a b is cause = let rose : Rises a b = rw (sym is) at cause in omega (arith, rose)
cut_rises o false a b is cause = let same : b ≡ a = rw (sym is) at cause in omega (arith, same)

pub uncut_rises : (cut : Bool) (a b : ℕ) → cut ≡ false → b ≡ a → RisesBy (if cut then 1 else 0) a b
uncut_rises true a b is same = absurd (cc is)
uncut_rises false a b is same = omega (arith, same)

-- ---- where no statement was cut off
-- no answer is that the store failed, unless it is that one
not_fault : (r : Refusal) → (r ≡ StoreFault → ⊥) → refusal_failures r ≡ 0
not_fault StoreFault off = absurd (off refl)
not_fault r off = refl

not_failure : (o : Outcome) → (o ≡ Refused StoreFault → ⊥) → outcome_failures o ≡ 0
not_failure (Refused r) off = not_fault r (λ is. off (ap (λ (x : Refusal). Refused x) is))
not_failure other off = refl

-- nor is what is gathered
one_more : (g : Option Gathering) → has_failed g ≡ false → has_failed (option_map and_one g) ≡ false
one_more None sound = refl
one_more (Some h) sound = sound

begun_uncut : (o : Option (List ℕ)) (cut : Bool) → cut ≡ false → has_failed (option_map (λ (table : List ℕ). record { table = table; count = 1; failed = cut }) o) ≡ false
begun_uncut None cut off = refl
begun_uncut (Some table) cut off = off

gathers_sound : (p : Public) (m : ℕ) (g : Option Gathering) (stmt : Stmt) (end : End) → has_failed g ≡ false → is_cut end ≡ false → has_failed (gathering_after p m g stmt end) ≡ false
gathers_sound p m g stmt end sound off = go (goes_into p g (skeleton stmt)) (begins_batch p m stmt)
  where
    go : (along begins : Bool) → has_failed (if along then option_map and_one g else if begins then begun_by (skeleton stmt) end else None) ≡ false
    go true begins = one_more g sound
    go false true = begun_uncut (inserts_into (skeleton stmt)) (is_cut end) off
    go false false = refl

not_failed : (g : Option Gathering) (end : End) → has_failed g ≡ false → is_cut end ≡ false → is_failed g end ≡ false
not_failed g Batched sound off = sound
not_failed g (Cut n) sound off = absurd (cc off)
not_failed g end sound off = refl

none_cut : (cut : Bool) (n : ℕ) → (if cut then 1 else 0) + n ≡ 0 → (cut ≡ false) × (n ≡ 0)
none_cut true n is = absurd (omega (arith, is))
none_cut false n is = (refl, omega (arith, is))

-- of statements that were answered, before some that weren't
pub none_failed : (Leaves : Public → Stmt → Seen → Type 0) (spelt : List Spelt) (answers : List Answer) (seen last : List Served) (positions : List Position) (g : Option Gathering)
    → AreSeen Leaves positions g spelt answers (seen ++ last) → length answers ≤ length spelt → length seen ≡ length (statements (take (length answers) spelt)) → has_failed g ≡ false → cut_off seen ≡ 0 → failures answers ≡ 0
unfolding AreSeen cut_off failures statements
none_failed Leaves spelt [] seen last positions g are reached each sound uncut = refl
none_failed Leaves [] (one ∷ answers) seen last positions g are reached each sound uncut = absurd (omega (arith, reached))
none_failed Leaves (Err at ∷ spelt) (one ∷ answers) seen last positions g are reached each sound uncut =
    let own : outcome_failures one.outcome ≡ 0 = ap (λ (a : Answer). outcome_failures a.outcome) are.0 in
    let rest = none_failed Leaves spelt answers seen last positions None are.1 (omega (arith, reached)) each refl uncut in
    omega (arith, own, rest)
none_failed Leaves (Ok stmt ∷ spelt) (one ∷ answers) [] last positions g are reached each sound uncut = absurd (omega (arith, each))
none_failed Leaves (Ok stmt ∷ spelt) (one ∷ answers) (x ∷ seen) last [] g are reached each sound uncut = absurd are
none_failed Leaves (Ok stmt ∷ spelt) (one ∷ answers) (x ∷ seen) last (v ∷ positions) g are reached each sound uncut =
    let parts = none_cut (is_cut x.seen.end) (cut_off seen) uncut in
    let fine : is_failed g x.seen.end ≡ false = not_failed g x.seen.end sound parts.0 in
    let own : outcome_failures one.outcome ≡ 0 = not_failure one.outcome (λ is. absurd (cc (are.2.1.1 is, fine))) in
    let rest = none_failed Leaves spelt answers seen last positions _ are.3 (omega (arith, reached)) (omega (arith, each)) (gathers_sound v.public v.asked g stmt x.seen.end sound parts.0) parts.1 in
    omega (arith, own, rest)

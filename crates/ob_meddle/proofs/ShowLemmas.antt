-- Nothing shows before the first change.
use Rattle.std.proofs.Common.{Bool, IsSome, subst, sym, ◌≡◌, ◌∙◌, ◌+◌, ◌<◌, ◌≤◌, ℕ, true, false, refl, ap, List, [], ◌∷◌, ◌++◌, map, Option, Some, None, length, take, arith}
use Rattle.std.proofs.lemmas.List.{length-take-le, take-append-le}
use Rattle.std.specs.Option.{ForSome}
use Rattle.ob_base.specs.declared.access.Access.{Access}
use Rattle.ob_store.specs.State.{Disturbance, KeptRegion, FalseRead, Shape, StoreState}
use Rattle.ob_store.specs.Calls.{Asks, IsBefore, IsQuiet, IsSteady}
use Rattle.ob_store.specs.Logs.{asked_of}
use Rattle.ob_meddle.specs.declared.caught.Caught.{Caught}
use Rattle.ob_meddle.specs.declared.meddle.Act.{Act}
use Rattle.ob_meddle.specs.declared.meddle.Act.TheVariants.{Fail, Flip, Copy, Older}
use Rattle.ob_meddle.specs.declared.meddle.Meddle.{Meddle}
use Rattle.ob_meddle.specs.declared.store.MeddledStore.{MeddledStore}
use Rattle.ob_meddle.specs.Caught.{lie_of}
use Rattle.ob_meddle.specs.Due.{failed_among, has_acted, are_later, spelt_act, disturbance_of, disturbances}
use Rattle.ob_meddle.specs.Fresh.{IsEarly}
use Rattle.ob_meddle.specs.Shows.{list_of, state_of, told_of, Shows}
use Rattle.ob_meddle.proofs.DueLemmas.{acted_later, none_acted, none_failed, all_later}

-- a read was caught after an act
abbrev pub IsCaused : List Meddle → Option Caught → Type 0
IsCaused list caught = ForSome caught (λ c. has_acted list (c.count + 1) ≡ true)

-- as many accesses came before it as were counted
count_of : (list : List Meddle) (asked : List Access) (caught : Option Caught) → IsEarly caught asked → IsCaused list caught
    → (lie : FalseRead) → lie_of caught asked ≡ Some lie → (length lie.before < length asked) × (has_acted list (length lie.before + 1) ≡ true)
count_of list asked None early caused lie is = absurd (cc is)
count_of list asked (Some c) early caused lie is =
    let less : c.count < length asked = early c refl in
    let before : take c.count asked ≡ lie.before = cc is in
    let count : length lie.before ≡ c.count = ap length (sym before) ∙ length-take-le c.count asked (omega (arith, less)) in
    (omega (arith, less, count), ap (λ (n : ℕ). has_acted list (n + 1)) count ∙ caused c refl)

-- none was where no act came
no_lie : (list : List Meddle) (asked : List Access) (caught : Option Caught) → IsEarly caught asked → IsCaused list caught → has_acted list (length asked) ≡ false → lie_of caught asked ≡ None
no_lie list asked None early caused none = refl
no_lie list asked (Some c) early caused none =
    let less : c.count < length asked = early c refl in
    absurd (cc (caused c refl, acted_later list (c.count + 1) (length asked) (omega (arith, less)) none))

-- where every change is still to come
quiet_as : (s : StoreState) (list : List Meddle) (caught : Option Caught) → s.faults + s.slips ≡ failed_among list (length s.asked) → s.lie ≡ lie_of caught s.asked
    → IsEarly caught s.asked → IsCaused list caught → are_later list (length s.asked) ≡ true → IsQuiet s
quiet_as s list caught counted lie early caused later =
    let none = none_failed list (length s.asked) later in
    record {
      faults = omega (arith, none, counted);
      slips = omega (arith, none, counted);
      lie = lie ∙ no_lie list s.asked caught early caused (none_acted list (length s.asked) later);
    }

told_steady : (s : StoreState) (list : List Meddle) (caught : Option Caught) → s.disturbed ≡ disturbances list → s.faults + s.slips ≡ failed_among list (length s.asked) → s.lie ≡ lie_of caught s.asked
    → IsEarly caught s.asked → IsCaused list caught → IsSteady s
told_steady s list caught names counted lie early caused =
    let later : (n : ℕ) → IsBefore s.disturbed n → are_later list n ≡ true = λ n before. all_later list n (subst (λ (o : Option (List Disturbance)). IsBefore o n) names before) in
    record {
      quiet = λ before. quiet_as s list caught counted lie early caused (later (length s.asked) before);
      lied = λ one is before. absurd (cc (
        (count_of list s.asked caught early caused one (sym lie ∙ is)).1,
        none_acted list (length one.before + 1) (later (length one.before + 1) before),
      ));
    }

-- so it is, too, where nothing is told of what others do
pub steady_as : (reopened : Bool) (s : StoreState) (list : List Meddle) (caught : Option Caught) → s.disturbed ≡ told_of reopened list → (reopened ≡ false → s.faults + s.slips ≡ failed_among list (length s.asked))
    → s.lie ≡ lie_of caught s.asked → IsEarly caught s.asked → (reopened ≡ false → IsCaused list caught) → IsSteady s
steady_as false s list caught names counted lie early caused = told_steady s list caught names (counted refl) lie early (caused refl)
steady_as true s list caught names counted lie early caused = record {
  quiet = λ before. absurd (subst (λ (o : Option (List Disturbance)). IsBefore o (length s.asked)) names before);
  lied = λ one is before. absurd (subst (λ (o : Option (List Disturbance)). IsBefore o (length one.before + 1)) names before);
}

-- where it is told, no earlier run's region was asked for
pub not_reopened : (reopened : Bool) (list : List Meddle) → IsSome (told_of reopened list) → reopened ≡ false
not_reopened false list told = refl
not_reopened true list told = absurd (cc told)

-- when the changes of a store show
pub shows : (m : MeddledStore) → IsSome (state_of m).disturbed → Shows (list_of m) (state_of m)
shows m told =
    let still = not_reopened m.reopened m.list told in
    let counted = m.counted still in
    let caused = m.caused still in
    record {
      counted = counted;
      asked = λ lie is. (count_of m.list (asked_of m.log) m.caught m.early caused lie is).0;
      caused = λ lie is. (count_of m.list (asked_of m.log) m.caught m.early caused lie is).1;
      quiet = quiet_as (state_of m) m.list m.caught counted refl m.early caused;
      disturbed = ap (λ (b : Bool). told_of b m.list) still;
    }

-- what is said of the changes is which they are
heads : {x y : ℕ} {xs ys : List ℕ} → x ∷ xs ≡ y ∷ ys → x ≡ y
heads e = cc e

act_same : (a b : Act) → spelt_act a ≡ spelt_act b → a ≡ b
act_same Fail Fail e = refl
act_same Fail (Flip region place byte) e = absurd (cc e)
act_same Fail (Copy from to) e = absurd (cc e)
act_same Fail (Older region place) e = absurd (cc e)
act_same (Flip region place byte) Fail e = absurd (cc e)
act_same (Flip region place byte) (Flip region' place' byte') e = cc e
act_same (Flip region place byte) (Copy from to) e = absurd (omega (arith, heads e))
act_same (Flip region place byte) (Older region' place') e = absurd (cc e)
act_same (Copy from to) Fail e = absurd (cc e)
act_same (Copy from to) (Flip region place byte) e = absurd (omega (arith, heads e))
act_same (Copy from to) (Copy from' to') e =
    let a : from.region ≡ from'.region = cc e in
    let b : from.place ≡ from'.place = cc e in
    let c : to.region ≡ to'.region = cc e in
    let d : to.place ≡ to'.place = cc e in
    λ i. Copy (record { region = a i; place = b i }) (record { region = c i; place = d i })
act_same (Copy from to) (Older region place) e = absurd (cc e)
act_same (Older region place) Fail e = absurd (cc e)
act_same (Older region place) (Flip region' place' byte) e = absurd (cc e)
act_same (Older region place) (Copy from to) e = absurd (cc e)
act_same (Older region place) (Older region' place') e = cc e

changes_same : (a b : List Meddle) → map disturbance_of a ≡ map disturbance_of b → a ≡ b
changes_same [] [] e = refl
changes_same [] (y ∷ ys) e = absurd (cc e)
changes_same (x ∷ xs) [] e = absurd (cc e)
changes_same (x ∷ xs) (y ∷ ys) e =
    let first : disturbance_of x ≡ disturbance_of y = cc e in
    let act = act_same x.act y.act (ap (λ (d : Disturbance). d.what) first) in
    let before : x.before ≡ y.before = ap (λ (d : Disturbance). d.before) first in
    let rest = changes_same xs ys (cc e) in
    λ i. record { before = before i; act = act i } ∷ rest i

pub list_same : (a b : List Meddle) → disturbances a ≡ disturbances b → a ≡ b
list_same a b e = changes_same a b (cc e)

-- a read that was caught stays as it was
lie_stays : (caught : Option Caught) (old more : List Access) (a : Access) → more ≡ old ++ a ∷ [] → IsEarly caught old → lie_of caught more ≡ lie_of caught old
lie_stays None old more a e early = refl
lie_stays (Some c) old more a e early =
    let less = early c refl in
    ap (λ (before : List Access). Some (record { region = c.region; place = c.place; bytes = take c.len c.bytes; before = before })) (ap (λ (l : List Access). take c.count l) e ∙ take-append-le c.count old (a ∷ []) (omega (arith, less)))

-- the state of a store except for its regions, and for the read that was caught
abbrev pub shown : MeddledStore → Option Caught → (ℕ → Option Shape) → (ℕ → ℕ → Option (List ℕ)) → (ℕ → Option KeptRegion) → List ℕ → StoreState
shown m caught live last kept gave = record (state_of m) { live = live; last = last; lie = lie_of caught (asked_of m.log); kept = kept; gave = gave }

-- one access more was asked, and perhaps it failed
module _ (a : Access) (old new : MeddledStore) (faults slips : ℕ) (live : ℕ → Option Shape) (last : ℕ → ℕ → Option (List ℕ)) (kept : ℕ → Option KeptRegion) (gave : List ℕ) (asked : asked_of new.log ≡ asked_of old.log ++ a ∷ [])
    (past : new.log.past ≡ old.log.past) (spare : old.log.spare ≤ new.log.spare + 1) (list : new.list ≡ old.list) (reopened : new.reopened ≡ old.reopened) (failed : new.faults ≡ old.faults + faults) (slipped : new.slips ≡ old.slips + slips) where
  asks_of : (caught : Option Caught) → ((lie : FalseRead) → (state_of old).lie ≡ Some lie → lie_of caught (asked_of new.log) ≡ Some lie) → IsEarly caught (asked_of new.log) → (new.reopened ≡ false → IsCaused new.list caught)
      → Asks a (state_of old) (shown new caught live last kept gave)
  asks_of caught stays early caused = record {
    asked = asked;
    log = ap length past;
    spare = spare;
    faults = omega (arith, failed);
    slips = omega (arith, slipped);
    tells = refl;
    lie = stays;
    disturbed = λ t. told_of (reopened t) (list t);
    steady = steady_as new.reopened (shown new caught live last kept gave) new.list caught refl new.counted refl early caused;
  }

  -- no read was caught
  pub asks_same : new.caught ≡ old.caught → Asks a (state_of old) (shown new new.caught live last kept gave)
  asks_same same = asks_of new.caught (λ lie is. ap (λ (c : Option Caught). lie_of c (asked_of new.log)) same ∙ lie_stays old.caught (asked_of old.log) (asked_of new.log) a asked old.early ∙ is) new.early new.caused

  -- it is the first that was caught
  pub asks_caught : (caught : Option Caught) → old.caught ≡ None → IsEarly caught (asked_of new.log) → (new.reopened ≡ false → IsCaused new.list caught) → Asks a (state_of old) (shown new caught live last kept gave)
  asks_caught caught none early caused = asks_of caught (λ lie is. absurd (cc (is, ap (λ (c : Option Caught). lie_of c (asked_of old.log)) none))) early caused

-- What flew asks in a way that doesn't hang on the number of its region.
use Rattle.ob_shell.proofs.Words.{AfterCount, Cut, End, IsFlown, Batched, List, Machine, may_fly, MayFly, None, Option, Plan, Public, public_of, RanInFlight, refl, Result, RevState, RunStop, Seen, served_as, skeleton, slice_get, Some, StandsAs, Static, Stmt, subst, suc, true, Whole, zero, ℕ, [], ◌∷◌, ◌≡◌}
use Rattle.ob_base.specs.declared.config.Plan.TheVariants.{Small, Large, Continuous, Hash}
use Rattle.ob_base.specs.declared.config.Planner.TheVariants.{Forced}
use Rattle.ob_inflight.specs.Closing.{Closed}
use Rattle.ob_mean.specs.Lawful.{Holds, Lawful}
use Rattle.ob_script.proofs.Steady.{all_steady}
use Rattle.ob_script.specs.FlightLaws.{MayFly as FliesAs}
use Rattle.ob_script.specs.Flights.{AreSteady}
use Rattle.ob_script.specs.Trace.{Served}
use Rattle.ob_shell.proofs.FlightFacts.{all_get}
use Rattle.ob_shell.proofs.SelectLemmas.{flown_selects}

-- by Small no other plan comes behind
small_alone : (p : Public) (stmt : Stmt) (seen : Seen) (k : Option ℕ) (plan second : Option Plan) → p.planner ≡ Forced Small → Holds p stmt seen k plan second → second ≡ None
small_alone p stmt seen k plan None small holds = refl
small_alone p stmt seen None None (Some second) small holds = absurd holds
small_alone p stmt seen None (Some plan) (Some second) small holds = absurd holds
small_alone p stmt seen (Some k) None (Some second) small holds = absurd holds
small_alone p stmt seen (Some k) (Some Small) (Some second) small holds = absurd holds
small_alone p stmt seen (Some k) (Some Large) (Some second) small holds = absurd holds
small_alone p stmt seen (Some k) (Some Continuous) (Some second) small holds = absurd holds
small_alone p stmt seen (Some k) (Some Hash) (Some Small) small holds = absurd (cc (small, holds.3))
small_alone p stmt seen (Some k) (Some Hash) (Some Large) small holds = absurd holds
small_alone p stmt seen (Some k) (Some Hash) (Some Continuous) small holds = absurd holds
small_alone p stmt seen (Some k) (Some Hash) (Some Hash) small holds = absurd holds

lawful_one : (p : Public) (m : ℕ) (stmt : Stmt) (seen : Seen) → p.planner ≡ Forced Small → Lawful p m stmt seen → seen.then ≡ None
lawful_one p m stmt seen small lawful = small_alone p stmt seen seen.k seen.plan seen.then small lawful.holds

stands_one : (p : Public) (m n : ℕ) (stmt : Stmt) (seen : Seen) (end : End) → p.planner ≡ Forced Small → StandsAs p m n stmt seen end → seen.then ≡ None
stands_one p m n stmt seen Static small stands = lawful_one p m stmt seen small stands
stands_one p m n stmt seen Whole small stands = lawful_one p m stmt (record seen { end = Cut n }) small stands
stands_one p m n stmt seen AfterCount small stands = absurd stands
stands_one p m n stmt seen Batched small stands = absurd stands
stands_one p m n stmt seen (Cut cut) small stands = lawful_one p m stmt seen small stands.2

flown_one : (p : Public) (m n : ℕ) (stmt : Stmt) (seen : Seen) (o : Option Closed) → p.planner ≡ Forced Small → IsFlown p m n stmt seen o → seen.then ≡ None
flown_one p m n stmt seen (Some one) small flown = lawful_one p m stmt seen small flown.lawful
flown_one p m n stmt seen None small flown = stands_one p m n stmt seen seen.end small flown

served_each : (P : Served → Type 0) (stmts : List Stmt) (seens : List Seen) → ((i : ℕ) (stmt : Stmt) (seen : Seen) → slice_get stmts i ≡ Some stmt → slice_get seens i ≡ Some seen → P (record { skeleton = skeleton stmt; seen = seen }))
    → (i : ℕ) (x : Served) → slice_get (served_as stmts seens) i ≡ Some x → P x
served_each P [] seens each i x is = absurd (cc is)
served_each P (stmt ∷ stmts) [] each i x is = absurd (cc is)
served_each P (stmt ∷ stmts) (seen ∷ seens) each zero x is = let same : record { skeleton = skeleton stmt; seen = seen } ≡ x = cc is in subst P same (each 0 stmt seen refl refl)
served_each P (stmt ∷ stmts) (seen ∷ seens) each (suc i) x is = served_each P stmts seens (λ k s y get shown. each (suc k) s y get shown) i x is

pub steady_flown : {R : Type 0} (state : R → RevState) (m0 m1 : Machine R) (stmts : List Stmt) (seens : List Seen) (ended : List Closed) (result : Result (Unit {0}) RunStop) → MayFly state m0 m1 stmts
    → RanInFlight state m0.flights.words m1.flights.words stmts seens ended result m0.engine m0.store m1.engine m1.store → AreSteady (public_of m0.engine) (served_as stmts seens)
steady_flown state m0 m1 stmts seens ended result may ran = all_steady (public_of m0.engine) (served_as stmts seens) (record {
  each = served_each FliesAs stmts seens (λ i stmt seen get shown. record {
    skeleton = flown_selects (public_of m0.engine) (skeleton stmt) (all_get (λ (x : Stmt). may_fly (public_of m0.engine) (skeleton x) ≡ true) stmts may.fly i stmt get);
    one_plan = flown_one _ _ _ stmt seen _ refl (ran.each i stmt seen get shown);
  });
})

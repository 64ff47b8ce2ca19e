-- What had ended within a flight's first accesses, over a store that others change only after these, is answered and seen as it is meant.
use Rattle.ob_shell.proofs.Words.{answer_labels, arith, Bool, by_fault, count_of, Disturbance, Draws, Emitted, Engine, false, is_fault, IsBefore, IsSteady, IsTrue, length, List, Option, outcome_of, public_of, refl, Represents, RevState, Seen, skeleton, Stmt, StoreState, subst, sym, Tables, true, ℕ, ◌+◌, ◌≡◌, ◌≤◌}
use Rattle.ob_exec.specs.InFlight.{EndsMeant}
use Rattle.ob_exec.specs.RanFlight.{MeantThen, in_flight}
use Rattle.ob_inflight.specs.Closing.{Closed}
use Rattle.ob_mean.specs.Prints.{Prints, Unfinished}
use Rattle.ob_mean.specs.Replay.{cut_at}
use Rattle.ob_mean.specs.Verdict.{seen as seen_by, verdict}
use Rattle.ob_shell.proofs.DisturbLemmas.{before_less}
use Rattle.ob_store.specs.Calls.{IsQuiet}

pub record AsMeant {R : Type 0} (d : Draws) (stmts : List Stmt) (tables : Tables) (stmt : Stmt) (seen : Seen) (one : Closed) (old : Engine R) (s : StoreState) : Type 0 where
  pub answered : one.outcome ≡ outcome_of stmt (verdict (in_flight stmts (public_of old)) (count_of old s) tables stmt)
  pub shown : seen ≡ seen_by d (in_flight stmts (public_of old)) (count_of old s) tables stmt
  pub prints : Prints (answer_labels stmt (in_flight stmts (public_of old))) (verdict (in_flight stmts (public_of old)) (count_of old s) tables stmt) one.events

module _ {R : Type 0} (state : R → RevState) (stmts : List Stmt) (asked k : ℕ) (stmt : Stmt) (here : Seen) (one : Closed) (old : Engine R) (s t : StoreState)
    (m : MeantThen state stmts asked k stmt here one old s t) (steady : IsSteady s) (n : ℕ) (before : IsBefore s.disturbed n) (few : length s.asked + k ≤ n) where
  quiet_then : IsQuiet m.mid
  quiet_then =
      (m.later.steady steady).quiet
      (subst (λ (o : Option (List Disturbance)). IsBefore o (length m.mid.asked)) (sym m.later.disturbed)
      (before_less s.disturbed (length m.mid.asked) n (let most = m.few in omega (arith, most, few)) before))

  -- the store had failed nobody
  never_failed : is_fault one.outcome ≡ true → ⊥
  never_failed is = let rises = (m.fails is).least in let none = quiet_then.faults in omega (arith, rises, none)

  pub as_meant : (tables : Tables) (d : Draws) → IsTrue s.tells → Represents state old s tables → AsMeant d stmts tables stmt here one old s
  as_meant tables d tells held = by (is_fault one.outcome) refl
    where
      told : EndsMeant d (in_flight stmts (public_of old)) (count_of old s) asked tables stmt here one.outcome × Emitted stmt (in_flight stmts (public_of old)) (count_of old s) tables one.outcome one.events
      told = m.told tables d (record { tells = tells; held = held; nolie = quiet_then.lie })

      by : (b : Bool) → is_fault one.outcome ≡ b → AsMeant d stmts tables stmt here one old s
      by true is = absurd (never_failed is)
      by false is =
          let whole = subst (λ (b : Bool). by_fault b (here ≡ cut_at true asked (in_flight stmts (public_of old)) (skeleton stmt) (seen_by d (in_flight stmts (public_of old)) (count_of old s) tables stmt))
          ((one.outcome ≡ outcome_of stmt (verdict (in_flight stmts (public_of old)) (count_of old s) tables stmt)) × (here ≡ seen_by d (in_flight stmts (public_of old)) (count_of old s) tables stmt))) is told.0 in
          record {
            answered = whole.0;
            shown = whole.1;
            prints = subst (λ (b : Bool). by_fault b (Unfinished (answer_labels stmt (in_flight stmts (public_of old))) (verdict (in_flight stmts (public_of old)) (count_of old s) tables stmt) one.events)
                (Prints (answer_labels stmt (in_flight stmts (public_of old))) (verdict (in_flight stmts (public_of old)) (count_of old s) tables stmt) one.events)) is told.1;
          }

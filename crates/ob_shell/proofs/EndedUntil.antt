-- One that had ended when its flight had asked so many accesses had ended within them.
use Rattle.ob_shell.proofs.Words.{arith, Bool, false, length, List, None, Option, option_map_or, Public, refl, slice_get, Some, suc, true, zero, ℕ, ◌≡◌, ◌≤◌}
use Rattle.ob_exec.specs.RanFlight.{EndedWithin}
use Rattle.ob_headline.proofs.UntilLemmas.{by_then}
use Rattle.ob_headline.specs.Flights.{asked_until, has_ended}
use Rattle.ob_script.specs.Flights.{Flying, boarding, turns}
use Rattle.ob_script.specs.Trace.{Served}

get_ended : (o : Option Flying) → option_map_or (λ (f : Flying). f.ended) o false ≡ true → (one : Flying) × (o ≡ Some one) × (one.ended ≡ true)
get_ended None is = absurd (cc is)
get_ended (Some f) is = (f, refl, is)

module _ (p : Public) (flown : List Served) (words : ℕ → ℕ) (i n : ℕ) where
  pub ended_at : (turn : ℕ) → has_ended i (turns words turn (boarding p flown)) ≡ true → length (turns words turn (boarding p flown)).log ≤ n → EndedWithin p flown words n i
  ended_at turn is few =
      let one = get_ended (slice_get (turns words turn (boarding p flown)).flying i) is in
      record { turn = turn; one = one.0; at = one.1; ended = one.2; within = few }

  pub ended_until : (total : ℕ) → has_ended i (turns words total (boarding p flown)) ≡ true → asked_until words i total (boarding p flown) ≤ n → EndedWithin p flown words n i
  unfolding asked_until turns
  ended_until zero is few = ended_at 0 is few
  ended_until (suc k) is few = by (λ before fewer. ended_until k before fewer) (has_ended i (turns words k (boarding p flown))) refl
    where
      by : (has_ended i (turns words k (boarding p flown)) ≡ true → asked_until words i k (boarding p flown) ≤ n → EndedWithin p flown words n i)
          → (ended : Bool) → has_ended i (turns words k (boarding p flown)) ≡ ended → EndedWithin p flown words n i
      by deep true at = deep at (let here = by_then words i (boarding p flown) k true at in omega (arith, here, few))
      by deep false at = ended_at (suc k) is (let here = by_then words i (boarding p flown) k false at in omega (arith, here, few))

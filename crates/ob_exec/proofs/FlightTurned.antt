-- In which turn a flight stops: which have ended by then.
use Rattle.ob_exec.proofs.Words.{ap, arith, Bool, Closed, false, Flying, is_some, length, List, nat_lt, Option, Public, refl, Served, sym, true, turns, ℕ, ◌∙◌, ◌≡◌}
use Rattle.std.specs.Prelude.{option_map}
use Rattle.ob_inflight.specs.Closing.{outcome_at}
use Rattle.ob_script.specs.Flights.{boarded}
use Rattle.ob_stages.proofs.RowsPlaces.{less_so, not_less}
use Rattle.ob_exec.specs.RanFlight.{StopsInTurn}
use Rattle.ob_exec.proofs.FlightLists.{get_mapped, none_past}
use Rattle.ob_exec.proofs.FlightRuns.{some_ended}

-- those that have ended are the first ones
pub ended_below : (ended : List Closed) (i : ℕ) → is_some (outcome_at ended i) ≡ nat_lt i (length ended)
ended_below ended i = go (nat_lt i (length ended)) refl
  where
    go : (b : Bool) → nat_lt i (length ended) ≡ b → is_some (outcome_at ended i) ≡ b
    go true is = some_ended ended i (less_so i (length ended) is)
    go false is = ap (λ (o : Option Closed). is_some (option_map (λ (one : Closed). one.outcome) o)) (none_past ended i (not_less i (length ended) is))

never_below : (i : ℕ) → nat_lt i 0 ≡ false
never_below i = go (nat_lt i 0) refl
  where
    go : (b : Bool) → nat_lt i 0 ≡ b → b ≡ false
    go true is = absurd (let below = less_so i 0 is in omega (arith, below))
    go false is = refl

-- none has before the first turn
pub stops_unturned : (p : Public) (flown : List Served) (words : ℕ → ℕ) (k : ℕ) → k ≡ 0 → StopsInTurn p flown words k 0
unfolding turns
stops_unturned p flown words k none = record {
  turn = 0;
  least = omega arith;
  most = omega (arith, none);
  ended = λ i f at. let one = get_mapped boarded flown i f at in ap (λ (x : Flying). x.ended) (sym one.2) ∙ sym (never_below i);
}

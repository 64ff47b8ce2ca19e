-- Which statements of a flight that was left had ended.
use Rattle.ob_headline.proofs.Words.{All, arith, List, Public, Served, Some, subst, suc, take, zero, ℕ, ◌+◌, ◌<◌, ◌≡◌, ◌≤◌}
use Rattle.std.proofs.lemmas.List.Elements.{All-cons, All-nil}
use Rattle.ob_headline.specs.Flights.{EndedBy, Position, asked_until, position_in_flight, positions_in_flight}
use Rattle.ob_script.specs.Flights.{boarding, turns_of}

abbrev pub HasEndedBy : Position → Type 0
HasEndedBy v = EndedBy v.left v

-- each that was answered of a flight that was left
pub ended_left : (words : ℕ → ℕ) (p : Public) (m : ℕ) (all : List Served) (asked : ℕ) (i n j : ℕ) → ((k : ℕ) → k < j → asked_until words (i + k) (turns_of p all) (boarding p all) ≤ asked)
    → All HasEndedBy (take j (positions_in_flight p m all words (Some asked) i n))
unfolding positions_in_flight
ended_left words p m all asked i n zero each = All-nil HasEndedBy
ended_left words p m all asked i zero (suc j) each = All-nil HasEndedBy
ended_left words p m all asked i (suc n) (suc j) each =
    let first = each 0 (omega arith) in
    let same : i + 0 ≡ i = omega arith in
    let here : asked_until words i (turns_of p all) (boarding p all) ≤ asked = subst (λ (k : ℕ). asked_until words k (turns_of p all) (boarding p all) ≤ asked) same first in
    All-cons HasEndedBy (position_in_flight p m all words (Some asked) i) (take j (positions_in_flight p m all words (Some asked) (i + 1) n)) (omega (arith, here))
    (ended_left words p m all asked (i + 1) n j (λ k less.
    let next : i + suc k ≡ (i + 1) + k = omega arith in
    subst (λ (h : ℕ). asked_until words h (turns_of p all) (boarding p all) ≤ asked) next (each (suc k) (omega (arith, less)))))

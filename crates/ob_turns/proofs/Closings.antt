-- What is printed of statements that have ended, and how they were answered.
use Rattle.std.proofs.Common.{◌≡◌, ◌<◌, ◌≤◌, ◌+◌, ℕ, zero, suc, List, [], ◌∷◌, ◌++◌, length, take, Option, refl, sym, ap, ◌∙◌, subst, arith, append-nil, append_assoc}
use Rattle.std.specs.Prelude.{slice_set}
use Rattle.ob_base.specs.Events.{Event}
use Rattle.ob_headline.specs.Closing.{closing_line}
use Rattle.ob_inflight.specs.Closing.{Closed, ClosesAll}
use Rattle.ob_print.proofs.SentLemmas.{Sends-then}
use Rattle.ob_print.specs.Rows.{events_text}
use Rattle.ob_print.specs.Sent.{Sends, sends_none}
use Rattle.ob_turns.specs.Kept.{IsKept, closed_text, outcomes_of}
use Rattle.ob_verdict.specs.declared.outcome.Outcome.{Outcome}

take_set : {A : Type 0} (xs : List A) (i : ℕ) (y : A) → i < length xs → take (suc i) (slice_set xs i y) ≡ take i xs ++ y ∷ []
take_set [] i y below = absurd (omega (arith, below))
take_set (x ∷ xs) zero y below = refl
take_set (x ∷ xs) (suc i) y below = ap (λ (l : List _). x ∷ l) (take_set xs i y (omega (arith, below)))

module _ {E : Type 0} (grew : E → E → List Event → Type 0) (closed : E → E → ℕ → Outcome → Type 0) (written : E → Option (List ℕ)) (waiting : E → List ℕ) (outcomes : E → List Outcome)
    (took : (a b : E) (events : List Event) → grew a b events → Sends (written a) (written b) (waiting a) (waiting b) ⊥ (events_text events) × (outcomes b ≡ outcomes a))
    (ends : (a b : E) (place : ℕ) (outcome : Outcome) → closed a b place outcome → Sends (written a) (written b) (waiting a) (waiting b) ⊥ (closing_line outcome) × IsKept place outcome (outcomes a) (outcomes b)) where
  -- their answers came after what waited for the sink
  pub closes_sent : (place : ℕ) (ended : List Closed) (a b : E) → ClosesAll grew closed place ended a b → Sends (written a) (written b) (waiting a) (waiting b) ⊥ (closed_text ended)
  closes_sent place [] a b same = subst (λ (e : E). Sends (written a) (written e) (waiting a) (waiting e) ⊥ []) (sym same) (sends_none (written a) (waiting a))
  closes_sent place (one ∷ more) a b all =
      Sends-then (events_text one.events ++ closing_line one.outcome) (closed_text more)
      (Sends-then (events_text one.events) (closing_line one.outcome) (took a all.1.between one.events all.1.took).0 (ends all.1.between all.0 place one.outcome all.1.closes).0)
      (closes_sent (place + 1) more all.0 b all.2)

  -- and their outcomes are kept
  pub closes_kept : (place : ℕ) (ended : List Closed) (a b : E) → ClosesAll grew closed place ended a b → place + length ended ≤ length (outcomes a)
      → (length (outcomes b) ≡ length (outcomes a)) × (take (place + length ended) (outcomes b) ≡ take place (outcomes a) ++ outcomes_of ended)
  closes_kept place [] a b same room =
      let is : outcomes b ≡ outcomes a = ap outcomes same in
      let none : place + 0 ≡ place = omega arith in
      (ap length is, (λ i. take (none i) (is i)) ∙ sym (append-nil (take place (outcomes a))))
  closes_kept place (one ∷ more) a b all room =
      let still = (took a all.1.between one.events all.1.took).1 in
      let kept = (ends all.1.between all.0 place one.outcome all.1.closes).1 in
      let within : place < length (outcomes all.1.between) = let long = ap length still in omega (arith, room, long) in
      let put : take (suc place) (outcomes all.0) ≡ take place (outcomes a) ++ one.outcome ∷ [] =
      ap (take (suc place)) (kept.kept within) ∙ take_set (outcomes all.1.between) place one.outcome within ∙ ap (λ (l : List Outcome). take place l ++ one.outcome ∷ []) still in
      let long : length (outcomes all.0) ≡ length (outcomes a) = kept.size ∙ ap length still in
      let rest = closes_kept (place + 1) more all.0 b all.2 (omega (arith, room, long)) in
      let next : place + 1 ≡ suc place = omega arith in
      let count : place + length (one ∷ more) ≡ (place + 1) + length more = omega arith in (
        rest.0 ∙ long,
        ap (λ (n : ℕ). take n (outcomes b)) count ∙ rest.1 ∙ ap (λ (n : ℕ). take n (outcomes all.0) ++ outcomes_of more) next ∙ ap (λ (l : List Outcome). l ++ outcomes_of more) put
            ∙ append_assoc (take place (outcomes a)) (one.outcome ∷ []) (outcomes_of more),
      )

-- The end of a SELECT in flight that was refused before any access.
use Rattle.std.proofs.Common.{ℕ, List, [], refl, ◌∙◌}
use Rattle.std.specs.Prelude.{Some, Ok}
use Rattle.std.proofs.lemmas.List.{append-nil}
use Rattle.ob_base.specs.Events.{Event}
use Rattle.ob_inflight.specs.Answers.{Finishes}
use Rattle.ob_verdict.specs.declared.outcome.Outcome.{Outcome}
use Rattle.ob_verdict.specs.declared.outcome.Outcome.TheVariants.{Refused as RefusedBy}
use Rattle.ob_stages.specs.declared.flight.Flight.TheVariants.{Refused}
use Rattle.ob_stages.specs.declared.refused.RefusedFlight.{RefusedFlight}
use Rattle.ob_stages.specs.Flying.{FlightHalts, FlightHolds}
use Rattle.ob_stages.proofs.RowsShown.{leads_none}

pub finishes_refused : {E : Type 0} (grew cut : E → E → List Event → Type 0) (f : RefusedFlight) (kept : List (List ℕ)) (o : Outcome) (out : E)
    → Finishes grew cut (FlightHolds (Refused f) kept) (FlightHolds (Refused (record f { outcome = Some (RefusedBy f.refusal) })) kept) (FlightHalts (Refused f)) (Ok o) out out
finishes_refused grew cut f kept o out = record {
  ok = λ events w is. record { more = []; leads = leads_none grew out out refl; quiet = λ same. (refl, refl); holds = record { silent = append-nil events ∙ is.silent; answered = refl } };
  err = tt;
}

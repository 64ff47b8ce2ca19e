-- Events that an emitter takes call by call.
use Rattle.ob_exec.proofs.Words.{ap, append-nil, append_assoc, EmitErr, Err, Event, Leads, List, Ok, OnOk, refl, Result, subst, ℕ, [], ◌++◌, ◌∙◌, ◌≡◌}
use Rattle.std.specs.Prelude.{OnErr}
use Rattle.ob_base.specs.Events.{EmitCause}
use Rattle.ob_stages.proofs.TotalsLemmas.{leads_join}
use Rattle.ob_group.specs.Steps.{EmitsAll}

module _ {E T : Type 0} (grew cut : E → E → List Event → Type 0) (faults : E → ℕ) where
  -- some events, and then others
  pub gives_more : (a b c : E) (x y : List Event) → Leads grew grew a b x → faults b ≡ faults a → (r : Result T EmitErr) → EmitsAll grew cut faults y r b c → EmitsAll grew cut faults (x ++ y) r a c
  gives_more a b c x y first same (Ok z) is = record { ok = leads_join grew grew a b c x y first is.ok; err = tt; cause = is.cause ∙ same }
  gives_more a b c x y first same (Err e) is =
      let rest = is.err in
      record {
        ok = tt;
        err = (x ++ rest.0, leads_join grew cut a b c x rest.0 first rest.1, (rest.2.0, append_assoc x rest.0 rest.2.0 ∙ ap (λ (l : List Event). x ++ l) rest.2.1));
        cause = subst (λ (k : ℕ). EmitCause {T = T} (Err e) k (faults c)) same is.cause;
      }

  -- those of one call
  pub gives_one : (a b : E) (x : List Event) (r : Result T EmitErr) → OnOk r (Leads grew grew a b x) → OnErr r (Leads grew cut a b x) → EmitCause r (faults a) (faults b) → EmitsAll grew cut faults x r a b
  gives_one a b x (Ok z) ok err cause = record { ok = ok; err = tt; cause = cause }
  gives_one a b x (Err e) ok err cause = record { ok = tt; err = (x, err, ([], append-nil x)); cause = cause }

  -- the first of them failed
  pub gives_front : (a b : E) (x y : List Event) (e : EmitErr) → Leads grew cut a b x → EmitCause {T = T} (Err e) (faults a) (faults b) → EmitsAll {T = T} grew cut faults (x ++ y) (Err e) a b
  gives_front a b x y e err cause = record { ok = tt; err = (x, err, (y, refl)); cause = cause }

-- A SELECT in flight that was refused before any access.
use Rattle.std.specs.Prelude.{◌≡◌, ℕ, true, false, List, [], Option, Some, None, refl, IfSome}
use Rattle.std.proofs.Common.{sym, subst}
use Rattle.ob_base.specs.declared.config.Public.{Public}
use Rattle.ob_base.specs.declared.refusal.Refusal.{Refusal}
use Rattle.ob_base.specs.declared.seen.End.TheVariants.{Static}
use Rattle.ob_base.specs.Events.{Event}
use Rattle.ob_script.specs.Flights.{flight_public}
use Rattle.ob_script.specs.Trace.{Served}
use Rattle.ob_sql.specs.declared.stmt.Stmt.{Stmt}
use Rattle.ob_sql.specs.Skeleton.{skeleton}
use Rattle.ob_mean.specs.Verdict.{ended}
use Rattle.ob_flat.specs.declared.flat.Flat.{Flat}
use Rattle.ob_verdict.specs.declared.outcome.Outcome.{Outcome}
use Rattle.ob_verdict.specs.declared.outcome.Outcome.TheVariants.{Refused}
use Rattle.ob_inflight.specs.Progress.{ActsAs, Progress}
use Rattle.ob_stages.specs.declared.refused.RefusedFlight.{RefusedFlight}

-- it reads no table
abbrev pub no_table : Flat
no_table = record { schema = []; capacity = 0; region = 0 }

abbrev pub served_refused : Stmt → Served
served_refused stmt = record { skeleton = skeleton stmt; seen = ended Static }

abbrev pub refused_served : RefusedFlight → Served
refused_served f = served_refused f.stmt.now

-- all is asked from the start
abbrev pub progress_refused : Public → (flown : ℕ) → Stmt → Refusal → Option Outcome → Progress
progress_refused p flown stmt why outcome = record {
  stmt = stmt;
  flat = no_table;
  refusal = Some why;
  public = flight_public flown p;
  served = served_refused stmt;
  asked = 0;
  region = None;
  over = true;
  prints = true;
  failed = false;
  outcome = outcome;
  booked = 0;
  most = 0;
}

abbrev pub refused_progress : RefusedFlight → Progress
refused_progress f = progress_refused f.public.now f.flown f.stmt.now f.refusal f.outcome

-- nothing is emitted, and it is answered by its refusal
pub record IsRefused (f : RefusedFlight) (events : List Event) : Type 0 where
  pub silent : events ≡ []
  pub answered : IfSome f.outcome (λ outcome. outcome ≡ Refused f.refusal)

-- how it starts
pub record StartsRefused (p : Public) (flown : ℕ) (stmt : Stmt) (why : Refusal)
    (f : RefusedFlight) : Type 0 where
  pub progress : refused_progress f ≡ progress_refused p flown stmt why None
  pub holds : IsRefused f []

pub refused_acts : (f : RefusedFlight) (x : Served) (n : ℕ) → x ≡ refused_served f → ActsAs (refused_progress f) x n
refused_acts f x n is = subst (λ (y : Served). ActsAs (refused_progress f) y n) (sym is) (record { prints = refl; over = λ over. refl })

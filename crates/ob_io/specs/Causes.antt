-- What a call that may fail says of the count of failed calls.
use Rattle.std.specs.Prelude.{ℕ, ◌≡◌, ◌≤◌, OnOk, OnErr, Result}
use Rattle.ob_base.specs.Counts.{Rises}

-- the count never falls, stays where the call did its work, and rises where it failed
pub record HasCause {T E : Type 0} (before now : ℕ) (result : Result T E) : Type 0 where
  pub later : before ≤ now
  pub kept : OnOk result (now ≡ before)
  pub failed : OnErr result (Rises before now)

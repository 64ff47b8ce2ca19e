use Rattle.std.proofs.Common.{◌≡◌, Bool, true, false, List, [], Option, Some, None, refl}
use Rattle.std.specs.Prelude.{if◌then◌else◌}
use Rattle.ob_store.specs.State.{Disturbance}
use Rattle.ob_store.proofs.laws.memory_is_honest.Goals as goal

-- where others are told of, no region was opened
abbrev told : Bool → Option (List Disturbance)
told opened = if opened then None else Some []

not_opened : (opened : Bool) → told opened ≡ Some [] → opened ≡ false
not_opened false is = refl
not_opened true is = absurd (cc is)

pub returns-clause-quiet : goal.returns-clause-quiet
returns-clause-quiet c = λ m alone. record { faults = m.unfailed (not_opened m.reopened alone); slips = refl; lie = refl }

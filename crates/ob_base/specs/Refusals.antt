-- Refusals, and who they come from.
use Rattle.std.specs.Prelude.{Bool, true, false}
use Rattle.ob_base.specs.declared.refusal.Refusal.{Refusal}
use Rattle.ob_base.specs.declared.refusal.Refusal.TheVariants.{StoreFault}

-- whether it is the store that failed
abbrev pub is_store_fault : Refusal → Bool
is_store_fault StoreFault = true
is_store_fault _ = false

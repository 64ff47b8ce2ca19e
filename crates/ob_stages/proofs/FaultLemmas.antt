-- Whether an error is the store's fault.
use Rattle.std.proofs.Common.{◌≡◌, true, false, refl, ◌∙◌, ap}
use Rattle.std.specs.Prelude.{Result, Err}
use Rattle.ob_flat.specs.declared.fault.OpErr.{OpErr}
use Rattle.ob_flat.specs.declared.fault.OpErr.TheVariants.{Failed, Tampered, Sink, NoMemory}
use Rattle.ob_stages.specs.Faults.{is_fault}

pub fault_is : (e : OpErr) → is_fault e ≡ true → e ≡ Failed
fault_is Failed is = refl
fault_is other is = absurd (cc is)

pub not_fault : (e : OpErr) → is_fault e ≡ false → e ≡ Failed → ⊥
not_fault e off is = cc (off, ap is_fault is)

pub failed_by : {T : Type 0} (result : Result T OpErr) (e : OpErr) → result ≡ Err e → is_fault e ≡ true → result ≡ Err Failed
failed_by result e is fault = is ∙ ap Err (fault_is e fault)

use Rattle.std.proofs.Common.{refl}
use Rattle.ob_mutate.proofs.settling.move_table.Goals as goal

pub returns : goal.returns
returns g c = record { flat = refl; leaves = c.leave.ensures.leaves }

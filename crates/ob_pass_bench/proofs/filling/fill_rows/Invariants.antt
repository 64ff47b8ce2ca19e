use Rattle.ob_vault.specs.Rows.{SameSizes}
use Rattle.ob_pass_bench.proofs.filling.fill_rows.Given as goal

abbrev pub invariant-loop-z : goal.invariant-loop-z
invariant-loop-z l = SameSizes l.initial.rows l.rows

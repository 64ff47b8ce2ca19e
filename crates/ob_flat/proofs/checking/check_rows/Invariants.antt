use Rattle.std.proofs.Common.{◌<◌, ℕ, Option}
use Rattle.ob_vault.specs.Rows.{row_at}
use Rattle.ob_row.specs.Rows.{Row}
use Rattle.ob_row.specs.Spelling.{Begins}
use Rattle.ob_flat.proofs.checking.check_rows.Given as goal

abbrev pub invariant-loop-z : goal.invariant-loop-z
invariant-loop-z l = (j : ℕ) → j < l.z → (slot : Option Row) × Begins l.schema slot (row_at l.rows j)

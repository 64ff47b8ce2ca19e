use Rattle.ob_tables.proofs.Words.{slice_get, Some, ℕ, ◌<◌, ◌≡◌}
use Rattle.ob_base.specs.declared.schema.Table.{Table as TableOf}
use Rattle.ob_tables.proofs.tables.find_table.Given as goal

abbrev pub invariant-loop-i : goal.invariant-loop-i
invariant-loop-i l = (j : ℕ) (t : TableOf) → j < l.i → slice_get l.tables j ≡ Some t → t.heading.name ≡ l.name → ⊥

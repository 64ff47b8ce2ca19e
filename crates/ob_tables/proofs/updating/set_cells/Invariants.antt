use Rattle.ob_tables.proofs.Words.{IsSet, take, ◌≡◌}
use Rattle.std.specs.List.{All}
use Rattle.ob_mean.specs.Step.{set_cells}
use Rattle.ob_tables.proofs.updating.set_cells.Given as goal

abbrev pub invariant-loop-set : goal.invariant-loop-set
invariant-loop-set l = record { value : l.cells.items ≡ set_cells (take l.set-index l.sets) l.columns; held : All IsSet l.cells.items }

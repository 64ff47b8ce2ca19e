use Rattle.std.proofs.Common.{◌≡◌, drop}
use Rattle.std.specs.Prelude.{All}
use Rattle.ob_base.specs.Stored.{stored_at, stored_regions}
use Rattle.ob_script.specs.Sizes.{IsTable}
use Rattle.ob_script.proofs.extent.table_at.Given as goal

abbrev pub invariant-loop-table : goal.invariant-loop-table
invariant-loop-table l = record {
  rest : stored_at l.name (stored_regions (drop l.table-index l.tables)) ≡ stored_at l.name (stored_regions l.tables);
  sized : All IsTable (drop l.table-index l.tables);
}

use Rattle.std.proofs.Common.{◌≡◌, drop}
use Rattle.ob_base.specs.Stored.{heading_at}
use Rattle.ob_base.specs.Stored.{headings_of}
use Rattle.ob_names.proofs.names.heading_at.Given as goal

abbrev pub invariant-loop-table : goal.invariant-loop-table
invariant-loop-table l = heading_at l.name (headings_of (drop l.table-index l.tables)) ≡ heading_at l.name (headings_of l.tables)

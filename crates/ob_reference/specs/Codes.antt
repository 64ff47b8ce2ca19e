-- By which a proof tells two tables apart.
use Rattle.std.specs.Prelude.{List}
use Rattle.std.specs.Coded.{Coded, coded_list, coded×, code_by}
use Rattle.std.proofs.Common.{refl}
use Rattle.ob_base.specs.declared.schema.Heading.{Heading}
use Rattle.ob_base.specs.contracts.schema.Heading as heading
use Rattle.ob_base.specs.Stored.{Stored}
use Rattle.ob_row.specs.contracts.cell.Cell as cell
use Rattle.ob_row.specs.Rows.{Row}

abbrev parts : Stored (List Row) → Heading × List Row
parts t = (t.heading, t.held)

abbrev whole : Heading × List Row → Stored (List Row)
whole p = record { heading = p.0; held = p.1 }

abbrev pub stored_code : Coded (Stored (List Row))
stored_code = code_by (Heading × List Row) (coded× heading.the_row.coded (coded_list (coded_list cell.the_row.coded))) parts whole (λ _. refl)

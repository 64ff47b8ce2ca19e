use Rattle.std.proofs.Common.{◌≡◌, ◌+◌, take}
use Rattle.ob_blocks.specs.Blocks.{scanned}
use Rattle.ob_row.specs.Slots.{Slots}
use Rattle.ob_flat.specs.Slots.{Spelt}
use Rattle.ob_flat.proofs.visit.visit_rows.Given as goal

abbrev pub invariant-loop-z : goal.invariant-loop-z
invariant-loop-z g l =
    record {
      suits : g.V.Visit.Suits l.flat l.visit (l.first + l.z);
      told : (slots : Slots) → Spelt l.flat.schema slots l.rows → l.visit ≡ scanned (g.V.Visit.after l.flat) l.first l.initial.visit (take l.z slots);
    }

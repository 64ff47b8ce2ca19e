use Rattle.std.proofs.Common.{◌≡◌, ◌*◌, ◌≤◌, ◌^◌, length, take}
use Rattle.ob_script.specs.Sections.{all_accesses}
use Rattle.ob_script.proofs.sections.Sections.len.Given as goal

abbrev pub invariant-loop-section : goal.invariant-loop-section
invariant-loop-section l = record {
  sum : l.sum ≡ length (all_accesses (take l.section-index l.section-items));
  few : l.sum ≤ l.section-index * 2 ^ 49;
}

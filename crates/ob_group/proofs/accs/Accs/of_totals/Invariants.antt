use Rattle.std.proofs.Common.{◌≡◌, map, length, take}
use Rattle.ob_group.specs.Running.{total_shown}
use Rattle.ob_group.proofs.accs.Accs.of_totals.Given as goal

abbrev pub invariant-loop-i : goal.invariant-loop-i
invariant-loop-i l = record {
  size : length l.cells ≡ 32;
  told : take l.i l.cells ≡ map total_shown (take l.i l.totals);
}

use Rattle.std.proofs.Common.{◌≡◌, length}
use Rattle.ob_base.specs.Lists.{tabulate}
use Rattle.ob_select.proofs.places.first_places.Given as goal

abbrev pub invariant-loop-i : goal.invariant-loop-i
invariant-loop-i l = record {
  size : length l.places.items ≡ l.i;
  are : l.places.items ≡ tabulate l.i (λ i. i);
}

use Rattle.std.proofs.Common.{◌≡◌, ◌++◌, length, map, take}
use Rattle.ob_base.specs.declared.skeleton.ColumnName.{ColumnName}
use Rattle.ob_names.specs.Names.{place_of}
use Rattle.ob_select.proofs.places.named_places.Given as goal

abbrev pub invariant-loop-name : goal.invariant-loop-name
invariant-loop-name l = record {
  size : length l.places.items ≡ l.name-index;
  are : l.places.items ≡ map (λ (c : ColumnName). place_of c (l.left ++ l.right)) (take l.name-index l.names);
}

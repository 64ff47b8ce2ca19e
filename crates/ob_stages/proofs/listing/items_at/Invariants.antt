use Rattle.std.proofs.Common.{◌≡◌, map, length, take}
use Rattle.ob_mean.specs.Step.{item_of}
use Rattle.ob_stages.proofs.listing.items_at.Given as goal

abbrev pub invariant-loop-i : goal.invariant-loop-i
invariant-loop-i l = record {
  size : length l.parts ≡ 32;
  told : take l.i l.parts ≡ map (item_of l.columns) (take l.i l.items);
}

use Rattle.std.proofs.Common.{◌≡◌, map, length, take}
use Rattle.ob_stages.specs.Totalling.{agg_at}
use Rattle.ob_stages.proofs.listing.aggs_at.Given as goal

abbrev pub invariant-loop-i : goal.invariant-loop-i
invariant-loop-i l = record {
  size : length l.aggs ≡ 32;
  told : take l.i l.aggs ≡ map (agg_at l.columns) (take l.i l.items);
}

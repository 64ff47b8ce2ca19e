use Rattle.std.proofs.Common.{refl}
use Rattle.ob_base.specs.Plans.{continuous_length, large_length, small_length}
use Rattle.ob_base.proofs.PlanLemmas.{never_hash, not_apart}
use Rattle.ob_plan.proofs.laws.cheapest_fits.Goals as goal

pub returns : goal.returns
returns c = record {
  never_hash = λ pack rows n k. never_hash (small_length pack rows n k) (continuous_length pack n k) (large_length pack n);
  side_by_side = λ pack rows n k. not_apart (small_length pack rows n k) (continuous_length pack n k) (large_length pack n);
  padded = λ pack rows n k. refl;
}

-- How far totals may have come.
use Rattle.std.proofs.Common.{◌≤◌, ◌*◌, ◌^◌, ℕ, zero, suc, ℤ, nat_abs, List, [], ◌∷◌, Option, Some, None, IfSome, replicate, arith}
use Rattle.std.proofs.Math.ListN.{set}
use Rattle.ob_row.specs.declared.aggregate.Agg.{Agg}
use Rattle.ob_row.specs.declared.aggregate.Agg.TheVariants.{CountAll, Count, Sum, Min, Max}
use Rattle.ob_group.specs.Running.{AreUpTo, start, starts}

one_more : (m n : ℕ) (total : Option ℤ) → m ≤ n → IfSome total (λ x. nat_abs x ≤ m * 2 ^ 63) → IfSome total (λ x. nat_abs x ≤ n * 2 ^ 63)
one_more m n None more fits = fits
one_more m n (Some x) more fits = omega (arith, more, fits)

-- they are those of more rows, too
pub up_to_more : (m n : ℕ) (totals : List (Option ℤ)) → m ≤ n → AreUpTo m totals → AreUpTo n totals
up_to_more m n [] more fits = fits
up_to_more m n (total ∷ totals) more fits = (one_more m n total more fits.0, up_to_more m n totals more fits.1)

pub start_up_to : (agg : Agg) → IfSome (start agg) (λ x. nat_abs x ≤ 0 * 2 ^ 63)
start_up_to CountAll = omega arith
start_up_to (Count i) = omega arith
start_up_to other = tt

-- those of no rows
pub starts_up_to : (aggs : List Agg) → AreUpTo 0 (starts aggs)
starts_up_to [] = tt
starts_up_to (agg ∷ aggs) = (start_up_to agg, starts_up_to aggs)

-- where there is none
pub up_to_none : (n k : ℕ) → AreUpTo n (replicate k None)
up_to_none n zero = tt
up_to_none n (suc k) = (tt, up_to_none n k)

-- with another one in the place of one
pub up_to_set : (n : ℕ) (totals : List (Option ℤ)) (i : ℕ) (total : Option ℤ) → IfSome total (λ x. nat_abs x ≤ n * 2 ^ 63) → AreUpTo n totals → AreUpTo n (set totals i total)
up_to_set n [] i total few is = is
up_to_set n (t ∷ totals) zero total few is = (few, is.1)
up_to_set n (t ∷ totals) (suc i) total few is = (is.0, up_to_set n totals i total few is.1)

-- The fresh region of a select.
use Rattle.std.proofs.Common.{◌≤◌, ℕ, arith}
use Rattle.ob_base.specs.Schemas.{Columns}
use Rattle.ob_flat.specs.Flats.{IsSized}

-- fewer slots are within the limits too
pub sized_less : {columns : Columns} {n k : ℕ} → IsSized columns n → 1 ≤ k → k ≤ n → IsSized columns k
sized_less {columns} {n} {k} size some less = record { some = size.some; few = size.few; wide = size.wide; least = some; most = omega (arith, less, size.most) }

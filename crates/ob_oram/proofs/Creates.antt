-- The regions of an index, as they are made.
use Rattle.std.proofs.Common.{◌≡◌, ◌*◌, ℕ, sym, arith}
use Rattle.ob_base.specs.Numbers.{blocks_for}
use Rattle.ob_base.specs.Schemas.{Columns, width}
use Rattle.ob_vault.specs.declared.region.Region.{Region}
use Rattle.ob_vault.specs.declared.region.Order.{Order}
use Rattle.ob_flat.specs.Flats.{table_region}

-- as many blocks as slots
pub one_each : (n : ℕ) → blocks_for 1 n ≡ n
one_each n = grind arith

pub shape_is : {w : ℕ} (order : Order) (slots : ℕ) (columns : Columns) → w ≡ width columns
    → ◌≡◌ {A = Region} (record { blocks = slots; width = w; order = order }) (table_region order 1 columns slots)
shape_is {w} order slots columns is =
    let one : w ≡ 1 * width columns = omega (arith, is) in
    λ i. record { blocks = sym (one_each slots) i; width = one i; order = order }

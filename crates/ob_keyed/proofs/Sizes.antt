-- The key of an index, as a table's heading gives it.
use Rattle.std.proofs.Common.{◌≡◌, ℕ, Option, Some, sym, ap}
use Rattle.std.specs.Prelude.{unwrap_or}
use Rattle.ob_base.specs.Schemas.{Columns, key_place}
use Rattle.ob_row.specs.Keys.{key_at}

pub key_same : (columns : Columns) (place : ℕ) → key_place columns ≡ Some place → place ≡ key_at columns
key_same columns place is = sym (ap (λ (key : Option ℕ). unwrap_or key 0) is)

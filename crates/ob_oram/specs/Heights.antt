-- The leaves of an index.
use Rattle.std.specs.Prelude.{◌≡◌, ◌<◌, ◌^◌, ℕ, List, length, slice_index_or}

-- a leaf for each of n keys
pub record AreLeaves (height n : ℕ) (leaves : List ℕ) : Type 0 where
  pub count : length leaves ≡ n
  pub below : (k : ℕ) → k < n → slice_index_or leaves k 0 < 2 ^ height

-- The numbers of keys.
use Rattle.std.proofs.Common.{◌≡◌, ℕ, ℤ, ◌<◌, Bool, true, false, cond, refl, arith}
use Rattle.std.specs.Prelude.{pos, negsuc, nat_lt}
use Rattle.ob_row.specs.Keys.{key_number}

-- a number in range is the integer itself
pub number_is : (n : ℕ) (z : ℤ) → key_number n z < n → pos (key_number n z) ≡ z
number_is n (negsuc x) low = absurd (omega (arith, low))
number_is n (pos x) low = go (nat_lt x n) low
  where
    go : (b : Bool) → cond b x n < n → pos (cond b x n) ≡ pos x
    go true low = refl
    go false low = absurd (omega (arith, low))

-- What an act leaves, as one block that is put.
use Rattle.std.proofs.Common.{◌≡◌, ℕ, List, arith}
use Rattle.ob_meddle.specs.Acts.{Stands, put_at}

pub put_is : (s n : Stands) (r p : ℕ) (block : List ℕ) → n r p ≡ block → ((q x : ℕ) → (q ≡ r → x ≡ p → ⊥) → n q x ≡ s q x) → n ≡ put_at r p block s
put_is s n r p block here others = λ t q x. go q x t where
  go : (q x : ℕ) → n q x ≡ put_at r p block s q x
  go q x = grind arith

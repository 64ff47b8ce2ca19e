-- What may be asked after room was made.
use Rattle.std.proofs.Common.{◌≤◌, ◌<◌, ◌+◌, ◌-◌, ◌*◌, ◌^◌, ℕ, length, arith}
use Rattle.std.proofs.Math.Nat.{pow-le-pow_right}
use Rattle.ob_store.specs.State.{StoreState}
use Rattle.ob_store.specs.Calls.{ChangesNothing}
use Rattle.ob_vault.specs.State.{VaultState}
use Rattle.ob_vault.specs.Words.{MayStart, StartsAnew}
use Rattle.ob_vault.proofs.WorldSteps.{world}
use Rattle.ob_vault.proofs.WordLemmas.{anew_rests, anew_starts}

pub starts_rests : (v : VaultState) (s t : StoreState) → ChangesNothing s t → StartsAnew (world v s) → (n : ℕ) → n ≤ t.spare → length t.asked < 2 ^ 59 → MayStart n (world v t)
starts_rests v s t rests ready n spare few = anew_starts (anew_rests v s t rests ready) spare few

-- the blocks of a tree with at most 65,536 leaves
pub tree_few : (h : ℕ) → h ≤ 16 → 4 * (2 ^ (h + 1) - 1) ≤ 524284
tree_few h low =
    let next : h + 1 ≤ 17 = omega (arith, low) in
    let most : 2 ^ (h + 1) ≤ 2 ^ 17 = pow-le-pow_right (omega arith) next in
    omega (arith, most)

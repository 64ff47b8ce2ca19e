-- The highest region stays where one is discarded.
use Rattle.std.proofs.Common.{◌≡◌, ◌<◌, ◌++◌, ◌∷◌, [], ◌∙◌, ℕ, List, ap, arith, refl}
use Rattle.std.specs.Prelude.{max}
use Rattle.ob_base.specs.declared.access.Access.{Access}
use Rattle.ob_base.specs.declared.access.Access.TheVariants.{Make, Read, Write, Discard, Open}
use Rattle.ob_base.specs.Accesses.{highest}

discards_no_more : (asked : List Access) (region : ℕ) → highest (asked ++ Discard region ∷ []) ≡ highest asked
discards_no_more [] region = refl
discards_no_more (Make q blocks len ∷ rest) region = ap (max q) (discards_no_more rest region)
discards_no_more (Read q x ∷ rest) region = discards_no_more rest region
discards_no_more (Write q x ∷ rest) region = discards_no_more rest region
discards_no_more (Discard q ∷ rest) region = discards_no_more rest region
discards_no_more (Open q blocks len ∷ rest) region = discards_no_more rest region

pub discard_below : (first between last : List Access) (region n : ℕ) → between ≡ first → last ≡ between ++ Discard region ∷ [] → highest first < n
    → highest last < n
discard_below first between last region n same asked below =
    omega (arith, ap highest (asked ∙ ap (λ (xs : List Access). xs ++ Discard region ∷ []) same) ∙ discards_no_more first region, below)

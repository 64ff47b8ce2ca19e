-- One that goes on: what is seen of it may yet turn out to end so.
use Rattle.std.specs.Prelude.{◌≡◌, ◌<◌, ◌≤◌, ℕ, zero, suc, List, [], ◌∷◌, length, take, Some, None, slice_get, refl}
use Rattle.std.proofs.Common.{◌∙◌, ap, arith}
use Rattle.std.proofs.lemmas.List.{length-take}
use Rattle.std.proofs.lemmas.Option.{slice_get_past}
use Rattle.ob_base.specs.declared.access.Access.{Access}
use Rattle.ob_base.specs.declared.seen.End.{End}
use Rattle.ob_base.specs.declared.seen.End.TheVariants.{Static, Whole, AfterCount, Batched, Cut}
use Rattle.ob_script.specs.Script.{until_end}

-- it goes on, or is cut off after its next access at least
abbrev pub GoesOn : (asked : ℕ) → End → Type 0
GoesOn asked Static = ⊥
GoesOn asked Whole = Unit {0}
GoesOn asked AfterCount = ⊥
GoesOn asked Batched = ⊥
GoesOn asked (Cut n) = asked < n

-- of a first part
at_taken : {A : Type 0} (xs : List A) (n i : ℕ) → i < n → slice_get (take n xs) i ≡ slice_get xs i
at_taken [] zero i below = refl
at_taken [] (suc n) i below = refl
at_taken (x ∷ xs) zero i below = absurd (omega (arith, below))
at_taken (x ∷ xs) (suc n) zero below = refl
at_taken (x ∷ xs) (suc n) (suc i) below = at_taken xs n i (omega (arith, below))

-- the next of one that goes on
pub at_going : (end : End) (all : List Access) (i : ℕ) (a : Access) → GoesOn i end → slice_get all i ≡ Some a → slice_get (until_end end all) i ≡ Some a
at_going Static all i a goes is = absurd goes
at_going Whole all i a goes is = is
at_going AfterCount all i a goes is = absurd goes
at_going Batched all i a goes is = absurd goes
at_going (Cut n) all i a goes is = at_taken all n i goes ∙ is

-- nothing is left of it
pub past_end : (end : End) (all : List Access) (i : ℕ) → end ≡ Whole → length all ≤ i → slice_get (until_end end all) i ≡ None
past_end end all i whole most = ap (λ (e : End). slice_get (until_end e all) i) whole ∙ slice_get_past all i most

pub past_cut : (end : End) (all : List Access) (i : ℕ) → end ≡ Cut i → slice_get (until_end end all) i ≡ None
past_cut end all i cut =
    ap (λ (e : End). slice_get (until_end e all) i) cut ∙ slice_get_past (take i all) i (omega (arith, length-take i all))

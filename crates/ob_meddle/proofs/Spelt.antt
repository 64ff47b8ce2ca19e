-- Texts, and the changes that they spell, computed.
use Rattle.std.proofs.Common.{◌≡◌, [], ◌∷◌, refl}
use Rattle.std.specs.Prelude.{Some, None, codes}
use Rattle.ob_meddle.specs.declared.meddle.Act.TheVariants.{Fail, Flip, Copy, Older}
use Rattle.ob_meddle.specs.Changes.{changes}

fails : changes 64 (codes "9:fail") ≡ Some (record { before = 9; act = Fail } ∷ [])
unfolding changes
fails = refl

flips : changes 64 (codes "20:flip:2.1.48,21:flip:18446744073709551615.4294967295.0")
    ≡ Some (record { before = 20; act = Flip 2 1 48 } ∷ record { before = 21; act = Flip 18446744073709551615 4294967295 0 } ∷ [])
unfolding changes
flips = refl

copies : changes 64 (codes "26:copy:2.0:3.1") ≡ Some (record { before = 26; act = Copy (record { region = 2; place = 0 }) (record { region = 3; place = 1 }) } ∷ [])
unfolding changes
copies = refl

older : changes 64 (codes "20:old:2.0") ≡ Some (record { before = 20; act = Older 2 0 } ∷ [])
unfolding changes
older = refl

nothing : changes 64 [] ≡ None
unfolding changes
nothing = refl

from_one : changes 64 (codes "0:fail") ≡ None
unfolding changes
from_one = refl

no_zeros_before : changes 64 (codes "09:fail") ≡ None
unfolding changes
no_zeros_before = refl

no_end_alone : changes 64 (codes "9:fail,") ≡ None
unfolding changes
no_end_alone = refl

too_wide : changes 64 (codes "18446744073709551616:fail") ≡ None
unfolding changes
too_wide = refl

place_too_wide : changes 64 (codes "1:old:1.4294967296") ≡ None
unfolding changes
place_too_wide = refl

no_place : changes 64 (codes "1:old:1") ≡ None
unfolding changes
no_place = refl

no_third : changes 64 (codes "1:flip:1.2") ≡ None
unfolding changes
no_third = refl

no_blank : changes 64 (codes "1:fail, 2:fail") ≡ None
unfolding changes
no_blank = refl

most_two : changes 2 (codes "1:fail,2:fail,3:fail") ≡ None
unfolding changes
most_two = refl

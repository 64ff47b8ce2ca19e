-- Which changes are due at an access, or were at an earlier one.
use Rattle.std.specs.Prelude.{ℕ, zero, suc, ◌+◌, ◌==◌, ◌&&◌, not, Bool, true, false, nat_lt, nat_le, map, List, [], ◌∷◌, Option, Some, if◌then◌else◌}
use Rattle.std.specs.List.{list_any, list_all}
use Rattle.ob_base.specs.declared.access.Access.{Access}
use Rattle.ob_base.specs.declared.access.Access.TheVariants.{Make, Read, Write, Discard, Open}
use Rattle.ob_store.specs.State.{Disturbance}
use Rattle.ob_meddle.specs.declared.meddle.Act.{Act}
use Rattle.ob_meddle.specs.declared.meddle.Act.TheVariants.{Fail, Flip, Copy, Older}
use Rattle.ob_meddle.specs.declared.meddle.Meddle.{Meddle}

abbrev pub is_fail : Act → Bool
is_fail Fail = true
is_fail (Flip region place byte) = false
is_fail (Copy from to) = false
is_fail (Older region place) = false

-- whether this access, counted from 1, is to fail
abbrev pub fails_at : List Meddle → ℕ → Bool
fails_at list number = list_any (λ m. is_fail m.act && m.before == number) list

-- how many of the first accesses are to fail
unfoldable pub failed_among : List Meddle → ℕ → ℕ
failed_among list zero = 0
failed_among list (suc n) = failed_among list n + (if fails_at list (suc n) then 1 else 0)

-- whether an act other than Fail came before one of so many accesses
abbrev pub has_acted : List Meddle → ℕ → Bool
has_acted list count = list_any (λ m. not (is_fail m.act) && (nat_lt 0 m.before && nat_le m.before count)) list

-- whether all changes come after so many accesses
abbrev pub are_later : List Meddle → ℕ → Bool
are_later list count = list_all (λ m. nat_lt count m.before) list

-- an act, spelt in numbers
abbrev pub spelt_act : Act → List ℕ
spelt_act Fail = []
spelt_act (Flip region place byte) = 0 ∷ region ∷ place ∷ byte ∷ []
spelt_act (Copy from to) = 1 ∷ from.region ∷ from.place ∷ to.region ∷ to.place ∷ []
spelt_act (Older region place) = 2 ∷ region ∷ place ∷ []

-- what a store says of them
abbrev pub disturbance_of : Meddle → Disturbance
disturbance_of m = record { before = m.before; fails = is_fail m.act; what = spelt_act m.act }

abbrev pub disturbances : List Meddle → Option (List Disturbance)
disturbances list = Some (map disturbance_of list)

-- whether a change copies from this region
abbrev pub copies_from : ℕ → Act → Bool
copies_from region Fail = false
copies_from region (Flip q place byte) = false
copies_from region (Copy from to) = from.region == region
copies_from region (Older q place) = false

abbrev pub is_source : List Meddle → ℕ → Bool
is_source list region = list_any (λ m. copies_from region m.act) list

-- whether an access is a discard, whose failures are counted apart
abbrev pub is_discard : Access → Bool
is_discard (Discard region) = true
is_discard (Make region blocks len) = false
is_discard (Read region place) = false
is_discard (Write region place) = false
is_discard (Open region blocks len) = false

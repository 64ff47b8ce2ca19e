-- What acts make of what stands in a store.
use Rattle.std.specs.Prelude.{◌≡◌, ◌≢◌, ℕ, ◌&&◌, ◌==◌, Bool, false, List, [], ◌∷◌, Option, Some, None, nat_lt, if◌then◌else◌}
use Rattle.std.specs.Ordering.{nat_cmp}
use Rattle.std.specs.BTreeMap.{BTreeMap, get}
use Rattle.ob_meddle.specs.declared.meddle.Act.{Act}
use Rattle.ob_meddle.specs.declared.meddle.Act.TheVariants.{Fail, Flip, Copy, Older}
use Rattle.ob_meddle.specs.declared.meddle.Meddle.{Meddle}
use Rattle.ob_meddle.specs.declared.region.Region.{Region}
use Rattle.ob_meddle.specs.Flips.{flipped}
use Rattle.ob_meddle.specs.Held.{Rest, rest_of, stand_of, can_flip, has_older, can_hold}

-- all regions: what stands at a region's place, and the rest
abbrev pub Stands : Type 0
Stands = ℕ → ℕ → List ℕ

abbrev pub RegionRests : Type 0
RegionRests = ℕ → Option Rest

-- nothing stands otherwise but at this place
abbrev pub OnlyStand : (region place : ℕ) → (old new : Stands) → Type 0
OnlyStand region place old new = (q x : ℕ) → (q ≡ region → x ≡ place → ⊥) → new q x ≡ old q x

-- nothing stands otherwise but in this region
abbrev pub OtherStands : (region : ℕ) → (old new : Stands) → Type 0
OtherStands region old new = (q x : ℕ) → q ≢ region → new q x ≡ old q x

-- nor is the rest of another
abbrev pub OtherRests : (region : ℕ) → (old new : RegionRests) → Type 0
OtherRests region old new = (q : ℕ) → q ≢ region → new q ≡ old q

abbrev pub rest_at : Option Region → Option Rest
rest_at None = None
rest_at (Some r) = Some (rest_of r)

abbrev pub stand_at : Option Region → ℕ → List ℕ
stand_at None place = []
stand_at (Some r) place = stand_of r place

abbrev pub rests_of : BTreeMap ℕ Region → RegionRests
rests_of regions q = rest_at (get nat_cmp regions q)

abbrev pub stands_of : BTreeMap ℕ Region → Stands
stands_of regions q x = stand_at (get nat_cmp regions q) x

-- whether there is such a region of which this is true
abbrev pub allows : (Rest → Bool) → Option Rest → Bool
allows test None = false
allows test (Some r) = test r

abbrev pub before_at : Option Rest → ℕ → List ℕ
before_at None place = []
before_at (Some r) place = r.before place

abbrev pub has_place : ℕ → Option Rest → Bool
has_place place r = allows (λ r. nat_lt place r.blocks) r

abbrev pub len_at : Option Rest → ℕ
len_at None = 0
len_at (Some r) = r.len

-- whether there is such a block, and a place for it
abbrev pub can_copy : Option Rest → ℕ → Option Rest → ℕ → Bool
can_copy from place to x = has_place place from && allows (can_hold x (len_at from)) to

-- one block is replaced
abbrev pub put_at : ℕ → ℕ → List ℕ → Stands → Stands
put_at region place block s q x = if (q == region) && (x == place) then block else s q x

abbrev pub after_act : RegionRests → Act → Stands → Stands
after_act rests Fail s = s
after_act rests (Flip region place byte) s =
    put_at region place (if allows (can_flip place byte) (rests region) then flipped byte (s region place) else s region place) s
after_act rests (Copy from to) s =
    put_at to.region to.place (if can_copy (rests from.region) from.place (rests to.region) to.place then s from.region from.place else s to.region to.place) s
after_act rests (Older region place) s =
    put_at region place (if allows (has_older place) (rests region) then before_at (rests region) place else s region place) s

-- the acts before this access, in order
abbrev pub after_acts : RegionRests → List Meddle → ℕ → Stands → Stands
after_acts rests [] number s = s
after_acts rests (meddle ∷ list) number s = after_acts rests list number (if meddle.before == number then after_act rests meddle.act s else s)

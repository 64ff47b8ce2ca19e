-- Which list of changes a text spells.
use Rattle.std.specs.Prelude.{ℕ, ◌≡◌, ◌++◌, zero, suc, ◌+◌, ◌-◌, ◌*◌, ◌^◌, ◌==◌, ◌&&◌, nat_le, List, [], ◌∷◌, Option, Some, None, take, drop, codes, bytes_eq, if◌then◌else◌}
use Rattle.std.specs.List.{position}
use Rattle.std.specs.Option.{option_map_or}
use Rattle.ob_meddle.specs.declared.meddle.Act.{Act}
use Rattle.ob_meddle.specs.declared.meddle.Act.TheVariants.{Fail, Flip, Copy, Older}
use Rattle.ob_meddle.specs.declared.meddle.Meddle.{Meddle}
use Rattle.ob_meddle.specs.declared.meddle.Spot.{Spot}

-- the bytes before the first such mark, or all; and those after it
abbrev pub front_to : Option ℕ → List ℕ → List ℕ
front_to None text = text
front_to (Some i) text = take i text

abbrev pub rest_from : Option ℕ → List ℕ → Option (List ℕ)
rest_from None text = None
rest_from (Some i) text = Some (drop (i + 1) text)

abbrev pub front : ℕ → List ℕ → List ℕ
front mark text = front_to (position (λ b. b == mark) text) text

abbrev pub rest : ℕ → List ℕ → Option (List ℕ)
rest mark text = rest_from (position (λ b. b == mark) text) text

abbrev pub comma : ℕ
comma = 44

abbrev pub point : ℕ
point = 46

abbrev pub colon : ℕ
colon = 58

-- ---- numbers, in decimal without leading zeros
-- the number that more digits after n make, where it is at most `most`
abbrev pub number_from : (most n : ℕ) → List ℕ → Option ℕ
number_from most n [] = Some n
number_from most n (b ∷ bs) = if nat_le 48 b && nat_le b 57 && nat_le (n * 10 + (b - 48)) most then number_from most (n * 10 + (b - 48)) bs else None

abbrev pub number : (most : ℕ) → List ℕ → Option ℕ
number most [] = None
number most (b ∷ []) = number_from most 0 (b ∷ [])
number most (b ∷ c ∷ bs) = if b == 48 then None else number_from most 0 (b ∷ c ∷ bs)

abbrev pub wide : List ℕ → Option ℕ
wide digits = number (2 ^ 64 - 1) digits

abbrev pub narrow : List ℕ → Option ℕ
narrow digits = number (2 ^ 32 - 1) digits

-- ---- blocks: R.P
abbrev pub spot_by : Option ℕ → Option ℕ → Option Spot
spot_by None place = None
spot_by (Some region) None = None
spot_by (Some region) (Some place) = Some (record { region = region; place = place })

abbrev pub narrow_rest : Option (List ℕ) → Option ℕ
narrow_rest None = None
narrow_rest (Some digits) = narrow digits

abbrev pub spot : List ℕ → Option Spot
spot text = spot_by (wide (front point text)) (narrow_rest (rest point text))

-- ---- acts: flip:R.P.Y, copy:R.P:U.Q, old:R.P and fail
abbrev pub flip_by : Option ℕ → Option ℕ → Option ℕ → Option Act
flip_by (Some region) (Some place) (Some byte) = Some (Flip region place byte)
flip_by (Some region) (Some place) None = None
flip_by (Some region) None byte = None
flip_by None place byte = None

abbrev pub flip_after : Option ℕ → Option (List ℕ) → Option Act
flip_after region None = None
flip_after region (Some text) = flip_by region (narrow (front point text)) (narrow_rest (rest point text))

abbrev pub flip : List ℕ → Option Act
flip text = flip_after (wide (front point text)) (rest point text)

abbrev pub copy_by : Option Spot → Option Spot → Option Act
copy_by (Some from) (Some to) = Some (Copy from to)
copy_by (Some from) None = None
copy_by None to = None

abbrev pub spot_rest : Option (List ℕ) → Option Spot
spot_rest None = None
spot_rest (Some text) = spot text

abbrev pub copy : List ℕ → Option Act
copy text = copy_by (spot (front colon text)) (spot_rest (rest colon text))

abbrev pub older_by : Option Spot → Option Act
older_by None = None
older_by (Some s) = Some (Older s.region s.place)

abbrev pub act_of : List ℕ → Option (List ℕ) → Option Act
act_of word None = if bytes_eq word (codes "fail") then Some Fail else None
act_of word (Some text) =
    if bytes_eq word (codes "flip") then flip text
    else (if bytes_eq word (codes "copy") then copy text else (if bytes_eq word (codes "old") then older_by (spot text) else None))

abbrev pub act : List ℕ → Option Act
act text = act_of (front colon text) (rest colon text)

-- ---- changes: A:act, A from 1
abbrev pub act_rest : Option (List ℕ) → Option Act
act_rest None = None
act_rest (Some text) = act text

abbrev pub change_by : Option ℕ → Option Act → Option Meddle
change_by None a = None
change_by (Some zero) a = None
change_by (Some (suc n)) None = None
change_by (Some (suc n)) (Some a) = Some (record { before = suc n; act = a })

abbrev pub change : List ℕ → Option Meddle
change text = change_by (wide (front colon text)) (act_rest (rest colon text))

abbrev pub joined : Option Meddle → Option (List Meddle) → Option (List Meddle)
joined None list = None
joined (Some m) None = None
joined (Some m) (Some list) = Some (m ∷ list)

-- at most n of them, parted by commas
unfoldable pub changes : (n : ℕ) → List ℕ → Option (List Meddle)
changes zero text = None
changes (suc n) text = joined (change (front comma text)) (option_map_or (changes n) (rest comma text) (Some []))

-- a list was extended by what a text spells
abbrev pub Extends : (old new : List Meddle) → Option (List Meddle) → Type 0
Extends old new None = ⊥
Extends old new (Some more) = new ≡ old ++ more

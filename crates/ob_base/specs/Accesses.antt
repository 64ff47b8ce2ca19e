-- What a list of accesses says of the writes and the regions in it.
use Rattle.std.specs.Prelude.{◌==◌, ◌&&◌, ◌+◌, ◌-◌, ◌<◌, max, ℕ, List, [], ◌∷◌, Option, Some, None, if◌then◌else◌}
use Rattle.ob_base.specs.declared.access.Access.{Access}
use Rattle.ob_base.specs.declared.access.Access.TheVariants.{Make, Read, Write, Discard, Open}

-- the accesses of one call
abbrev pub read_at : ℕ → ℕ → List Access
read_at region place = Read region place ∷ []

abbrev pub write_at : ℕ → ℕ → List Access
write_at region place = Write region place ∷ []

-- a region whose blocks hold rows of this width together, and a tag of 32 bytes
abbrev pub make_at : ℕ → ℕ → ℕ → List Access
make_at region blocks width = Make region blocks (width + 32) ∷ []

abbrev pub discard_at : ℕ → List Access
discard_at region = Discard region ∷ []

-- a region is discarded, if there is one
abbrev pub drop_script : Option ℕ → List Access
drop_script None = []
drop_script (Some region) = discard_at region

abbrev pub region_of : Access → ℕ
region_of (Make region blocks len) = region
region_of (Read region place) = region
region_of (Write region place) = region
region_of (Discard region) = region
region_of (Open region blocks len) = region

-- the greatest region number that was made, or 0
abbrev pub highest : List Access → ℕ
highest [] = 0
highest (Make region blocks len ∷ rest) = max region (highest rest)
highest (Read region place ∷ rest) = highest rest
highest (Write region place ∷ rest) = highest rest
highest (Discard region ∷ rest) = highest rest
highest (Open region blocks len ∷ rest) = highest rest

-- every region that was asked for is below this
abbrev pub AllBelow : ℕ → List Access → Type 0
AllBelow n [] = Unit {0}
AllBelow n (Make q blocks len ∷ rest) = (q < n) × AllBelow n rest
AllBelow n (Read q x ∷ rest) = (q < n) × AllBelow n rest
AllBelow n (Write q x ∷ rest) = (q < n) × AllBelow n rest
AllBelow n (Discard q ∷ rest) = (q < n) × AllBelow n rest
AllBelow n (Open q blocks len ∷ rest) = (q < n) × AllBelow n rest

-- how many writes were asked
unfoldable pub writes : List Access → ℕ
writes [] = 0
writes (Write region place ∷ rest) = 1 + writes rest
writes (Make region blocks len ∷ rest) = writes rest
writes (Read region place ∷ rest) = writes rest
writes (Discard region ∷ rest) = writes rest
writes (Open region blocks len ∷ rest) = writes rest

-- how many regions were asked for
unfoldable pub makes : List Access → ℕ
makes [] = 0
makes (Write region place ∷ rest) = makes rest
makes (Make region blocks len ∷ rest) = 1 + makes rest
makes (Read region place ∷ rest) = makes rest
makes (Discard region ∷ rest) = makes rest
makes (Open region blocks len ∷ rest) = makes rest

-- the position among the writes of the last one at a place, after n writes and where one of them may be it
unfoldable pub number_from : ℕ → ℕ → ℕ → ℕ → List Access → ℕ
number_from n found region place [] = found
number_from n found region place (Write q x ∷ rest) = number_from (n + 1) (if (q == region) && (x == place) then n + 1 else found) region place rest
number_from n found region place (Make q blocks len ∷ rest) = number_from n found region place rest
number_from n found region place (Read q x ∷ rest) = number_from n found region place rest
number_from n found region place (Discard q ∷ rest) = number_from n found region place rest
number_from n found region place (Open q blocks len ∷ rest) = number_from n found region place rest

-- the same from the start: the write number of a place, from 1, and 0 where there is none
unfoldable pub number_of : List Access → ℕ → ℕ → ℕ
number_of asked region place = number_from 0 0 region place asked

-- where the nth write went, from 1
unfoldable pub nth_write : ℕ → List Access → Option (ℕ × ℕ)
nth_write n [] = None
nth_write n (Write q x ∷ rest) = if n == 1 then Some (q, x) else nth_write (n - 1) rest
nth_write n (Make q blocks len ∷ rest) = nth_write n rest
nth_write n (Read q x ∷ rest) = nth_write n rest
nth_write n (Discard q ∷ rest) = nth_write n rest
nth_write n (Open q blocks len ∷ rest) = nth_write n rest

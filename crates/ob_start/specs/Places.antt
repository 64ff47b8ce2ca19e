-- Where a store lies, and its mark.
use Rattle.std.specs.Prelude.{◌≡◌, ◌⊎◌, ◌<◌, ◌^◌, ◌-◌, ◌&&◌, ◌==◌, ℕ, Bool, true, false, not, List, [], ◌∷◌, ◌++◌, Result, Ok, Err, bytes_eq, codes, decimal, drop, length, take}
use Rattle.std.specs.List.{suffix_len}
use Rattle.ob_mark.specs.Marks.{begins}
use Rattle.ob_file.specs.Paths.{is_slash, last_part}
use Rattle.ob_start.specs.declared.start.StartErr.{StartErr}
use Rattle.ob_start.specs.declared.start.StartErr.TheVariants.{Usage}

abbrev pub is_name : List ℕ → Bool
is_name last = not (bytes_eq last []) && (not (bytes_eq last (codes ".")) && not (bytes_eq last (codes "..")))

-- nothing follows, or a slash
abbrev pub is_within : List ℕ → Bool
is_within [] = true
is_within (c ∷ cs) = c == 47

-- a path that is a folder's, or goes on after it with a slash
abbrev pub is_inside : (path folder : List ℕ) → Bool
is_inside path folder = begins folder path && is_within (drop (length folder) path)

-- without the slashes at its end
abbrev pub unslashed : List ℕ → List ℕ
unslashed name = take (length name - suffix_len is_slash name) name

-- whether a store, or a mark, can have this path
abbrev pub may_be_named : List ℕ → Bool
may_be_named path = is_name (last_part path)

abbrev pub or_usage : Bool → Result (Unit {0}) StartErr
or_usage true = Ok tt
or_usage false = Err Usage

-- a file of a store of files may have this path: its own name, or that of a region
abbrev pub MayClash : (name place : List ℕ) → Type 0
MayClash name place = (place ≡ name)
    ⊎ ((region : ℕ) × (region < 2 ^ 64) × (last_part place ≡ last_part name ++ (codes "." ++ decimal region)))

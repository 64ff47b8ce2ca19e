-- The parts of a path.
use Rattle.std.specs.Prelude.{◌-◌, ◌==◌, ℕ, Bool, not, List, [], ◌∷◌, codes, length, take}
use Rattle.std.specs.List.{after_last, suffix_len}

abbrev pub is_slash : ℕ → Bool
is_slash c = c == 47

abbrev pub folder_by : List ℕ → List ℕ
folder_by [] = codes "./"
folder_by (c ∷ cs) = c ∷ cs

-- what goes up to the last slash; where there is none, the folder that the program is in
abbrev pub folder_part : List ℕ → List ℕ
folder_part path = folder_by (take (length path - suffix_len (λ c. not (is_slash c)) path) path)

-- what follows the last slash; where there is none, the path itself
abbrev pub last_part : List ℕ → List ℕ
last_part path = after_last is_slash path

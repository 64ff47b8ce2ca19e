-- The places that an access reads and writes, by its leaf alone.
use Rattle.std.specs.Prelude.{ℕ, zero, suc, ◌*◌, List, [], ◌∷◌, ◌++◌, map}
use Rattle.std.specs.List.{flat_map}
use Rattle.ob_path.specs.Paths.{path}

pub data Touch : Type 0 where
  ReadStash : ℕ → Touch
  ReadTree : ℕ → Touch
  WriteTree : ℕ → Touch
  WriteStash : ℕ → Touch

-- n numbers from i on
abbrev pub numbers : ℕ → ℕ → List ℕ
numbers i zero = []
numbers i (suc n) = i ∷ numbers (suc i) n

-- the blocks of a path from the root down
abbrev pub path_places : ℕ → ℕ → List ℕ
path_places h leaf = flat_map (λ b. numbers (4 * b) 4) (path h leaf)

abbrev pub read_script : ℕ → ℕ → ℕ → List Touch
read_script t h leaf = map (λ i. ReadStash i) (numbers 0 t) ++ map (λ i. ReadTree i) (path_places h leaf)

abbrev pub write_script : ℕ → ℕ → ℕ → List Touch
write_script t h leaf = map (λ i. WriteTree i) (path_places h leaf) ++ map (λ i. WriteStash i) (numbers 0 t)

abbrev pub access_script : ℕ → ℕ → ℕ → List Touch
access_script t h leaf = read_script t h leaf ++ write_script t h leaf

-- The names in a store's folder.
use Rattle.std.specs.Prelude.{◌||◌, ℕ, Bool, List, [], bytes_eq, codes}

-- the folder itself, the one above, and what a first run makes before the identity; after the last name is none
abbrev pub is_passed : List ℕ → Bool
is_passed name = bytes_eq name [] || bytes_eq name (codes ".") || bytes_eq name (codes "..")
    || bytes_eq name (codes "lock") || bytes_eq name (codes "id.next")

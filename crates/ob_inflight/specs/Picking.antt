-- Who may be picked of those that have not ended.
use Rattle.std.specs.Prelude.{◌||◌, ◌+◌, ℕ, Bool, false, not, List, [], ◌∷◌, ◌++◌, if◌then◌else◌}

-- their places, from that of the first on, if these say whose next act prints
unfoldable pub going : (first : Bool) → (place : ℕ) → (prints : List Bool) → List ℕ
going first place [] = []
going first place (prints ∷ more) =
    (if first || not prints then place ∷ [] else []) ++ going false (place + 1) more

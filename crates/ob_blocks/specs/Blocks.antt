-- A list of slots, each with a row or empty, that is kept in blocks of r slots.
use Rattle.std.specs.Prelude.{ℕ, ◌+◌, ◌-◌, ◌*◌, List, [], ◌∷◌, ◌++◌, length, Option, None, replicate, take, drop}

-- n empty slots
abbrev pub none_of : {A : Type 0} → ℕ → List (Option A)
none_of n = replicate n None

-- the slots, filled up with empty ones to n
abbrev pub up_to : {A : Type 0} → ℕ → List (Option A) → List (Option A)
up_to n slots = slots ++ none_of (n - length slots)

-- the r slots of block p
abbrev pub block_at : {A : Type 0} → ℕ → List A → ℕ → List A
block_at r all p = take r (drop (p * r) all)

-- the list with these slots in the place of block p
abbrev pub with_block : {A : Type 0} → ℕ → List A → ℕ → List A → List A
with_block r all p block = take (p * r) all ++ (block ++ drop ((p + 1) * r) all)

-- f of the index and what stands there, for each slot, counted from i
abbrev pub map_at : {A B : Type 0} → (ℕ → A → B) → ℕ → List A → List B
map_at f i [] = []
map_at f i (x ∷ xs) = f i x ∷ map_at f (i + 1) xs

-- a state after it has seen each element with its index, counted from i
abbrev pub scanned : {A S : Type 0} → (S → ℕ → A → S) → ℕ → S → List A → S
scanned f i s [] = s
scanned f i s (x ∷ xs) = scanned f (i + 1) (f s i x) xs

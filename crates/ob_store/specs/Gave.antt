-- What the last read gave, of a store in which nothing changes between an access and the next.
use Rattle.std.specs.Prelude.{ℕ, List, [], Option, Some, None}
use Rattle.std.specs.List.{last_or}
use Rattle.ob_base.specs.declared.access.Access.{Access}
use Rattle.ob_base.specs.declared.access.Access.TheVariants.{Make, Read, Write, Discard, Open}

-- the block where an access read, and none where it is no read
abbrev pub read_by : (ℕ → ℕ → List ℕ) → Option Access → List ℕ
read_by stands None = []
read_by stands (Some (Read region place)) = stands region place
read_by stands (Some (Make region blocks len)) = []
read_by stands (Some (Write region place)) = []
read_by stands (Some (Discard region)) = []
read_by stands (Some (Open region blocks len)) = []

-- what stands where the last access read
unfoldable pub gave_of : (ℕ → ℕ → List ℕ) → List Access → List ℕ
gave_of stands asked = read_by stands (last_or None asked)

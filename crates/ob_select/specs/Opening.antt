-- How many rows are open at once while blocks are read and written.
use Rattle.std.specs.Prelude.{◌≤◌, ℕ, Bool, true, false, List, IsTrue}
use Rattle.std.specs.List.{list_any}
use Rattle.ob_base.specs.declared.access.Access.{Access}
use Rattle.ob_base.specs.declared.access.Access.TheVariants.{Make, Read, Write, Discard, Open}

-- an access that hands on the rows of a block
abbrev pub is_of_rows : Access → Bool
is_of_rows (Make region blocks len) = false
is_of_rows (Read region place) = true
is_of_rows (Write region place) = true
is_of_rows (Discard region) = false
is_of_rows (Open region blocks len) = false

-- the greatest number of rows that were open at once, before and after these accesses
pub record Opens (part : List Access) (old new : ℕ) : Type 0 where
  pub kept : old ≤ new
  pub some : IsTrue (list_any is_of_rows part) → 1 ≤ new

-- What is meant for the rows of an index, as a bag, by what a statement asks of it.
use Rattle.std.specs.Prelude.{◌≡◌, ◌<◌, ◌≤◌, ◌⊎◌, ℕ, ℤ, true, false, not, List, [], ◌∷◌, ◌++◌, map, filter, Some, ⊤}
use Rattle.ob_base.specs.declared.comparison.ComparisonOperator.TheVariants.{Equal}
use Rattle.ob_row.specs.Bags.{Same}
use Rattle.ob_row.specs.declared.cell.Cell.TheVariants.{Int}
use Rattle.ob_row.specs.declared.pred.Operand.TheVariants.{Cell as CellOperand}
use Rattle.ob_row.specs.Condition.{Condition, Compare}
use Rattle.ob_row.specs.Rows.{Row, cell_at, has_key, keys_repeat, with_cells}
use Rattle.ob_row.specs.Truth.{is_true, updated}
use Rattle.ob_path.specs.Access.{Went}
use Rattle.ob_row.specs.Keys.{row_key}
use Rattle.ob_mean.specs.Keyed.{Ask, Find, Put, Set, Take}
use Rattle.ob_path.specs.States.{Stands, held}

-- the column at this place is this number
abbrev pub key_is : (place : ℕ) → ℤ → Condition
key_is place z = Compare place Equal (CellOperand (Int z))

-- the rows after it, as SQL means it, where it isn't refused
abbrev pub stepped : (place : ℕ) → Ask → List Row → List Row
stepped place (Find z) all = all
stepped place (Put row) all = all ++ row ∷ []
stepped place (Set z sets) all = map (updated (key_is place z) sets) all
stepped place (Take z) all = filter (λ row. not (is_true (key_is place z) row)) all

-- a row that is put in is new and has one of the n keys, and a change leaves the key
abbrev pub FitsIndex : (n place : ℕ) → Ask → List Row → Type 0
FitsIndex n place (Find z) all = ⊤
FitsIndex n place (Put row) all = (row_key n place row < n) × (has_key (Some place) row all ≡ false)
FitsIndex n place (Set z sets) all = (row : Row) → cell_at (with_cells sets row) place ≡ cell_at row place
FitsIndex n place (Take z) all = ⊤

-- a row that is not put in: its key is there, or is none of the n keys
abbrev pub IsNotPut : (n place : ℕ) → Row → List Row → Type 0
IsNotPut n place row all = (has_key (Some place) row all ≡ true) ⊎ (n ≤ row_key n place row)

-- an access leaves this bag, distinct keys, and an index that stands
pub record Settles (n place height : ℕ) (w : Went Row) (all : List Row) : Type 0 where
  pub bag : Same (held w.state) all
  pub keys : keys_repeat (Some place) (held w.state) ≡ false
  pub stands : Stands (row_key n place) height w.state

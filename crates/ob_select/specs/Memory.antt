-- Where want of memory may stop a selection, and a statement that emits.
use Rattle.std.specs.Prelude.{◌≡◌, ◌⊎◌, Bool, true, false, List, [], ◌∷◌, IsTrue, IsSome, None}
use Rattle.std.specs.List.{list_all}
use Rattle.ob_base.specs.declared.access.Access.{Access}
use Rattle.ob_base.specs.declared.access.Access.TheVariants.{Make, Read, Discard}
use Rattle.ob_base.specs.declared.config.Public.{Public}
use Rattle.ob_base.specs.declared.schema.Shape.TheVariants.{Indexed}
use Rattle.ob_base.specs.declared.seen.Seen.{Seen}
use Rattle.ob_base.specs.Events.{Event}
use Rattle.ob_sql.specs.declared.stmt.Stmt.{Stmt}
use Rattle.ob_sql.specs.declared.stmt.Stmt.TheVariants.{Create, SelectRows as RowsStmt, SelectTotals as TotalsStmt}

abbrev pub is_make : Access → Bool
is_make (Make region blocks len) = true
is_make _ = false

-- a read or a discard
abbrev pub is_reading : Access → Bool
is_reading (Read region place) = true
is_reading (Discard region) = true
is_reading _ = false

abbrev pub starts_with_make : List Access → Bool
starts_with_make [] = false
starts_with_make (a ∷ rest) = is_make a

abbrev pub ends_with_make : List Access → Bool
ends_with_make [] = false
ends_with_make (a ∷ []) = is_make a
ends_with_make (a ∷ b ∷ rest) = ends_with_make (b ∷ rest)

-- before the first access, or at a make, which was the last access then
abbrev pub AtMake : (done : List Access) → Type 0
AtMake done = (done ≡ []) ⊎ IsTrue (ends_with_make done)

-- just before the make of a result for which room is taken by how many rows were counted, as it is where results aren't
-- padded
abbrev pub BeforeResult : Public → Seen → (rest : List Access) → Type 0
BeforeResult p seen rest = (p.pad ≡ None) × IsSome seen.k × IsTrue (starts_with_make rest)

-- there it comes of a SELECT of rows, and of a new index just before its stash is made
abbrev pub AtResult : Public → Stmt → Seen → (rest : List Access) → Type 0
AtResult p (RowsStmt s) seen rest = BeforeResult p seen rest
AtResult p (Create table columns n shape) seen rest = (shape ≡ Indexed) × IsTrue (starts_with_make rest)
AtResult p _ seen rest = ⊥

-- a SELECT of rows has counted, as k tells, or what its script tells where results are padded
abbrev pub HasCounted : Public → Seen → Type 0
HasCounted p seen = IsSome seen.k ⊎ IsSome p.pad

-- where rows are emitted: of a SELECT of rows once it has counted and nothing is left to be written, or once its access of
-- an index is done, of one of totals once all was read
abbrev pub AtEmission : Public → Stmt → Seen → (rest : List Access) → Type 0
AtEmission p (RowsStmt s) seen rest =
    (HasCounted p seen × IsTrue (list_all is_reading rest)) ⊎ (IsSome seen.leaf × (rest ≡ []))
AtEmission p (TotalsStmt s) seen rest = rest ≡ []
AtEmission p _ seen rest = ⊥

-- the emitter's output ends within some events, as it does only where the emitter gave up
pub record HasHalted {E : Type 0} (cut : E → E → List Event → Type 0)
    (out_old out_new : E) : Type 0 where
  pub events : List Event
  pub ends : cut out_old out_new events

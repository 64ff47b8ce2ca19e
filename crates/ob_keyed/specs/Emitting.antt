-- What is emitted of the answer to a SELECT by a key.
use Rattle.std.specs.Prelude.{◌≡◌, ⊤, ℕ, List, [], ◌∷◌, ◌++◌, map, length, Result, OnOk, OnErr, FitsSigned}
use Rattle.std.specs.Int.{w64}
use Rattle.std.specs.List.{All}
use Rattle.ob_base.specs.declared.emit.EmitErr.{EmitErr}
use Rattle.ob_base.specs.declared.shown.Shown.{Shown}
use Rattle.ob_base.specs.Events.{Event, Head, Row as RowEvent, Close, EmitCause, Leads, row_events}
use Rattle.ob_base.specs.Schemas.{Columns}
use Rattle.ob_emit.specs.Emitting.{labels_of}
use Rattle.ob_path.specs.Access.{Got}
use Rattle.ob_row.specs.declared.cell.Cell.{Cell}
use Rattle.ob_row.specs.declared.cell.Cell.TheVariants.{Int, Text}
use Rattle.ob_row.specs.Rows.{Row}
use Rattle.ob_row.specs.Spelling.{FitsColumns}
use Rattle.ob_row.specs.Totals.{printed}
use Rattle.ob_mean.specs.declared.answer.Answer.{Answer}
use Rattle.ob_mean.specs.declared.answer.Answer.TheVariants as A
use Rattle.ob_mean.specs.Prints.{Begun, Prints}
use Rattle.ob_mean.specs.Step.{printed_places, rows_answer}
use Rattle.ob_sql.specs.declared.stmt.SelectRows.{SelectRows}
use Rattle.ob_verdict.specs.Answering.{found}

-- a number of 64 bits, or a text
abbrev pub IsNumber : Cell → Type 0
IsNumber (Int x) = FitsSigned w64 x
IsNumber (Text t) = ⊤

-- the labels, the rows and their number
abbrev pub answer_events : List (List ℕ) → List (List Shown) → List Event
answer_events labels rows = Head labels ∷ (row_events rows ++ Close (length rows) ∷ [])

-- as many rows as were found, and where these are of the columns, they, as they are printed
pub record AreShown (columns : Columns) (cols : List ℕ) (got : Got Row)
    (rows : List (List Shown)) : Type 0 where
  pub count : length rows ≡ length (found got)
  pub told : All (FitsColumns columns) (found got) → rows ≡ map (printed cols) (found got)

-- the events were taken, or the output ends within a first part of them
pub record Gives {E T : Type 0} (grew cut : E → E → List Event → Type 0) (faults : E → ℕ)
    (events : List Event) (result : Result T EmitErr) (out_old out_new : E) : Type 0 where
  pub ok : OnOk result (Leads grew grew out_old out_new events)
  pub err : OnErr result
      ((part : List Event) × Leads grew cut out_old out_new part × Begun part events)
  pub cause : EmitCause result (faults out_old) (faults out_new)

-- a row was, that of these cells, and that it is the only one
pub record EmitsRow {E T : Type 0} (grew cut : E → E → List Event → Type 0) (faults : E → ℕ)
    (cols : List ℕ) (row : Row) (result : Result T EmitErr) (out_old out_new : E) : Type 0 where
  pub cells : List Shown
  pub told : All IsNumber row → cells ≡ printed cols row
  pub gives : Gives grew cut faults (RowEvent cells ∷ Close 1 ∷ []) result out_old out_new

-- an answer was
pub record EmitsFound {E T : Type 0} (grew cut : E → E → List Event → Type 0) (faults : E → ℕ)
    (columns : Columns) (cols : List ℕ) (got : Got Row) (result : Result T EmitErr)
    (out_old out_new : E) : Type 0 where
  pub rows : List (List Shown)
  pub shown : AreShown columns cols got rows
  pub gives : Gives grew cut faults (answer_events (labels_of columns cols) rows) result
      out_old out_new

-- where these rows are the answer, that is what it prints
abbrev pub PrintsFound : Type 0
PrintsFound = (labels : List (List ℕ)) (answer : Answer) (q : SelectRows) (columns : Columns)
    (cols : List ℕ) (got : Got Row) (rows : List (List Shown)) → AreShown columns cols got rows
    → All (FitsColumns columns) (found got) → cols ≡ printed_places q columns
    → answer ≡ A.Rows (rows_answer q columns (found got))
    → Prints labels answer (answer_events labels rows)

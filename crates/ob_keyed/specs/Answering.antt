-- How a statement on an index is answered.
use Rattle.std.specs.Prelude.{List, length}
use Rattle.ob_base.specs.declared.refusal.Refusal.TheVariants as R
use Rattle.ob_base.specs.declared.schema.Heading.{Heading}
use Rattle.ob_mean.specs.declared.answer.Answer.{Answer}
use Rattle.ob_mean.specs.declared.answer.Answer.TheVariants as A
use Rattle.ob_mean.specs.Step.{rows_answer, select_columns}
use Rattle.ob_path.specs.Access.{Got, Absent, Found, Done, Duplicate, OutOfRange}
use Rattle.ob_row.specs.Rows.{Row}
use Rattle.ob_sql.specs.declared.stmt.Stmt.{Stmt}
use Rattle.ob_sql.specs.declared.stmt.Stmt.TheVariants.{Insert, Update, Delete, SelectRows as RowsStmt}
use Rattle.ob_verdict.specs.declared.outcome.Outcome.{Outcome}
use Rattle.ob_verdict.specs.declared.outcome.Outcome.TheVariants.{Inserted, Changed, Deleted, Rows, Refused}
use Rattle.ob_verdict.specs.Answering.{changed, found}
use Rattle.ob_verdict.specs.Outcomes.{done_of}

-- an INSERT
abbrev pub put_answer : Got Row → Answer
put_answer Absent = A.Done
put_answer (Found row) = A.Done
put_answer Done = A.Done
put_answer Duplicate = A.Refused R.Duplicate
put_answer OutOfRange = A.Refused R.KeyRange

-- by what its access answers
abbrev pub got_answer : Stmt → List Heading → Got Row → Answer
got_answer (Insert table columns values) hs got = put_answer got
got_answer (Update table sets cond) hs got = A.Changed (changed got)
got_answer (Delete table cond) hs got = A.Changed (changed got)
got_answer (RowsStmt q) hs got = A.Rows (rows_answer q (select_columns q hs) (found got))
got_answer _ hs got = A.Done

-- ---- the same as an outcome
abbrev pub put_outcome : Got Row → Outcome
put_outcome Absent = Inserted
put_outcome (Found row) = Inserted
put_outcome Done = Inserted
put_outcome Duplicate = Refused R.Duplicate
put_outcome OutOfRange = Refused R.KeyRange

abbrev pub got_outcome : Stmt → Got Row → Outcome
got_outcome (Insert table columns values) got = put_outcome got
got_outcome (Update table sets cond) got = Changed (changed got)
got_outcome (Delete table cond) got = Deleted (changed got)
got_outcome (RowsStmt q) got = Rows (length (found got))
got_outcome stmt got = done_of stmt

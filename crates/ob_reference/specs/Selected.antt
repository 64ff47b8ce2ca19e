-- The answer of a SELECT of totals, of the rows that it selects.
use Rattle.std.specs.Prelude.{ℕ, List, Some, None, if◌then◌else◌}
use Rattle.ob_base.specs.declared.refusal.Refusal.TheVariants.{TooManyGroups}
use Rattle.ob_base.specs.Schemas.{Columns}
use Rattle.ob_row.specs.Rows.{Row}
use Rattle.ob_sql.specs.declared.stmt.SelectTotals.{SelectTotals}
use Rattle.ob_mean.specs.declared.answer.Answer.{Answer}
use Rattle.ob_mean.specs.declared.answer.Answer.TheVariants.{Rows}
use Rattle.ob_mean.specs.Step.{totals_answer, overgroups, answered}

abbrev pub selected_answer : (limit : ℕ) → SelectTotals → Columns → List Row → Answer
selected_answer limit s cs rows =
    answered (if overgroups limit s.group cs rows then Some TooManyGroups else None) (Rows (totals_answer s cs rows))

-- A SELECT of totals of one table, by its slots: its answer.
use Rattle.std.specs.Prelude.{◌≡◌, ◌⊎◌, ◌≤◌, ◌<◌, ℕ, false, List}
use Rattle.std.specs.Prelude.{map, filter, filter_map, unwrap_or, length, Option, Some, None, IfSome, if◌then◌else◌}
use Rattle.ob_base.specs.declared.refusal.Refusal.{Refusal}
use Rattle.ob_base.specs.declared.refusal.Refusal.TheVariants.{TooManyGroups}
use Rattle.ob_base.specs.Schemas.{Columns}
use Rattle.ob_row.specs.declared.aggregate.Agg.{Agg}
use Rattle.ob_row.specs.declared.aggregate.Agg.TheVariants.{CountAll}
use Rattle.ob_row.specs.Rows.{Row}
use Rattle.ob_row.specs.Slots.{Slots, rows as rows_in}
use Rattle.ob_row.specs.Truth.{is_true}
use Rattle.ob_group.specs.Running.{AreWithin}
use Rattle.ob_sql.specs.declared.stmt.Listed.{Listed}
use Rattle.ob_sql.specs.declared.stmt.SelectTotals.{SelectTotals}
use Rattle.ob_sql.specs.declared.stmt.Stmt.TheVariants.{SelectTotals as TotalsStmt}
use Rattle.ob_mean.specs.declared.answer.Answer.{Answer}
use Rattle.ob_mean.specs.declared.answer.Answer.TheVariants.{Rows}
use Rattle.ob_names.specs.Names.{place_of}
use Rattle.ob_mean.specs.Conditions.{where_at}
use Rattle.ob_mean.specs.Prints.{item_label}
use Rattle.ob_mean.specs.Refusals.{has_stray_column}
use Rattle.ob_mean.specs.Step.{agg_of, answered, overgroups, totals_answer}
use Rattle.ob_verdict.specs.declared.outcome.Outcome.{Outcome}
use Rattle.ob_verdict.specs.declared.outcome.Outcome.TheVariants as Outcomes
use Rattle.ob_verdict.specs.Outcomes.{outcome_of}

-- the aggregate of an item; where it is a plain column, the rows are counted
abbrev pub agg_at : Columns → Listed → Agg
agg_at cs item = unwrap_or (agg_of cs item) CountAll

-- the labels of the answer
abbrev pub labels_at : Columns → SelectTotals → List (List ℕ)
labels_at cs s = map (item_label cs) s.items

-- the rows of these slots that are selected
abbrev pub totalled : Columns → SelectTotals → Slots → List Row
totalled cs s slots = filter (is_true (where_at s.cond cs)) (rows_in slots)

-- its answer, where there may be so many groups
abbrev pub refusal_of : (places : ℕ) → Columns → SelectTotals → Slots → Option Refusal
refusal_of places cs s slots =
    if overgroups places s.group cs (totalled cs s slots) then Some TooManyGroups else None

abbrev pub totalled_answer : (places : ℕ) → Columns → SelectTotals → Slots → Answer
totalled_answer places cs s slots =
    answered (refusal_of places cs s slots) (Rows (totals_answer s cs (totalled cs s slots)))

abbrev pub outcome_at : SelectTotals → Answer → Outcome
outcome_at s answer = outcome_of (TotalsStmt s) answer

-- how it is answered: by so many rows, or that there are too many groups
abbrev pub IsTotalled : Outcome → Type 0
IsTotalled outcome =
    ((k : ℕ) × (outcome ≡ Outcomes.Rows k)) ⊎ (outcome ≡ Outcomes.Refused TooManyGroups)

-- a select's items and key are among the columns of its table, and each plain column is the group's own
pub record TotalsFit (cs : Columns) (s : SelectTotals) : Type 0 where
  pub few : length s.items ≤ 32
  pub within : AreWithin (length cs) (filter_map (agg_of cs) s.items)
  pub key : IfSome s.group (λ key. place_of key cs < length cs)
  pub own : has_stray_column cs s ≡ false

-- Answers with and without GROUP BY.
use Rattle.std.proofs.Common.{◌≡◌, ℕ, List, [], ◌∷◌, length, map, ap}
use Rattle.std.specs.Prelude.{Some, None, nat_lt, filter_map, if◌then◌else◌}
use Rattle.ob_base.specs.Schemas.{Columns}
use Rattle.ob_base.specs.declared.refusal.Refusal.TheVariants.{TooManyGroups}
use Rattle.ob_base.specs.declared.skeleton.ColumnName.{ColumnName}
use Rattle.ob_row.specs.Rows.{Row}
use Rattle.ob_row.specs.Totals.{totals, grouped, group_heads}
use Rattle.ob_sql.specs.declared.stmt.SelectTotals.{SelectTotals}
use Rattle.ob_mean.specs.declared.answer.Answer.TheVariants.{Rows}
use Rattle.ob_names.specs.Names.{place_of}
use Rattle.ob_mean.specs.Step.{agg_of, item_of, total_rows, overgroups, answered}
use Rattle.ob_reference.specs.Selected.{selected_answer}

pub with_group : (limit : ℕ) (s : SelectTotals) (cs : Columns) (rows : List Row) (key : ColumnName) → s.group ≡ Some key →
    selected_answer limit s cs rows ≡ answered (if nat_lt limit (length (group_heads (place_of key cs) rows)) then Some TooManyGroups else None) (Rows (grouped (place_of key cs) (map (item_of cs) s.items) rows))
with_group limit s cs rows key e = ap (λ g. answered (if overgroups limit g cs rows then Some TooManyGroups else None) (Rows (total_rows g cs s.items rows))) e

pub without_group : (limit : ℕ) (s : SelectTotals) (cs : Columns) (rows : List Row) → s.group ≡ None →
    selected_answer limit s cs rows ≡ Rows (totals (filter_map (agg_of cs) s.items) rows ∷ [])
without_group limit s cs rows e = ap (λ g. answered (if overgroups limit g cs rows then Some TooManyGroups else None) (Rows (total_rows g cs s.items rows))) e

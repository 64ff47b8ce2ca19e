use Rattle.std.proofs.Common.{◌≡◌, ◌∷◌, rules}
use Rattle.ob_row.proofs.CellsLemmas.{more_cells}
use Rattle.ob_row.proofs.row.+are_cells.Goals as goal

pub returns-then-is_cell-clause-yes : goal.returns-then-is_cell-clause-yes
returns-then-is_cell-clause-yes t c =
    let split : c.args.columns.now ≡ c.in-Some.column.now ∷ c.in-Some.columns.now = search rules in
    more_cells c.in-Some.column.now c.in-Some.columns.now c.args.columns.now c.args.fields.now _ _ split c.split_at.ensures.by_index.0 c.if-is_cell.ensures.yes _ c.are_cells.ensures.yes

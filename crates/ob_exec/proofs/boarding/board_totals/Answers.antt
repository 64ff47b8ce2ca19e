use Rattle.ob_exec.proofs.Words.{IsFound, List, subst}
use Rattle.ob_base.specs.declared.schema.Table.{Table}
use Rattle.ob_exec.proofs.BoardTotals.{groups_aboard, totals_aboard, totals_board}
use Rattle.ob_exec.proofs.boarding.board_totals.Goals as goal

pub new-requires-clause-board : goal.new-requires-clause-board
new-requires-clause-board c =
    totals_board c.args.late c.args.flown c.args.public.now c.requires.settings c.args.select.now c.requires.allowed c.table_in-flat.result.0 c.table_in-flat.result.1
    (subst (λ (ts : List Table). IsFound c.args.select.now.table c.table_in-flat.result.0 c.table_in-flat.result.1 ts) c.as_slice.ensures c.table_in-flat.ensures)
    c.in-Ok.pred c.as_slice-2.result.now c.as_slice-2.ensures.value c.in-Ok.ensures

pub new-requires-in-Ok-new-clause-board : goal.new-requires-in-Ok-new-clause-board
new-requires-in-Ok-new-clause-board c =
    totals_board c.args.late c.args.flown c.args.public.now c.requires.settings c.args.select.now c.requires.allowed c.table_in-flat.result.0 c.table_in-flat.result.1
    (subst (λ (ts : List Table). IsFound c.args.select.now.table c.table_in-flat.result.0 c.table_in-flat.result.1 ts) c.as_slice.ensures c.table_in-flat.ensures)
    c.in-Ok.pred c.as_slice-2.result.now c.as_slice-2.ensures.value c.in-Ok.ensures

pub returns-in-None : goal.returns-in-None
returns-in-None c =
    totals_aboard c.args.late c.args.flown c.args.public.now c.requires.settings c.args.select.now c.requires.allowed c.table_in-flat.result.0 c.table_in-flat.result.1
    (subst (λ (ts : List Table). IsFound c.args.select.now.table c.table_in-flat.result.0 c.table_in-flat.result.1 ts) c.as_slice.ensures c.table_in-flat.ensures)
    c.in-Ok.pred c.new.result c.new.ensures

pub returns-in-Ok-new : goal.returns-in-Ok-new
returns-in-Ok-new c =
    groups_aboard c.args.late c.args.flown c.args.public.now c.requires.settings c.args.select.now c.requires.allowed c.table_in-flat.result.0 c.table_in-flat.result.1
    (subst (λ (ts : List Table). IsFound c.args.select.now.table c.table_in-flat.result.0 c.table_in-flat.result.1 ts) c.as_slice.ensures c.table_in-flat.ensures)
    c.in-Ok.pred c.new-in-Ok-new.result c.new-in-Ok-new.ensures

use Rattle.ob_exec.proofs.Words.{ap, Columns, IsFound, List, printed_places, subst, sym, [], ◌++◌, ◌∙◌}
use Rattle.ob_base.specs.declared.schema.Table.{Table}
use Rattle.ob_exec.proofs.BoardRows.{rows_aboard, rows_flown, rows_own}
use Rattle.ob_exec.proofs.boarding.board_rows.Goals as goal

pub new-requires-clause-flown : goal.new-requires-clause-flown
new-requires-clause-flown c =
    rows_flown c.args.late c.args.flown c.args.public.now c.requires.settings c.args.select.now c.in-Table.table c.in-Table.is c.requires.allowed (c.requires.flies.flat c.requires.allowed) c.table_in-flat.result.0 c.table_in-flat.result.1
    (subst (λ (ts : List Table). IsFound c.in-Table.table c.table_in-flat.result.0 c.table_in-flat.result.1 ts) c.as_slice.ensures c.table_in-flat.ensures)
    c.in-Ok.pred c.printed_places-cols.result.items c.as_slice-2.result.now c.as_slice-2.ensures.value c.in-Ok.ensures
    (c.printed_places-cols.ensures ∙ ap (λ (cs : Columns). printed_places c.args.select.now (cs ++ [])) (c.as_slice-3.ensures.value ∙ sym c.as_slice-2.ensures.value))

pub new-requires-clause-own : goal.new-requires-clause-own
new-requires-clause-own c =
    rows_own c.args.late c.args.flown c.args.public.now c.requires.settings c.args.select.now c.in-Table.table c.in-Table.is c.requires.allowed (c.requires.flies.flat c.requires.allowed) c.table_in-flat.result.0 c.table_in-flat.result.1
    (subst (λ (ts : List Table). IsFound c.in-Table.table c.table_in-flat.result.0 c.table_in-flat.result.1 ts) c.as_slice.ensures c.table_in-flat.ensures)
    c.in-Ok.pred c.printed_places-cols.result.items c.as_slice-2.result.now c.as_slice-2.ensures.value c.in-Ok.ensures
    (c.printed_places-cols.ensures ∙ ap (λ (cs : Columns). printed_places c.args.select.now (cs ++ [])) (c.as_slice-3.ensures.value ∙ sym c.as_slice-2.ensures.value))

pub returns : goal.returns
returns c =
    rows_aboard c.args.late c.args.flown c.args.public.now c.requires.settings c.args.select.now c.in-Table.table c.in-Table.is c.requires.allowed (c.requires.flies.flat c.requires.allowed) c.table_in-flat.result.0 c.table_in-flat.result.1
    (subst (λ (ts : List Table). IsFound c.in-Table.table c.table_in-flat.result.0 c.table_in-flat.result.1 ts) c.as_slice.ensures c.table_in-flat.ensures)
    c.in-Ok.pred c.printed_places-cols.result.items c.as_slice-2.result.now c.as_slice-2.ensures.value c.in-Ok.ensures
    (c.printed_places-cols.ensures ∙ ap (λ (cs : Columns). printed_places c.args.select.now (cs ++ [])) (c.as_slice-3.ensures.value ∙ sym c.as_slice-2.ensures.value))
    c.new.result c.new.ensures.is c.new.ensures.holds

use Rattle.std.proofs.Common.{[], ◌∷◌, length, take}
use Rattle.ob_base.specs.Events.{Close, Row as RowEvent}
use Rattle.ob_keyed.proofs.Emitted.{gives_call, gives_cut, gives_under}
use Rattle.ob_keyed.proofs.emitting.emit_row.Goals as goal

pub returns-in-Err : goal.returns-in-Err
returns-in-Err g c = record {
  cells = take (length c.args.cols.now) c.show_cells.new.shown;
  told = λ numbers. c.show_cells.ensures.told numbers;
  gives = gives_cut g.E.Emit.grew g.E.Emit.cut g.E.Emit.faults c.args.out.now c.row.new.self (RowEvent (take (length c.args.cols.now) c.show_cells.new.shown) ∷ []) (Close 1 ∷ []) c.in-Err.error c.in-Err.ensures.err c.in-Err.ensures.cause;
}

pub returns-in-Ok : goal.returns-in-Ok
returns-in-Ok g c = record {
  cells = take (length c.args.cols.now) c.show_cells.new.shown;
  told = λ numbers. c.show_cells.ensures.told numbers;
  gives =
      gives_under g.E.Emit.grew g.E.Emit.cut g.E.Emit.faults c.args.out.now c.row.new.self c.close.new.self (RowEvent (take (length c.args.cols.now) c.show_cells.new.shown) ∷ []) (Close 1 ∷ []) c.close.result c.in-Ok.ensures.ok c.in-Ok.ensures.cause
      (gives_call g.E.Emit.grew g.E.Emit.cut g.E.Emit.faults c.row.new.self c.close.new.self (Close 1 ∷ []) c.close.result c.close.ensures.ok c.close.ensures.err c.close.ensures.cause);
}

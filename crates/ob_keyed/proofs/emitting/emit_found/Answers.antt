use Rattle.std.proofs.Common.{[], ◌∷◌, ◌++◌, length, map}
use Rattle.ob_base.specs.Events.{Close, Row as RowEvent, row_events}
use Rattle.ob_emit.specs.Emitting.{header}
use Rattle.ob_oram.specs.Ops.{got_in}
use Rattle.ob_row.specs.Totals.{printed}
use Rattle.ob_verdict.specs.Answering.{found}
use Rattle.ob_keyed.proofs.Emitted.{all_shown, gives_call, gives_cut, gives_under, none_shown, one_shown}
use Rattle.ob_keyed.proofs.emitting.emit_found.Goals as goal

pub emit_head-requires : goal.emit_head-requires
emit_head-requires g c = c.requires

pub emit_row-requires : goal.emit_row-requires
emit_row-requires g c = c.requires.few

pub returns-in-Err : goal.returns-in-Err
returns-in-Err g c =
    let columns = c.args.schema.now in
    let cols = c.args.cols.now in
    let rows = map (printed cols) (found (got_in c.args.got.now)) in
    record {
      rows = rows;
      shown = all_shown columns cols (got_in c.args.got.now);
      gives = gives_cut g.E.Emit.grew g.E.Emit.cut g.E.Emit.faults c.args.out.now c.emit_head.new.out (header columns cols) (row_events rows ++ Close (length rows) ∷ []) c.in-Err.error c.in-Err.ensures.err c.in-Err.ensures.cause;
    }

pub returns-in-None : goal.returns-in-None
returns-in-None g c =
    let columns = c.args.schema.now in
    let cols = c.args.cols.now in
    record {
      rows = [];
      shown = none_shown columns cols (got_in c.args.got.now) c.in-None.ensures.none;
      gives =
          gives_under g.E.Emit.grew g.E.Emit.cut g.E.Emit.faults c.args.out.now c.emit_head.new.out c.close.new.self (header columns cols) (Close 0 ∷ []) c.close.result c.in-Ok.ensures.ok c.in-Ok.ensures.cause
          (gives_call g.E.Emit.grew g.E.Emit.cut g.E.Emit.faults c.emit_head.new.out c.close.new.self (Close 0 ∷ []) c.close.result c.close.ensures.ok c.close.ensures.err c.close.ensures.cause);
    }

pub returns-in-Some : goal.returns-in-Some
returns-in-Some g c =
    let columns = c.args.schema.now in
    let cols = c.args.cols.now in
    let row = c.emit_row.ensures in
    record {
      rows = row.cells ∷ [];
      shown = one_shown columns cols (got_in c.args.got.now) c.in-Some.cells.now row.cells c.in-Some.ensures.some row.told;
      gives = gives_under g.E.Emit.grew g.E.Emit.cut g.E.Emit.faults c.args.out.now c.emit_head.new.out c.emit_row.new.out (header columns cols) (RowEvent row.cells ∷ Close 1 ∷ []) c.emit_row.result c.in-Ok.ensures.ok c.in-Ok.ensures.cause row.gives;
    }

use Rattle.std.proofs.Common.{ℕ, List, sym, ◌∙◌, ap}
use Rattle.std.specs.Prelude.{slice_set}
use Rattle.ob_row.specs.declared.cell.Cell.{Cell}
use Rattle.ob_row.specs.Rows.{with_cells}
use Rattle.ob_mutate.proofs.Assigned.{next_set}
use Rattle.ob_mutate.proofs.assigning.set_cells.Goals as goal

pub set_cell-requires-clause-within : goal.set_cell-requires-clause-within
set_cell-requires-clause-within c =
    (next_set c.args.schema.now c.args.sets.now c.loop-place.place-index c.loop-place-item.result c.loop-place-test.true c.loop-place-item.is c.loop-place.invariant.fits).within

pub set_cell-requires-clause-fits : goal.set_cell-requires-clause-fits
set_cell-requires-clause-fits c =
    (next_set c.args.schema.now c.args.sets.now c.loop-place.place-index c.loop-place-item.result c.loop-place-test.true c.loop-place-item.is c.loop-place.invariant.fits).fits

pub loop-place-preserved : goal.loop-place-preserved
loop-place-preserved c =
    let next = next_set c.args.schema.now c.args.sets.now c.loop-place.place-index c.loop-place-item.result c.loop-place-test.true c.loop-place-item.is c.loop-place.invariant.fits in
    record {
      size = c.set_cell.ensures.size ∙ c.loop-place.invariant.size;
      fits = next.later;
      told = λ cells begins.
          let before = c.loop-place.invariant.told cells begins in
          let set = c.loop-place-item.result in
          (slice_set before.0 set.0 set.1, c.set_cell.ensures.told before.0 before.1, ap (λ (sets : List (ℕ × Cell)). with_cells sets before.0) (sym next.is) ∙ before.2);
    }

use Rattle.std.proofs.Common.{◌≤◌, sym, ap, arith, length}
use Rattle.ob_row.proofs.PlaceLemmas.{no_cell}
use Rattle.ob_row.proofs.value.value_at.Goals as goal

pub returns-else-from-as_slice : goal.returns-else-from-as_slice
returns-else-from-as_slice c = λ cells begins.
    let past : length c.args.schema.now ≤ c.args.i = omega (arith, c.if-from-as_slice.false, ap length c.as_slice.ensures.value, c.from.ensures) in
    sym (no_cell c.args.schema.now cells c.args.i c.args.row.now begins past)

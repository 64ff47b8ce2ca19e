use Rattle.std.proofs.Common.{sym, subst, arith, below_more}
use Rattle.ob_vault.proofs.RowsLemmas.{same_at}
use Rattle.ob_row.specs.Spelling.{Begins}
use Rattle.ob_flat.proofs.Rows.{slots_of}
use Rattle.ob_flat.proofs.checking.check_rows.Goals as goal

pub loop-z-preserved : goal.loop-z-preserved
loop-z-preserved c =
    let columns = c.args.schema.now in
    let slot = c.in-Ok.ensures.malformed in
    let row = same_at c.args.rows.now c.loop-z.z c.index-rows-z.result c.loop-z-test.true c.index-rows-z.is in
    below_more _ _ c.loop-z.invariant (slot.0, subst (Begins columns slot.0) (sym row) slot.1)

pub returns-clause-read : goal.returns-clause-read
returns-clause-read c = slots_of c.args.schema.now c.args.rows.now (λ j below. c.loop-z.invariant j (omega (arith, below, c.loop-z-test.false)))

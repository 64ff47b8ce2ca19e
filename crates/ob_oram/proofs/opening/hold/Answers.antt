use Rattle.std.proofs.Common.{Option, arith, subst}
use Rattle.ob_row.specs.Rows.{Row}
use Rattle.ob_row.specs.Spelling.{Begins}
use Rattle.ob_row.proofs.PlaceLemmas.{some_row}
use Rattle.ob_oram.proofs.KeyedRows.{keyed_out, opens_zeros}
use Rattle.ob_oram.proofs.opening.hold.Goals as goal

pub returns-else-key-index-clause-opens : goal.returns-else-key-index-clause-opens
returns-else-key-index-clause-opens c = λ slot begins.
    let real = some_row slot (cc (c.in-Ok-true.ensures.spelled slot begins, c.in-Ok-true.field-0-test)) in
    let key = c.key_in-key.ensures real.0 (subst (λ (s : Option Row). Begins c.args.index.now.schema s c.args.row.now) real.1 begins) in
    opens_zeros c.args.index.now c.args.remap slot c.clear.new.row c.args.row.now
    (keyed_out c.args.index.now slot real.0 real.1 (omega (arith, key, c.if-key-index.false)))
    c.clear.ensures c.requires.wide

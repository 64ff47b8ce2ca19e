use Rattle.ob_tables.proofs.Words.{arith, slice_get_within}
use Rattle.ob_tables.proofs.FoundLemmas.{absent}
use Rattle.ob_tables.proofs.tables.table_in.Goals as goal

pub unreachable-requires : goal.unreachable-requires
unreachable-requires c =
    let off = absent c.args.name.now c.args.tables.now c.in_default.ensures.none in
    absurd (cc (off, c.requires))

pub flat_at-requires : goal.flat_at-requires
flat_at-requires c =
    let found = c.in-Some.ensures.found in
    let within = slice_get_within c.args.tables.now c.in-Some.i found.0 found.1.get in
    omega (arith, within)

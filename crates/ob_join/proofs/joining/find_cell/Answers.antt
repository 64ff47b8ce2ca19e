use Rattle.std.proofs.Common.{sym, subst}
use Rattle.ob_base.specs.declared.schema.Kind.{Kind}
use Rattle.ob_row.specs.Spelling.{FitsKind}
use Rattle.ob_join.proofs.Fields.{none_fits}
use Rattle.ob_join.proofs.joining.find_cell.Goals as goal

pub returns-then-not-fits-clause-none : goal.returns-then-not-fits-clause-none
returns-then-not-fits-clause-none c = λ slots spelt.
    none_fits c.args.schema.now c.args.column c.args.cell.now c.requires.within
    (λ held.
    let yes = c.fits.ensures.1 (subst (λ (k : Kind). FitsKind k c.args.cell.now) (sym c.kind_at-kind.ensures) held) in
    absurd (cc (yes, c.if-not-fits.true)))
    slots c.args.kept.now spelt

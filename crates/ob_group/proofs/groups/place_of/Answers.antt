use Rattle.std.proofs.Common.{ℕ, length, sym, subst, arith}
use Rattle.ob_order.specs.Buckets.{AreBucketed}
use Rattle.ob_vault.specs.Rows.{row_at}
use Rattle.ob_group.proofs.Keyed.{is_on, is_off}
use Rattle.ob_group.proofs.groups.place_of.Goals as goal

pub returns-in-Some-clause-most : goal.returns-in-Some-clause-most
returns-in-Some-clause-most c =
    let below = c.in-Some.ensures.some.inside in omega (arith, below, c.requires.kept.count)

pub returns-in-Some-clause-off : goal.returns-in-Some-clause-off
returns-in-Some-clause-off c = λ y held i less x own.
    let inside = c.in-Some.ensures.some.inside in
    is_off c.args.kind x y c.args.field.now (row_at c.args.groups.now i) own held
    (λ same. let only = c.in-Some.ensures.some.only i (omega (arith, less, inside)) same in absurd (omega (arith, less, only)))

pub returns-in-Some-clause-on : goal.returns-in-Some-clause-on
returns-in-Some-clause-on c = λ y held below x own.
    is_on c.args.kind x y c.args.field.now (row_at c.args.groups.now c.in-Some.place) own held c.in-Some.ensures.some.has

pub returns-in-None-clause-off : goal.returns-in-None-clause-off
returns-in-None-clause-off c = λ y held i below x own.
    is_off c.args.kind x y c.args.field.now (row_at c.args.groups.now i) own held
    (c.in-None.ensures.none i (omega (arith, below, c.requires.kept.count)))

pub find-requires : goal.find-requires
find-requires c =
    subst (λ (k : ℕ). AreBucketed 0 (length c.args.field.now) k c.args.groups.now c.args.buckets.now) (sym c.requires.kept.count) c.requires.kept

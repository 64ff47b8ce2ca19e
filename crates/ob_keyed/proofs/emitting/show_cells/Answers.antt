use Rattle.std.proofs.Common.{◌≡◌, ◌<◌, ◌+◌, suc, Some, length, take, slice_set, ◌∙◌, sym, ap, subst, arith}
use Rattle.std.proofs.lemmas.List.{take_all, length-set}
use Rattle.ob_base.specs.declared.shown.Shown.{Shown}
use Rattle.ob_row.specs.Totals.{printed}
use Rattle.ob_emit.proofs.Printed.{take_put, printed_at, printed_size}
use Rattle.ob_keyed.proofs.emitting.show_cells.Goals as goal

pub loop-z-preserved : goal.loop-z-preserved
loop-z-preserved c =
    let z = c.loop-z.z in
    let shown = c.loop-z.shown in
    let cols = c.args.cols.now in
    let cells = c.args.cells.now in
    let next : suc z ≡ z + 1 = omega arith in
    let inside : z < length shown = omega (arith, c.loop-z.invariant.size, c.requires.few, c.loop-z-test.true) in
    let put = c.shown_cell.result in
    record {
      size = length-set shown z put ∙ c.loop-z.invariant.size;
      told = λ numbers.
          subst (λ k. take k (slice_set shown z put) ≡ take k (printed cols cells)) next
          (take_put shown (printed cols cells) z put inside (c.loop-z.invariant.told numbers) (printed_at cols cells z _ c.loop-z-test.true ∙ ap (λ (s : Shown). Some s) (sym (c.shown_cell.ensures numbers))));
    }

pub returns-clause-told : goal.returns-clause-told
returns-clause-told c =
    let cols = c.args.cols.now in
    let last : c.loop-z.z ≡ length cols = omega arith in
    λ numbers. ap (λ n. take n c.loop-z.shown) (sym last) ∙ c.loop-z.invariant.told numbers
    ∙ take_all c.loop-z.z (printed cols c.args.cells.now) (omega (arith, printed_size cols c.args.cells.now, last))

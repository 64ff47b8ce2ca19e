use Rattle.std.proofs.Common.{◌≡◌, ◌<◌, ◌+◌, suc, Some, length, take, slice_get, slice_set, ◌∙◌, sym, ap, subst, arith}
use Rattle.std.proofs.lemmas.List.{take_all, length-set}
use Rattle.ob_base.specs.declared.shown.Shown.{Shown}
use Rattle.ob_row.specs.Totals.{shown_at, printed}
use Rattle.ob_emit.proofs.Printed.{take_put, printed_at, printed_size}
use Rattle.ob_emit.proofs.row.show_cells.Goals as goal

pub loop-z-preserved : goal.loop-z-preserved
loop-z-preserved c =
    let z = c.loop-z.z in
    let cells = c.loop-z.cells in
    let cols = c.args.cols.now in
    let next : suc z ≡ z + 1 = omega arith in
    let inside : z < length cells = omega (arith, c.loop-z.invariant.size, c.requires.few, c.loop-z-test.true) in
    let put = c.put_shown.new.place in
    record {
      size = length-set cells z put ∙ c.loop-z.invariant.size;
      told = λ own spelt.
          let shows : shown_at (slice_get own _) ≡ put = ap shown_at (c.value_of.ensures.value own spelt) ∙ sym c.put_shown.ensures in
          subst (λ k. take k (slice_set cells z put) ≡ take k (printed cols own)) next
          (take_put cells (printed cols own) z put inside (c.loop-z.invariant.told own spelt) (printed_at cols own z _ c.loop-z-test.true ∙ ap (λ (s : Shown). Some s) shows));
    }

pub returns-clause-told : goal.returns-clause-told
returns-clause-told c =
    let cols = c.args.cols.now in
    let last : c.loop-z.z ≡ length cols = omega arith in
    λ own spelt. ap (λ n. take n c.loop-z.cells) (sym last) ∙ c.loop-z.invariant.told own spelt ∙ take_all c.loop-z.z (printed cols own) (omega (arith, printed_size cols own, last))

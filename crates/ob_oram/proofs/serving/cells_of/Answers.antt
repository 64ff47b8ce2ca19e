use Rattle.std.proofs.Common.{◌≡◌, ◌+◌, ◌≤◌, [], ◌∷◌, ◌++◌, length, take, ◌∙◌, sym, ap, arith, length-append}
use Rattle.std.proofs.lemmas.List.{take_all, take_more}
use Rattle.std.proofs.lemmas.Option.{get_or_from_slice_get, slice_get_within}
use Rattle.ob_oram.proofs.Keys.{fits_length}
use Rattle.ob_oram.proofs.serving.cells_of.Goals as goal

pub loop-i-preserved : goal.loop-i-preserved
loop-i-preserved c = record {
  few = ap length c.push.ensures ∙ length-append c.loop-i.cells (c.to_cell.result ∷ []) ∙ ap (λ n. n + 1) c.loop-i.invariant.few;
  cells = λ cells begins.
      let at = c.value_of.ensures.value cells begins in
      let here = get_or_from_slice_get cells c.loop-i.i _ c.to_cell.result at in
      c.push.ensures
      ∙ ap (λ l. l ++ c.to_cell.result ∷ []) (c.loop-i.invariant.cells cells begins)
      ∙ ap (λ x. take c.loop-i.i cells ++ x ∷ []) (c.to_cell.ensures ∙ sym here)
      ∙ sym (take_more cells c.loop-i.i c.to_cell.result (slice_get_within cells c.loop-i.i _ at));
}

pub returns : goal.returns
returns c = λ cells begins.
    let whole : length cells ≡ length c.args.schema.now = fits_length c.args.schema.now cells begins.fits in
    let all : length cells ≤ c.loop-i.i = omega (arith, whole, c.loop-i-test.false, ap length c.as_slice-i-end.ensures.value) in
    c.loop-i.invariant.cells cells begins ∙ take_all c.loop-i.i cells all

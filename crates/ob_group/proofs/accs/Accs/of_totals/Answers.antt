use Rattle.std.proofs.Common.{◌≡◌, ◌<◌, List, [], ◌∷◌, ◌++◌, None, length, map, take, slice_index_or, sym, ◌∙◌, ap, arith}
use Rattle.std.proofs.lemmas.List.{take_all, take_more, take_more_set, length-set, map-append}
use Rattle.ob_base.specs.declared.shown.Shown.{Shown}
use Rattle.ob_group.specs.Running.{total_shown}
use Rattle.ob_group.proofs.accs.Accs.of_totals.Goals as goal

pub loop-i-preserved : goal.loop-i-preserved
loop-i-preserved c =
    let i = c.loop-i.i in
    let cells = c.loop-i.cells in
    let ts = c.args.totals.now in
    let d = slice_index_or ts i None in
    let inside : i < length cells = omega (arith, c.loop-i.invariant.size, c.requires) in
    record {
      size = length-set cells i c.total_shown.result ∙ c.loop-i.invariant.size;
      told = take_more_set cells i c.total_shown.result inside
          ∙ ap (λ (l : List Shown). l ++ c.total_shown.result ∷ []) c.loop-i.invariant.told
          ∙ ap (λ (x : Shown). map total_shown (take i ts) ++ x ∷ []) c.total_shown.ensures
          ∙ sym (map-append total_shown (take i ts) (d ∷ []))
          ∙ ap (map total_shown) (sym (take_more ts i None (omega arith)));
    }

pub returns : goal.returns
returns c =
    let last : c.loop-i.i ≡ length c.args.totals.now = omega arith in
    ap (λ n. take n c.loop-i.cells) (sym last) ∙ c.loop-i.invariant.told ∙ ap (map total_shown) (take_all c.loop-i.i c.args.totals.now (omega (arith, last)))

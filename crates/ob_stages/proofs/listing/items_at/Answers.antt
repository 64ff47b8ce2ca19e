use Rattle.std.proofs.Common.{◌≡◌, ◌<◌, List, [], ◌∷◌, ◌++◌, length, map, take, slice_index_or, sym, ◌∙◌, ap, arith, append-nil}
use Rattle.std.proofs.lemmas.List.{get_or_default, take_all, take_more, take_more_set, length-set, map-append}
use Rattle.ob_row.specs.declared.aggregate.Item.{Item}
use Rattle.ob_sql.specs.declared.stmt.Listed.TheVariants.{CountAll}
use Rattle.ob_mean.specs.Step.{item_of}
use Rattle.ob_stages.proofs.listing.items_at.Goals as goal

pub loop-i-preserved : goal.loop-i-preserved
loop-i-preserved c =
    let i = c.loop-i.i in
    let parts = c.loop-i.parts in
    let items = c.args.items.now in
    let columns = c.args.columns.now in
    let listed = slice_index_or items i CountAll in
    let inside : i < length parts = omega (arith, c.loop-i.invariant.size, c.requires.few) in
    let below : i < length items = omega arith in
    let same = c.index-items-i.is ∙ get_or_default items i c.index-items-i.result CountAll below in
    let new : c.item_of.result ≡ item_of columns listed = c.item_of.ensures ∙ (λ j. item_of (append-nil columns j) (same j)) in
    record {
      size = length-set parts i c.item_of.result ∙ c.loop-i.invariant.size;
      told = take_more_set parts i c.item_of.result inside
          ∙ ap (λ (l : List Item). l ++ c.item_of.result ∷ []) c.loop-i.invariant.told
          ∙ ap (λ (x : Item). map (item_of columns) (take i items) ++ x ∷ []) new
          ∙ sym (map-append (item_of columns) (take i items) (listed ∷ []))
          ∙ ap (map (item_of columns)) (sym (take_more items i CountAll (omega arith)));
    }

pub returns-clause-value : goal.returns-clause-value
returns-clause-value c =
    let last : c.loop-i.i ≡ length c.args.items.now = omega arith in
    ap (λ n. take n c.loop-i.parts) (sym last) ∙ c.loop-i.invariant.told ∙ ap (map (item_of c.args.columns.now)) (take_all c.loop-i.i c.args.items.now (omega (arith, last)))

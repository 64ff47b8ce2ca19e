use Rattle.std.proofs.Common.{◌≡◌, ◌<◌, ℕ, List, [], ◌∷◌, ◌++◌, length, map, take, slice_index_or, rules, sym, ◌∙◌, ap, arith}
use Rattle.std.proofs.lemmas.List.{take_all, take_more, take_more_set, length-set, map-append}
use Rattle.ob_row.specs.declared.aggregate.Item.TheVariants.{Key}
use Rattle.ob_group.specs.Labels.{item_label}
use Rattle.ob_group.proofs.head.labels_of.Goals as goal

pub loop-i-preserved : goal.loop-i-preserved
loop-i-preserved c =
    let i = c.loop-i.i in
    let labels = c.loop-i.labels in
    let items = c.args.items.now in
    let label = item_label c.args.schema.now c.args.key in
    let item = slice_index_or items i Key in
    let inside : i < length labels = omega (arith, c.loop-i.invariant.size, c.requires.few) in
    let new : c.item_label.result ≡ label item = search rules in
    record {
      size = length-set labels i c.item_label.result ∙ c.loop-i.invariant.size;
      told = take_more_set labels i c.item_label.result inside
          ∙ ap (λ (l : List (List ℕ)). l ++ c.item_label.result ∷ []) c.loop-i.invariant.told
          ∙ ap (λ (x : List ℕ). map label (take i items) ++ x ∷ []) new
          ∙ sym (map-append label (take i items) (item ∷ []))
          ∙ ap (map label) (sym (take_more items i Key (omega arith)));
    }

pub returns-clause-value : goal.returns-clause-value
returns-clause-value c =
    let label = item_label c.args.schema.now c.args.key in
    let last : c.loop-i.i ≡ length c.args.items.now = omega arith in
    ap (λ n. take n c.loop-i.labels) (sym last) ∙ c.loop-i.invariant.told ∙ ap (map label) (take_all c.loop-i.i c.args.items.now (omega (arith, last)))

use Rattle.std.proofs.Common.{◌≡◌, ◌<◌, ℕ, List, [], ◌∷◌, ◌++◌, length, map, take, slice_index_or, rules, sym, ◌∙◌, ap, arith}
use Rattle.std.proofs.lemmas.List.{take_all, take_more, take_more_set, length-set, map-append}
use Rattle.ob_row.specs.declared.aggregate.Agg.TheVariants.{CountAll}
use Rattle.ob_group.specs.Labels.{agg_label}
use Rattle.ob_group.proofs.head.agg_labels.Goals as goal

pub loop-i-preserved : goal.loop-i-preserved
loop-i-preserved c =
    let i = c.loop-i.i in
    let labels = c.loop-i.labels in
    let aggs = c.args.aggs.now in
    let label = agg_label c.args.schema.now in
    let agg = slice_index_or aggs i CountAll in
    let inside : i < length labels = omega (arith, c.loop-i.invariant.size, c.requires.few) in
    let new : c.agg_label.result ≡ label agg = search rules in
    record {
      size = length-set labels i c.agg_label.result ∙ c.loop-i.invariant.size;
      told = take_more_set labels i c.agg_label.result inside
          ∙ ap (λ (l : List (List ℕ)). l ++ c.agg_label.result ∷ []) c.loop-i.invariant.told
          ∙ ap (λ (x : List ℕ). map label (take i aggs) ++ x ∷ []) new
          ∙ sym (map-append label (take i aggs) (agg ∷ []))
          ∙ ap (map label) (sym (take_more aggs i CountAll (omega arith)));
    }

pub returns-clause-value : goal.returns-clause-value
returns-clause-value c =
    let label = agg_label c.args.schema.now in
    let last : c.loop-i.i ≡ length c.args.aggs.now = omega arith in
    ap (λ n. take n c.loop-i.labels) (sym last) ∙ c.loop-i.invariant.told ∙ ap (map label) (take_all c.loop-i.i c.args.aggs.now (omega (arith, last)))

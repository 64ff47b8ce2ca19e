use Rattle.std.proofs.Common.{◌≡◌, ◌<◌, List, [], ◌∷◌, ◌++◌, length, map, take, slice_index_or, sym, ◌∙◌, ap, arith}
use Rattle.std.proofs.lemmas.List.{get_or_default, take_all, take_more, take_more_set, length-set, map-append}
use Rattle.ob_row.specs.declared.aggregate.Agg.{Agg}
use Rattle.ob_sql.specs.declared.stmt.Listed.TheVariants.{CountAll}
use Rattle.ob_stages.specs.Totalling.{agg_at}
use Rattle.ob_stages.proofs.listing.aggs_at.Goals as goal

pub loop-i-preserved : goal.loop-i-preserved
loop-i-preserved c =
    let i = c.loop-i.i in
    let aggs = c.loop-i.aggs in
    let items = c.args.items.now in
    let agg = agg_at c.args.columns.now in
    let item = slice_index_or items i CountAll in
    let inside : i < length aggs = omega (arith, c.loop-i.invariant.size, c.requires.few) in
    let below : i < length items = omega arith in
    let new : c.agg_at.result ≡ agg item = c.agg_at.ensures ∙ ap agg (c.index-items-i.is ∙ get_or_default items i c.index-items-i.result CountAll below) in
    record {
      size = length-set aggs i c.agg_at.result ∙ c.loop-i.invariant.size;
      told = take_more_set aggs i c.agg_at.result inside
          ∙ ap (λ (l : List Agg). l ++ c.agg_at.result ∷ []) c.loop-i.invariant.told
          ∙ ap (λ (x : Agg). map agg (take i items) ++ x ∷ []) new
          ∙ sym (map-append agg (take i items) (item ∷ []))
          ∙ ap (map agg) (sym (take_more items i CountAll (omega arith)));
    }

pub returns-clause-value : goal.returns-clause-value
returns-clause-value c =
    let last : c.loop-i.i ≡ length c.args.items.now = omega arith in
    ap (λ n. take n c.loop-i.aggs) (sym last) ∙ c.loop-i.invariant.told ∙ ap (map (agg_at c.args.columns.now)) (take_all c.loop-i.i c.args.items.now (omega (arith, last)))

use Rattle.std.proofs.Common.{◌≡◌, List, length, map, take, ◌∙◌, subst}
use Rattle.ob_group.specs.Running.{starts}
use Rattle.ob_sql.specs.declared.stmt.Listed.{Listed}
use Rattle.ob_stages.specs.Totalling.{agg_at}
use Rattle.ob_stages.proofs.Starts.{totals_start}
use Rattle.ob_stages.proofs.totals.TotalsFlight.new.Goals as goal

pub returns : goal.returns
returns c =
    let listed = c.as_slice-items.ensures in
    let aggs = c.aggs_at-aggs.result in
    totals_start c.args.public.now c.args.flown c.args.select.now c.args.flat c.args.pred c.requires.board
    (record { reading = c.new.result; aggs = aggs; sums = c.start-sums.result }) c.new.ensures c.requires.ungrouped
    (subst (λ (l : List Listed). take (length l) aggs ≡ map (agg_at c.args.flat.schema) l) listed (c.aggs_at-aggs.ensures.value ∙ (λ i. map (agg_at (c.as_slice.ensures.value i)) c.as_slice-items.result.now)))
    c.start-sums.ensures.few
    (subst (λ (l : List Listed). take (length (take (length l) aggs)) c.start-sums.result ≡ starts (take (length l) aggs)) listed c.start-sums.ensures.value)

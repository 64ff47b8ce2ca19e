use Rattle.std.proofs.Common.{◌≡◌, ◌<◌, ◌≤◌, ◌*◌, ◌^◌, ℤ, nat_abs, List, [], ◌∷◌, ◌++◌, Option, IfSome, length, take, slice_index_or, rules, refl, sym, ◌∙◌, ap, subst, arith}
use Rattle.std.proofs.lemmas.List.{take_all, take_more, take_more_set, length-set, map-append}
use Rattle.ob_row.specs.declared.aggregate.Agg.TheVariants.{CountAll}
use Rattle.ob_group.specs.Running.{start, starts}
use Rattle.ob_group.proofs.Bounds.{start_up_to, up_to_none, up_to_set}
use Rattle.ob_group.proofs.totals.starts.Goals as goal

pub loop-i-init : goal.loop-i-init
loop-i-init c = record { size = refl; few = up_to_none 0 32; told = refl }

pub loop-i-preserved : goal.loop-i-preserved
loop-i-preserved c =
    let i = c.loop-i.i in
    let totals = c.loop-i.totals in
    let aggs = c.args.aggs.now in
    let agg = slice_index_or aggs i CountAll in
    let inside : i < length totals = omega (arith, c.loop-i.invariant.size, c.requires) in
    let new : c.start.result ≡ start agg = search rules in
    record {
      size = length-set totals i c.start.result ∙ c.loop-i.invariant.size;
      few = up_to_set 0 totals i c.start.result (subst (λ (o : Option ℤ). IfSome o (λ x. nat_abs x ≤ 0 * 2 ^ 63)) (sym new) (start_up_to agg)) c.loop-i.invariant.few;
      told = take_more_set totals i c.start.result inside
          ∙ ap (λ (l : List (Option ℤ)). l ++ c.start.result ∷ []) c.loop-i.invariant.told
          ∙ ap (λ (x : Option ℤ). starts (take i aggs) ++ x ∷ []) new
          ∙ sym (map-append start (take i aggs) (agg ∷ []))
          ∙ ap starts (sym (take_more aggs i CountAll (omega arith)));
    }

pub returns-clause-value : goal.returns-clause-value
returns-clause-value c =
    let last : c.loop-i.i ≡ length c.args.aggs.now = omega arith in
    ap (λ n. take n c.loop-i.totals) (sym last) ∙ c.loop-i.invariant.told ∙ ap starts (take_all c.loop-i.i c.args.aggs.now (omega (arith, last)))

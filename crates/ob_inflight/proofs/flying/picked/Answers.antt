use Rattle.std.proofs.Common.{◌≡◌, ◌%◌, Bool, true, List, map, length, drop, refl, ◌∙◌, ap, arith}
use Rattle.std.specs.Prelude.{slice_index_or}
use Rattle.ob_inflight.specs.Picking.{going}
use Rattle.ob_inflight.proofs.Turn.{picked_within}
use Rattle.ob_inflight.proofs.flying.picked.Goals as goal

pub returns-clause-place : goal.returns-clause-place
returns-clause-place g c = λ none.
    let prints : g.row.F.Denot → Bool = λ f. (g.F.Flyer.progress f).prints in
    let count : c.count_going-n.result ≡ length (going true c.args.ended (map prints (drop c.args.ended c.args.flyers.now))) =
    c.count_going-n.ensures.count c.args.ended ∙ ap (λ (l : List g.row.F.Denot). length (going true c.args.ended (map prints l))) c.split_at.ensures.back in
    c.place_going.ensures none ∙ (λ i. slice_index_or (going true c.args.ended (map prints (c.split_at.ensures.back i))) (c.args.word % count i) none)

pub returns-clause-within : goal.returns-clause-within
returns-clause-within g c =
    let prints : g.row.F.Denot → Bool = λ f. (g.F.Flyer.progress f).prints in
    let count : c.count_going-n.result ≡ length (going true c.args.ended (map prints (drop c.args.ended c.args.flyers.now))) =
    c.count_going-n.ensures.count c.args.ended ∙ ap (λ (l : List g.row.F.Denot). length (going true c.args.ended (map prints l))) c.split_at.ensures.back in
    let some = c.count_going-n.ensures.some refl (omega (arith, c.split_at.ensures.back_len, c.requires.some)) in
    picked_within prints c.args.word c.args.ended c.place_going.result c.args.flyers.now c.requires.some (omega (arith, some, count))
    (λ none. c.place_going.ensures none ∙ (λ i. slice_index_or (going true c.args.ended (map prints (c.split_at.ensures.back i))) (c.args.word % count i) none))

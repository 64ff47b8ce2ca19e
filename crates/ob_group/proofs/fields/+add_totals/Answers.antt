use Rattle.std.proofs.Common.{rules, ◌≡◌, ◌≤◌, ◌<◌, ◌+◌, ◌*◌, ◌^◌, ◌∷◌, ◌++◌, ℕ, ℤ, nat_abs, List, Option, Some, None, IfSome, suc, length, ap, ◌∙◌, sym, subst, arith}
use Rattle.ob_row.specs.declared.aggregate.Agg.{Agg}
use Rattle.ob_row.specs.declared.aggregate.Item.{Item}
use Rattle.ob_group.specs.Running.{Sums, together, part, joined, grown, grown_all}
use Rattle.ob_group.specs.Grouping.{agg_of, aggs_of}
use Rattle.ob_group.specs.Held.{HoldTotals}
use Rattle.ob_group.proofs.TotalBytes.{parted, refilled, within}
use Rattle.ob_group.proofs.fields.+add_totals.Goals as goal

pub split_at_mut-field-requires : goal.split_at_mut-field-requires
split_at_mut-field-requires t c =
    let size : length c.args.items.now ≡ suc (length c.in-Some.items.now) = search rules in
    (parted 2147483648 (length c.in-Some.items.now) c.requires.held.0 c.args.fields.now (subst (λ n. HoldTotals 2147483648 n c.requires.held.0 c.args.fields.now) size c.requires.held.1)).enough

few_enough : (t : Option ℤ) → IfSome t (λ x. nat_abs x ≤ 2147483648 * 2 ^ 63) → IfSome t (λ x. nat_abs x + 2 ^ 63 < 2 ^ 127)
few_enough None few = tt
few_enough (Some x) few = omega (arith, few)

pub joined-total-requires : goal.joined-total-requires
joined-total-requires t c =
    let size : length c.args.items.now ≡ suc (length c.in-Some.items.now) = search rules in
    let p = parted 2147483648 (length c.in-Some.items.now) c.requires.held.0 c.args.fields.now (subst (λ n. HoldTotals 2147483648 n c.requires.held.0 c.args.fields.now) size c.requires.held.1) in
    let one = c.total_in.ensures p.first (within 2147483648 p.first (omega arith) p.few) (c.split_at_mut-field.ensures.front ∙ p.front) in
    subst (λ (x : Option ℤ). IfSome x (λ x. nat_abs x + 2 ^ 63 < 2 ^ 127)) (sym one) (few_enough p.first p.few)

pub add_totals-requires : goal.add_totals-requires
add_totals-requires t c =
    let size : length c.args.items.now ≡ suc (length c.in-Some.items.now) = search rules in
    let p = parted 2147483648 (length c.in-Some.items.now) c.requires.held.0 c.args.fields.now (subst (λ n. HoldTotals 2147483648 n c.requires.held.0 c.args.fields.now) size c.requires.held.1) in
    (search rules, (search rules, (search rules, (search rules, (p.others, subst (HoldTotals 2147483648 (length c.in-Some.items.now) p.others) (sym c.split_at_mut-field.ensures.back) p.back)))))

pub returns-in-Some-clause-told : goal.returns-in-Some-clause-told
returns-in-Some-clause-told t c = λ cells begins totals m most held.
    let split : c.args.items.now ≡ c.in-Some.item.now ∷ c.in-Some.items.now = search rules in
    let size : length c.args.items.now ≡ suc (length c.in-Some.items.now) = search rules in
    let n = length c.in-Some.items.now in
    let item = c.in-Some.item.now in
    let items = c.in-Some.items.now in
    let p = parted m n totals c.args.fields.now (subst (λ n. HoldTotals m n totals c.args.fields.now) size held) in
    let one = c.total_in.ensures p.first (within m p.first most p.few) (c.split_at_mut-field.ensures.front ∙ p.front) in
    let few = c.joined-total.ensures.few m (subst (λ (x : Option ℤ). IfSome x (λ x. nat_abs x ≤ m * 2 ^ 63)) (sym one) p.few) in
    let rest = c.add_totals.ensures.told cells begins p.others m most (subst (HoldTotals m n p.others) (sym c.split_at_mut-field.ensures.back) p.back) in
    let agg = c.agg_of-agg.result in
    let gives : c.part.result ≡ part agg cells = c.part.ensures cells begins in
    let value : c.joined-total.result ≡ grown cells (agg_of item) p.first =
    c.joined-total.ensures.value ∙ ap (λ (x : Option ℤ). joined (together agg) x c.part.result) one ∙ ap (joined (together agg) p.first) gives ∙ ap (λ (a : Agg). grown cells a p.first) c.agg_of-agg.ensures in
    let all : grown_all (aggs_of c.args.items.now) cells totals ≡ c.joined-total.result ∷ grown_all (aggs_of items) cells p.others =
    ap (λ (l : List Item). grown_all (aggs_of l) cells totals) split ∙ ap (grown_all (aggs_of (item ∷ items)) cells) p.is ∙ ap (λ (x : Option ℤ). x ∷ grown_all (aggs_of items) cells p.others) (sym value) in
    let whole = refilled (m + 1) n c.joined-total.result (grown_all (aggs_of items) cells p.others) c.put_total.new.field c.add_totals.new.fields few c.put_total.ensures rest in
    subst (λ (l : Sums). HoldTotals (m + 1) (length c.args.items.now) l (c.put_total.new.field ++ c.add_totals.new.fields)) (sym all)
    (subst (λ (k : ℕ). HoldTotals (m + 1) k (c.joined-total.result ∷ grown_all (aggs_of items) cells p.others) (c.put_total.new.field ++ c.add_totals.new.fields)) (sym size) whole)

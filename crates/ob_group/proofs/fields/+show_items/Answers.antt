use Rattle.std.proofs.Common.{rules, ◌≡◌, ◌∷◌, List, Some, suc, length, ap, ◌∙◌, sym, subst}
use Rattle.ob_base.specs.declared.shown.Shown.{Shown}
use Rattle.ob_row.specs.declared.aggregate.Item.{Item}
use Rattle.ob_group.specs.Grouping.{item_cell, item_cells}
use Rattle.ob_group.specs.Held.{HoldTotals}
use Rattle.ob_group.proofs.TotalBytes.{parted, within}
use Rattle.ob_group.proofs.fields.+show_items.Goals as goal

pub split_at-requires : goal.split_at-requires
split_at-requires t c =
    let size : length c.args.items.now ≡ suc (length c.in-Some-Some.items.now) = search rules in
    (parted 2147483648 (length c.in-Some-Some.items.now) c.requires.held.0 c.args.fields.now (subst (λ n. HoldTotals 2147483648 n c.requires.held.0 c.args.fields.now) size c.requires.held.1)).enough

pub show_items-requires : goal.show_items-requires
show_items-requires t c =
    let size : length c.args.items.now ≡ suc (length c.in-Some-Some.items.now) = search rules in
    let p = parted 2147483648 (length c.in-Some-Some.items.now) c.requires.held.0 c.args.fields.now (subst (λ n. HoldTotals 2147483648 n c.requires.held.0 c.args.fields.now) size c.requires.held.1) in
    (search rules, (search rules, (p.others, subst (HoldTotals 2147483648 (length c.in-Some-Some.items.now) p.others) (sym c.split_at.ensures.back) p.back)))

pub returns-in-Some-Some : goal.returns-in-Some-Some
returns-in-Some-Some t c = λ totals m most held.
    let split : c.args.items.now ≡ c.in-Some-Some.item.now ∷ c.in-Some-Some.items.now = search rules in
    let size : length c.args.items.now ≡ suc (length c.in-Some-Some.items.now) = search rules in
    let n = length c.in-Some-Some.items.now in
    let key = Some c.args.key.now in
    let p = parted m n totals c.args.fields.now (subst (λ n. HoldTotals m n totals c.args.fields.now) size held) in
    let one = c.total_in.ensures p.first (within m p.first most p.few) (c.split_at.ensures.front ∙ p.front) in
    let rest = c.show_items.ensures p.others m most (subst (HoldTotals m n p.others) (sym c.split_at.ensures.back) p.back) in
    ap (λ (x : Shown). x ∷ c.show_items.new.cells) (c.item_cell.ensures ∙ ap (item_cell key c.in-Some-Some.item.now) one)
    ∙ ap (λ (l : List Shown). item_cell key c.in-Some-Some.item.now p.first ∷ l) rest
    ∙ ap (item_cells key (c.in-Some-Some.item.now ∷ c.in-Some-Some.items.now)) (sym p.is)
    ∙ ap (λ (l : List Item). item_cells key l totals) (sym split)

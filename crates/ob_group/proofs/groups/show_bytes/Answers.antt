use Rattle.std.proofs.Common.{◌≡◌, ◌≤◌, ◌*◌, ℕ, List, Option, Some, length, take, drop, sym, ◌∙◌, ap, subst, arith}
use Rattle.ob_base.specs.Schemas.{kind_width}
use Rattle.ob_row.specs.declared.cell.Cell.{Cell}
use Rattle.ob_group.specs.Grouping.{item_cells}
use Rattle.ob_group.specs.Held.{HoldTotals}
use Rattle.ob_group.proofs.GroupBytes.{holds_key, rest_enough, totals_field}
use Rattle.ob_group.proofs.groups.show_bytes.Goals as goal

pub key_of-key-requires : goal.key_of-key-requires
key_of-key-requires c = (c.requires.held.is.key, holds_key c.args.kind 2147483648 (length c.args.items.now) c.requires.held.group c.args.bytes.now c.requires.held.is)

pub split_at-requires-2 : goal.split_at-requires-2
split_at-requires-2 c =
    let n = length c.args.items.now in
    let back : drop (kind_width c.args.kind) c.args.bytes.now ≡ c.split_at.result.1.now =
    ap (λ (w : ℕ). drop w c.args.bytes.now) (sym c.width.ensures.value) ∙ sym c.split_at.ensures.back in
    subst (λ (l : List ℕ). 16 * n ≤ length l) back (rest_enough c.args.kind 2147483648 n c.requires.held.group c.args.bytes.now c.requires.held.is)

pub show_items-requires-clause-held : goal.show_items-requires-clause-held
show_items-requires-clause-held c =
    let n = length c.args.items.now in
    let front : take (16 * n) (drop (kind_width c.args.kind) c.args.bytes.now) ≡ c.split_at-2.result.0.now =
    ap (λ (w : ℕ). take (16 * n) (drop w c.args.bytes.now)) (sym c.width.ensures.value) ∙ ap (take (16 * n)) (sym c.split_at.ensures.back) ∙ sym c.split_at-2.ensures.front in
    (c.requires.held.group.1, subst (HoldTotals 2147483648 n c.requires.held.group.1) front (totals_field c.args.kind 2147483648 n c.requires.held.group c.args.bytes.now c.requires.held.is))

pub returns : goal.returns
returns c = λ s.
    let n = length c.args.items.now in
    let g = s.group in
    let held = s.is in
    let front : take (16 * n) (drop (kind_width c.args.kind) c.args.bytes.now) ≡ c.split_at-2.result.0.now =
    ap (λ (w : ℕ). take (16 * n) (drop w c.args.bytes.now)) (sym c.width.ensures.value) ∙ ap (take (16 * n)) (sym c.split_at.ensures.back) ∙ sym c.split_at-2.ensures.front in
    let key = c.key_of-key.ensures held.key (holds_key c.args.kind 2147483648 n g c.args.bytes.now held) in
    c.show_items.ensures g.1 2147483648 (omega arith) (subst (HoldTotals 2147483648 n g.1) front (totals_field c.args.kind 2147483648 n g c.args.bytes.now held))
    ∙ ap (λ (x : Cell). item_cells (Some x) c.args.items.now g.1) key ∙ ap (λ (x : Option Cell). item_cells x c.args.items.now g.1) (sym held.same)

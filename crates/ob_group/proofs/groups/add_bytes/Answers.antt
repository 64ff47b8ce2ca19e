use Rattle.std.proofs.Common.{rules, ◌≡◌, ◌≤◌, ◌*◌, ◌+◌, ℕ, List, length, take, drop, sym, ◌∙◌, ap, subst}
use Rattle.ob_base.specs.Schemas.{kind_width}
use Rattle.ob_group.specs.Running.{grown_all}
use Rattle.ob_group.specs.Grouping.{aggs_of}
use Rattle.ob_group.specs.Held.{HoldTotals}
use Rattle.ob_group.proofs.GroupBytes.{rest_enough, totals_field, changed_totals}
use Rattle.ob_group.proofs.groups.add_bytes.Goals as goal

pub split_at_mut-fields-requires : goal.split_at_mut-fields-requires
split_at_mut-fields-requires c =
    let n = length c.args.items.now in
    let back : drop (kind_width c.args.kind) c.args.bytes.now ≡ c.split_at_mut-rest.result.1.now =
    ap (λ (w : ℕ). drop w c.args.bytes.now) (sym c.width.ensures.value) ∙ sym c.split_at_mut-rest.ensures.back in
    subst (λ (l : List ℕ). 16 * n ≤ length l) back (rest_enough c.args.kind 2147483648 n c.requires.held.group c.args.bytes.now c.requires.held.is)

pub add_totals-requires-clause-held : goal.add_totals-requires-clause-held
add_totals-requires-clause-held c =
    let n = length c.args.items.now in
    let front : take (16 * n) (drop (kind_width c.args.kind) c.args.bytes.now) ≡ c.split_at_mut-fields.result.0.now =
    ap (λ (w : ℕ). take (16 * n) (drop w c.args.bytes.now)) (sym c.width.ensures.value) ∙ ap (take (16 * n)) (sym c.split_at_mut-rest.ensures.back) ∙ sym c.split_at_mut-fields.ensures.front in
    (c.requires.held.group.1, subst (HoldTotals 2147483648 n c.requires.held.group.1) front (totals_field c.args.kind 2147483648 n c.requires.held.group c.args.bytes.now c.requires.held.is))

pub returns : goal.returns
returns c =
    let n = length c.args.items.now in
    let front : take (16 * n) (drop (kind_width c.args.kind) c.args.bytes.now) ≡ c.split_at_mut-fields.result.0.now =
    ap (λ (w : ℕ). take (16 * n) (drop w c.args.bytes.now)) (sym c.width.ensures.value) ∙ ap (take (16 * n)) (sym c.split_at_mut-rest.ensures.back) ∙ sym c.split_at_mut-fields.ensures.front in
    let key : c.split_at_mut-rest.result.0.now ≡ take (kind_width c.args.kind) c.args.bytes.now =
    c.split_at_mut-rest.ensures.front ∙ ap (λ (w : ℕ). take w c.args.bytes.now) c.width.ensures.value in
    record {
      size = search rules;
      told = λ cells begins g m most held.
          let totals = c.add_totals.ensures.told cells begins g.1 m most (subst (HoldTotals m n g.1) front (totals_field c.args.kind m n g c.args.bytes.now held)) in
          changed_totals c.args.kind m n g c.args.bytes.now held (m + 1) (grown_all (aggs_of c.args.items.now) cells g.1) c.split_at_mut-rest.result.0.now c.add_totals.new.fields c.split_at_mut-fields.result.1.now key totals;
    }

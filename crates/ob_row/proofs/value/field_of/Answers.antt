use Rattle.std.proofs.Common.{◌≡◌, ◌∙◌, arith, ap, length, take, drop}
use Rattle.ob_base.specs.Schemas.{kind_width}
use Rattle.ob_row.proofs.PlaceLemmas.{field_inside, field_held}
use Rattle.ob_row.proofs.value.field_of.Goals as goal

pub split_at-requires-2 : goal.split_at-requires-2
split_at-requires-2 c =
    omega (arith, field_inside c.args.schema.now c.args.i c.requires.within, c.offset-from.ensures, c.kind_width.ensures.value, ap kind_width c.kind_at.ensures, c.split_at.ensures.back_len, c.requires.wide, ap length c.bytes.ensures)

pub returns-clause-told : goal.returns-clause-told
returns-clause-told c =
    let back : c.split_at.result.1.now ≡ drop c.offset-from.result c.args.row.now = c.split_at.ensures.back ∙ ap (drop c.offset-from.result) c.bytes.ensures in
    let is : c.split_at-2.result.0.now ≡ take c.kind_width.result c.split_at.result.1.now = c.split_at-2.ensures.front in
    field_held c.args.schema.now c.args.i c.args.row.now c.split_at.result.1.now c.split_at-2.result.0.now c.offset-from.result c.kind_width.result c.kind_at.result c.requires.within c.kind_at.ensures
    c.offset-from.ensures c.kind_width.ensures.value back is

use Rattle.std.proofs.Common.{◌≡◌, arith, ap, take, drop}
use Rattle.ob_base.specs.Schemas.{kind_width}
use Rattle.ob_row.proofs.PlaceLemmas.{field_inside, cell_put}
use Rattle.ob_row.proofs.value.set_field.Goals as goal

pub split_at_mut-field-requires : goal.split_at_mut-field-requires
split_at_mut-field-requires c =
    omega (arith, field_inside c.args.schema.now c.args.i c.requires.within, c.offset.ensures, c.kind_width.ensures.value, ap kind_width c.kind_at-kind.ensures, c.split_at_mut-rest.ensures.back_len, c.requires.wide)

pub returns-clause-told : goal.returns-clause-told
returns-clause-told c = λ cells begins.
    let front : c.split_at_mut-rest.result.0.now ≡ take c.offset.result c.args.bytes.now = search in
    let rest : c.split_at_mut-rest.result.1.now ≡ drop c.offset.result c.args.bytes.now = search in
    let behind : c.split_at_mut-field.result.1.now ≡ drop c.kind_width.result c.split_at_mut-rest.result.1.now = search in
    cell_put c.args.schema.now cells c.args.i c.args.cell.now c.kind_at-kind.result c.offset.result c.kind_width.result c.args.bytes.now c.split_at_mut-rest.result.0.now c.split_at_mut-rest.result.1.now c.put_cell.new.field
    c.split_at_mut-field.result.1.now begins c.requires.within c.kind_at-kind.ensures c.offset.ensures c.kind_width.ensures.value front rest c.put_cell.ensures behind c.requires.fits

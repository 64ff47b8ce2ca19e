use Rattle.std.proofs.Common.{sym, ap, length, ◌∙◌}
use Rattle.std.specs.Int.{from_be_bytes, cast_signed, w64}
use Rattle.ob_row.proofs.FieldLemmas.{holds_int}
use Rattle.ob_row.proofs.field.cell_in.Goals as goal

pub returns-in-Int-clause-some : goal.returns-in-Int-clause-some
returns-in-Int-clause-some c =
    holds_int c.args.kind c.args.field.now c.from_be_bytes.result c.in-Int.is (sym (ap length c.copy_from_slice.ensures.after) ∙ c.copy_from_slice.ensures.len) c.type_inv.field
    (c.from_be_bytes.ensures ∙ ap (λ bs. cast_signed w64 (from_be_bytes w64 bs)) c.copy_from_slice.ensures.after)

use Rattle.std.proofs.Common.{sym, subst}
use Rattle.std.specs.Bool.{OnTrue}
use Rattle.ob_row.specs.declared.cell.Cell.{Cell}
use Rattle.ob_row.specs.Fields.{HoldsCell}
use Rattle.ob_row.proofs.FieldLemmas.{some_int, some_text}
use Rattle.ob_row.proofs.field.is_cell.Goals as goal

pub returns-in-Int-clause-yes : goal.returns-in-Int-clause-yes
returns-in-Int-clause-yes c = some_int c.args.kind c.args.field.now c.in-Int.is c.requires c.type_inv.field

pub returns-in-Varchar-clause-yes : goal.returns-in-Varchar-clause-yes
returns-in-Varchar-clause-yes c =
    subst (λ b. OnTrue b ((x : Cell) × HoldsCell c.args.kind x c.args.field.now)) (sym c.is_some.ensures)
    (some_text (λ t. t.now) c.args.kind c.in-Varchar.field-0 c.args.field.now c.in-Varchar.is c.requires c.text_in.result c.text_in.ensures.some)

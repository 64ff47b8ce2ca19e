use Rattle.std.proofs.Common.{◌≡◌, Some, None, IfSome, IfNone, subst}
use Rattle.std.specs.Prelude.{find}
use Rattle.ob_row.specs.declared.cell.Cell.{Cell}
use Rattle.ob_row.specs.Rows.{cell_at, options_eq}
use Rattle.ob_row.specs.Slots.{Slots, rows}
use Rattle.ob_flat.specs.Slots.{Spelt}
use Rattle.ob_join.specs.Joining.{IsPartner}
use Rattle.ob_row.proofs.PlaceLemmas.{one_cell}
use Rattle.ob_join.proofs.joining.find_partner.Goals as goal

pub returns-in-Some-clause-some : goal.returns-in-Some-clause-some
returns-in-Some-clause-some c = λ cell held.
    let same : c.in-Some.cell ≡ cell = one_cell c.args.kind c.in-Some.cell cell c.args.field.now c.in-Some.ensures.some held in
    subst (λ (x : Cell). IfSome c.find_cell.result (λ i. (slots : Slots) → Spelt c.args.schema.now slots c.args.kept.now → IsPartner (λ a. options_eq (cell_at a c.args.column) (Some x)) slots i)) same c.find_cell.ensures.some

pub returns-in-Some-clause-none : goal.returns-in-Some-clause-none
returns-in-Some-clause-none c = λ cell held.
    let same : c.in-Some.cell ≡ cell = one_cell c.args.kind c.in-Some.cell cell c.args.field.now c.in-Some.ensures.some held in
    subst (λ (x : Cell). IfNone c.find_cell.result ((slots : Slots) → Spelt c.args.schema.now slots c.args.kept.now → find (λ a. options_eq (cell_at a c.args.column) (Some x)) (rows slots) ≡ None)) same c.find_cell.ensures.none

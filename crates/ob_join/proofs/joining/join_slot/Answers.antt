use Rattle.std.proofs.Common.{◌≡◌, ◌++◌, Option, Some, None, Bool, true, false, if◌then◌else◌, refl, length, sym, ◌∙◌, ap, subst, arith}
use Rattle.ob_base.specs.Schemas.{kind_width}
use Rattle.ob_vault.specs.Rows.{row_at}
use Rattle.ob_vault.proofs.RowsLemmas.{same_at}
use Rattle.ob_row.specs.Rows.{Row}
use Rattle.ob_row.specs.Slots.{rows}
use Rattle.ob_row.specs.Spelling.{Begins}
use Rattle.ob_row.specs.Results.{joined_slot}
use Rattle.ob_row.proofs.PlaceLemmas.{field_inside, field_read}
use Rattle.ob_join.proofs.Pairs.{joined_found, dummy, empty_joins}
use Rattle.ob_join.proofs.joining.join_slot.Goals as goal
use Rattle.ob_join.proofs.joining.join_slot.Goals.{else-branch-via-then-branch+else-inside, else-branch-via-else-branch}

pub field_at-field-requires : goal.field_at-field-requires
field_at-field-requires c =
    omega (arith, field_inside c.args.sides.now.right.now.schema c.args.sides.now.rcol c.requires.columns.rcol, c.offset-at.ensures, c.width.ensures.value, ap kind_width c.kind_at-kind.ensures, c.requires.row)

pub returns-in-Some-clause-told : goal.returns-in-Some-clause-told
returns-in-Some-clause-told c = λ slots slot spelt begins.
    let i = c.in-Some.i in
    let own = field_read c.args.sides.now.right.now.schema slot c.args.sides.now.rcol c.args.row.now c.field_at-field.result.now c.kind_at-kind.result c.offset-at.result c.width.result begins (cc (c.in_ok-read.ensures.spelled slot begins, c.if-branch.true))
    c.requires.columns.rcol c.kind_at-kind.ensures c.offset-at.ensures c.width.ensures.value c.field_at-field.ensures.value in
    let b = own.row in
    let right = subst (λ (s : Option Row). Begins c.args.sides.now.right.now.schema s c.args.row.now) own.is begins in
    let part = c.in-Some.ensures.some own.cell own.held slots spelt in
    let inside = c.in-Some.ensures.inside in
    let row = same_at c.args.kept.now i c.index-kept-i.result inside c.index-kept-i.is in
    let left : Begins c.args.sides.now.left.now.schema (Some part.row) c.index-kept-i.result =
    subst (Begins c.args.sides.now.left.now.schema (Some part.row)) row (subst (λ (s : Option Row). Begins c.args.sides.now.left.now.schema s (row_at c.args.kept.now i)) part.is (spelt.each i inside)) in
    let is : joined_slot c.args.sides.now.lcol c.args.sides.now.rcol (rows slots) slot ≡ Some (part.row ++ b) =
    ap (joined_slot c.args.sides.now.lcol c.args.sides.now.rcol (rows slots)) own.is ∙ joined_found c.args.sides.now.lcol c.args.sides.now.rcol (rows slots) b own.cell (Some part.row) own.has part.found in
    let on : (if c.args.inside then joined_slot c.args.sides.now.lcol c.args.sides.now.rcol (rows slots) slot else None) ≡ Some (part.row ++ b) =
    ap (λ (t : Bool). if t then joined_slot c.args.sides.now.lcol c.args.sides.now.rcol (rows slots) slot else None) c.if-inside.true ∙ is in
    subst (λ (s : Option Row). Begins (c.args.sides.now.left.now.schema ++ c.args.sides.now.right.now.schema) s c.join_pair.new.to) (sym on) (c.join_pair.ensures.told part.row b left right)

pub returns-in_default-clause-told : goal.returns-in_default-clause-told
returns-in_default-clause-told c = λ slots slot spelt begins.
    let own = field_read c.args.sides.now.right.now.schema slot c.args.sides.now.rcol c.args.row.now c.field_at-field.result.now c.kind_at-kind.result c.offset-at.result c.width.result begins (cc (c.in_ok-read.ensures.spelled slot begins, c.if-branch.true))
    c.requires.columns.rcol c.kind_at-kind.ensures c.offset-at.ensures c.width.ensures.value c.field_at-field.ensures.value in
    let b = own.row in
    let is : joined_slot c.args.sides.now.lcol c.args.sides.now.rcol (rows slots) slot ≡ None =
    ap (joined_slot c.args.sides.now.lcol c.args.sides.now.rcol (rows slots)) own.is ∙ joined_found c.args.sides.now.lcol c.args.sides.now.rcol (rows slots) b own.cell None own.has (c.in_default.ensures.none own.cell own.held slots spelt) in
    let on : (if c.args.inside then joined_slot c.args.sides.now.lcol c.args.sides.now.rcol (rows slots) slot else None) ≡ None =
    ap (λ (t : Bool). if t then joined_slot c.args.sides.now.lcol c.args.sides.now.rcol (rows slots) slot else None) c.if-inside.true ∙ is in
    dummy (c.args.sides.now.left.now.schema ++ c.args.sides.now.right.now.schema) (if c.args.inside then joined_slot c.args.sides.now.lcol c.args.sides.now.rcol (rows slots) slot else None) (length c.args.to.now) c.clear_row.new.row on c.requires.to c.clear_row.ensures

pub returns-else-branch-clause-told : goal.returns-else-branch-clause-told
returns-else-branch-clause-told c = λ slots slot spelt begins.
    let joined = joined_slot c.args.sides.now.lcol c.args.sides.now.rcol (rows slots) slot in
    let none : (if c.args.inside then joined else None) ≡ None = elim c.else-branch.branch [
      | else-branch-via-then-branch+else-inside w ↦ ap (λ (b : Bool). if b then joined else None) w.if-inside.false
      | else-branch-via-else-branch w ↦ cut c.args.inside joined (empty_joins c.args.sides.now.lcol c.args.sides.now.rcol (rows slots) slot (cc (c.in_ok-read.ensures.spelled slot begins, w.if-branch.false)))
    ] in
    dummy (c.args.sides.now.left.now.schema ++ c.args.sides.now.right.now.schema) (if c.args.inside then joined else None) (length c.args.to.now) c.clear_row.new.row none c.requires.to c.clear_row.ensures
  where
    cut : (b : Bool) (o : Option Row) → o ≡ None → (if b then o else None) ≡ None
    cut true o none = none
    cut false o none = refl

use Rattle.std.proofs.Common.{◌≡◌, ◌<◌, ◌≤◌, ◌∙◌, None, Some, length, get_or, set, sym, ap, subst, arith}
use Rattle.ob_base.specs.Schemas.{width}
use Rattle.ob_flat.proofs.Rows.{row_is}
use Rattle.ob_row.specs.Rows.{with_cells}
use Rattle.ob_path.specs.Access as Tree
use Rattle.ob_oram.specs.declared.op.Op.{Op}
use Rattle.ob_oram.specs.declared.op.Got.TheVariants as Gots
use Rattle.ob_oram.specs.Indexes.{key_of}
use Rattle.ob_oram.specs.Opens.{ServesRows, tree_key}
use Rattle.ob_oram.specs.Ops.{op_in}
use Rattle.ob_oram.proofs.OpRows.{tree_key_is, keeps_key, row_here, begins_row, serves_found, serves_kept, opens_changed, opens_removed}
use Rattle.ob_oram.proofs.serving.serve_row.Goals as goal

pub set_cells-requires-clause-fits : goal.set_cells-requires-clause-fits
set_cells-requires-clause-fits c = (c.args.index.now.key, rw c.in-Change.is at c.requires.op)

pub returns-in-Get-clause-serves : goal.returns-in-Get-clause-serves
returns-in-Get-clause-serves c = λ remap slots opened.
    let index = c.args.index.now in
    let op = c.args.op.now in
    let here = row_here index remap slots c.args.buffer.now c.args.rows.now opened _ c.args.i c.requires.here in
    let key = tree_key_is index op c.requires.op in
    let within : tree_key index op < index.capacity = omega (arith, key, c.requires.key) in
    let inside : c.args.i < length slots = omega (arith, c.requires.here.within, opened.sees.count) in
    let cells = c.cells_of.ensures here.row (begins_row index slots c.args.i here.row here.is remap c.args.buffer.now c.args.rows.now opened c.requires.here.within c.index-rows-i.result) in (
      slots,
      opened,
      serves_kept index slots c.args.i here.row here.is op (Gots.Row c.cells_of.result) inside (here.same ∙ sym key) key within
          (ap Tree.Found cells ∙ sym (ap (λ (o : Op). Tree.got (op_in index.capacity o) (Some here.row)) c.in-Get.is))
          (ap (λ (o : Op). Tree.after (op_in index.capacity o) (Some here.row)) c.in-Get.is),
    )

pub returns-in-Insert-clause-serves : goal.returns-in-Insert-clause-serves
returns-in-Insert-clause-serves c = λ remap slots opened.
    let index = c.args.index.now in
    let op = c.args.op.now in
    let here = row_here index remap slots c.args.buffer.now c.args.rows.now opened _ c.args.i c.requires.here in
    let key = tree_key_is index op c.requires.op in
    let within : tree_key index op < index.capacity = omega (arith, key, c.requires.key) in
    let inside : c.args.i < length slots = omega (arith, c.requires.here.within, opened.sees.count) in (
      slots,
      opened,
      serves_kept index slots c.args.i here.row here.is op Gots.Duplicate inside (here.same ∙ sym key) key within
          (sym (ap (λ (o : Op). Tree.got (op_in index.capacity o) (Some here.row)) c.in-Insert.is))
          (ap (λ (o : Op). Tree.after (op_in index.capacity o) (Some here.row)) c.in-Insert.is),
    )

pub returns-in-Change-clause-serves : goal.returns-in-Change-clause-serves
returns-in-Change-clause-serves c = λ remap slots opened.
    let index = c.args.index.now in
    let op = c.args.op.now in
    let buffer = c.args.buffer.now in
    let rows = c.args.rows.now in
    let i = c.args.i in
    let here = row_here index remap slots buffer rows opened _ i c.requires.here in
    let key = tree_key_is index op c.requires.op in
    let within : tree_key index op < index.capacity = omega (arith, key, c.requires.key) in
    let inside : i < length slots = omega (arith, c.requires.here.within, opened.sees.count) in
    let new = with_cells c.in-Change.sets.now here.row in
    let begins = c.set_cells.ensures.told here.row (begins_row index slots i here.row here.is remap buffer rows opened c.requires.here.within c.index-rows-i-in-Change.result) in
    let keeps = rw c.in-Change.is at (keeps_key index op c.requires.op) in
    let after : Tree.after (op_in index.capacity op) (Some here.row) ≡ Some new = ap (λ (o : Op). Tree.after (op_in index.capacity o) (Some here.row)) c.in-Change.is in (
      set slots i (Some new),
      opens_changed index slots i here.row here.is remap buffer rows opened c.requires.here.within new c.set_cells.new.row (keeps here.row) begins,
      subst (λ s. ServesRows index op slots (set slots i s) Gots.Done) after
          (serves_found index slots i here.row here.is op Gots.Done inside (here.same ∙ sym key) key within (sym (ap (λ (o : Op). Tree.got (op_in index.capacity o) (Some here.row)) c.in-Change.is))
          (λ r at. let one : Some new ≡ Some r = sym after ∙ at in let e : new ≡ r = cc one in ap (key_of index) (sym e) ∙ keeps here.row)),
    )

pub returns-in-Remove-clause-serves : goal.returns-in-Remove-clause-serves
returns-in-Remove-clause-serves c = λ remap slots opened.
    let index = c.args.index.now in
    let op = c.args.op.now in
    let buffer = c.args.buffer.now in
    let rows = c.args.rows.now in
    let i = c.args.i in
    let here = row_here index remap slots buffer rows opened _ i c.requires.here in
    let key = tree_key_is index op c.requires.op in
    let within : tree_key index op < index.capacity = omega (arith, key, c.requires.key) in
    let inside : i < length slots = omega (arith, c.requires.here.within, opened.sees.count) in
    let after : Tree.after (op_in index.capacity op) (Some here.row) ≡ None = ap (λ (o : Op). Tree.after (op_in index.capacity o) (Some here.row)) c.in-Remove.is in
    let wide : width index.schema ≤ length (get_or rows i c.index-rows-i-in-Remove.result) = subst (λ l. width index.schema ≤ length l) (sym (row_is rows i c.index-rows-i-in-Remove.result (omega (arith, c.requires.here.within, opened.sees.same)))) (c.requires.wide.wide i (omega (arith, c.requires.here.within, opened.sees.same))) in (
      set slots i None,
      opens_removed index slots i here.row here.is remap buffer rows opened c.requires.here.within c.clear.new.row (get_or rows i c.index-rows-i-in-Remove.result) c.clear.ensures wide,
      subst (λ s. ServesRows index op slots (set slots i s) Gots.Done) after
          (serves_found index slots i here.row here.is op Gots.Done inside (here.same ∙ sym key) key within (sym (ap (λ (o : Op). Tree.got (op_in index.capacity o) (Some here.row)) c.in-Remove.is))
          (λ r at. absurd (cc (after, at)))),
    )

use Rattle.std.proofs.Common.{◌<◌, ◌+◌, ◌++◌, None, length, slice_index_or, sym, ◌∙◌, ap, subst, arith, below_more}
use Rattle.ob_vault.proofs.RowsLemmas.{same_at, sizes_set, sizes_trans}
use Rattle.ob_row.specs.Slots.{rows}
use Rattle.ob_row.specs.Spelling.{Begins}
use Rattle.ob_flat.proofs.Rows.{row_is, spells_more, spelt_changed, slots_of}
use Rattle.ob_join.specs.Joining.{joined_below}
use Rattle.ob_join.proofs.joining.join_rows.Goals as goal

pub returns-in-Err-clause-told : goal.returns-in-Err-clause-told
returns-in-Err-clause-told c = λ slots block spelt right.
    let z = c.loop-z.z in
    let slot = slice_index_or block z None in
    let row = same_at c.args.rows.now z c.index-rows-z.result c.loop-z-test.true c.index-rows-z.is in
    c.in-Err.ensures.told slots slot spelt (subst (Begins c.args.sides.now.right.now.schema slot) row (right.each z c.loop-z-test.true))

pub loop-z-preserved : goal.loop-z-preserved
loop-z-preserved c =
    let z = c.loop-z.z in
    let left = c.args.sides.now.left.now.schema in
    let right = c.args.sides.now.right.now in
    let to = c.loop-z.to in
    let was = c.loop-z.invariant in
    let inside : z < length to = omega (arith, was.same.count, c.requires.same, c.loop-z-test.true) in
    let row = same_at c.args.rows.now z c.index-rows-z.result c.loop-z-test.true c.index-rows-z.is in
    let old = row_is to z c.index-to-z.result inside in
    let new = c.join_slot.new.to in
    let read = c.in-Ok.ensures.read in
    record {
      same = sizes_trans _ _ _ was.same (sizes_set to z new inside 0 (c.join_slot.ensures.size ∙ ap length old));
      read = below_more _ _ was.read (read.0, subst (Begins right.schema read.0) (sym row) read.1);
      told = λ slots block spelt spelt'.
          let slot = slice_index_or block z None in
          let here = c.in-Ok.ensures.told slots slot spelt (subst (Begins right.schema slot) row (spelt'.each z c.loop-z-test.true)) in
          spells_more (left ++ right.schema) to z new inside (λ j r. Begins (left ++ right.schema) (joined_below c.args.sides.now.lcol c.args.sides.now.rcol (rows slots) right.capacity (c.args.first + j) (slice_index_or block j None)) r)
          (was.told slots block spelt spelt') here;
    }

pub returns-clause-read : goal.returns-clause-read
returns-clause-read c = slots_of c.args.sides.now.right.now.schema c.args.rows.now (λ j below. c.loop-z.invariant.read j (omega (arith, below, c.loop-z-test.false)))

pub returns-clause-told : goal.returns-clause-told
returns-clause-told c = λ slots block spelt right.
    let same = c.loop-z.invariant.same.count in
    spelt_changed (c.args.sides.now.left.now.schema ++ c.args.sides.now.right.now.schema) (joined_below c.args.sides.now.lcol c.args.sides.now.rcol (rows slots) c.args.sides.now.right.now.capacity) c.args.first c.loop-z.z block c.loop-z.to
    (omega (arith, right.count, same, c.requires.same)) (omega (arith, same, c.requires.same, c.loop-z-test.false)) (c.loop-z.invariant.told slots block spelt right)

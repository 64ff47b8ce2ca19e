use Rattle.ob_cont.proofs.Rows.{slots_put, spelt_put, spelt_past}
use Rattle.ob_cont.proofs.putting.put_in_block.Goals as goal

pub returns-then-z-rows-clause-spells : goal.returns-then-z-rows-clause-spells
returns-then-z-rows-clause-spells c = λ are.
    let row = c.requires.row in
    slots_put c.args.schema.now c.args.rows.now c.args.slot c.copy_row.new.to row.slot (c.copy_row.ensures.begins row.slot row.begins) c.if-z-rows.true are

pub returns-then-z-rows-clause-told : goal.returns-then-z-rows-clause-told
returns-then-z-rows-clause-told c = λ there slots begins spelt.
    spelt_put c.args.schema.now c.args.rows.now c.args.slot c.copy_row.new.to there (c.copy_row.ensures.begins there begins) slots c.if-z-rows.true spelt

pub returns-else-z-rows-clause-told : goal.returns-else-z-rows-clause-told
returns-else-z-rows-clause-told c = λ there slots begins spelt. spelt_past c.args.schema.now c.args.rows.now c.args.slot there slots c.if-z-rows.false spelt

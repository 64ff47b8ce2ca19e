use Rattle.std.proofs.Common.{◌≡◌, ◌<◌, ◌∙◌, None, length, get_or, ap, sym, subst, arith}
use Rattle.ob_row.specs.Spelling.{Begins}
use Rattle.ob_vault.specs.Rows.{row_at}
use Rattle.ob_flat.proofs.Rows.{row_is}
use Rattle.ob_oram.specs.Walks.{blocks_in, slot_in}
use Rattle.ob_oram.proofs.WalkRows.{walk_is}
use Rattle.ob_oram.proofs.WalkReads.{slot_below}
use Rattle.ob_oram.proofs.WalkWrites.{writes_none, asks_one, next_in_turn, writes_more, writes_ended, writes_all}
use Rattle.ob_oram.proofs.writing.write_walk.Goals as goal

pub blocks-c-end-requires : goal.blocks-c-end-requires
blocks-c-end-requires g c = walk_is c.args.index.now c.args.walk c.requires.shaped c.requires.walk

pub loop-c-init : goal.loop-c-init
loop-c-init g c = writes_none c.args.index.now c.args.walk c.args.rows.now _ _ c.requires.asks c.requires.turn

pub slot-requires-clause-walk : goal.slot-requires-clause-walk
slot-requires-clause-walk g c = walk_is c.args.index.now c.args.walk c.requires.shaped c.requires.walk

pub write_row-requires-clause-asks : goal.write_row-requires-clause-asks
write_row-requires-clause-asks g c =
    let within : c.loop-c.c < blocks_in c.args.walk = omega (arith, c.loop-c-test.true, c.blocks-c-end.ensures) in
    asks_one c.args.index.now c.args.walk c.args.rows.now c.loop-c.c c.requires.walk within _ _ c.loop-c.invariant c.requires.asks

pub write_row-requires-clause-turn : goal.write_row-requires-clause-turn
write_row-requires-clause-turn g c =
    let within : c.loop-c.c < blocks_in c.args.walk = omega (arith, c.loop-c-test.true, c.blocks-c-end.ensures) in
    next_in_turn c.args.index.now c.args.walk c.args.rows.now c.loop-c.c c.requires.walk within _ _ c.loop-c.invariant

pub write_row-requires-clause-spells : goal.write_row-requires-clause-spells
write_row-requires-clause-spells g c =
    let walk = c.args.walk in
    let rows = c.args.rows.now in
    let spells = c.requires.spells in
    let within : c.loop-c.c < blocks_in walk = omega (arith, c.loop-c-test.true, c.blocks-c-end.ensures) in
    let inside : slot_in walk c.loop-c.c < length rows = omega (arith, slot_below c.args.index.now walk c.loop-c.c c.requires.walk within, c.requires.count) in
    let here : c.index-rows-slot.result ≡ row_at rows (slot_in walk c.loop-c.c) = c.index-rows-slot.is ∙ ap (λ k. get_or rows k c.index-rows-slot.result) c.slot.ensures ∙ row_is rows (slot_in walk c.loop-c.c) _ inside in
    (get_or spells.slots (slot_in walk c.loop-c.c) None, subst (Begins c.args.index.now.schema (get_or spells.slots (slot_in walk c.loop-c.c) None)) (sym here) (spells.spelt.each (slot_in walk c.loop-c.c) inside))

pub returns-in-Err : goal.returns-in-Err
returns-in-Err g c =
    let within : c.loop-c.c < blocks_in c.args.walk = omega (arith, c.loop-c-test.true, c.blocks-c-end.ensures) in
    record { writes = writes_ended c.args.index.now c.args.walk c.args.rows.now c.loop-c.c c.requires.walk within _ _ c.loop-c.invariant _ _ c.in-Err.e c.in-Err.ensures.writes }

pub loop-c-preserved : goal.loop-c-preserved
loop-c-preserved g c =
    let walk = c.args.walk in
    let rows = c.args.rows.now in
    let within : c.loop-c.c < blocks_in walk = omega (arith, c.loop-c-test.true, c.blocks-c-end.ensures) in
    let inside : slot_in walk c.loop-c.c < length rows = omega (arith, slot_below c.args.index.now walk c.loop-c.c c.requires.walk within, c.requires.count) in
    let here : c.index-rows-slot.result ≡ row_at rows (slot_in walk c.loop-c.c) = c.index-rows-slot.is ∙ ap (λ k. get_or rows k c.index-rows-slot.result) c.slot.ensures ∙ row_is rows (slot_in walk c.loop-c.c) _ inside in
    writes_more c.args.index.now walk rows c.loop-c.c c.requires.walk within _ _ c.loop-c.invariant _ _ c.in-Ok.ensures.writes here inside

pub returns : goal.returns
returns g c =
    let last : c.loop-c.c ≡ blocks_in c.args.walk = omega (arith, c.loop-c-test.false, c.loop-c.auto.c-end, c.blocks-c-end.ensures) in
    record { writes = writes_all c.args.index.now c.args.walk c.args.rows.now c.loop-c.c _ _ c.requires.walk last c.loop-c.invariant }

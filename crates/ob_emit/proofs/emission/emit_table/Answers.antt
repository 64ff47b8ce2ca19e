use Rattle.std.proofs.Common.{inl, inr, refl}
use Rattle.ob_flat.proofs.Rooms.{same_rows}
use Rattle.ob_emit.specs.Emitting.{header}
use Rattle.ob_emit.proofs.Emitted.{emits_under, emits_headless}
use Rattle.ob_emit.proofs.emission.emit_table.Goals as goal

pub returns-in-Ok-emit_blocks-clause-emits : goal.returns-in-Ok-emit_blocks-clause-emits
returns-in-Ok-emit_blocks-clause-emits g c =
    rw c.from.ensures (emits_under (header c.args.flat.now.schema c.args.cols.now) c.in-Ok.ensures.ok c.in-Ok.ensures.cause _ c.in-Ok-emit_blocks.ensures.emits)

pub returns-in-Err-clause-emits : goal.returns-in-Err-clause-emits
returns-in-Err-clause-emits g c =
    emits_under (header c.args.flat.now.schema c.args.cols.now) c.in-Ok.ensures.ok c.in-Ok.ensures.cause _ c.in-Err.ensures.emits

pub returns-in-Err-Failed-clause-emits : goal.returns-in-Err-Failed-clause-emits
returns-in-Err-Failed-clause-emits g c =
    emits_headless (header c.args.flat.now.schema c.args.cols.now) _ c.requires.spare.ready c.requires.table.written (inl refl) (refl, λ was. was) c.in-Err-Failed.ensures.err
    (rw c.in-Err-Failed.field-0-is at c.in-Err-Failed.ensures.cause)

pub returns-in-Err-NoMemory-clause-emits : goal.returns-in-Err-NoMemory-clause-emits
returns-in-Err-NoMemory-clause-emits g c =
    emits_headless (header c.args.flat.now.schema c.args.cols.now) _ c.requires.spare.ready c.requires.table.written (inr refl) (refl, λ was. was) c.in-Err-NoMemory.ensures.err
    (rw c.in-Err-NoMemory.field-0-is at c.in-Err-NoMemory.ensures.cause)

pub returns-in-Err-Failed-clause-rows : goal.returns-in-Err-Failed-clause-rows
returns-in-Err-Failed-clause-rows g c = same_rows c.args.rows.now

pub returns-in-Err-NoMemory-clause-rows : goal.returns-in-Err-NoMemory-clause-rows
returns-in-Err-NoMemory-clause-rows g c = same_rows c.args.rows.now

pub returns-in-Err-clause-rows : goal.returns-in-Err-clause-rows
returns-in-Err-clause-rows g c = c.emit_blocks.ensures.rows

pub returns-in-Ok-emit_blocks-clause-rows : goal.returns-in-Ok-emit_blocks-clause-rows
returns-in-Ok-emit_blocks-clause-rows g c = c.emit_blocks.ensures.rows

pub emit_head-requires : goal.emit_head-requires
emit_head-requires g c = c.requires.columns

pub emit_blocks-requires-clause-spare : goal.emit_blocks-requires-clause-spare
emit_blocks-requires-clause-spare g c = c.requires.spare

pub emit_blocks-requires-clause-table : goal.emit_blocks-requires-clause-table
emit_blocks-requires-clause-table g c = c.requires.table

pub emit_blocks-requires-clause-fit : goal.emit_blocks-requires-clause-fit
emit_blocks-requires-clause-fit g c = c.requires.fit

pub emit_blocks-requires-clause-columns : goal.emit_blocks-requires-clause-columns
emit_blocks-requires-clause-columns g c = c.requires.columns

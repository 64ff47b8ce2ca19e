use Rattle.std.proofs.Common.{refl}
use Rattle.ob_base.specs.Events.{row_events}
use Rattle.ob_group.specs.Grouping.{groups_shown}
use Rattle.ob_group.specs.Labels.{header}
use Rattle.ob_group.proofs.Rows.{headed}
use Rattle.ob_group.proofs.emitting.emit_groups.Goals as goal

pub emit_rows-requires-clause-held : goal.emit_rows-requires-clause-held
emit_rows-requires-clause-held g c = rw c.kind_at.ensures c.requires.held

pub returns-in-Ok : goal.returns-in-Ok
returns-in-Ok g c =
    headed (header c.args.schema.now c.args.key c.args.items.now) c.in-Ok.ensures.ok c.in-Ok.ensures.cause c.emit_rows.result (rw c.kind_at.ensures at c.emit_rows.ensures)

pub returns-in-Err : goal.returns-in-Err
returns-in-Err g c =
    let head = header c.args.schema.now c.args.key c.args.items.now in
    record {
      emitted = tt;
      halted = record { events = head; ends = c.in-Err.ensures.err; told = λ s. (row_events (groups_shown c.args.items.now s.groups), refl) };
      cause = c.in-Err.ensures.cause;
    }

use Rattle.std.proofs.Common.{length, take}
use Rattle.ob_group.specs.Grouping.{group_shown}
use Rattle.ob_group.specs.Held.{IsGroup}
use Rattle.ob_group.proofs.Rows.{one_emitted, one_halted}
use Rattle.ob_group.proofs.emitting.emit_group.Goals as goal

pub returns-clause-emits : goal.returns-clause-emits
returns-clause-emits g c =
    let items = c.args.items.now in
    let cells = take (length items) c.show_group.new.cells in
    let row = c.row.ensures in
    record {
      emitted = one_emitted g.E.Emit.grew g.E.Emit.cut (λ (s : IsGroup c.args.kind (length items) c.args.group.now). group_shown items s.group) cells c.show_group.ensures.told c.args.out.now c.row.new.self c.row.result row.ok;
      halted = one_halted g.E.Emit.grew g.E.Emit.cut (λ (s : IsGroup c.args.kind (length items) c.args.group.now). group_shown items s.group) cells c.show_group.ensures.told c.args.out.now c.row.new.self c.row.result row.err;
      cause = row.cause;
    }

use Rattle.std.proofs.Common.{◌≡◌, [], length, take}
use Rattle.ob_base.specs.Events.{IsEmitted}
use Rattle.ob_group.specs.Grouping.{groups_shown}
use Rattle.ob_group.specs.Held.{HasGroups}
use Rattle.ob_group.proofs.emitting.emit_rows.Given as goal

abbrev pub invariant-loop-i : goal.invariant-loop-i
invariant-loop-i g l =
    record {
      emitted : IsEmitted g.E.Emit.grew [] (λ (s : HasGroups l.kind (length l.items) l.n l.groups). groups_shown l.items (take l.i s.groups)) 0 l.i l.initial.out l.out;
      size : length l.cells ≡ 32;
      faults : g.E.Emit.faults l.out ≡ g.E.Emit.faults l.initial.out;
    }

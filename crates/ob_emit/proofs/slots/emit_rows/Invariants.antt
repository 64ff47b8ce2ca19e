use Rattle.std.proofs.Common.{◌≡◌, ◌≤◌, ◌<◌, ◌+◌, ℕ, [], length, take}
use Rattle.ob_vault.specs.Rows.{row_at}
use Rattle.ob_flat.specs.Slots.{AreSlots}
use Rattle.ob_emit.specs.Emitting.{IsSlot, slots_shown}
use Rattle.ob_base.specs.Events.{IsEmitted}
use Rattle.ob_emit.proofs.slots.emit_rows.Given as goal

abbrev pub invariant-loop-z : goal.invariant-loop-z
invariant-loop-z g l =
    record {
      size : length l.cells ≡ length l.initial.cells;
      most : (l.n ≤ l.first + l.z) × (l.n ≤ l.flat.capacity);
      emitted : IsEmitted g.E.Emit.grew [] (λ (s : AreSlots l.flat.schema l.rows). slots_shown l.flat.capacity l.cols l.first (take l.z s.slots)) l.fn.seen l.n l.initial.out l.out;
      read : (j : ℕ) → j < l.z → IsSlot l.flat.schema (row_at l.rows j);
      faults : g.E.Emit.faults l.out ≡ g.E.Emit.faults l.initial.out;
    }

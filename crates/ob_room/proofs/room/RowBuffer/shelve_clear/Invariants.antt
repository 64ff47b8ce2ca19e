use Rattle.std.proofs.Common.{◌≡◌, ◌≤◌, ◌+◌, length}
use Rattle.ob_room.specs.Shelf.{ShelvesClear}
use Rattle.ob_room.specs.RoomState.{out}
use Rattle.ob_room.proofs.room.RowBuffer.shelve_clear.Given as goal

abbrev pub invariant-loop : goal.invariant-loop
invariant-loop l =
    record {
      done : ShelvesClear l.counter l.initial.self l.self;
      size : length l.initial.self.free ≡ length l.self.free + l.counter;
      held : length l.self.shelf ≤ out l.self;
      few : length l.initial.self.free ≤ l.self.rows;
    }

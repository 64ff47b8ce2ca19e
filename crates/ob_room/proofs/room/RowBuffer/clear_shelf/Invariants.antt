use Rattle.std.proofs.Common.{◌≡◌, ◌≤◌, ◌++◌, length, replicate}
use Rattle.ob_room.specs.RoomState.{out, clear}
use Rattle.ob_room.specs.Shelf.{AreWide}
use Rattle.ob_room.proofs.room.RowBuffer.clear_shelf.Given as goal

abbrev pub invariant-loop-row : goal.invariant-loop-row
invariant-loop-row l =
    record {
      free : l.self.free ++ replicate (length l.self.shelf) (clear l.self.width) ≡ l.initial.self.free ++ replicate (length l.initial.self.shelf) (clear l.initial.self.width);
      rows : l.self.rows ≡ l.initial.self.rows;
      width : l.self.width ≡ l.initial.self.width;
      pack : l.self.pack ≡ l.initial.self.pack;
      high : l.self.high ≡ l.initial.self.high;
      wide : AreWide l.self.width l.self.shelf;
      held : length l.self.shelf ≤ out l.self;
    }

abbrev pub decreases-loop-row : goal.decreases-loop-row
decreases-loop-row l = length l.self.shelf

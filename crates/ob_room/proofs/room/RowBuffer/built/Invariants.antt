use Rattle.std.proofs.Common.{◌≡◌, ◌≤◌, replicate, vec_len, vec_capacity}
use Rattle.ob_room.specs.RoomState.{clear}
use Rattle.ob_room.proofs.room.RowBuffer.built.Given as goal

abbrev pub invariant-loop : goal.invariant-loop
invariant-loop l =
    record {
      zeros : l.free.items ≡ replicate l.counter (clear l.width);
      count : vec_len l.free ≡ l.counter;
      room : l.rows ≤ vec_capacity l.free;
    }

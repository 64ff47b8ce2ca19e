use Rattle.std.proofs.Common.{vec_len}
use Rattle.ob_room.proofs.room.RowBuffer.drop.Given as goal

abbrev pub decreases-loop-row : goal.decreases-loop-row
decreases-loop-row l = vec_len l.shelf

use Rattle.std.proofs.Common.{◌≡◌, ℕ, length}
use Rattle.ob_base.specs.Schemas.{Columns}
use Rattle.ob_row.specs.Rows.{Row}
use Rattle.ob_row.specs.Slots.{Slots}
use Rattle.ob_path.specs.Rows.{rows, Single}
use Rattle.ob_tree.proofs.GoingLemmas.{Going}
use Rattle.ob_oram.specs.Buffers.{IsBuffer, Sees}
use Rattle.ob_oram.proofs.Crowding.{Piled}
use Rattle.ob_oram.proofs.placing.place.Given as goal

abbrev pub invariant-loop-i : goal.invariant-loop-i
invariant-loop-i l = record {
  count : length l.buffer ≡ length l.fn.buffer;
  count_rows : length l.rows ≡ length l.fn.rows;
  wide : (w : ℕ) → IsBuffer w l.fn.rows → IsBuffer w l.rows;
  sees : (columns : Columns) (key lf : Row → ℕ) (slots : Slots) → Sees columns key lf slots l.fn.buffer l.fn.rows
      → (now : Slots) × Sees columns key lf now l.buffer l.rows × (Single key (rows slots) → Going key lf l.leaf l.height l.n l.i slots now) × Piled lf l.leaf l.height l.i slots now;
}

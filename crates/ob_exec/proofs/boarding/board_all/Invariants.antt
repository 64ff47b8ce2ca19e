use Rattle.ob_exec.proofs.Words.{IsAboard, length, slice_get, Some, Stmt, ℕ, ◌≡◌}
use Rattle.ob_stages.specs.declared.flight.Flight.{Flight}
use Rattle.ob_exec.proofs.boarding.board_all.Given as goal

abbrev pub invariant-loop-stmt : goal.invariant-loop-stmt
invariant-loop-stmt l = record {
  size : length l.flights.items ≡ l.stmt-index;
  each : (i : ℕ) (stmt : Stmt) (f : Flight) → slice_get l.stmts i ≡ Some stmt → slice_get l.flights.items i ≡ Some f
      → IsAboard l.late (length l.stmts) l.public stmt f;
}

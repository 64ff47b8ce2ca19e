use Rattle.std.proofs.lemmas.Result.{on_err_weaker, on_ok_weaker}
use Rattle.ob_turns.proofs.printing.FlightPrinterEmit.row.Goals as goal

pub returns-clause-ok : goal.returns-clause-ok
returns-clause-ok g c = on_ok_weaker c.row.result (λ h s events p. let q = h s.printer events (p.0, p.1) in (q.0, q.1, p.2)) c.row.ensures.ok

pub returns-clause-err : goal.returns-clause-err
returns-clause-err g c = on_err_weaker c.row.result (λ h s events p. h s.printer events (p.0, p.1)) c.row.ensures.err

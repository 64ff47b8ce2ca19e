use Rattle.std.proofs.Common.{◌∙◌}
use Rattle.std.proofs.lemmas.Result.{on_ok_weaker}
use Rattle.ob_base.specs.Events.{Close}
use Rattle.ob_print.proofs.SentLemmas.{Sends-ok}
use Rattle.ob_print.proofs.EventLemmas.{printed_push, printed_cut, on_err}
use Rattle.ob_print.proofs.printer.PrinterEmit.close.Goals as goal

pub returns-clause-ok : goal.returns-clause-ok
returns-clause-ok g c =
    on_ok_weaker c.emit_line.result
    (λ h s events p. (printed_push events (Close c.args.k) _ (c.as_bytes.ensures ∙ c.rows_line-line.ensures) p.0 h, c.emit_line.ensures.same_sink ∙ p.1))
    (Sends-ok c.emit_line.result c.emit_line.ensures.sends)

pub returns-clause-err : goal.returns-clause-err
returns-clause-err g c =
    on_err c.emit_line.result
    (λ s events p. (
      printed_cut events (Close c.args.k) _ (c.as_bytes.ensures ∙ c.rows_line-line.ensures) p.0 c.emit_line.ensures.sends,
      c.emit_line.ensures.same_sink ∙ p.1,
    ))

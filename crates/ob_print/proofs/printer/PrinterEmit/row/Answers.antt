use Rattle.std.proofs.Common.{◌∙◌, refl}
use Rattle.std.proofs.lemmas.Result.{on_ok_weaker}
use Rattle.ob_base.specs.Events.{Row}
use Rattle.ob_print.proofs.SentLemmas.{Sends-ok}
use Rattle.ob_print.proofs.EventLemmas.{printed_push, printed_cut, on_err}
use Rattle.ob_print.proofs.printer.PrinterEmit.row.Goals as goal

pub returns-clause-ok : goal.returns-clause-ok
returns-clause-ok g c =
    on_ok_weaker c.emit_record.result
    (λ h s events p. (printed_push events (Row c.args.cells.now) _ refl p.0 h, c.emit_record.ensures.same_sink ∙ p.1))
    (Sends-ok c.emit_record.result c.emit_record.ensures.sends)

pub returns-clause-err : goal.returns-clause-err
returns-clause-err g c =
    on_err c.emit_record.result
    (λ s events p. (printed_cut events (Row c.args.cells.now) _ refl p.0 c.emit_record.ensures.sends, c.emit_record.ensures.same_sink ∙ p.1))

use Rattle.std.proofs.Common.{refl}
use Rattle.ob_print.proofs.SentLemmas.{Sends-none}
use Rattle.ob_print.proofs.printer.emit_record.Goals as goal

pub returns-in-Err-clause-sends : goal.returns-in-Err-clause-sends
returns-in-Err-clause-sends g c = Sends-none _ _ _ refl

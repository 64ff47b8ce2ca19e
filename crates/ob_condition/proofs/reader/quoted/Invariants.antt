use Rattle.ob_base.specs.Texts.{IsPrintable}
use Rattle.ob_condition.proofs.Quoted.{Unquoted}
use Rattle.ob_condition.proofs.reader.quoted.Given as goal

abbrev pub invariant-loop-b : goal.invariant-loop-b
invariant-loop-b l = Unquoted l.bytes l.b-index l.open l.text.items × IsPrintable l.text.items

use Rattle.std.proofs.Common.{◌≡◌, drop, false}
use Rattle.ob_token.specs.declared.cut.Mode.TheVariants.{Plain}
use Rattle.ob_token.specs.Cutting.{blank_from}
use Rattle.ob_token.proofs.cut.is_blank.Given as goal

abbrev pub invariant-loop-b : goal.invariant-loop-b
invariant-loop-b l = blank_from Plain false l.bytes ≡ blank_from l.mode l.solid (drop l.b-index l.bytes)

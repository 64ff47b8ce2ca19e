use Rattle.std.proofs.Common.{◌≡◌, ◌-◌, ◌≤◌, drop, length, false}
use Rattle.ob_token.specs.declared.cut.Mode.TheVariants.{Plain}
use Rattle.ob_token.specs.Cutting.{cut_from}
use Rattle.ob_token.proofs.cut.cut_at.Given as goal

abbrev pub invariant-bytes : goal.invariant-bytes
invariant-bytes l = (cut_from l.from l.from Plain false (drop l.from l.bytes) ≡ cut_from l.from l.at l.mode l.solid (drop l.at l.bytes)) × (l.at ≤ length l.bytes)

abbrev pub decreases-bytes : goal.decreases-bytes
decreases-bytes l = length l.bytes - l.at

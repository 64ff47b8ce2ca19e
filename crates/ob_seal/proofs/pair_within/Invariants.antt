use Rattle.std.proofs.Common.{◌≡◌, drop}
use Rattle.ob_seal.specs.KeySet.{pair_upto}
use Rattle.ob_seal.proofs.pair_within.Given as goal

abbrev pub invariant-each : goal.invariant-each
invariant-each l = record { left : pair_upto l.found l.spans l.region l.number ≡ pair_upto l.found (drop l.i l.spans) l.region l.number }

use Rattle.std.proofs.Common.{◌≡◌, drop}
use Rattle.ob_seal.specs.KeySet.{pair_in}
use Rattle.ob_seal.proofs.pair_among.Given as goal

abbrev pub invariant-each : goal.invariant-each
invariant-each l = record { left : pair_in l.own l.held l.region ≡ pair_in l.own (drop l.i l.held) l.region }

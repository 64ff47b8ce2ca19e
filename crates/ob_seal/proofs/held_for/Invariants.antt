use Rattle.std.proofs.Common.{◌≡◌, ◌≤◌, length, map, take, vec_capacity, vec_len}
use Rattle.ob_seal.specs.Sealed.{held_of}
use Rattle.ob_seal.proofs.held_for.Given as goal

abbrev pub invariant-each : goal.invariant-each
invariant-each l = record {
  done : l.held.items ≡ map (held_of l.root) (take l.i l.earlier);
  count : vec_len l.held ≡ l.i;
  space : length l.earlier ≤ vec_capacity l.held;
}

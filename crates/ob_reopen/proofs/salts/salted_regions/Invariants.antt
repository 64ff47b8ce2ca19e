use Rattle.std.proofs.Common.{◌≡◌, ◌≤◌, ◌+◌, length, take, vec_capacity, vec_len}
use Rattle.ob_reopen.specs.Saved.{salted_regions}
use Rattle.ob_reopen.proofs.salts.salted_regions.Given as goal

abbrev pub invariant-each : goal.invariant-each
invariant-each l = record {
  done : l.regions.items ≡ salted_regions l.fn.closed l.fn.closing (take l.i l.listed);
  count : vec_len l.regions ≡ l.i + 1;
  space : length l.listed + 1 ≤ vec_capacity l.regions;
}

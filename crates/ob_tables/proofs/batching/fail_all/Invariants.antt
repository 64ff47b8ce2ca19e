use Rattle.ob_tables.proofs.Words.{failed_by, length, map, take, ◌≡◌}
use Rattle.ob_tables.proofs.batching.fail_all.Given as goal

abbrev pub invariant-loop-j : goal.invariant-loop-j
invariant-loop-j l =
    record {
      size : length l.outcomes ≡ length l.refusals;
      told : take l.j l.outcomes ≡ map failed_by (take l.j l.refusals);
    }

use Rattle.ob_tables.proofs.Words.{drop, given_all, length, take, ◌++◌, ◌≡◌, ◌≤◌}
use Rattle.ob_tables.proofs.batching.give_all.Given as goal

abbrev pub invariant-loop-j : goal.invariant-loop-j
invariant-loop-j l =
    record {
      size : length l.outcomes ≡ length l.refusals;
      within : l.given ≤ length l.answers;
      told : given_all (drop l.fn.given l.answers) l.refusals ≡ take l.j l.outcomes ++ given_all (drop l.given l.answers) (drop l.j l.refusals);
    }

use Rattle.ob_shell.proofs.Words.{drop, ◌≡◌}
use Rattle.ob_shell.proofs.batching.tally_all.Given as goal
use Rattle.ob_shell.specs.Lines.{line_answers}
use Rattle.ob_shell.specs.Tallies.{tally_after}

abbrev pub invariant-loop-i : goal.invariant-loop-i
invariant-loop-i l = record { counted : tally_after l.tally (line_answers (drop l.i l.outcomes)) ≡ tally_after l.initial.tally (line_answers l.outcomes) }

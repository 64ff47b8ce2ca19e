use Rattle.ob_shell.proofs.Words.{drop, List, Sends, ℕ, ◌++◌, ◌≡◌}
use Rattle.ob_shell.proofs.LineLemmas.{lines}
use Rattle.ob_shell.proofs.batching.write_pieces.Given as goal

abbrev pub invariant-loop-i : goal.invariant-loop-i
invariant-loop-i g l =
    record {
      so_far :
          (text : List ℕ) × Sends (g.K.Sink.written l.initial.out.out.now) (g.K.Sink.written l.out.out.now) l.initial.out.waiting.items l.out.waiting.items ⊥ text
          × (lines l.outcomes ≡ text ++ lines (drop l.i l.outcomes));
      same_sink : l.out.out.ghost_name ≡ l.initial.out.out.ghost_name;
      faults : g.K.Sink.faults l.out.out.now ≡ g.K.Sink.faults l.initial.out.out.now;
    }

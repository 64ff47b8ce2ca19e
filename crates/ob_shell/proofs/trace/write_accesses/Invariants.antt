use Rattle.ob_shell.proofs.Words.{drop, List, Sends, ℕ, ◌++◌, ◌≡◌}
use Rattle.ob_print.specs.Lines.{trace_text}
use Rattle.ob_shell.proofs.trace.write_accesses.Given as goal

abbrev pub invariant-loop-i : goal.invariant-loop-i
invariant-loop-i g l =
    record {
      so_far :
          (text : List ℕ)
          × Sends (g.T.Sink.written l.initial.trace.out.now) (g.T.Sink.written l.trace.out.now) l.initial.trace.waiting.items l.trace.waiting.items ⊥ text
          × (trace_text (drop l.fn.from (g.S.BlockStore.state l.store).asked) ≡ text ++ trace_text (drop l.i (g.S.BlockStore.state l.store).asked));
      same_sink : l.trace.out.ghost_name ≡ l.initial.trace.out.ghost_name;
      faults : g.T.Sink.faults l.trace.out.now ≡ g.T.Sink.faults l.initial.trace.out.now;
    }

use Rattle.std.proofs.Common.{◌≡◌, ◌++◌, ℕ, List, drop}
use Rattle.std.specs.List.{concat}
use Rattle.std.specs.Io.KnownBytes.{Appends}
use Rattle.ob_gen.proofs.summary.write_lines.Given as goal

abbrev pub invariant-loop-line : goal.invariant-loop-line
invariant-loop-line g l =
    record {
      so_far : (text : List ℕ) × Appends (g.K.Sink.written l.initial.out) (g.K.Sink.written l.out) text
          × (concat l.lines ≡ text ++ concat (drop l.line-index l.lines));
      faults : g.K.Sink.faults l.out ≡ g.K.Sink.faults l.initial.out;
    }

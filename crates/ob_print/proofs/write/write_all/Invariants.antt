use Rattle.std.proofs.Common.{length, ◌≡◌, ℕ, List, ◌++◌}
use Rattle.std.specs.Io.KnownBytes.{Appends}
use Rattle.ob_print.proofs.write.write_all.Given as goal

abbrev pub invariant-loop-rest : goal.invariant-loop-rest
invariant-loop-rest g l =
    (done : List ℕ) × (l.piece ≡ done ++ l.rest) × Appends (g.K.Sink.written l.initial.out) (g.K.Sink.written l.out) done
    × (g.K.Sink.faults l.out ≡ g.K.Sink.faults l.initial.out)

abbrev pub decreases-loop-rest : goal.decreases-loop-rest
decreases-loop-rest g l = length l.rest

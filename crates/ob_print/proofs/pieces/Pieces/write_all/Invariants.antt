use Rattle.std.proofs.Common.{◌≡◌, ◌+◌, ◌≤◌, ◌++◌, ℕ, List, length}
use Rattle.ob_print.specs.Sent.{Sends}
use Rattle.ob_print.proofs.pieces.Pieces.write_all.Given as goal

abbrev pub invariant-loop-rest : goal.invariant-loop-rest
invariant-loop-rest g l =
    record {
      so_far :
          (done : List ℕ) × (l.piece ≡ done ++ l.rest)
          × Sends (g.K.Sink.written l.initial.self.out.now) (g.K.Sink.written l.self.out.now) l.initial.self.waiting.items l.self.waiting.items ⊥ done;
      same_sink : l.self.out.ghost_name ≡ l.initial.self.out.ghost_name;
      faults : g.K.Sink.faults l.self.out.now ≡ g.K.Sink.faults l.initial.self.out.now;
      late :
          length l.initial.self.waiting.items + length l.piece ≤ 8192
          → (l.self.out.now ≡ l.initial.self.out.now) × (length l.self.waiting.items + length l.rest ≤ 8192);
    }

abbrev pub decreases-loop-rest : goal.decreases-loop-rest
decreases-loop-rest g l = length l.rest + length l.self.waiting.items

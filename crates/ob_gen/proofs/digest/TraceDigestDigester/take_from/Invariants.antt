use Rattle.std.proofs.Common.{take}
use Rattle.ob_print.specs.Lines.{trace_text}
use Rattle.sha2.specs.Hashers.{Holds256}
use Rattle.ob_gen.proofs.digest.TraceDigestDigester.take_from.Given as goal

abbrev pub invariant-loop-i : goal.invariant-loop-i
invariant-loop-i g l =
    Holds256 l.initial.self.hasher (trace_text (take l.fn.from (g.S.BlockStore.state l.store).asked))
    → Holds256 l.self.hasher (trace_text (take l.i (g.S.BlockStore.state l.store).asked))

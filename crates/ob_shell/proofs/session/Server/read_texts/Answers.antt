use Rattle.ob_shell.proofs.Words.{ap, arith, None, Ok, public_of, refl, ServesAlone, Some, ◌∙◌, ◌≡◌}
use Rattle.ob_shell.proofs.ServerLemmas.{keeps_all, keeps_then}
use Rattle.ob_shell.proofs.FeedLemmas.{fed_smaller}
use Rattle.ob_shell.proofs.ReadLemmas.{by_byte, by_room, finish_reads, more_cause, more_quiet, more_traced, read_input_limit, read_source_fault, read_stopped, read_untaken, so_far_end}
use Rattle.ob_shell.proofs.RunLemmas.{so_far_start, so_far_turn}
use Rattle.ob_shell.proofs.TraceLemmas.{traced_none, traced_then}
use Rattle.ob_shell.proofs.session.Server.read_texts.Goals as goal

pub bytes-init : goal.bytes-init
bytes-init g c = record {
  so_far = so_far_start _ _ _ _ _ _ _ _ _ _ c.requires.fresh c.requires.none c.requires.uncounted;
  short = rw c.requires.fresh (omega arith);
  ready = c.requires.ready.ready;
  waits = rw c.requires.none tt;
  keeps = keeps_all _;
  fed_by = c.requires.fed_by;
  source = refl;
  sink = refl;
  trace = refl;
  traced = traced_none _ _ _;
  took = c.requires.ready.took;
}

pub returns-in-Err-SourceFault-clause-reads : goal.returns-in-Err-SourceFault-clause-reads
returns-in-Err-SourceFault-clause-reads g c =
    let fetch = rw c.in-Err-SourceFault.field-0-is at c.in-Err-SourceFault.ensures in
    read_source_fault _ (so_far_end c.bytes.invariant.so_far fetch.fed) fetch.cause.1 c.bytes.invariant.short c.bytes.invariant.traced

pub returns-in-Err-InputLimit-clause-reads : goal.returns-in-Err-InputLimit-clause-reads
returns-in-Err-InputLimit-clause-reads g c =
    let fetch = rw c.in-Err-InputLimit.field-0-is at c.in-Err-InputLimit.ensures in
    read_input_limit _ (so_far_end c.bytes.invariant.so_far fetch.fed) fetch.cause.1 fetch.cause.2 c.bytes.invariant.traced

pub returns-in-Ok-None-clause-reads : goal.returns-in-Ok-None-clause-reads
returns-in-Ok-None-clause-reads g c =
    let fetch = rw c.in-Ok-None.field-0-is at c.in-Ok-None.ensures in
    let before = c.bytes.invariant in
    finish_reads _ _ _ _ _ _ (so_far_end before.so_far fetch.fed) fetch.cause.1 fetch.cause.2 fetch.cause.3 before.short before.traced _ _ _ c.finish.result before.waits before.sink c.finish.ensures.takes

pub returns-in-Ok-Some-take_byte-clause-reads : goal.returns-in-Ok-Some-take_byte-clause-reads
returns-in-Ok-Some-take_byte-clause-reads g c =
    let fetch = rw c.in-Ok-Some.field-0-is at c.in-Ok-Some.ensures in
    let left : c.take_byte.result ≡ Ok (Some c.in-Ok-Some-take_byte.stop) = c.in-Ok-Some-take_byte.is ∙ ap Ok c.in-Ok-Some-take_byte.field-0-is in
    let takes = rw left at c.take_byte.ensures.takes in
    read_untaken _ _ _ _ _ _ c.bytes.invariant.so_far fetch.fed fetch.cause.2 c.bytes.invariant.traced c.in-Ok-Some-take_byte.stop takes.0.done takes.0.traced takes.1

pub returns-in-Err-clause-reads : goal.returns-in-Err-clause-reads
returns-in-Err-clause-reads g c =
    let fetch = rw c.in-Ok-Some.field-0-is at c.in-Ok-Some.ensures in
    let before = c.bytes.invariant in
    read_stopped _ _ _ _ _ _ before.so_far fetch.fed fetch.cause.2 before.traced _ _ _ c.in-Err.halted before.waits before.sink c.in-Err.ensures.takes

pub bytes-smaller : goal.bytes-smaller
bytes-smaller g c =
    let fetch = rw c.in-Ok-Some.field-0-is at c.in-Ok-Some.ensures in fed_smaller _ fetch.fed fetch.within

pub bytes-preserved : goal.bytes-preserved
bytes-preserved g c =
    let fetch = rw c.in-Ok-Some.field-0-is at c.in-Ok-Some.ensures in
    let left : c.take_byte.result ≡ Ok None = c.in-Ok-None-take_byte.is ∙ ap Ok c.in-Ok-None-take_byte.field-0-is in
    let takes = rw left at c.take_byte.ensures.takes in
    let ready = rw left at c.take_byte.ensures.ready in
    let pending = c.take_byte.ensures.pending left in
    let before = c.bytes.invariant in
    record {
      so_far = so_far_turn before.so_far fetch.fed pending.0 takes.done;
      short = pending.1;
      ready = takes.ready;
      waits = takes.waits;
      keeps = keeps_then before.keeps c.take_byte.ensures.keeps;
      fed_by = fetch.fed_by;
      source = fetch.cause.0 ∙ before.source;
      sink = takes.cause.out ∙ before.sink;
      trace = takes.cause.trace ∙ before.trace;
      traced = traced_then before.traced takes.traced;
      took = ready.took;
    }

pub returns-in-Ok-None-clause-traced : goal.returns-in-Ok-None-clause-traced
returns-in-Ok-None-clause-traced g c = more_traced _ _ _ _ _ _ _ _ _ _ _ _ _ _ _ _ _ _ _ _ c.finish.result c.bytes.invariant.traced c.finish.ensures.takes

pub returns-in-Ok-Some-take_byte-clause-traced : goal.returns-in-Ok-Some-take_byte-clause-traced
returns-in-Ok-Some-take_byte-clause-traced g c =
    let left : c.take_byte.result ≡ Ok (Some c.in-Ok-Some-take_byte.stop) = c.in-Ok-Some-take_byte.is ∙ ap Ok c.in-Ok-Some-take_byte.field-0-is in
    rw left at
    (more_traced _ _ _ _ _ _ _ _ _ _ _ _ _ _ _ _ _ _ _ _ c.take_byte.result c.bytes.invariant.traced c.take_byte.ensures.takes)

pub returns-in-Err-clause-traced : goal.returns-in-Err-clause-traced
returns-in-Err-clause-traced g c =
    rw c.in-Err.is at
    (more_traced _ _ _ _ _ _ _ _ _ _ _ _ _ _ _ _ _ _ _ _ c.take_byte.result c.bytes.invariant.traced c.take_byte.ensures.takes)

pub returns-in-Ok-None-clause-cause : goal.returns-in-Ok-None-clause-cause
returns-in-Ok-None-clause-cause g c =
    let fetch = rw c.in-Ok-None.field-0-is at c.in-Ok-None.ensures in
    let before = c.bytes.invariant in
    let there = c.finish.new in
    more_cause _ _ _ _ _ _ _ _ _ _ _ _ _ _ _ _ _ _ (g.I.Source.faults c.args.input.now) (g.I.Source.faults c.next.new.source) (g.K.Sink.faults c.args.self.now.out.now) (g.T.Sink.faults c.args.self.now.trace.now) (g.K.Sink.faults c.bytes.self.out.now, g.T.Sink.faults c.bytes.self.trace.now) (g.K.Sink.faults there.self.out.now, g.T.Sink.faults there.self.trace.now)
    (fetch.cause.0 ∙ before.source) before.sink before.trace c.finish.result by_room c.finish.ensures.takes

pub returns-in-Ok-Some-take_byte-clause-cause : goal.returns-in-Ok-Some-take_byte-clause-cause
returns-in-Ok-Some-take_byte-clause-cause g c =
    let left : c.take_byte.result ≡ Ok (Some c.in-Ok-Some-take_byte.stop) = c.in-Ok-Some-take_byte.is ∙ ap Ok c.in-Ok-Some-take_byte.field-0-is in
    let fetch = rw c.in-Ok-Some.field-0-is at c.in-Ok-Some.ensures in
    let before = c.bytes.invariant in
    let there = c.take_byte.new in
    rw left at
    (more_cause _ _ _ _ _ _ _ _ _ _ _ _ _ _ _ _ _ (ServesAlone c.args.manner.flight (public_of c.args.self.now.engine.now)) (g.I.Source.faults c.args.input.now) (g.I.Source.faults c.next.new.source) (g.K.Sink.faults c.args.self.now.out.now) (g.T.Sink.faults c.args.self.now.trace.now) (g.K.Sink.faults c.bytes.self.out.now, g.T.Sink.faults c.bytes.self.trace.now) (g.K.Sink.faults there.self.out.now, g.T.Sink.faults there.self.trace.now) (fetch.cause.0 ∙ before.source) before.sink before.trace c.take_byte.result (by_byte c.bytes.session.pending c.in-Ok-Some.b) c.take_byte.ensures.takes)

pub returns-in-Err-clause-cause : goal.returns-in-Err-clause-cause
returns-in-Err-clause-cause g c =
    let fetch = rw c.in-Ok-Some.field-0-is at c.in-Ok-Some.ensures in
    let before = c.bytes.invariant in
    let there = c.take_byte.new in
    rw c.in-Err.is at
    (more_cause _ _ _ _ _ _ _ _ _ _ _ _ _ _ _ _ _ (ServesAlone c.args.manner.flight (public_of c.args.self.now.engine.now)) (g.I.Source.faults c.args.input.now) (g.I.Source.faults c.next.new.source) (g.K.Sink.faults c.args.self.now.out.now) (g.T.Sink.faults c.args.self.now.trace.now) (g.K.Sink.faults c.bytes.self.out.now, g.T.Sink.faults c.bytes.self.trace.now) (g.K.Sink.faults there.self.out.now, g.T.Sink.faults there.self.trace.now) (fetch.cause.0 ∙ before.source) before.sink before.trace c.take_byte.result (by_byte c.bytes.session.pending c.in-Ok-Some.b) c.take_byte.ensures.takes)

pub returns-in-Ok-None-clause-quiet : goal.returns-in-Ok-None-clause-quiet
returns-in-Ok-None-clause-quiet g c =
    let before = c.bytes.invariant in
    let there = c.finish.new in
    more_quiet _ _ _ _ _ _ _ _ _ _ _ _ _ _ _ _ _ (g.I.Source.faults c.args.input.now) (g.I.Source.faults c.next.new.source) (g.K.Sink.faults c.args.self.now.out.now) (g.T.Sink.faults c.args.self.now.trace.now) (g.K.Sink.faults c.bytes.self.out.now, g.T.Sink.faults c.bytes.self.trace.now) (g.K.Sink.faults there.self.out.now, g.T.Sink.faults there.self.trace.now) before.sink before.trace c.finish.result
    c.finish.ensures.takes

pub returns-in-Ok-Some-take_byte-clause-quiet : goal.returns-in-Ok-Some-take_byte-clause-quiet
returns-in-Ok-Some-take_byte-clause-quiet g c =
    let left : c.take_byte.result ≡ Ok (Some c.in-Ok-Some-take_byte.stop) = c.in-Ok-Some-take_byte.is ∙ ap Ok c.in-Ok-Some-take_byte.field-0-is in
    let before = c.bytes.invariant in
    let there = c.take_byte.new in
    rw left at
    (more_quiet _ _ _ _ _ _ _ _ _ _ _ _ _ _ _ _ _ (g.I.Source.faults c.args.input.now) (g.I.Source.faults c.next.new.source) (g.K.Sink.faults c.args.self.now.out.now) (g.T.Sink.faults c.args.self.now.trace.now) (g.K.Sink.faults c.bytes.self.out.now, g.T.Sink.faults c.bytes.self.trace.now) (g.K.Sink.faults there.self.out.now, g.T.Sink.faults there.self.trace.now) before.sink before.trace c.take_byte.result c.take_byte.ensures.takes)

pub returns-in-Err-clause-quiet : goal.returns-in-Err-clause-quiet
returns-in-Err-clause-quiet g c =
    let before = c.bytes.invariant in
    let there = c.take_byte.new in
    rw c.in-Err.is at
    (more_quiet _ _ _ _ _ _ _ _ _ _ _ _ _ _ _ _ _ (g.I.Source.faults c.args.input.now) (g.I.Source.faults c.next.new.source) (g.K.Sink.faults c.args.self.now.out.now) (g.T.Sink.faults c.args.self.now.trace.now) (g.K.Sink.faults c.bytes.self.out.now, g.T.Sink.faults c.bytes.self.trace.now) (g.K.Sink.faults there.self.out.now, g.T.Sink.faults there.self.trace.now) before.sink before.trace c.take_byte.result c.take_byte.ensures.takes)

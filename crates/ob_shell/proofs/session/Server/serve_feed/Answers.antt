use Rattle.ob_shell.proofs.Words.{count_of, false, OutFailed, public_of, session_stop, Tally, ◌∙◌}
use Rattle.ob_shell.proofs.CountLemmas.{same_cause}
use Rattle.ob_shell.proofs.GatherLemmas.{are_batched}
use Rattle.ob_shell.proofs.RunLemmas.{ran_flushed, ran_unflushed}
use Rattle.ob_shell.proofs.ServedLemmas.{alone_read, read_later, stop_stays, unsilenced, waited_quiet, waited_stops}
use Rattle.ob_shell.proofs.TraceLemmas.{traced_cut, traced_then, traced_whole}
use Rattle.ob_shell.proofs.session.Server.serve_feed.Goals as goal

pub flush-requires : goal.flush-requires
flush-requires g c =
    let e = c.read_texts.new.self.engine.now in
    record { waits = are_batched c.args.manner.flight (public_of e) (count_of e (g.S.BlockStore.state c.read_texts.new.self.store.now)) c.read_texts.new.session.batch.items c.in-Ok.ensures.waits; ready = c.in-Ok.ensures.ready }

-- ---- those that waited were served
pub returns-in-None-clause-ran : goal.returns-in-None-clause-ran
returns-in-None-clause-ran g c =
    let flushed = rw c.in-Ok-flush.ensures.none at c.in-Ok-flush.ensures.flushes in
    rw c.in-None.is at (ran_flushed {Lost = OutFailed false (g.K.Sink.faults c.args.self.now.out.now) (g.K.Sink.faults c.flush.new.self.out.now)} c.in-Ok.left c.in-Ok.ensures.reads flushed.done flushed.traced)

pub returns-in-Some-clause-ran : goal.returns-in-Some-clause-ran
returns-in-Some-clause-ran g c =
    let flushed = rw c.in-Ok-flush.ensures.none at c.in-Ok-flush.ensures.flushes in
    rw c.in-Some.is at (ran_flushed {Lost = OutFailed false (g.K.Sink.faults c.args.self.now.out.now) (g.K.Sink.faults c.flush.new.self.out.now)} c.in-Ok.left c.in-Ok.ensures.reads flushed.done flushed.traced)

pub returns-in-None-clause-traced : goal.returns-in-None-clause-traced
returns-in-None-clause-traced g c = traced_whole _ (traced_then c.in-Ok.ensures.reads.traced c.in-Ok-flush.ensures.flushes.traced)

pub returns-in-Some-clause-traced : goal.returns-in-Some-clause-traced
returns-in-Some-clause-traced g c = traced_whole _ (traced_then c.in-Ok.ensures.reads.traced c.in-Ok-flush.ensures.flushes.traced)

pub returns-in-None-clause-cause : goal.returns-in-None-clause-cause
returns-in-None-clause-cause g c =
    let before = rw c.in-None.is at c.in-Ok.ensures.cause in
    let now = c.in-Ok-flush.ensures.flushes.cause in
    record { source = before.source; out = now.out ∙ before.out; trace = now.trace ∙ before.trace }

pub returns-in-Some-clause-cause : goal.returns-in-Some-clause-cause
returns-in-Some-clause-cause g c =
    let cause = rw c.in-Some.is at c.in-Ok.ensures.cause in
    let now = c.in-Ok-flush.ensures.flushes.cause in
    let there = c.read_texts.new in
    let end = c.flush.new in
    same_cause _ (Unit {0}) Tally c.in-Some.stop _ _
    (stop_stays (Unit {0}) _ c.in-Some.stop (g.I.Source.faults c.args.input.now) (g.I.Source.faults there.input) (g.K.Sink.faults c.args.self.now.out.now, g.T.Sink.faults c.args.self.now.trace.now) (g.K.Sink.faults there.self.out.now, g.T.Sink.faults there.self.trace.now)
    (g.K.Sink.faults end.self.out.now, g.T.Sink.faults end.self.trace.now) now.out now.trace cause)

pub returns-in-None-clause-quiet : goal.returns-in-None-clause-quiet
returns-in-None-clause-quiet g c =
    let before = unsilenced c.in-Ok.left _ _ c.in-Ok.ensures.quiet in
    let now = c.in-Ok-flush.ensures.flushes.quiet in
    (now.0 ∙ before.0, now.1 ∙ before.1)

pub returns-in-Some-clause-quiet : goal.returns-in-Some-clause-quiet
returns-in-Some-clause-quiet g c =
    let before = unsilenced c.in-Ok.left _ _ c.in-Ok.ensures.quiet in
    let now = c.in-Ok-flush.ensures.flushes.quiet in
    (now.0 ∙ before.0, now.1 ∙ before.1)

-- ---- one of them was stopped
pub returns-in-Err-flush-clause-ran : goal.returns-in-Err-flush-clause-ran
returns-in-Err-flush-clause-ran g c =
    let before = unsilenced c.in-Ok.left _ _ c.in-Ok.ensures.quiet in
    rw c.from.ensures (ran_unflushed c.in-Ok.left c.in-Err-flush.halted.stop c.in-Ok.ensures.reads c.in-Ok.ensures.waits (rw before.0 at c.in-Err-flush.ensures.flushes.stopped))

pub returns-in-Err-flush-clause-traced : goal.returns-in-Err-flush-clause-traced
returns-in-Err-flush-clause-traced g c = rw c.from.ensures (traced_cut c.in-Ok.ensures.reads.traced c.in-Err-flush.ensures.flushes.traced_stop)

-- the source may have failed before, where INSERTs are served together
pub returns-in-Err-flush-clause-cause : goal.returns-in-Err-flush-clause-cause
returns-in-Err-flush-clause-cause g c =
    let before = unsilenced c.in-Ok.left _ _ c.in-Ok.ensures.quiet in
    let there = c.read_texts.new in
    let end = c.flush.new in
    rw c.from.ensures
    (waited_stops (Unit {0}) Tally _ c.in-Err-flush.halted.stop (g.I.Source.faults c.args.input.now) (g.I.Source.faults there.input) (g.K.Sink.faults c.args.self.now.out.now, g.T.Sink.faults c.args.self.now.trace.now) (g.K.Sink.faults there.self.out.now, g.T.Sink.faults there.self.trace.now)
    (g.K.Sink.faults end.self.out.now, g.T.Sink.faults end.self.trace.now) (λ alone. absurd (alone_read c.in-Ok.ensures.reads c.in-Ok.ensures.waits c.in-Err-flush.ensures.idle alone), read_later _ c.in-Ok.left _ _ c.in-Ok.ensures.cause) before.0 before.1 c.in-Err-flush.ensures.flushes.cause)

pub returns-in-Err-flush-clause-quiet : goal.returns-in-Err-flush-clause-quiet
returns-in-Err-flush-clause-quiet g c =
    let before = unsilenced c.in-Ok.left _ _ c.in-Ok.ensures.quiet in
    let there = c.read_texts.new in
    let end = c.flush.new in
    rw c.from.ensures
    (waited_quiet c.in-Err-flush.halted.quiet (g.I.Source.faults c.args.input.now) (g.I.Source.faults there.input) (g.K.Sink.faults c.args.self.now.out.now, g.T.Sink.faults c.args.self.now.trace.now) (g.K.Sink.faults there.self.out.now, g.T.Sink.faults there.self.trace.now)
    (g.K.Sink.faults end.self.out.now, g.T.Sink.faults end.self.trace.now) before.0 before.1 c.in-Err-flush.ensures.flushes.quiet)

-- ---- one of those that were read was stopped
pub returns-in-Err-clause-ran : goal.returns-in-Err-clause-ran
returns-in-Err-clause-ran g c = rw c.from-in-Err.ensures c.in-Err.ensures.reads

pub returns-in-Err-clause-traced : goal.returns-in-Err-clause-traced
returns-in-Err-clause-traced g c = rw c.from-in-Err.ensures c.in-Err.ensures.traced

pub returns-in-Err-clause-cause : goal.returns-in-Err-clause-cause
returns-in-Err-clause-cause g c = rw c.from-in-Err.ensures (same_cause _ (Unit {0}) Tally (session_stop c.in-Err.halted.stop) _ _ c.in-Err.ensures.cause)

pub returns-in-Err-clause-quiet : goal.returns-in-Err-clause-quiet
returns-in-Err-clause-quiet g c = rw c.from-in-Err.ensures c.in-Err.ensures.quiet

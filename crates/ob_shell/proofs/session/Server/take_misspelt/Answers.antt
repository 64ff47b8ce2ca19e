use Rattle.ob_shell.proofs.Words.{count_of, Err, flights_of, Gathered, inl, machine_of, None, Ok, Option, Outputs-fault, public_of, refl, session_stop, Stop, true, [], ◌∙◌, ◌∷◌}
use Rattle.ob_shell.proofs.CountLemmas.{same_cause}
use Rattle.ob_shell.proofs.GatherLemmas.{are_batched, comes_free}
use Rattle.ob_shell.proofs.TakesLemmas.{comes_by, loses_misspelt, takes_broken, takes_misspelt, takes_then}
use Rattle.ob_tables.specs.declared.stop.RunStop.TheVariants.{SinkFault}
use Rattle.ob_shell.proofs.session.Server.take_misspelt.Goals as goal

pub flush-requires-clause-waits : goal.flush-requires-clause-waits
flush-requires-clause-waits g c =
    let s = c.args.self.now in
    are_batched c.args.manner.flight (public_of s.engine.now) (count_of s.engine.now (g.S.BlockStore.state s.store.now)) c.args.session.now.batch.items c.requires.waits

pub returns-in-Err-clause-takes : goal.returns-in-Err-clause-takes
returns-in-Err-clause-takes g c =
    takes_broken c.in-Err.halted (c.args.session.now.pending ∷ []) (λ h free. comes_free c.args.manner.flight (public_of c.args.self.now.engine.now) c.args.session.now.batch.items h free)
    (same_cause _ (Unit {0}) (Option Stop) (session_stop c.in-Err.halted.stop) _ _ c.in-Err.ensures.flushes.cause) c.in-Err.ensures.flushes

pub returns-in-Ok-clause-takes : goal.returns-in-Ok-clause-takes
returns-in-Ok-clause-takes g c =
    let bare = rw c.in_default.ensures.none at c.in_default.ensures.flushes in
    let flushed = comes_by (Ok tt) (λ h free. comes_free c.args.manner.flight (public_of c.args.self.now.engine.now) c.args.session.now.batch.items h free) bare in
    let line = c.as_bytes.ensures ∙ c.closing_line.ensures in
    let m = machine_of c.flush.new.self.engine.now (g.S.BlockStore.state c.flush.new.self.store.now) (g.B.Commit.state c.flush.new.self.commit.now) (flights_of c.args.manner.flight c.flush.new.session.turns.last) in
    rw (c.in_default.ensures.none, c.tally_with-session.ensures)
    (takes_then flushed (λ h k free closed. tt {0}) (c.args.session.now.pending ∷ []) (Ok None) (λ h k l free closed then. then)
    (takes_misspelt c.args.manner.tracing {May = λ (h : Gathered). Unit {0}} _ m refl c.args.session.now.pending c.args.at c.requires.spells _ None flushed.ready (record { source = refl; out = c.in-Ok.ensures.cause.kept; trace = refl }) (rw line at c.in-Ok.ensures.ok) (c.in-Ok.ensures.cause.kept, refl)))

pub returns-in-Err-write_all-clause-takes : goal.returns-in-Err-write_all-clause-takes
returns-in-Err-write_all-clause-takes g c =
    let bare = rw c.in_default.ensures.none at c.in_default.ensures.flushes in
    let flushed = comes_by (Ok tt) (λ h free. comes_free c.args.manner.flight (public_of c.args.self.now.engine.now) c.args.session.now.batch.items h free) bare in
    let line = c.as_bytes.ensures ∙ c.closing_line.ensures in
    let m = machine_of c.flush.new.self.engine.now (g.S.BlockStore.state c.flush.new.self.store.now) (g.B.Commit.state c.flush.new.self.commit.now) (flights_of c.args.manner.flight c.flush.new.session.turns.last) in
    takes_then flushed (λ h k free closed. tt {0}) (c.args.session.now.pending ∷ []) (Err (record { stop = SinkFault; quiet = true })) (λ h k l free closed then. then)
    (loses_misspelt c.args.manner.tracing {May = λ (h : Gathered). Unit {0}} _ m refl c.args.session.now.pending c.args.at c.requires.spells _ _ refl ((λ alone. refl, inl refl), inl c.in-Err-write_all.ensures.cause.failed) (Outputs-fault (refl, c.in-Err-write_all.ensures.cause.failed) (rw line at c.in-Err-write_all.ensures.cut)) (inl c.in-Err-write_all.ensures.cause.failed))

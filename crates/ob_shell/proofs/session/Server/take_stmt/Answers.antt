use Rattle.ob_shell.proofs.Words.{count_of, false, Ok, Option, public_of, session_stop, Stop, sym, [], ◌∙◌, ◌∷◌, ◌≡◌}
use Rattle.ob_shell.proofs.CountLemmas.{same_cause}
use Rattle.ob_shell.proofs.GatherLemmas.{are_batched, comes_free, free_behind, free_more, goes_more, idle_public}
use Rattle.ob_shell.proofs.TakesLemmas.{comes_by, takes_broken, takes_until_by, takes_until_then}
use Rattle.ob_shell.proofs.session.Server.take_stmt.Goals as goal
use Rattle.ob_shell.specs.Waiting.{goes_along}

pub gather-requires-clause-goes : goal.gather-requires-clause-goes
gather-requires-clause-goes g c =
    let s = c.args.self.now in
    let goes = sym (c.goes_along.ensures ∙ (λ i. goes_along (c.public.ensures i) (c.as_slice.ensures.value i) c.args.stmt)) ∙ c.if-goes_along.true in
    goes_more c.args.manner.flight (public_of s.engine.now) (count_of s.engine.now (g.S.BlockStore.state s.store.now)) c.args.session.now.batch.items c.args.stmt c.requires.waits goes

pub returns-then-goes_along-clause-takes : goal.returns-then-goes_along-clause-takes
returns-then-goes_along-clause-takes g c =
    let goes = sym (c.goes_along.ensures ∙ (λ i. goes_along (c.public.ensures i) (c.as_slice.ensures.value i) c.args.stmt)) ∙ c.if-goes_along.true in
    takes_until_by _ _ _ _ _ _ _ _ _ _ _ _ _ _ _ _ _ _ c.gather.result (λ h free. free_more c.args.manner.flight (public_of c.args.self.now.engine.now) c.args.session.now.batch.items c.args.stmt h goes free) c.gather.ensures.takes

pub flush-requires-clause-waits : goal.flush-requires-clause-waits
flush-requires-clause-waits g c =
    let s = c.args.self.now in
    are_batched c.args.manner.flight (public_of s.engine.now) (count_of s.engine.now (g.S.BlockStore.state s.store.now)) c.args.session.now.batch.items c.requires.waits

pub returns-in-Ok-clause-takes : goal.returns-in-Ok-clause-takes
returns-in-Ok-clause-takes g c =
    let s = c.args.self.now in
    let e = s.engine.now in
    let batch = c.args.session.now.batch.items in
    let apart : goes_along (public_of e) batch c.args.stmt ≡ false = sym (c.goes_along.ensures ∙ (λ i. goes_along (c.public.ensures i) (c.as_slice.ensures.value i) c.args.stmt)) ∙ c.if-goes_along.false in
    let begun = rw c.flush.ensures.pending at c.begin.ensures.takes in
    let flushed = comes_by (Ok tt) (λ h free. comes_free c.args.manner.flight (public_of e) batch h free) c.in-Ok.ensures.flushes in
    takes_until_then flushed
    (λ h k free closed. free_behind c.args.manner.flight (public_of e) (public_of c.flush.new.self.engine.now) (count_of e (g.S.BlockStore.state s.store.now)) batch c.args.stmt h k c.requires.waits apart (λ none. idle_public flushed h free none) free closed)
    (λ h k l free closed then. then) (c.args.session.now.pending ∷ []) _ _ _ _ _ _ _ _ c.begin.result begun

pub returns-in-Err-clause-takes : goal.returns-in-Err-clause-takes
returns-in-Err-clause-takes g c =
    takes_broken c.in-Err.halted (c.args.session.now.pending ∷ []) (λ h free. comes_free c.args.manner.flight (public_of c.args.self.now.engine.now) c.args.session.now.batch.items h free)
    (same_cause _ (Unit {0}) (Option Stop) (session_stop c.in-Err.halted.stop) _ _ c.in-Err.ensures.flushes.cause) c.in-Err.ensures.flushes

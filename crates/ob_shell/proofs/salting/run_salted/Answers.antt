use Rattle.ob_shell.proofs.Words.{ap, inl, KeptEnded, refl, stop_of}
use Rattle.ob_shell.proofs.KeepLemmas.{unkeyed_fault, unkeyed_line}
use Rattle.ob_shell.proofs.SaltedRunLemmas.{last_salted, secret_salted, undrawn}
use Rattle.ob_shell.proofs.TallyLemmas.{plain_whole}
use Rattle.ob_shell.proofs.salting.run_salted.Goals as goal

pub returns-in-Err-SourceFault-clause-ran : goal.returns-in-Err-SourceFault-clause-ran
returns-in-Err-SourceFault-clause-ran g c =
    let new = c.new-feed.ensures in
    let read = rw c.in-Err-SourceFault.field-0-is at c.in-Err-SourceFault.ensures in
    rw (c.kept_at.ensures, c.stopped.ensures)
    (inl (unkeyed_fault c.args.words.config c.args.words.flight c.args.words.trace _ _ new.unread new.taken new.limit _ _ _ _ _ _ _ _ _ _ _ read.within read.fed_by
    (record {
      unasked = c.requires.fresh;
      honest = g.met.S.BlockStore.starts_honest c.args.store.now c.requires.fresh;
      empty = λ q. g.met.S.BlockStore.starts_empty c.args.store.now q c.requires.fresh;
    }) read.read read.cause))

pub returns-in-Ok-Bad-clause-ran : goal.returns-in-Ok-Bad-clause-ran
returns-in-Ok-Bad-clause-ran g c =
    let new = c.new-feed.ensures in
    let read = rw c.in-Ok-Bad.field-0-is at c.in-Ok-Bad.ensures in
    rw (c.kept_at-in-Ok-Bad.ensures, read.cause)
    (inl (unkeyed_line c.args.words.config c.args.words.flight c.args.words.trace _ _ new.unread new.taken new.limit _ _ _ _ _ _ _ _ _ _ read.within read.fed_by
    (record {
      unasked = c.requires.fresh;
      honest = g.met.S.BlockStore.starts_honest c.args.store.now c.requires.fresh;
      empty = λ q. g.met.S.BlockStore.starts_empty c.args.store.now q c.requires.fresh;
    }) read.read))

pub returns-in-Err-clause-ran : goal.returns-in-Err-clause-ran
returns-in-Err-clause-ran g c =
    let new = c.new-feed.ensures in
    let read = rw c.in-Ok-Last.field-0-is at c.in-Ok-Last.ensures in
    rw read.cause
    (undrawn c.args.words.config c.args.words.flight c.args.words.trace _ _ new.unread new.taken new.limit _ _ _ _ c.in-Err.ended _ _ _ _ _ _ read.within read.fed_by read.read read.read.ends.0 c.in-Err.ensures.err)

pub returns-in-Ok-clause-ran : goal.returns-in-Ok-clause-ran
returns-in-Ok-clause-ran g c =
    let new = c.new-feed.ensures in
    let read = rw c.in-Ok-Last.field-0-is at c.in-Ok-Last.ensures in
    let ended = c.ended_with.ensures in
    rw read.cause
    (last_salted c.args.words.config c.args.words.flight c.args.words.trace _ _ new.unread new.taken new.limit _ _ _ _ _ _ _ _ _ _ _ _ read.within read.fed_by
    (record {
      unasked = c.requires.fresh;
      honest = g.met.S.BlockStore.starts_honest c.args.store.now c.requires.fresh;
      empty = λ q. g.met.S.BlockStore.starts_empty c.args.store.now q c.requires.fresh;
    }) read.read c.in-Ok.ensures.ok (rw (c.plainly.ensures, ended.ending, ended.high, ended.quiet, ended.tally, c.new.ensures) refl))

pub returns-in-Err-draw_salt-clause-ran : goal.returns-in-Err-draw_salt-clause-ran
returns-in-Err-draw_salt-clause-ran g c =
    let new = c.new-feed.ensures in
    let read = rw c.in-Ok-Secret.field-0-is at c.in-Ok-Secret.ensures in
    rw read.cause
    (undrawn c.args.words.config c.args.words.flight c.args.words.trace _ _ new.unread new.taken new.limit _ _ _ c.in-Ok-Secret.key c.in-Err-draw_salt.ended _ _ _ _ _ _ read.within read.fed_by read.read read.read.ends.0 c.in-Err-draw_salt.ensures.err)

pub returns-in-Ok-draw_salt-clause-ran : goal.returns-in-Ok-draw_salt-clause-ran
returns-in-Ok-draw_salt-clause-ran g c =
    let new = c.new-feed.ensures in
    let read = rw c.in-Ok-Secret.field-0-is at c.in-Ok-Secret.ensures in
    let run = c.serve_salted-ran.ensures in
    let ended = c.ended_with-in-Ok-draw_salt.ensures in
    let cause = rw read.cause at run.cause in
    let quiet = rw read.cause at run.quiet in
    rw (c.plainly-in-Ok-draw_salt.ensures, ended.ending, ended.high, ended.quiet)
    (secret_salted c.args.words.config c.args.words.flight c.args.words.trace _ _ new.unread new.taken new.limit _ _ _ _ c.in-Ok-Secret.key c.in-Ok-draw_salt.salt (stop_of c.serve_salted-ran.result.0) _ _ _ _ _ _ _ _ _ _ _ _ _ run.within run.fed_by read.read c.in-Ok-draw_salt.ensures.ok
    run.ran run.traced cause quiet refl ended.tally)

pub returns-in-Ok-draw_salt-clause-took : goal.returns-in-Ok-draw_salt-clause-took
returns-in-Ok-draw_salt-clause-took g c =
    λ refused is. plain_whole c.serve_salted-ran.result.0 c.ended_with-in-Ok-draw_salt.result.ending _ refused c.ended_with-in-Ok-draw_salt.ensures.ending (ap (λ (k : KeptEnded). k.ending) c.plainly-in-Ok-draw_salt.ensures) is c.serve_salted-ran.ensures.took

use Rattle.ob_shell.proofs.Words.{inl, inr, refl, ◌∙◌}
use Rattle.ob_shell.proofs.KeepLemmas.{unkeyed_fault, unkeyed_line}
use Rattle.ob_shell.proofs.SavedRunLemmas.{last_saved, secret_saved, unsaved}
use Rattle.ob_shell.proofs.saving.run_saved.Goals as goal

pub returns-in-Err-SourceFault-clause-ran : goal.returns-in-Err-SourceFault-clause-ran
returns-in-Err-SourceFault-clause-ran g c =
    let new = c.new-feed.ensures in
    let read = rw c.in-Err-SourceFault.field-0-is at c.in-Err-SourceFault.ensures in
    rw (c.kept_at.ensures, c.stopped.ensures)
    (inl (unkeyed_fault c.args.words.config c.args.words.flight c.args.words.trace _ _ new.unread new.taken new.limit _ _ _ _ _ _ _ _ _ _ _ read.within read.fed_by
    (record {
      unasked = c.requires.fresh;
      honest = g.met.S.BlockStore.starts_honest c.args.store.now c.requires.fresh;
      empty = λ q. g.met.S.BlockStore.starts_empty c.args.store.now q c.requires.fresh;
    }) read.read read.cause))

pub returns-in-Ok-Bad-clause-ran : goal.returns-in-Ok-Bad-clause-ran
returns-in-Ok-Bad-clause-ran g c =
    let new = c.new-feed.ensures in
    let read = rw c.in-Ok-Bad.field-0-is at c.in-Ok-Bad.ensures in
    rw (c.kept_at-in-Ok-Bad.ensures, read.cause)
    (inl (unkeyed_line c.args.words.config c.args.words.flight c.args.words.trace _ _ new.unread new.taken new.limit _ _ _ _ _ _ _ _ _ _ read.within read.fed_by
    (record {
      unasked = c.requires.fresh;
      honest = g.met.S.BlockStore.starts_honest c.args.store.now c.requires.fresh;
      empty = λ q. g.met.S.BlockStore.starts_empty c.args.store.now q c.requires.fresh;
    }) read.read))

pub returns-in-Err-clause-ran : goal.returns-in-Err-clause-ran
returns-in-Err-clause-ran g c =
    let new = c.new-feed.ensures in
    let read = rw c.in-Ok-Last.field-0-is at c.in-Ok-Last.ensures in
    rw read.cause
    (inr (inl (unsaved c.args.words.config c.args.words.trace _ _ new.unread new.taken new.limit _ _ _ c.in-Ok-Last.key c.in-Err.ended _ _ _ _ _ _ _ _ _ _ _ read.within read.fed_by read.read read.read.ends.0 c.in-Err.ensures.err)))

pub returns-in-Ok-clause-ran : goal.returns-in-Ok-clause-ran
returns-in-Ok-clause-ran g c =
    let new = c.new-feed.ensures in
    let read = rw c.in-Ok-Last.field-0-is at c.in-Ok-Last.ensures in
    let starts = c.in-Ok.ensures.ok in
    let ended = c.ended_with.ensures in
    rw (read.cause, c.plainly.ensures)
    (last_saved _ c.args.words.config c.args.words.flight c.in-Ok-Last.key c.args.words.trace _ _ new.unread new.taken new.limit _ _ _ _ c.in-Ok.engine _ _ _ _ _ _ _ _ _ starts _ read.read read.within read.fed_by
    (rw ended.high c.high.ensures.most) (rw ended.high c.high.ensures.value) (rw ended.quiet refl) (rw (ended.ending, c.new.ensures) refl) (ended.tally ∙ c.new.ensures))

pub returns-in-Err-start_saving-clause-ran : goal.returns-in-Err-start_saving-clause-ran
returns-in-Err-start_saving-clause-ran g c =
    let new = c.new-feed.ensures in
    let read = rw c.in-Ok-Secret.field-0-is at c.in-Ok-Secret.ensures in
    rw read.cause
    (inr (inl (unsaved c.args.words.config c.args.words.trace _ _ new.unread new.taken new.limit _ _ _ c.in-Ok-Secret.key c.in-Err-start_saving.ended _ _ _ _ _ _ _ _ _ _ _ read.within read.fed_by read.read read.read.ends.0
    c.in-Err-start_saving.ensures.err)))

pub returns-in-Ok-start_saving-clause-ran : goal.returns-in-Ok-start_saving-clause-ran
returns-in-Ok-start_saving-clause-ran g c =
    let new = c.new-feed.ensures in
    let read = rw c.in-Ok-Secret.field-0-is at c.in-Ok-Secret.ensures in
    let starts = c.in-Ok-start_saving.ensures.ok in
    let run = c.serve_saving.ensures in
    let served = rw read.cause at (run.served starts.base c.args.words.config starts.keys c.in-Ok-Secret.key starts.salt starts.engages) in
    secret_saved _ c.args.words.config c.args.words.flight c.in-Ok-Secret.key c.args.words.trace _ _ new.unread new.taken new.limit _ _ _ _ c.in-Ok-start_saving.engine _ _ _ _ _ _ _ _ _ _ _ _ starts c.serve_saving.result
    _ _ _ _ read.read run.within run.fed_by served

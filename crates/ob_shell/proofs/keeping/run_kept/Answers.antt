use Rattle.ob_shell.proofs.Words.{ap, AreFlat, headings_of, inl, inr, Public, subst, sym, ◌∙◌}
use Rattle.ob_shell.proofs.KeepLemmas.{unbegun, unkeyed_fault, unkeyed_line}
use Rattle.ob_shell.proofs.KeepRunLemmas.{last_ran, secret_ran}
use Rattle.ob_shell.proofs.keeping.run_kept.Goals as goal

pub returns-in-Err-SourceFault-clause-ran : goal.returns-in-Err-SourceFault-clause-ran
returns-in-Err-SourceFault-clause-ran g c =
    let new = c.new-feed.ensures in
    let read = rw c.in-Err-SourceFault.field-0-is at c.in-Err-SourceFault.ensures in
    rw (c.kept_at.ensures, c.stopped.ensures)
    (inl (unkeyed_fault c.args.words.config c.args.words.flight c.args.words.trace _ _ new.unread new.taken new.limit _ _ _ _ _ _ _ _ _ _ _ read.within read.fed_by
    (record {
      unasked = c.requires.fresh;
      honest = g.met.S.BlockStore.starts_honest c.args.store.now c.requires.fresh;
      empty = λ q. g.met.S.BlockStore.starts_empty c.args.store.now q c.requires.fresh;
    }) read.read read.cause))

pub returns-in-Ok-Bad-clause-ran : goal.returns-in-Ok-Bad-clause-ran
returns-in-Ok-Bad-clause-ran g c =
    let new = c.new-feed.ensures in
    let read = rw c.in-Ok-Bad.field-0-is at c.in-Ok-Bad.ensures in
    rw (c.kept_at-in-Ok-Bad.ensures, read.cause)
    (inl (unkeyed_line c.args.words.config c.args.words.flight c.args.words.trace _ _ new.unread new.taken new.limit _ _ _ _ _ _ _ _ _ _ read.within read.fed_by
    (record {
      unasked = c.requires.fresh;
      honest = g.met.S.BlockStore.starts_honest c.args.store.now c.requires.fresh;
      empty = λ q. g.met.S.BlockStore.starts_empty c.args.store.now q c.requires.fresh;
    }) read.read))

pub returns-in-Err-clause-ran : goal.returns-in-Err-clause-ran
returns-in-Err-clause-ran g c =
    let new = c.new-feed.ensures in
    let read = rw c.in-Ok-Last.field-0-is at c.in-Ok-Last.ensures in
    rw read.cause
    (inr (inl (unbegun c.args.words.config c.args.words.flight c.args.words.trace _ _ new.unread new.taken new.limit _ _ _ c.in-Ok-Last.key c.in-Err.ended _ _ _ _ _ _ _ _ _ _ _ read.within read.fed_by read.read read.read.ends.0 c.in-Err.ensures.err)))

pub returns-in-Ok-clause-ran : goal.returns-in-Ok-clause-ran
returns-in-Ok-clause-ran g c =
    let new = c.new-feed.ensures in
    let read = rw c.in-Ok-Last.field-0-is at c.in-Ok-Last.ensures in
    let starts = c.in-Ok.ensures.ok in
    let closes = rw c.new-tally.ensures at c.close_run.ensures.closes in
    rw read.cause
    (last_ran _ c.args.words.config c.args.words.flight c.in-Ok-Last.key c.args.words.trace _ _ new.unread new.taken new.limit _ _ _ _ c.in-Ok.engine _ _ _ _ _ _ _ _ _ _ _ _ starts c.close_run.result
    read.read read.within read.fed_by c.high-high.result _ c.high-high.ensures.most c.high-high.ensures.value closes)

pub returns-in-Err-start_run-clause-ran : goal.returns-in-Err-start_run-clause-ran
returns-in-Err-start_run-clause-ran g c =
    let new = c.new-feed.ensures in
    let read = rw c.in-Ok-Secret.field-0-is at c.in-Ok-Secret.ensures in
    rw read.cause
    (inr (inl (unbegun c.args.words.config c.args.words.flight c.args.words.trace _ _ new.unread new.taken new.limit _ _ _ c.in-Ok-Secret.key c.in-Err-start_run.ended _ _ _ _ _ _ _ _ _ _ _ read.within read.fed_by read.read read.read.ends.0
    c.in-Err-start_run.ensures.err)))

pub returns-in-Ok-start_run-clause-ran : goal.returns-in-Ok-start_run-clause-ran
returns-in-Ok-start_run-clause-ran g c =
    let new = c.new-feed.ensures in
    let read = rw c.in-Ok-Secret.field-0-is at c.in-Ok-Secret.ensures in
    let starts = c.in-Ok-start_run.ensures.ok in
    let run = c.serve_run.ensures in
    let served = rw read.cause at (run.served starts.base c.args.words.config c.in-Ok-Secret.key starts.engages) in
    secret_ran _ c.args.words.config c.args.words.flight c.in-Ok-Secret.key c.args.words.trace _ _ new.unread new.taken new.limit _ _ _ _ c.in-Ok-start_run.engine _ _ _ _ _ _ _ _ _ _ _ _ starts c.serve_run.result
    _ _ _ _ read.read run.within run.fed_by served

-- no table is an index yet, and none will be
pub close_run-requires-clause-flat : goal.close_run-requires-clause-flat
close_run-requires-clause-flat g c =
    let on = c.in-Ok.ensures.ok.engages.stands in subst (λ (p : Public). AreFlat (headings_of p.tables)) (sym on.public) on.flat

pub serve_run-requires-clause-kept : goal.serve_run-requires-clause-kept
serve_run-requires-clause-kept g c =
    let on = c.in-Ok-start_run.ensures.ok.engages.stands in ap (λ (p : Public). p.keep) on.public ∙ on.keep ∙ c.requires.kept

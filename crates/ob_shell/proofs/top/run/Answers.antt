use Rattle.ob_shell.proofs.Words.{ap, empty_tally, keys_in, refl, stop_of, sym, ◌∙◌}
use Rattle.ob_headline.specs.Words.{keys_with}
use Rattle.ob_shell.proofs.TallyLemmas.{cause_flagged, took_whole, tally_after-nil}
use Rattle.ob_shell.proofs.TopLemmas.{shown_source_fault, shown_bad_key, shown_last, shown_ran}
use Rattle.ob_shell.proofs.TraceLemmas.{traced_none, traced_whole}
use Rattle.ob_shell.proofs.top.run.Goals as goal

pub returns-in-Err-SourceFault-clause-shown : goal.returns-in-Err-SourceFault-clause-shown
returns-in-Err-SourceFault-clause-shown g c =
    let new = c.new-feed.ensures in
    let read = rw c.in-Err-SourceFault.field-0-is at c.in-Err-SourceFault.ensures in
    rw c.ended_at.ensures (shown_source_fault _ _ refl _ _ _ _ new.unread new.taken new.limit read.within read.fed_by _ _
    (record {
      unasked = c.requires.fresh;
      honest = g.met.S.BlockStore.starts_honest c.args.store.now c.requires.fresh;
      empty = λ q. g.met.S.BlockStore.starts_empty c.args.store.now q c.requires.fresh;
    }) read.read)

pub returns-in-Ok-Bad-clause-shown : goal.returns-in-Ok-Bad-clause-shown
returns-in-Ok-Bad-clause-shown g c =
    let new = c.new-feed.ensures in
    let read = rw c.in-Ok-Bad.field-0-is at c.in-Ok-Bad.ensures in
    rw c.ended_at-in-Ok-Bad.ensures (shown_bad_key _ _ refl _ _ _ _ new.unread new.taken new.limit read.within read.fed_by _ _
    (record {
      unasked = c.requires.fresh;
      honest = g.met.S.BlockStore.starts_honest c.args.store.now c.requires.fresh;
      empty = λ q. g.met.S.BlockStore.starts_empty c.args.store.now q c.requires.fresh;
    }) read.read)

pub returns-in-Err-SourceFault-clause-traced : goal.returns-in-Err-SourceFault-clause-traced
returns-in-Err-SourceFault-clause-traced g c = traced_whole _ (traced_none _ _ _)

pub returns-in-Ok-Bad-clause-traced : goal.returns-in-Ok-Bad-clause-traced
returns-in-Ok-Bad-clause-traced g c = traced_whole _ (traced_none _ _ _)

pub returns-in-Ok-Last-clause-shown : goal.returns-in-Ok-Last-clause-shown
returns-in-Ok-Last-clause-shown g c =
    let new = c.new-feed.ensures in
    let read = rw c.in-Ok-Last.field-0-is at c.in-Ok-Last.ensures in
    rw c.ended_at-in-Ok-Last.ensures (shown_last _ _ refl _ _ _ _ new.unread new.taken new.limit read.within read.fed_by (sym (tally_after-nil empty_tally)) _ _ _
    (record {
      unasked = c.requires.fresh;
      honest = g.met.S.BlockStore.starts_honest c.args.store.now c.requires.fresh;
      empty = λ q. g.met.S.BlockStore.starts_empty c.args.store.now q c.requires.fresh;
    }) read.read)

pub returns-in-Ok-Last-clause-traced : goal.returns-in-Ok-Last-clause-traced
returns-in-Ok-Last-clause-traced g c = traced_whole _ (traced_none _ _ _)

pub returns-in-Ok-Secret-clause-shown : goal.returns-in-Ok-Secret-clause-shown
returns-in-Ok-Secret-clause-shown g c =
    let new = c.new-feed.ensures in
    let read = rw c.in-Ok-Secret.field-0-is at c.in-Ok-Secret.ensures in
    let ended = c.ended_with.ensures in
    rw (ended.ending, ended.high, ended.quiet)
    (shown_ran keys_in _ c.in-Ok-Secret.key (stop_of c.serve_with-ran.result.0) new.unread new.taken new.limit c.serve_with-ran.ensures.within c.serve_with-ran.ensures.fed_by read.read (c.serve_with-ran.ensures.ran c.in-Ok-Secret.key)
    (λ taken is. ap keys_with is ∙ sym c.derive-keys.ensures) ended.tally)

pub returns-in-Ok-Secret-clause-took : goal.returns-in-Ok-Secret-clause-took
returns-in-Ok-Secret-clause-took g c = λ refused is. took_whole c.serve_with-ran.result.0 refused (sym c.ended_with.ensures.ending ∙ is) c.serve_with-ran.ensures.took

pub returns-in-Ok-Secret-clause-cause : goal.returns-in-Ok-Secret-clause-cause
returns-in-Ok-Secret-clause-cause g c =
    let read = rw c.in-Ok-Secret.field-0-is at c.in-Ok-Secret.ensures in
    let cause = rw read.cause at c.serve_with-ran.ensures.cause in
    rw c.ended_with.ensures.ending (cause_flagged _ _ _ (stop_of c.serve_with-ran.result.0) cause)

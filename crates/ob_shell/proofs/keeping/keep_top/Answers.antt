use Rattle.ob_shell.proofs.Words.{ap, Err, map, None, refl, Some, string_bytes, sym, ◌∙◌}
use Rattle.ob_headline.specs.Usage.{kept_usage}
use Rattle.ob_shell.proofs.CloseLemmas.{reported_taken}
use Rattle.ob_shell.proofs.GeneratingLemmas.{asked_is, summarized}
use Rattle.ob_shell.proofs.HeadLemmas.{headlined}
use Rattle.ob_shell.proofs.KeptGenLemmas.{kept_summarized, may_keep, may_keep_unread}
use Rattle.ob_shell.proofs.KeptLemmas.{kept_headlined}
use Rattle.ob_headline.proofs.SettingLemmas.{kept_settings}
use Rattle.ob_shell.proofs.keeping.keep_top.Goals as goal

pub returns-in-Err-clause-ran : goal.returns-in-Err-clause-ran
returns-in-Err-clause-ran g c =
    let refused = c.refuse_words.ensures in
    may_keep_unread _ _ _ _ _ _ _ _ _ _ _ c.in-Err.error
    (record {
      unasked = c.requires.fresh;
      honest = g.met.S.BlockStore.starts_honest c.args.store.now c.requires.fresh;
      empty = λ q. g.met.S.BlockStore.starts_empty c.args.store.now q c.requires.fresh;
    })
    (λ is. c.in-Err.ensures.usage (ap Err is)) refused.status refused.high refused.line

pub returns-in-None-clause-ran : goal.returns-in-None-clause-ran
returns-in-None-clause-ran g c =
    let words = map string_bytes c.args.words.now in
    let read = c.in-Ok.ensures in
    let closes = c.close_kept.ensures in
    may_keep _ _ _ _ _ _ _ _ _ _ _ _ None (sym read.keep ∙ c.if-words.true) (asked_is kept_usage words read.generated c.in-None.is)
    (kept_headlined _ _ c.in-Ok.words.common.config (c.in-Ok.words.common.config, read.ok) read.ok.settings _ _ _ c.run_kept-ended.result _ _ _ _ c.close_kept.result closes.status closes.high closes.quiet closes.line c.requires.fresh
    (rw (read.trace, read.flight) at c.run_kept-ended.ensures.ran))

pub returns-in-Some-clause-ran : goal.returns-in-Some-clause-ran
returns-in-Some-clause-ran g c =
    let words = map string_bytes c.args.words.now in
    let read = c.in-Ok.ensures in
    may_keep _ _ _ _ _ _ _ _ _ _ _ _ (Some c.in-Some.seed) (sym read.keep ∙ c.if-words.true) (asked_is kept_usage words read.generated c.in-Some.is)
    (kept_summarized _ (c.in-Ok.words.common.config, read.ok) read.ok.settings c.requires.fresh (rw (read.trace, read.flight) at c.keep_generated.ensures))

pub returns-in-None-generated-clause-ran : goal.returns-in-None-generated-clause-ran
returns-in-None-generated-clause-ran g c =
    let words = map string_bytes c.args.words.now in
    let read = c.in-Ok.ensures in
    may_keep _ _ _ _ _ _ _ _ _ _ _ _ None (sym read.keep ∙ c.if-words.false) (asked_is kept_usage words read.generated c.in-None-generated.is)
    (headlined _ _ _ _ _ _ c.requires.fresh (reported_taken (c.in-Ok.words.common.config, read.ok) read.ok.settings (rw (read.trace, read.flight) at c.serve_over.ensures.reported.1)) (rw read.trace at c.serve_over.ensures.traced), refl)

pub returns-in-Some-generated-clause-ran : goal.returns-in-Some-generated-clause-ran
returns-in-Some-generated-clause-ran g c =
    let words = map string_bytes c.args.words.now in
    let read = c.in-Ok.ensures in
    may_keep _ _ _ _ _ _ _ _ _ _ _ _ (Some c.in-Some-generated.seed) (sym read.keep ∙ c.if-words.false) (asked_is kept_usage words read.generated c.in-Some-generated.is)
    (summarized _ (c.in-Ok.words.common.config, read.ok) read.ok.settings c.requires.fresh (rw (read.trace, read.flight) at c.serve_generated.ensures), refl)

pub run_kept-ended-requires-clause-kept : goal.run_kept-ended-requires-clause-kept
run_kept-ended-requires-clause-kept g c =
    let read = c.in-Ok.ensures in kept_settings (map string_bytes c.args.words.now) c.in-Ok.words.common.config read.ok.settings ∙ sym read.keep ∙ c.if-words.true

pub keep_generated-requires-clause-kept : goal.keep_generated-requires-clause-kept
keep_generated-requires-clause-kept g c =
    let read = c.in-Ok.ensures in kept_settings (map string_bytes c.args.words.now) c.in-Ok.words.common.config read.ok.settings ∙ sym read.keep ∙ c.if-words.true

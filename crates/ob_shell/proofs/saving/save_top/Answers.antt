use Rattle.ob_shell.proofs.Words.{ap, Err, map, None, refl, Some, string_bytes, sym, ◌∙◌}
use Rattle.ob_headline.proofs.SettingLemmas.{unsaved_settings}
use Rattle.ob_headline.specs.Usage.{saved_usage}
use Rattle.ob_shell.proofs.GeneratingLemmas.{asked_is}
use Rattle.ob_shell.proofs.KeptGenLemmas.{kept_summarized}
use Rattle.ob_shell.proofs.KeptLemmas.{kept_headlined}
use Rattle.ob_shell.proofs.SaltedGenLemmas.{salted_summarized}
use Rattle.ob_shell.proofs.SaltedHeadLemmas.{salted_headlined}
use Rattle.ob_shell.proofs.SavedGenLemmas.{keeps_or_saves, keeps_or_saves_unread, saved_summarized}
use Rattle.ob_shell.proofs.SavedHeadLemmas.{saved_headlined}
use Rattle.ob_shell.proofs.saving.save_top.Goals as goal

pub returns-in-Err-clause-ran : goal.returns-in-Err-clause-ran
returns-in-Err-clause-ran g c =
    let refused = c.refuse_words.ensures in
    keeps_or_saves_unread _ _ _ _ _ _ _ _ _ _ _ _ c.in-Err.error
    (record {
      unasked = c.requires.fresh;
      honest = g.met.S.BlockStore.starts_honest c.args.store.now c.requires.fresh;
      empty = λ q. g.met.S.BlockStore.starts_empty c.args.store.now q c.requires.fresh;
    })
    (λ is. c.in-Err.ensures.usage (ap Err is)) refused.status refused.high refused.line

pub returns-in-None-clause-ran : goal.returns-in-None-clause-ran
returns-in-None-clause-ran g c =
    let words = map string_bytes c.args.words.now in
    let read = c.in-Ok.ensures in
    let closes = c.close_kept.ensures in
    keeps_or_saves _ _ _ _ _ _ _ _ _ _ _ _ _ _ None (sym read.save ∙ c.if-words.true) refl (asked_is saved_usage words read.generated c.in-None.is)
    (saved_headlined _ _ c.in-Ok.words.common.config (c.in-Ok.words.common.config, read.ok) read.ok.settings _ _ _ c.run_saved-ended.result _ _ _ _ c.close_kept.result closes.status closes.high closes.quiet closes.line c.requires.fresh
    (rw (read.trace, read.flight) at c.run_saved-ended.ensures.ran))

pub returns-in-Some-clause-ran : goal.returns-in-Some-clause-ran
returns-in-Some-clause-ran g c =
    let words = map string_bytes c.args.words.now in
    let read = c.in-Ok.ensures in
    keeps_or_saves _ _ _ _ _ _ _ _ _ _ _ _ _ _ (Some c.in-Some.seed) (sym read.save ∙ c.if-words.true) refl (asked_is saved_usage words read.generated c.in-Some.is)
    (saved_summarized _ (c.in-Ok.words.common.config, read.ok) read.ok.settings c.requires.fresh (rw (read.trace, read.flight) at c.save_generated.ensures))

pub returns-in-None-generated-clause-ran : goal.returns-in-None-generated-clause-ran
returns-in-None-generated-clause-ran g c =
    let words = map string_bytes c.args.words.now in
    let read = c.in-Ok.ensures in
    let closes = c.close_kept-in-None-generated.ensures in
    keeps_or_saves _ _ _ _ _ _ _ _ _ _ _ _ _ _ None (sym read.save ∙ c.if-words.false) (sym read.keep ∙ c.if-words-2.true) (asked_is saved_usage words read.generated c.in-None-generated.is)
    (kept_headlined _ _ c.in-Ok.words.common.config (c.in-Ok.words.common.config, read.ok) read.ok.settings _ _ _ c.run_kept-ended.result _ _ _ _ c.close_kept-in-None-generated.result closes.status closes.high closes.quiet closes.line c.requires.fresh
    (rw (read.trace, read.flight) at c.run_kept-ended.ensures.ran))

pub returns-in-Some-generated-clause-ran : goal.returns-in-Some-generated-clause-ran
returns-in-Some-generated-clause-ran g c =
    let words = map string_bytes c.args.words.now in
    let read = c.in-Ok.ensures in
    keeps_or_saves _ _ _ _ _ _ _ _ _ _ _ _ _ _ (Some c.in-Some-generated.seed) (sym read.save ∙ c.if-words.false) (sym read.keep ∙ c.if-words-2.true) (asked_is saved_usage words read.generated c.in-Some-generated.is)
    (kept_summarized _ (c.in-Ok.words.common.config, read.ok) read.ok.settings c.requires.fresh (rw (read.trace, read.flight) at c.keep_generated.ensures))

pub returns-in-None-generated-2-clause-ran : goal.returns-in-None-generated-2-clause-ran
returns-in-None-generated-2-clause-ran g c =
    let words = map string_bytes c.args.words.now in
    let read = c.in-Ok.ensures in
    let closes = c.close_kept-in-None-generated-2.ensures in
    keeps_or_saves _ _ _ _ _ _ _ _ _ _ _ _ _ _ None (sym read.save ∙ c.if-words.false) (sym read.keep ∙ c.if-words-2.false) (asked_is saved_usage words read.generated c.in-None-generated-2.is)
    (salted_headlined _ _ c.in-Ok.words.common.config (c.in-Ok.words.common.config, read.ok) read.ok.settings _ _ _ c.run_salted-ended.result _ _ _ _ c.close_kept-in-None-generated-2.result closes.status closes.high closes.quiet closes.line c.requires.fresh
    (rw (read.trace, read.flight) at c.run_salted-ended.ensures.ran))

pub returns-in-Some-generated-2-clause-ran : goal.returns-in-Some-generated-2-clause-ran
returns-in-Some-generated-2-clause-ran g c =
    let words = map string_bytes c.args.words.now in
    let read = c.in-Ok.ensures in
    keeps_or_saves _ _ _ _ _ _ _ _ _ _ _ _ _ _ (Some c.in-Some-generated-2.seed) (sym read.save ∙ c.if-words.false) (sym read.keep ∙ c.if-words-2.false) (asked_is saved_usage words read.generated c.in-Some-generated-2.is)
    (salted_summarized _ (c.in-Ok.words.common.config, read.ok) read.ok.settings c.requires.fresh (rw (read.trace, read.flight) at c.salt_generated.ensures))

pub run_kept-ended-requires-clause-kept : goal.run_kept-ended-requires-clause-kept
run_kept-ended-requires-clause-kept g c =
    let read = c.in-Ok.ensures in
    unsaved_settings (map string_bytes c.args.words.now) c.in-Ok.words.common.config (sym read.save ∙ c.if-words.false) read.ok.settings ∙ sym read.keep ∙ c.if-words-2.true

pub keep_generated-requires-clause-kept : goal.keep_generated-requires-clause-kept
keep_generated-requires-clause-kept g c =
    let read = c.in-Ok.ensures in
    unsaved_settings (map string_bytes c.args.words.now) c.in-Ok.words.common.config (sym read.save ∙ c.if-words.false) read.ok.settings ∙ sym read.keep ∙ c.if-words-2.true

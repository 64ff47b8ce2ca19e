use Rattle.ob_shell.proofs.Words.{map, None, Some, string_bytes}
use Rattle.ob_headline.specs.Usage.{meddle_usage}
use Rattle.ob_shell.proofs.GeneratingLemmas.{asked_is}
use Rattle.ob_shell.proofs.MeddleLemmas.{meddle_ran, meddle_summarized, meddled}
use Rattle.ob_shell.proofs.top.meddle_top.Goals as goal

pub returns-in-None : goal.returns-in-None
returns-in-None g c =
    let words = map string_bytes c.args.words.now in
    meddle_ran words _ None _ _ c.serve_over-report.new.store _ (asked_is meddle_usage words c.in-Ok.ensures.generated c.in-None.is)
    (meddled c.new-store.result c.serve_over-report.new.store c.in-Ok.words.common.config c.in-Ok.words.changes.items c.in-Ok.ensures.ok c.in-Ok.ensures.within.unsaved c.new-store.ensures.list c.new-store.ensures.asked c.new-store.ensures.told
    (rw (c.in-Ok.ensures.trace, c.in-Ok.ensures.flight) at c.serve_over-report.ensures.reported.1) (rw c.in-Ok.ensures.trace at c.serve_over-report.ensures.traced))

pub returns-in-Some : goal.returns-in-Some
returns-in-Some g c =
    let words = map string_bytes c.args.words.now in
    meddle_ran words _ (Some c.in-Some.seed) _ _ c.serve_generated-report.new.store _ (asked_is meddle_usage words c.in-Ok.ensures.generated c.in-Some.is)
    (meddle_summarized _ c.new-store.result c.serve_generated-report.new.store c.in-Ok.words.common.config c.in-Ok.words.changes.items c.in-Ok.ensures.ok c.in-Ok.ensures.within.unsaved c.new-store.ensures.list c.new-store.ensures.asked c.new-store.ensures.told
    (rw (c.in-Ok.ensures.trace, c.in-Ok.ensures.flight) at c.serve_generated-report.ensures))

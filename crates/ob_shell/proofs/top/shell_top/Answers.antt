use Rattle.ob_shell.proofs.Words.{ap, empty_tally, Err, map, refl, string_bytes}
use Rattle.ob_headline.specs.Usage.{usage}
use Rattle.ob_shell.proofs.CloseLemmas.{reported_words, reported_taken}
use Rattle.ob_shell.proofs.GeneratingLemmas.{seed_is, summarized, unread_summarized}
use Rattle.ob_shell.proofs.HeadLemmas.{headlined}
use Rattle.ob_shell.proofs.TraceLemmas.{traced_none, traced_whole}
use Rattle.ob_shell.proofs.top.shell_top.Goals as goal

pub returns-in-Err-clause-headline : goal.returns-in-Err-clause-headline
returns-in-Err-clause-headline g c none =
    let refused = c.refuse_words.ensures in
    headlined _ _ _ _ _ _ c.requires.fresh
    (reported_words empty_tally _ c.in-Err.error _ _ _
    (record {
      unasked = c.requires.fresh;
      honest = g.met.S.BlockStore.starts_honest c.args.store.now c.requires.fresh;
      empty = λ q. g.met.S.BlockStore.starts_empty c.args.store.now q c.requires.fresh;
    }) refl
    (λ is. c.in-Err.ensures.usage (ap Err is)) refused.status refused.high refused.line refl refl)
    (traced_whole _ (traced_none _ _ _))

pub returns-in-Err-clause-summary : goal.returns-in-Err-clause-summary
returns-in-Err-clause-summary g c seed asked =
    let refused = c.refuse_words.ensures in
    unread_summarized _ _ seed c.in-Err.error
    (record {
      unasked = c.requires.fresh;
      honest = g.met.S.BlockStore.starts_honest c.args.store.now c.requires.fresh;
      empty = λ q. g.met.S.BlockStore.starts_empty c.args.store.now q c.requires.fresh;
    })
    (λ is. c.in-Err.ensures.usage (ap Err is)) refused.status refused.high refused.line

pub returns-in-None-clause-headline : goal.returns-in-None-clause-headline
returns-in-None-clause-headline g c none =
    headlined _ _ _ _ _ _ c.requires.fresh
    (reported_taken (c.in-Ok.words.config, c.in-Ok.ensures.ok) c.in-Ok.ensures.ok.settings (rw (c.in-Ok.ensures.trace, c.in-Ok.ensures.flight) at c.serve_over.ensures.reported.1))
    (rw c.in-Ok.ensures.trace at c.serve_over.ensures.traced)

pub returns-in-Some-clause-summary : goal.returns-in-Some-clause-summary
returns-in-Some-clause-summary g c seed asked =
    rw (seed_is usage (map string_bytes c.args.words.now) c.in-Ok.ensures.generated c.in-Some.is asked)
    (summarized _ (c.in-Ok.words.config, c.in-Ok.ensures.ok) c.in-Ok.ensures.ok.settings c.requires.fresh (rw (c.in-Ok.ensures.trace, c.in-Ok.ensures.flight) at c.serve_generated.ensures))

pub returns-in-Err-clause-refused : goal.returns-in-Err-clause-refused
returns-in-Err-clause-refused g c not = record { unread = refl; unasked = refl }

pub returns-in-None-clause-refused : goal.returns-in-None-clause-refused
returns-in-None-clause-refused g c not = absurd (not (c.in-Ok.words.config, c.in-Ok.ensures.ok))

pub returns-in-Some-clause-refused : goal.returns-in-Some-clause-refused
returns-in-Some-clause-refused g c not = absurd (not (c.in-Ok.words.config, c.in-Ok.ensures.ok))

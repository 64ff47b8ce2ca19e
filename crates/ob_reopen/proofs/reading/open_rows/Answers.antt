use Rattle.std.proofs.Common.{arith}
use Rattle.std.proofs.lemmas.Result.{err_from_is_err_and}
use Rattle.ob_vault.specs.Places.{at}
use Rattle.ob_reopen.proofs.OpenLemmas.{spent_first, may_open}
use Rattle.ob_reopen.proofs.ClosingLemmas.{reads_shut, reads_closing}
use Rattle.ob_reopen.proofs.reading.open_rows.Goals as goal

pub resume-requires-clause-few : goal.resume-requires-clause-few
resume-requires-clause-few g c =
    omega (arith, spent_first c.args.closing (at g.R.Revisions.state c.args.vault.now (g.S.BlockStore.state c.args.store.now)) c.requires.marked c.requires.follows.start c.requires.follows.asked)

pub resume-requires-clause-may : goal.resume-requires-clause-may
resume-requires-clause-may g c =
    may_open c.args.closing _ c.requires.marked c.requires.follows (g.met.S.BlockStore.starts_empty c.args.store.now c.args.closing.region c.requires.follows.asked)

pub returns-in_err-resume-clause-reads : goal.returns-in_err-resume-clause-reads
returns-in_err-resume-clause-reads g c =
    let p = err_from_is_err_and c.from_residual.result c.from_residual.ensures.1 in
    rw (p.1, p.2) (reads_shut c.args.closing _ _ _ c.in_err-resume.ensures.resumes)

pub returns-clause-reads : goal.returns-clause-reads
returns-clause-reads g c =
    reads_closing c.in_ok-resume.field-0 c.args.closing c.requires.marked _ _ _ c.in_ok-resume.ensures.resumes c.requires.follows
    (λ q. g.met.S.BlockStore.starts_empty c.args.store.now q c.requires.follows.asked) c.read_rows.result c.read_rows.ensures.reads

use Rattle.std.proofs.Common.{sym, ◌∙◌, refl, subst, arith, IsTrue}
use Rattle.ob_vault.specs.Places.{start_of}
use Rattle.ob_vault.proofs.WorldSteps.{at_ok, at_err, earlier_writes, others_twice}
use Rattle.ob_vault.proofs.Resumed.{gives_put, popped, resumes_failed, resumes_kept, resumes_none, resumes_ok, resumes_unasked, resumes_unchanged, within_live}
use Rattle.ob_vault.proofs.vault.Vault.resume.Goals as goal

pub resume-requires-clause-first : goal.resume-requires-clause-first
resume-requires-clause-first g c = (c.requires.may.some, omega (arith, c.requires.may.within, c.requires.few, earlier_writes (start_of c.args.self.now)))

pub returns-then-is_err : goal.returns-then-is_err
returns-then-is_err g c =
    record { resumes = resumes_unchanged _ _ _ _ _ _ c.requires.ready c.requires.may (at_err c.resume.result _ (sym c.if-is_err.true ∙ c.is_err.ensures.value) c.resume.ensures.err) }

pub returns-then-is_err-2 : goal.returns-then-is_err-2
returns-then-is_err-2 g c =
    let begins = at_ok c.resume.result _ (sym c.if-is_err.false ∙ c.is_err.ensures.value) c.resume.ensures.ok in
    let same = at_err c.push.result _ (sym c.if-is_err-2.true ∙ c.is_err-2.ensures.value) c.push.ensures.err in
    record { resumes = resumes_kept _ _ _ _ _ _ _ _ _ _ _ _ _ refl same (resumes_unasked _ _ _ _ _ _ c.requires.ready (others_twice _ _ _ _ begins.others c.end.ensures.others) c.end.ensures.here) }

pub returns-in-Ok : goal.returns-in-Ok
returns-in-Ok g c =
    let begins = at_ok c.resume.result _ (sym c.if-is_err.false ∙ c.is_err.ensures.value) c.resume.ensures.ok in
    let more = at_ok c.push.result _ (sym c.if-is_err-2.false ∙ c.is_err-2.ensures.value) c.push.ensures.ok in
    let resumes = c.in-Ok.ensures in
    record {
      resumes = resumes_ok _ _ _ _ _ _ _ c.requires.ready c.requires.may resumes.asks _ _ c.requires.width (gives_put _ _ _ _ _ _ more) begins resumes.ok resumes.cause
          (λ tells. within_live _ _ _ (g.met.S.BlockStore.keeps_live c.resume-2.new.self _ _ (subst IsTrue (sym resumes.asks.tells) tells) resumes.ok.here.live) (g.met.S.BlockStore.keeps_within c.resume-2.new.self _));
    }

pub returns-in-Failed : goal.returns-in-Failed
returns-in-Failed g c =
    let begins = at_ok c.resume.result _ (sym c.if-is_err.false ∙ c.is_err.ensures.value) c.resume.ensures.ok in
    let more = at_ok c.push.result _ (sym c.if-is_err-2.false ∙ c.is_err-2.ensures.value) c.push.ensures.ok in
    let others = others_twice _ _ _ _ begins.others c.end-in-Err.ensures.others in
    let resumes = c.in-Err.ensures in
    record {
      resumes = resumes_kept _ _ _ _ _ _ _ _ _ _ _ _ _ refl (popped _ _ _ _ _ more c.pop.ensures)
          (resumes_failed _ _ _ _ _ _ _ c.requires.ready c.requires.may resumes.asks others c.end-in-Err.ensures.here resumes.err (rw c.in-Failed.is at resumes.cause));
    }

pub returns-in-NoMemory : goal.returns-in-NoMemory
returns-in-NoMemory g c =
    let begins = at_ok c.resume.result _ (sym c.if-is_err.false ∙ c.is_err.ensures.value) c.resume.ensures.ok in
    let more = at_ok c.push.result _ (sym c.if-is_err-2.false ∙ c.is_err-2.ensures.value) c.push.ensures.ok in
    let others = others_twice _ _ _ _ begins.others c.end-in-Err.ensures.others in
    let resumes = c.in-Err.ensures in
    record {
      resumes = resumes_kept _ _ _ _ _ _ _ _ _ _ _ _ _ refl (popped _ _ _ _ _ more c.pop.ensures)
          (resumes_none _ _ _ _ _ _ _ c.requires.ready c.requires.may resumes.asks others c.end-in-Err.ensures.here resumes.err (rw c.in-NoMemory.is at resumes.cause));
    }

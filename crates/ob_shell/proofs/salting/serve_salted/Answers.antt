use Rattle.ob_shell.proofs.Words.{refl}
use Rattle.ob_shell.proofs.TopLemmas.{ran_nothing}
use Rattle.ob_shell.proofs.TraceLemmas.{traced_none, traced_whole}
use Rattle.ob_shell.proofs.salting.serve_salted.Goals as goal

pub returns-in-Err-clause-ran : goal.returns-in-Err-clause-ran
returns-in-Err-clause-ran g c = ran_nothing _ _ _ _ _ _ _ _ _
    (record {
      unasked = c.requires.fresh;
      honest = g.met.S.BlockStore.starts_honest c.args.store.now c.requires.fresh;
      empty = λ q. g.met.S.BlockStore.starts_empty c.args.store.now q c.requires.fresh;
    }) refl c.requires.fed_by.late

pub returns-in-Err-clause-traced : goal.returns-in-Err-clause-traced
returns-in-Err-clause-traced g c = traced_whole _ (traced_none _ _ _)

pub returns-in-Ok-clause-ran : goal.returns-in-Ok-clause-ran
returns-in-Ok-clause-ran g c = rw c.in-Ok.ensures at (c.serve_with.ensures.ran c.args.secret.now)

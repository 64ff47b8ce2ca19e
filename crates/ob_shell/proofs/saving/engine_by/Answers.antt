use Rattle.ob_shell.proofs.Words.{arith, nat_tests, sym, ◌∙◌, ◌≡◌}
use Rattle.ob_shell.proofs.SavedBegin.{engine_opened, named_by, shut_opened}
use Rattle.ob_shell.proofs.saving.engine_by.Goals as goal

pub open_saved-requires-clause-closed : goal.open_saved-requires-clause-closed
open_saved-requires-clause-closed g c =
    let pack : c.in-Some.pack ≡ c.args.config.pack = let same = c.if-pack-config.false in grind (arith, nat_tests) in
    named_by c.args.mark.now c.args.config.pack c.in-Some.pack c.requires.within (sym c.pack_of.ensures ∙ c.in-Some.is) pack

pub returns-in-Err-open_saved-clause-err : goal.returns-in-Err-open_saved-clause-err
returns-in-Err-open_saved-clause-err g c =
    let pack : c.in-Some.pack ≡ c.args.config.pack = let same = c.if-pack-config.false in grind (arith, nat_tests) in
    shut_opened g.R.Revisions.state c.args.mark.now c.args.config c.args.secret.now c.args.salt.now c.in-Some.pack c.requires.within (sym c.pack_of.ensures ∙ c.in-Some.is) pack
    (c.fits_secret.ensures.fits c.if-not-fits_secret.false) c.in-Err-open_saved.error c.opening_end.result c.opening_end.ensures (g.S.BlockStore.state c.args.store.now) (g.S.BlockStore.state c.open_saved.new.store) c.in-Err-open_saved.ensures.opens

pub returns-in-Ok-open_saved-clause-ok : goal.returns-in-Ok-open_saved-clause-ok
returns-in-Ok-open_saved-clause-ok g c =
    let pack : c.in-Some.pack ≡ c.args.config.pack = let same = c.if-pack-config.false in grind (arith, nat_tests) in
    engine_opened g.R.Revisions.state c.args.mark.now c.args.config c.args.secret.now c.args.salt.now c.in-Some.pack c.requires.within (sym c.pack_of.ensures ∙ c.in-Some.is) pack
    (c.fits_secret.ensures.fits c.if-not-fits_secret.false) c.in-Ok-open_saved.engine (g.S.BlockStore.state c.args.store.now) (g.S.BlockStore.state c.open_saved.new.store) c.in-Ok-open_saved.ensures.opens

pub returns-in-Ok-open_saved-clause-log : goal.returns-in-Ok-open_saved-clause-log
returns-in-Ok-open_saved-clause-log g c =
    let pack : c.in-Some.pack ≡ c.args.config.pack = let same = c.if-pack-config.false in grind (arith, nat_tests) in
    let named = named_by c.args.mark.now c.args.config.pack c.in-Some.pack c.requires.within (sym c.pack_of.ensures ∙ c.in-Some.is) pack in
    (c.in-Ok-open_saved.ensures.opens named.0 named.1 named.2).log

pub returns-in-Err-open_saved-clause-log : goal.returns-in-Err-open_saved-clause-log
returns-in-Err-open_saved-clause-log g c =
    let pack : c.in-Some.pack ≡ c.args.config.pack = let same = c.if-pack-config.false in grind (arith, nat_tests) in
    let named = named_by c.args.mark.now c.args.config.pack c.in-Some.pack c.requires.within (sym c.pack_of.ensures ∙ c.in-Some.is) pack in
    (c.in-Err-open_saved.ensures.opens named.0 named.1 named.2).log

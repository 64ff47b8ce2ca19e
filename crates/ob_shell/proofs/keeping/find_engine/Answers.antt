use Rattle.ob_shell.proofs.Words.{ap, AreDraws, arith, Closing, first_draws, keys_of, KeySet, Mark, nat_tests, Ok, refl, subst, sym, ◌∙◌, ◌≡◌}
use Rattle.ob_reopen.specs.declared.mark.Mark.TheVariants.{Fresh, Closed}
use Rattle.ob_headline.specs.Keeping.{EndsFrom, closing_named}
use Rattle.ob_reopen.specs.Keepers.{IsMark}
use Rattle.ob_reopen.specs.Limits.{IsMarked}
use Rattle.ob_shell.proofs.EngageLemmas.{engages_first, engages_opened, not_reopened, opens_closing, packs}
use Rattle.ob_shell.proofs.keeping.find_engine.Goals as goal

pub returns-in-Ok-start : goal.returns-in-Ok-start
returns-in-Ok-start g c =
    let e = c.in-Ok-start.ensures in
    record {
      mark = Ok c.in-Ok.mark;
      gives = c.in-Ok.ensures.gives;
      log = refl;
      ok = record {
        held = Fresh;
        is = ap Ok c.in-Fresh.is;
        base = _;
        begins = (refl, refl);
        engages = engages_first _ _ _ _ _ (e.agrees (g.S.BlockStore.state c.args.store.now) c.requires.fresh) e.public (e.keyed ∙ c.derive.ensures) (subst (λ (k : KeySet). AreDraws c.in-Ok-start.engine (first_draws k)) c.derive.ensures e.drawn) e.started e.anew e.settled e.alive e.none_open e.rows
            (record {
              unasked = c.requires.fresh;
              honest = g.met.S.BlockStore.starts_honest c.args.store.now c.requires.fresh;
              empty = λ q. g.met.S.BlockStore.starts_empty c.args.store.now q c.requires.fresh;
            })
            (g.met.S.BlockStore.starts_steady c.args.store.now c.requires.fresh) c.requires.within.unsaved;
      };
      err = tt;
    }

pub returns-in-Ok-open : goal.returns-in-Ok-open
returns-in-Ok-open g c =
    let closing : Closing = closing_named c.in-Closed.region c.in-Closed.blocks c.in-Closed.number c.in-Closed.pack in
    let marked : IsMarked closing = subst (λ (m : Mark). IsMark m) c.in-Closed.is c.in-Ok.ensures.gives.within in
    let pack : c.in-Closed.pack ≡ c.args.config.pack = let same = c.if-pack-config.false in grind (arith, nat_tests) in
    let opens = c.in-Ok-open.ensures.opens closing (pack, refl, marked) in
    let keys = c.derive-in-Closed.ensures in
    record {
      mark = Ok c.in-Ok.mark;
      gives = c.in-Ok.ensures.gives;
      log = opens.log;
      ok = record {
        held = Closed c.in-Closed.region c.in-Closed.blocks c.in-Closed.number c.in-Closed.pack;
        is = ap Ok c.in-Closed.is;
        base = _;
        begins = (pack, opens_closing _ _ c.args.key.now _ keys closing marked pack _ _ _ c.requires.fresh opens opens.ok.settled c.requires.within.unsaved);
        engages = engages_opened _ _ c.args.key.now _ keys closing marked pack _ _ _ c.requires.fresh opens opens.ok.settled c.requires.within.unsaved;
      };
      err = tt;
    }

pub returns-in-Err-open : goal.returns-in-Err-open
returns-in-Err-open g c =
    let closing : Closing = closing_named c.in-Closed.region c.in-Closed.blocks c.in-Closed.number c.in-Closed.pack in
    let marked : IsMarked closing = subst (λ (m : Mark). IsMark m) c.in-Closed.is c.in-Ok.ensures.gives.within in
    let pack : c.in-Closed.pack ≡ c.args.config.pack = let same = c.if-pack-config.false in grind (arith, nat_tests) in
    let opens = c.in-Err-open.ensures.opens closing (pack, refl, marked) in
    let s = g.S.BlockStore.state c.args.store.now in
    let t = g.S.BlockStore.state c.open.new.store in
    let ends = not_reopened _ c.args.config c.args.key.now _ c.derive-in-Closed.ensures closing c.in-Err-open.error c.opening_end.result c.opening_end.ensures s t opens in
    record {
      mark = Ok c.in-Ok.mark;
      gives = c.in-Ok.ensures.gives;
      log = opens.log;
      ok = tt;
      err = subst (λ (m : Mark). EndsFrom m c.args.config (keys_of c.args.key.now) c.opening_end.result s t) (sym c.in-Closed.is)
          (rw (packs c.in-Closed.pack c.args.config.pack pack) ends);
    }

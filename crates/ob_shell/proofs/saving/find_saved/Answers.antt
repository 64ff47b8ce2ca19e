use Rattle.ob_shell.proofs.Words.{inl, inr, Ok, refl, ◌∙◌}
use Rattle.ob_shell.proofs.SavedBegin.{engaged, held_then, looks_still}
use Rattle.ob_shell.proofs.saving.find_saved.Goals as goal

pub returns-in-Ok-hand_begun : goal.returns-in-Ok-hand_begun
returns-in-Ok-hand_begun g c =
    let store = g.S.BlockStore.state in
    let keeper = g.K.Keeper.state in
    let gives = c.in-Ok.ensures.gives in
    let draws = c.in-Ok-salt.ensures.draws in
    let hands = c.in-Ok-hand_begun.ensures in
    let has = engaged g.R.Revisions.state c.args.config c.args.secret.now c.in-Ok-salt.salt c.requires.saves c.in-Ok-engine_by.engine (store c.args.store.now) (store c.may_begin.new.store) (store c.engine_by.new.store) (store c.sweep.new.self) c.sweep.ensures.sweeps c.requires.fresh
    (λ unasked. record {
      unasked = unasked;
      honest = g.met.S.BlockStore.starts_honest c.sweep.new.self unasked;
      empty = λ q. g.met.S.BlockStore.starts_empty c.sweep.new.self q unasked;
    }) (λ unasked. g.met.S.BlockStore.starts_steady c.sweep.new.self unasked) (keeper c.hand_begun.new.keeper) c.in-Ok.mark c.in-Ok-may_begin.ensures.begins c.in-Ok-engine_by.ensures.ok in
    record {
      log = c.sweep.ensures.sweeps.log ∙ c.engine_by.ensures.log ∙ c.may_begin.ensures.log;
      ok = record {
        mark = c.in-Ok.mark;
        read = keeper c.mark.new.self;
        gives = gives;
        salt = c.in-Ok-salt.salt;
        drawn = keeper c.salt.new.self;
        draws = draws;
        hands = hands;
        keys = has.keys;
        base = has.base;
        begins = has.begins;
        engages = has.engages;
        saves = λ held is. has.saves (held_then c.in-Ok.mark (keeper c.salt.new.self) (keeper c.hand_begun.new.keeper) held hands (draws.stays ∙ gives.stays ∙ is) (gives.told held is));
      };
      err = tt;
    }

pub returns-in-Err-hand_begun : goal.returns-in-Err-hand_begun
returns-in-Err-hand_begun g c =
    let store = g.S.BlockStore.state in
    let keeper = g.K.Keeper.state in
    record {
      log = c.engine_by.ensures.log ∙ c.may_begin.ensures.log;
      ok = tt;
      err = λ fault0 fault1. record {
        mark = Ok c.in-Ok.mark;
        read = keeper c.mark.new.self;
        gives = c.in-Ok.ensures.gives;
        why = inr (record {
          salt = Ok c.in-Ok-salt.salt;
          drawn = keeper c.salt.new.self;
          draws = c.in-Ok-salt.ensures.draws;
          why = inr (inl (record {
            ends = refl;
            looks = looks_still g.R.Revisions.state c.in-Ok.mark c.args.config c.args.secret.now c.in-Ok-salt.salt c.in-Ok-engine_by.engine (store c.args.store.now) (store c.may_begin.new.store) (store c.engine_by.new.store)
                c.in-Err-hand_begun.field-0 (keeper c.salt.new.self) (keeper c.hand_begun.new.keeper) c.in-Ok-may_begin.ensures.begins c.in-Ok-engine_by.ensures.ok c.in-Err-hand_begun.ensures;
            failed = c.in-Err-hand_begun.field-0;
            hands = c.in-Err-hand_begun.ensures;
          }));
        });
      };
    }

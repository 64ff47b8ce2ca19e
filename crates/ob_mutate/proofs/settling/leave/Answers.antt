use Rattle.std.proofs.Common.{refl, sym, subst}
use Rattle.ob_mutate.specs.Mutating.{LeavesFormer}
use Rattle.ob_mutate.specs.declared.settling.Former.{Former}
use Rattle.ob_vault.specs.Places.{at}
use Rattle.ob_mutate.proofs.settling.leave.Goals as goal

pub drop_region-requires : goal.drop_region-requires
drop_region-requires g c = record { ready = c.requires.spare.ready; spare = c.requires.spare.spare; lives = c.requires.lives }

pub returns-in-Discard : goal.returns-in-Discard
returns-in-Discard g c =
    let drop = c.drop_region.ensures.drops in
    let old = at g.R.Revisions.state c.args.vault.now (g.S.BlockStore.state c.args.store.now) in
    let new = at g.R.Revisions.state c.drop_region.new.self (g.S.BlockStore.state c.drop_region.new.store) in
    record {
      leaves = subst (λ (former : Former). LeavesFormer former c.args.region old new) (sym c.in-Discard.is)
          (record { went = drop.went; gone = drop.gone; stays = tt; seals = record { seals = drop.seals } });
    }

pub returns-in-Keep : goal.returns-in-Keep
returns-in-Keep g c =
    let forgets = c.forget.ensures.forgets (g.S.BlockStore.state c.args.store.now) in
    let old = at g.R.Revisions.state c.args.vault.now (g.S.BlockStore.state c.args.store.now) in
    let new = at g.R.Revisions.state c.forget.new.self (g.S.BlockStore.state c.args.store.now) in
    record {
      leaves = subst (λ (former : Former). LeavesFormer former c.args.region old new) (sym c.in-Keep.is)
          (record {
            went = forgets.went c.requires.spare.ready;
            gone = forgets.gone;
            stays = record { live = refl; last = λ x. refl; kept = refl };
            seals = record { seals = forgets.seals };
          });
    }

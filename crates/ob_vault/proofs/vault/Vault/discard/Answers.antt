use Rattle.std.proofs.Common.{inl, refl}
use Rattle.ob_vault.proofs.WorldSteps.{lasts_discard, seals_drop, went_call}
use Rattle.ob_vault.proofs.vault.Vault.discard.Goals as goal

pub returns-in-Ok : goal.returns-in-Ok
returns-in-Ok g c =
    let left = inl c.in-Ok.ensures.ok in
    record {
      drops = record {
        went = went_call _ _ _ _ (lasts_discard _ _ _ _ _ c.requires.ready c.requires.below (record { live = λ q off. refl; number = λ q x off. refl; turn = λ q off. refl }) c.requires.gone c.discard.ensures.asks c.discard.ensures.others left)
            c.discard.ensures.asks c.discard.ensures.faults c.discard.ensures.lie;
        never = tt;
        seals = λ good. seals_drop good _ _ _ _ _ c.discard.ensures.asks c.discard.ensures.others left;
        turns = λ r y shape off turn. record { turn = turn.turn; run = turn.run };
        gone = c.requires.gone;
        slips = tt;
        stays = c.in-Ok.ensures.cause;
      };
    }

pub returns-in-Err : goal.returns-in-Err
returns-in-Err g c =
    record {
      drops = record {
        went = went_call _ _ _ _ (lasts_discard _ _ _ _ _ c.requires.ready c.requires.below (record { live = λ q off. refl; number = λ q x off. refl; turn = λ q off. refl }) c.requires.gone c.discard.ensures.asks c.discard.ensures.others c.in-Err.ensures.err)
            c.discard.ensures.asks c.discard.ensures.faults c.discard.ensures.lie;
        never = refl;
        seals = λ good. seals_drop good _ _ _ _ _ c.discard.ensures.asks c.discard.ensures.others c.in-Err.ensures.err;
        turns = λ r y shape off turn. record { turn = turn.turn; run = turn.run };
        gone = c.requires.gone;
        slips = c.in-Err.ensures.cause;
        stays = tt;
      };
    }

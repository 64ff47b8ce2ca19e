use Rattle.std.proofs.Common.{inl, inr, refl, ap}
use Rattle.std.proofs.lemmas.Result.{err_from_is_err_and}
use Rattle.ob_vault.proofs.Runs.{own_made}
use Rattle.ob_flat.specs.Passes.{pass_error}
use Rattle.ob_flat.proofs.Runs.{pass_of, vault_memory}
use Rattle.ob_flat.proofs.creating.make_table.Goals as goal

pub returns-in_err-region : goal.returns-in_err-region
returns-in_err-region g c =
    let p = err_from_is_err_and c.from_residual.result c.from_residual.ensures.1 in
    let made = rw c.region_of_table-shape.ensures at c.in_err-region.ensures.makes in
    rw (p.1, p.2) (record {
      spent = c.make.ensures.spent;
      makes = record {
        ran = record { ok = tt; err = pass_of _ _ _ _ _ made.err };
        never = elim made.never [ inl failed ↦ inl (ap pass_error failed) | inr none ↦ inr (ap pass_error none) ];
        memory = record { did = λ is. made.memory (vault_memory _ is) };
        number = tt;
        lives = tt;
        turn = tt;
        made = tt;
        gone = made.gone;
        seals = record { seals = c.make.ensures.makes.seals };
      };
    })

pub returns : goal.returns
returns g c =
    let made = rw c.region_of_table-shape.ensures at c.in_ok-region.ensures.makes in
    record {
      spent = c.make.ensures.spent;
      makes = record {
        ran = record { ok = made.ok; err = tt };
        never = tt;
        memory = record { did = λ is. absurd (cc is) };
        number = made.number;
        lives = made.lives;
        turn = made.turn;
        made = record { own = own_made _ _ _ made.ok.lasts c.args.vault.now.next c.requires.spare.ready refl; order = c.args.order; lives = made.lives; turn = made.turn };
        gone = tt;
        seals = record { seals = c.make.ensures.makes.seals };
      };
    }

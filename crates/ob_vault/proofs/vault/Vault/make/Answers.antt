use Rattle.std.proofs.Common.{arith, ◌∙◌, inl, inr, refl, sym}
use Rattle.ob_vault.specs.Places.{start_of}
use Rattle.ob_vault.specs.declared.region.Region.{Region}
use Rattle.ob_base.proofs.AccessLemmas.{makes_few, highest_below}
use Rattle.ob_store.proofs.Steps.{did_call}
use Rattle.ob_vault.proofs.WorldSteps.{at_ok, at_err, earlier_region, lasts_make, lasts_unmade, next_gone, only_keeps, seals_make, seals_unmade, went_call, cut_call, cut_call_none}
use Rattle.ob_vault.proofs.vault.Vault.make.Goals as goal

pub overflow_add-self : goal.overflow_add-self
overflow_add-self g c = omega (arith, c.requires.ready.tied.next, c.requires.few, makes_few (g.S.BlockStore.state c.args.store.now).asked, earlier_region (start_of c.args.self.now))

pub make-requires-clause-next : goal.make-requires-clause-next
make-requires-clause-next g c = highest_below _ _ (omega (arith, c.requires.ready.tied.next)) c.requires.ready.tied.above

pub returns-else-is_err : goal.returns-else-is_err
returns-else-is_err g c =
    let begins = at_ok c.begin.result _ (sym c.if-is_err.false ∙ c.is_err.ensures.value) c.begin.ensures.ok in
    let shape : Region = record { blocks = c.args.blocks; width = c.args.width; order = c.args.order } in
    let lasts = lasts_make _ _ _ _ shape c.requires.ready c.requires.width begins c.make.ensures.asks c.in-Ok.ensures.ok in
    record {
      spent = c.make.ensures.asks.spare;
      makes = record {
        ok = went_call _ _ _ _ lasts c.make.ensures.asks c.in-Ok.ensures.cause c.make.ensures.lie;
        err = tt;
        never = tt;
        memory = λ none. absurd (cc none);
        seals = λ good. seals_make good _ _ _ _ _ _ _ c.make.ensures.asks c.in-Ok.ensures.ok;
        number = refl;
        lives = record { live = begins.here };
        turn = record { turn = λ round. sym begins.turn; run = λ round some. absurd (some refl) };
        gone = tt;
      };
    }

pub returns-then-is_err : goal.returns-then-is_err
returns-then-is_err g c =
    let same = at_err c.begin.result _ (sym c.if-is_err.true ∙ c.is_err.ensures.value) c.begin.ensures.err in
    let lasts = lasts_unmade _ _ _ _ _ _ c.requires.ready same c.make.ensures.asks c.in-Ok.ensures.ok.others in
    record {
      spent = c.make.ensures.asks.spare;
      makes = record {
        ok = tt;
        err = cut_call_none _ _ _ _ lasts c.make.ensures.asks c.in-Ok.ensures.cause c.make.ensures.lie;
        never = inr refl;
        memory = λ none. did_call _ _ _ c.make.ensures.asks c.in-Ok.ensures.cause;
        seals = λ good. seals_make good _ _ _ _ _ _ _ c.make.ensures.asks c.in-Ok.ensures.ok;
        number = tt;
        lives = tt;
        turn = tt;
        gone = (λ i. (same i).live c.args.self.now.next) ∙ next_gone _ _ c.requires.ready;
      };
    }

pub returns-in-Err-Failed : goal.returns-in-Err-Failed
returns-in-Err-Failed g c =
    let lasts = lasts_unmade _ _ _ _ _ _ c.requires.ready refl c.make.ensures.asks (only_keeps _ _ _ c.in-Err-Failed.ensures.err) in
    record {
      spent = c.make.ensures.asks.spare;
      makes = record {
        ok = tt;
        err = cut_call _ _ _ _ lasts c.make.ensures.asks (rw c.in-Err-Failed.field-0-is at c.in-Err-Failed.ensures.cause) c.make.ensures.lie;
        never = inl refl;
        memory = λ none. absurd (cc none);
        seals = λ good. seals_unmade good _ _ _ _ _ _ _ c.make.ensures.asks c.in-Err-Failed.ensures.err;
        number = tt;
        lives = tt;
        turn = tt;
        gone = next_gone _ _ c.requires.ready;
      };
    }

pub returns-in-Err-NoMemory : goal.returns-in-Err-NoMemory
returns-in-Err-NoMemory g c =
    let lasts = lasts_unmade _ _ _ _ _ _ c.requires.ready refl c.make.ensures.asks (only_keeps _ _ _ c.in-Err-NoMemory.ensures.err) in
    let faults = rw c.in-Err-NoMemory.field-0-is at c.in-Err-NoMemory.ensures.cause in
    record {
      spent = c.make.ensures.asks.spare;
      makes = record {
        ok = tt;
        err = cut_call_none _ _ _ _ lasts c.make.ensures.asks faults c.make.ensures.lie;
        never = inr refl;
        memory = λ none. did_call _ _ _ c.make.ensures.asks faults;
        seals = λ good. seals_unmade good _ _ _ _ _ _ _ c.make.ensures.asks c.in-Err-NoMemory.ensures.err;
        number = tt;
        lives = tt;
        turn = tt;
        gone = next_gone _ _ c.requires.ready;
      };
    }

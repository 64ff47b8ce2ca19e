use Rattle.std.proofs.Common.{◌≡◌, ◌+◌, ◌-◌, inl, inr, ℕ, List, length, ◌/◌, take, refl, sym, ◌∙◌, ap, subst, arith}
use Rattle.std.proofs.lemmas.Grind.{common_steps}
use Rattle.ob_store.specs.Calls.{ReadGives}
use Rattle.ob_store.proofs.Steps.{none_before, later_call, read_true}
use Rattle.ob_seal.specs.Sealed.{sealed, tag_of}
use Rattle.ob_vault.specs.Rows.{joined, Tails}
use Rattle.ob_vault.specs.Tied.{at_of}
use Rattle.ob_vault.specs.Numbers.{number_after}
use Rattle.ob_vault.specs.Places.{start_of}
use Rattle.ob_vault.proofs.WorldSteps.{lasts_read, seals_read, cut_call}
use Rattle.ob_vault.proofs.Lies.{read_went, read_tampered, read_unfit, read_opened}
use Rattle.ob_vault.proofs.vault.Vault.get_at.Goals as goal

pub returns-in-Err-clause-gets : goal.returns-in-Err-clause-gets
returns-in-Err-clause-gets g c =
    let lasts = lasts_read _ _ _ _ _ _ c.requires.ready c.shape-shape.ensures c.load.ensures.asks c.load.ensures.keeps in
    record {
      ok = tt;
      err = cut_call _ _ _ _ lasts c.load.ensures.asks c.in-Err.ensures.cause c.in-Err.ensures.err;
      never = inl refl;
      seals = λ good. seals_read good _ _ _ _ _ c.load.ensures.asks c.load.ensures.keeps;
      gave = λ off. absurd (off refl);
      opened = tt;
      tails = tt;
      kept = refl;
      told = λ bytes shape lives long holds none. refl;
    }

pub returns-then-open-clause-gets : goal.returns-then-open-clause-gets
returns-then-open-clause-gets g c =
    let place = c.requires.place in
    let keys = c.args.self.now.keys in
    let q = c.args.region in
    let x = c.args.place in
    let old = g.S.BlockStore.state c.args.store.now in
    let new = g.S.BlockStore.state c.load.new.store in
    let block = take (c.shape-shape.result.width + 32) c.load.new.block in
    let lasts = lasts_read _ _ _ _ _ _ c.requires.ready c.shape-shape.ensures c.load.ensures.asks c.load.ensures.keeps in
    let number : c.args.number ≡ number_after (start_of c.args.self.now) old.asked q x = c.requires.number in
    let gave = c.in-Ok.ensures.gave in
    record {
      ok = read_went _ _ _ _ _ c.load.ensures.asks _ lasts c.in-Ok.ensures.ok c.in-Ok.ensures.cause
          (c.open.ensures.tag c.if-open.true ∙ ap (λ (n : ℕ). tag_of keys (at_of q x n) (take (length block - 32) block)) number);
      err = tt;
      never = tt;
      seals = λ good. seals_read good _ _ _ _ _ c.load.ensures.asks c.load.ensures.keeps;
      gave = λ off. subst (λ (b : List ℕ). ReadGives q x b old new) (sym gave) c.in-Ok.ensures.ok;
      opened = λ shape lives.
          let width : c.shape-shape.result.width ≡ shape.width = cc (c.shape-shape.ensures, lives.live) in
          read_opened _ _ _ _ _ c.load.ensures.asks _ _ gave
          (c.open.ensures.opened c.if-open.true ∙ (λ i. sealed keys (at_of q x (number i)) (joined (width i / length c.args.rows.now) c.open.new.rows)));
      tails = λ shape lives.
          let width : c.shape-shape.result.width ≡ shape.width = cc (c.shape-shape.ensures, lives.live) in
          subst (λ (n : ℕ). Tails (n / length c.args.rows.now) c.open.new.rows) width (c.open.ensures.tails c.if-open.true);
      kept = tt;
      told = λ bytes shape lives size holds none.
          let block = read_true _ _ _ _ _ c.in-Ok.ensures.ok (none_before _ _ (later_call _ _ _ c.load.ensures.asks) none) none _ holds.last in
          let width : c.shape-shape.result.width ≡ shape.width = cc (c.shape-shape.ensures, lives.live) in
          let long : c.shape-shape.result.width + 32 ≡ length (take (c.shape-shape.result.width + 32) c.load.new.block) = grind (arith, common_steps, (c.requires.ready.fits _ _ c.shape-shape.ensures).1) in
          ap (λ (n : ℕ). joined (n / length c.args.rows.now) c.open.new.rows) (sym width)
          ∙ (c.open.ensures.opens bytes (omega (arith, long)) (block)).1;
    }

pub returns-else-open-clause-gets : goal.returns-else-open-clause-gets
returns-else-open-clause-gets g c =
    let place = c.requires.place in
    let keys = c.args.self.now.keys in
    let q = c.args.region in
    let x = c.args.place in
    let old = g.S.BlockStore.state c.args.store.now in
    let new = g.S.BlockStore.state c.load.new.store in
    let block = take (c.shape-shape.result.width + 32) c.load.new.block in
    let lasts = lasts_read _ _ _ _ _ _ c.requires.ready c.shape-shape.ensures c.load.ensures.asks c.load.ensures.keeps in
    let number : c.args.number ≡ number_after (start_of c.args.self.now) old.asked q x = c.requires.number in
    let gave = c.in-Ok.ensures.gave in
    record {
      ok = tt;
      err = read_tampered _ _ _ _ _ c.load.ensures.asks _ lasts c.in-Ok.ensures.ok c.in-Ok.ensures.cause
          (read_unfit _ _ _ _ _ c.load.ensures.asks _ gave
          (λ fits. c.open.ensures.bad c.if-open.false (fits ∙ ap (λ (n : ℕ). tag_of keys (at_of q x n) (take (length block - 32) block)) (sym number))));
      never = inr refl;
      seals = λ good. seals_read good _ _ _ _ _ c.load.ensures.asks c.load.ensures.keeps;
      gave = λ off. subst (λ (b : List ℕ). ReadGives q x b old new) (sym gave) c.in-Ok.ensures.ok;
      opened = tt;
      tails = tt;
      kept = c.open.ensures.kept c.if-open.false;
      told = λ bytes shape lives size holds none.
          let block = read_true _ _ _ _ _ c.in-Ok.ensures.ok (none_before _ _ (later_call _ _ _ c.load.ensures.asks) none) none _ holds.last in
          let width : c.shape-shape.result.width ≡ shape.width = cc (c.shape-shape.ensures, lives.live) in
          let long : c.shape-shape.result.width + 32 ≡ length (take (c.shape-shape.result.width + 32) c.load.new.block) = grind (arith, common_steps, (c.requires.ready.fits _ _ c.shape-shape.ensures).1) in
          let fits = (c.open.ensures.opens bytes (omega (arith, long)) (block)).0 in
          absurd (cc (fits, c.if-open.false));
    }

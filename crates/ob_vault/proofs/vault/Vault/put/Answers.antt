use Rattle.std.proofs.Common.{◌≡◌, ◌+◌, inl, inr, ℕ, ◌/◌, List, Option, Some, length, refl, ◌∙◌, ap, subst, arith}
use Rattle.ob_seal.specs.KeySet.{KeySet}
use Rattle.ob_seal.specs.Sealed.{sealed}
use Rattle.ob_seal.specs.declared.At.{At}
use Rattle.ob_vault.specs.declared.region.Region.{Region}
use Rattle.ob_vault.specs.Revs.{turn_after}
use Rattle.ob_vault.specs.Rows.{joined}
use Rattle.ob_vault.specs.State.{World}
use Rattle.ob_vault.specs.Places.{start_of}
use Rattle.ob_vault.specs.Tied.{OnTurn, at_of}
use Rattle.ob_base.proofs.AccessLemmas.{writes_few}
use Rattle.ob_vault.proofs.WorldSteps.{earlier_writes, lasts_write, seals_write, only_write, turn_write, holds_write, went_call, cut_call}
use Rattle.ob_vault.proofs.vault.Vault.put.Goals as goal

pub overflow_add-number : goal.overflow_add-number
overflow_add-number g c = omega (arith, c.requires.ready.tied.count, c.requires.few, writes_few (g.S.BlockStore.state c.args.store.now).asked, earlier_writes (start_of c.args.self.now))

pub wrote-requires-clause-number : goal.wrote-requires-clause-number
wrote-requires-clause-number g c = (omega arith, omega (arith, c.requires.ready.tied.count, c.requires.few, writes_few (g.S.BlockStore.state c.args.store.now).asked, earlier_writes (start_of c.args.self.now)))

-- a region has one shape
same_shape : (o : Option Region) (a b : Region) → o ≡ Some a → o ≡ Some b → a ≡ b
same_shape o a b is at = cc (is, at)

turn_of : (q x : ℕ) (a b : Region) (w : World) → OnTurn q a (turn_after a x) w → a ≡ b → OnTurn q b (turn_after b x) w
turn_of q x a b w is same = subst (λ (s : Region). OnTurn q s (turn_after s x) w) same is

turn_at : (q x : ℕ) (a b : Region) (w : World) → OnTurn q a x w → a ≡ b → OnTurn q b x w
turn_at q x a b w is same = subst (λ (s : Region). OnTurn q s x w) same is

-- the block that was shut, by any way of naming the shape
block_of : (keys : KeySet) (at : At) (n : ℕ) (rows : List (List ℕ)) (block : List ℕ) (a : Region) → block ≡ sealed keys at (joined (a.width / n) rows)
    → (b : Region) → a ≡ b → block ≡ sealed keys at (joined (b.width / n) rows)
block_of keys at n rows block a is b same = is ∙ ap (λ (s : Region). sealed keys at (joined (s.width / n) rows)) same

pub returns-in-Ok : goal.returns-in-Ok
returns-in-Ok g c =
    let lives = c.shape-shape.ensures in
    let wrote = c.wrote.ensures c.shape-shape.result lives in
    let write = c.write.ensures in
    let in_turn = turn_at _ _ _ _ _ c.requires.place.turn (same_shape _ _ _ c.requires.place.place.lives.live lives) in
    let lasts = lasts_write _ _ _ _ _ _ _ c.requires.ready lives c.requires.place.own in_turn wrote write.asks write.only in
    let shut = block_of c.args.self.now.keys (at_of c.args.region c.args.place (c.args.self.now.count + 1)) (length c.args.rows.now) c.args.rows.now _ c.shape-shape.result c.shut.ensures in
    record {
      spent = c.write.ensures.asks.spare;
      puts = record {
        ok = went_call _ _ _ _ lasts write.asks c.in-Ok.ensures.cause write.lie;
        err = tt;
        never = tt;
        only = only_write _ _ _ _ _ _ _ c.requires.ready lives c.requires.place.own in_turn wrote write.asks write.only;
        number = wrote.here;
        written = record { number = λ none. absurd (omega (arith, none, wrote.here)) };
        turn = λ shape is. turn_of _ _ _ _ _ (turn_write _ _ _ _ _ _ _ c.requires.ready lives c.requires.place.own in_turn wrote write.asks write.only) (same_shape _ _ _ lives is.live);
        seals = λ good shape is fine.
            seals_write _ _ _ _ _ _ _ c.requires.ready lives c.requires.place.own in_turn wrote write.asks write.only good _ _ fine (shut shape (same_shape _ _ _ lives is.live)) (λ tells. inr (c.in-Ok.ensures.ok.last tells));
        told = λ tells shape is.
            holds_write _ _ _ _ _ _ _ c.requires.ready lives c.requires.place.own in_turn wrote write.asks write.only _ _ (shut shape (same_shape _ _ _ lives is.live)) (c.in-Ok.ensures.ok.last tells);
        failed = tt;
      };
    }

pub returns-in-Err : goal.returns-in-Err
returns-in-Err g c =
    let lives = c.shape-shape.ensures in
    let wrote = c.wrote.ensures c.shape-shape.result lives in
    let write = c.write.ensures in
    let in_turn = turn_at _ _ _ _ _ c.requires.place.turn (same_shape _ _ _ c.requires.place.place.lives.live lives) in
    let lasts = lasts_write _ _ _ _ _ _ _ c.requires.ready lives c.requires.place.own in_turn wrote write.asks write.only in
    let shut = block_of c.args.self.now.keys (at_of c.args.region c.args.place (c.args.self.now.count + 1)) (length c.args.rows.now) c.args.rows.now _ c.shape-shape.result c.shut.ensures in
    record {
      spent = c.write.ensures.asks.spare;
      puts = record {
        ok = tt;
        err = cut_call _ _ _ _ lasts write.asks c.in-Err.ensures.cause write.lie;
        never = refl;
        only = only_write _ _ _ _ _ _ _ c.requires.ready lives c.requires.place.own in_turn wrote write.asks write.only;
        number = wrote.here;
        written = record { number = λ none. absurd (omega (arith, none, wrote.here)) };
        turn = λ shape is. turn_of _ _ _ _ _ (turn_write _ _ _ _ _ _ _ c.requires.ready lives c.requires.place.own in_turn wrote write.asks write.only) (same_shape _ _ _ lives is.live);
        seals = λ good shape is fine.
            seals_write _ _ _ _ _ _ _ c.requires.ready lives c.requires.place.own in_turn wrote write.asks write.only good _ _ fine (shut shape (same_shape _ _ _ lives is.live)) (λ tells. elim c.in-Err.ensures.err.last [ inl same ↦ inl (c.in-Err.ensures.cause, same) | inr new ↦ inr new ]);
        told = tt;
        failed = λ tells shape is. elim c.in-Err.ensures.err.last [
          | inl same ↦ inl same
          | inr new ↦ inr (holds_write _ _ _ _ _ _ _ c.requires.ready lives c.requires.place.own in_turn wrote write.asks write.only _ _ (shut shape (same_shape _ _ _ lives is.live)) new)
        ];
      };
    }

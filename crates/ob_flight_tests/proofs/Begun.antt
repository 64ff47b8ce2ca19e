-- An engine that was started over a store of which nothing was asked takes statements.
use Rattle.std.proofs.Common.{◌≡◌, false, [], None, ap, ◌∙◌, Result, Ok, Err, IfOk}
use Rattle.ob_base.specs.declared.config.Public.{Public}
use Rattle.ob_store.specs.State.{StoreState}
use Rattle.ob_tables.specs.Agreeing.{Agrees, has_ended, public_of, replaced_of}
use Rattle.ob_tables.specs.declared.engine.Engine.{Engine}
use Rattle.ob_vault.specs.State.{RevState}
use Rattle.ob_flight_tests.specs.Sessions.{IsSession}

pub begun : {R E : Type 0} (state : R → RevState) (p : Public) (r : Result (Engine R) E)
    → p.save ≡ false → IfOk r (λ e. (s : StoreState) → s.asked ≡ [] → Agrees state e s)
    → IfOk r (λ e. public_of e ≡ p) → IfOk r (λ e. replaced_of e ≡ None)
    → IfOk r (λ e. has_ended e ≡ false)
    → IfOk r (λ e. (s : StoreState) → s.asked ≡ [] → IsSession state e s)
begun state p (Ok e) unsaved agrees is settled lives = λ s none.
    let save = ap (λ (q : Public). q.save) is ∙ unsaved in
    record {
      agrees = agrees s none;
      lives = lives;
      settled = settled;
      saves = record {
        saves = λ saves. absurd (cc (save, saves));
        salted = λ saves. absurd (cc (save, saves));
        listed = λ saves. absurd (cc (save, saves));
      };
    }
begun state p (Err x) unsaved agrees is settled lives = tt

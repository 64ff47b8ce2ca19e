-- What INSERTs of a batch are answered by other settings and after other accesses, where the tables have the same headings.
use Rattle.ob_tables.proofs.Words.{All-head, All-tail, ap, AreServedWith, Bool, early_refusal, Heading, headings_of, is_late, limits_of, List, Option, Outcome, Public, Refusal, refusal_now, Stmt, subst, sym, ℕ, [], ◌∙◌, ◌∷◌, ◌≡◌}
use Rattle.std.specs.Prelude.{All}
use Rattle.ob_mean.proofs.BatchLemmas.{Inserts, early_like}
use Rattle.ob_tables.specs.Batch.{IsServedWith}

module _ (p q : Public) (m n : ℕ) (late : is_late m ≡ is_late n) (same : headings_of p.tables ≡ headings_of q.tables) where
  pub refusal_alike : (stmt : Stmt) → Inserts stmt → refusal_now p m stmt ≡ refusal_now q n stmt
  refusal_alike stmt inserts =
      early_like (is_late m) (limits_of p) (limits_of q) (headings_of p.tables) stmt inserts
      ∙ ap (λ (b : Bool). early_refusal b (limits_of q) (headings_of p.tables) stmt) late
      ∙ ap (λ (hs : List Heading). early_refusal (is_late n) (limits_of q) hs stmt) same

  pub served_alike : (failed : Bool) (stmts : List Stmt) (outcomes : List Outcome) → All Inserts stmts → AreServedWith p m failed stmts outcomes → AreServedWith q n failed stmts outcomes
  served_alike failed [] [] inserts served = served
  served_alike failed [] (outcome ∷ outcomes) inserts served = served
  served_alike failed (stmt ∷ stmts) [] inserts served = served
  served_alike failed (stmt ∷ stmts) (outcome ∷ outcomes) inserts served = (
    subst (λ (o : Option Refusal). IsServedWith o failed outcome) (refusal_alike stmt (All-head Inserts stmt stmts inserts)) served.0,
    served_alike failed stmts outcomes (All-tail Inserts stmt stmts inserts) served.1,
  )

-- What a server refers to stays.
use Rattle.ob_shell.proofs.Words.{refl, ℕ, ◌∙◌}
use Rattle.ob_shell.specs.Servers.{KeepsServer}
use Rattle.ob_shell.specs.declared.session.Server.{Server}

module _ {R S B K T D : Type 0} {name : B → ℕ} where
  pub keeps_all : (s : Server R S B K T D) → KeepsServer name s s
  keeps_all s = record { engine = refl; store = refl; commit = refl; out = refl; trace = refl; digest = refl; keeper = refl }

  pub keeps_then : {s t u : Server R S B K T D} → KeepsServer name s t → KeepsServer name t u → KeepsServer name s u
  keeps_then a b = record {
    engine = b.engine ∙ a.engine;
    store = b.store ∙ a.store;
    commit = b.commit ∙ a.commit;
    out = b.out ∙ a.out;
    trace = b.trace ∙ a.trace;
    digest = b.digest ∙ a.digest;
    keeper = b.keeper ∙ a.keeper;
  }

use Rattle.std.proofs.Common.{◌≡◌, ℕ, subst}
use Rattle.ob_vault.specs.Places.{at}
use Rattle.ob_vault.specs.VaultCalls.{Forgets}
use Rattle.ob_tables.proofs.engine.Engine.list_in.Goals as goal

pub returns-in-Some-clause-forgets : goal.returns-in-Some-clause-forgets
returns-in-Some-clause-forgets g c = λ q is s.
    let here = c.in-Some.is in
    let same : c.in-Some.q ≡ q = cc (here, is) in
    subst (λ (n : ℕ). Forgets n (at g.R.Revisions.state c.args.self.now.vault s) (at g.R.Revisions.state c.forget.new.self s)) same (c.forget.ensures.forgets s)

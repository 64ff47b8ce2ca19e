use Rattle.std.proofs.Common.{ap, sym, length, subst, [], List}
use Rattle.ob_base.specs.declared.access.Access.{Access}
use Rattle.ob_store.specs.declared.runs.Start.{Start}
use Rattle.ob_store.specs.Kept.{IsLog, runs_of}
use Rattle.ob_store.proofs.LogLemmas.{no_log}
use Rattle.ob_store.proofs.runs.Runs.clear.Goals as goal

pub invariant_of-self : goal.invariant_of-self
invariant_of-self c =
    subst (λ (l : List Access). IsLog l c.clear-2.new.self.items 0) (sym c.clear.ensures.items) (subst (λ (l : List Start). IsLog [] l 0) (sym c.clear-2.ensures.items) no_log)

pub returns-clause-runs : goal.returns-clause-runs
unfolding runs_of
returns-clause-runs c = ap (λ (l : List Start). runs_of c.clear.new.self.items l (length l) (length c.clear.new.self.items) 0) c.clear-2.ensures.items

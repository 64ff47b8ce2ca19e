use Rattle.std.proofs.Common.{ap, sym, length, subst, [], List}
use Rattle.ob_base.specs.declared.access.Access.{Access}
use Rattle.ob_store.specs.declared.runs.Start.{Start}
use Rattle.ob_store.specs.Kept.{IsLog, runs_of}
use Rattle.ob_store.proofs.LogLemmas.{no_log}
use Rattle.ob_store.proofs.runs.Runs.new.Goals as goal

pub invariant_of-result : goal.invariant_of-result
invariant_of-result c =
    subst (λ (l : List Access). IsLog l c.new-2.result.items 0) (sym c.new.ensures.items) (subst (λ (l : List Start). IsLog [] l 0) (sym c.new-2.ensures.items) no_log)

pub returns : goal.returns
unfolding runs_of
returns c = ap (λ (l : List Start). runs_of c.new.result.items l (length l) (length c.new.result.items) 0) c.new-2.ensures.items

use Rattle.std.proofs.Common.{◌≡◌, ◌++◌, sym, subst, OnOk}
use Rattle.ob_mean.specs.Step.{source_rows}
use Rattle.ob_reference.proofs.sources.add_source.Goals as goal

pub returns-in-Join : goal.returns-in-Join
returns-in-Join c =
    subst (λ s. OnOk c.add_join.result (c.add_join.new.to.items ≡ c.args.to.now.items ++ source_rows s c.args.tables.now)) (sym c.in-Join.is) c.add_join.ensures

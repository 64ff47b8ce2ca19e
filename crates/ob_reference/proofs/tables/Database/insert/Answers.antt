use Rattle.std.proofs.Common.{◌≡◌, ◌∙◌, subst, IfOk}
use Rattle.ob_sql.specs.declared.stmt.Stmt.TheVariants.{Insert}
use Rattle.ob_mean.specs.Step.{late_refusal}
use Rattle.ob_reference.proofs.tables.Database.insert.Goals as goal

pub returns-clause-refusal : goal.returns-clause-refusal
returns-clause-refusal c _ =
    subst (λ db. IfOk c.insert_at.result (λ r. r ≡ late_refusal 0 db (Insert c.args.table.now c.args.names.now c.args.values.now))) (c.as_mut_slice.ensures.value ∙ c.self.view_is) c.insert_at.ensures.refusal

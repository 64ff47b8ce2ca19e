use Rattle.std.proofs.Common.{sym, ◌∙◌, ap}
use Rattle.ob_sql.specs.declared.stmt.Stmt.TheVariants.{Insert}
use Rattle.ob_mean.specs.declared.answer.Answer.TheVariants.{Done}
use Rattle.ob_mean.specs.Step.{late_refusal, answered, followed, accepted_answer, accepted_next}
use Rattle.ob_reference.proofs.tables.Database.carry_out.Goals as goal

pub returns-in-Ok-insert-clause-answer : goal.returns-in-Ok-insert-clause-answer
returns-in-Ok-insert-clause-answer c =
    let i = c.in-Insert in
    let db = c.args.self.now in
    c.refused_or_done.ensures
    ∙ ap (λ r. answered r Done) (c.in-Ok-insert.ensures.refusal c.args.limit)
    ∙ (λ t. answered (late_refusal c.args.limit db (Insert i.table i.columns (c.as_slice-in-Insert.ensures t))) Done)
    ∙ sym (ap (λ s. answered (late_refusal c.args.limit db s) (accepted_answer db s)) i.is)

pub returns-in-Ok-insert-clause-next : goal.returns-in-Ok-insert-clause-next
returns-in-Ok-insert-clause-next c =
    let i = c.in-Insert in
    let db = c.args.self.now in
    let given = c.as_slice-in-Insert.result.now in
    c.in-Ok-insert.ensures.next
    ∙ (λ t. followed (c.in-Ok-insert.ensures.refusal c.args.limit t) (accepted_next db (Insert i.table i.columns given)) db)
    ∙ (λ t. followed (late_refusal c.args.limit db (Insert i.table i.columns (c.as_slice-in-Insert.ensures t))) (accepted_next db (Insert i.table i.columns (c.as_slice-in-Insert.ensures t))) db)
    ∙ sym (ap (λ s. followed (late_refusal c.args.limit db s) (accepted_next db s) db) i.is)

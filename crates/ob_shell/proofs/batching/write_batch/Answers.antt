use Rattle.ob_shell.proofs.Words.{Appends-nil, inr, Outputs-by, Outputs-fault, Outputs-whole, refl, [], ◌∙◌}
use Rattle.std.proofs.lemmas.Result.{on_ok_weaker}
use Rattle.ob_shell.proofs.LineLemmas.{all_lines, batch_cut, first_lost}
use Rattle.ob_shell.proofs.batching.write_batch.Goals as goal

-- the first line was lost: nothing was traced
pub returns-in-Err-clause-cut : goal.returns-in-Err-clause-cut
returns-in-Err-clause-cut g c =
    let line = c.as_bytes.ensures ∙ c.closing_line.ensures in
    first_lost c.args.outcome c.args.outcomes.now (Outputs-fault c.in-Err.ensures.cause.failed (rw line at c.in-Err.ensures.cut))
    (record { grown = []; appends = Appends-nil _; prefix = record { lost = _; whole = refl }; all = inr tt })

-- a part of the trace was
pub returns-in-Err-trace_from-clause-cut : goal.returns-in-Err-trace_from-clause-cut
returns-in-Err-trace_from-clause-cut g c =
    let line = c.as_bytes.ensures ∙ c.closing_line.ensures in
    first_lost c.args.outcome c.args.outcomes.now (Outputs-whole _ _ _ _ (rw line at c.in_default.ensures.ok)) (Outputs-by (λ err. tt) c.in-Err-trace_from.ensures.cut)

-- or one of the others
pub returns-clause-ok : goal.returns-clause-ok
returns-clause-ok g c =
    let line = c.as_bytes.ensures ∙ c.closing_line.ensures in
    all_lines _ _ _ c.args.outcome c.args.outcomes.now (rw line at c.in_default.ensures.ok) c.write_lines.result c.write_lines.ensures.ok

pub returns-clause-cut : goal.returns-clause-cut
returns-clause-cut g c =
    let line = c.as_bytes.ensures ∙ c.closing_line.ensures in
    batch_cut _ _ _ c.args.outcome c.args.outcomes.now (rw line at c.in_default.ensures.ok) _ _ _ c.write_lines.result c.write_lines.ensures.cut c.in_default-trace_from.ensures.ok c.in_default.ensures.cause.kept c.write_lines.ensures.cause

-- the digest took it before
pub returns-clause-took : goal.returns-clause-took
returns-clause-took g c = on_ok_weaker c.write_lines.result (λ wrote. c.in_default-trace_from.ensures.took) c.write_lines.ensures.ok

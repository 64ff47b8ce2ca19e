use Rattle.std.proofs.Common.{◌++◌, ◌≤◌, length, refl, ◌∙◌, arith}
use Rattle.std.proofs.KnownBytes.{Appends-trans}
use Rattle.ob_print.proofs.CutLemmas.{Outputs-after, Outputs-whole, Outputs-fault, Outputs-more}
use Rattle.ob_gen.proofs.Summing.{line_at, lines_done, lines_more, lines_none}
use Rattle.ob_gen.proofs.summary.write_lines.Goals as goal

pub loop-line-init : goal.loop-line-init
loop-line-init g c = record { so_far = lines_none (g.K.Sink.written c.args.out.now) c.args.lines.now; faults = refl }

pub returns-in-Err-clause-cut : goal.returns-in-Err-clause-cut
returns-in-Err-clause-cut g c =
    let lines = c.args.lines.now in
    let before = c.loop-line.invariant.so_far in
    let at = line_at lines c.loop-line.line-index c.line-item.result c.as_bytes.result.now c.loop-line-test.true c.line-item.is c.as_bytes.ensures in
    rw (lines_more lines c.loop-line.line-index c.as_bytes.result.now before.0 at before.2) (Outputs-more _ (Outputs-after _ before.1 (Outputs-fault refl c.in-Err.ensures.cut)) refl)

pub loop-line-preserved : goal.loop-line-preserved
loop-line-preserved g c =
    let lines = c.args.lines.now in
    let before = c.loop-line.invariant.so_far in
    let at = line_at lines c.loop-line.line-index c.line-item.result c.as_bytes.result.now c.loop-line-test.true c.line-item.is c.as_bytes.ensures in
    record {
      so_far = (
        before.0 ++ c.as_bytes.result.now,
        Appends-trans _ _ _ _ _ before.1 c.in_default.ensures.ok,
        lines_more lines c.loop-line.line-index c.as_bytes.result.now before.0 at before.2,
      );
      faults = c.in_default.ensures.cause.kept ∙ c.loop-line.invariant.faults;
    }

pub returns-clause-ok : goal.returns-clause-ok
returns-clause-ok g c =
    let before = c.loop-line.invariant.so_far in
    let end : length c.args.lines.now ≤ c.loop-line.line-index = omega arith in
    rw (← lines_done _ _ _ end before.2) before.1

pub returns-clause-cut : goal.returns-clause-cut
returns-clause-cut g c =
    let before = c.loop-line.invariant.so_far in
    let end : length c.args.lines.now ≤ c.loop-line.line-index = omega arith in
    rw (← lines_done _ _ _ end before.2) (Outputs-whole _ _ _ _ before.1)

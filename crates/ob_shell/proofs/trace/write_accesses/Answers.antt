use Rattle.ob_shell.proofs.Words.{arith, drop, false, length, Outputs-by, refl, true, [], ◌++◌, ◌∙◌, ◌≡◌, ◌≤◌}
use Rattle.ob_print.specs.Lines.{trace_text}
use Rattle.ob_print.specs.Sent.{sends_none}
use Rattle.ob_print.proofs.SentLemmas.{Sends-by, Sends-cut, Sends-lose, Sends-then, flushed, flushed_ok}
use Rattle.ob_shell.proofs.TraceLemmas.{trace_more, trace_done}
use Rattle.ob_shell.proofs.trace.write_accesses.Goals as goal

pub loop-i-init : goal.loop-i-init
loop-i-init g c = record { so_far = ([], sends_none _ _, refl); same_sink = refl; faults = refl }

pub returns-in-Err-clause-cut : goal.returns-in-Err-clause-cut
returns-in-Err-clause-cut g c =
    let before = c.loop-i.invariant.so_far in
    let all = trace_text (drop c.args.from (g.S.BlockStore.state c.args.store.now).asked) in
    let more = trace_more (g.S.BlockStore.state c.args.store.now).asked c.loop-i.i c.nth.result c.as_bytes.result.now before.0 all
    (c.as_bytes.ensures ∙ c.access_line-line.ensures) c.nth.ensures before.2 in
    Outputs-by (λ _. refl) (Sends-cut all c.requires.none (Sends-lose all (before.0 ++ c.as_bytes.result.now) _ more (Sends-then before.0 c.as_bytes.result.now before.1 c.in-Err.ensures.sends) refl))

pub loop-i-preserved : goal.loop-i-preserved
loop-i-preserved g c =
    let before = c.loop-i.invariant in
    let so_far = before.so_far in
    record {
      so_far = (
        so_far.0 ++ c.as_bytes.result.now,
        Sends-then so_far.0 c.as_bytes.result.now so_far.1 (Sends-by (λ (h : false ≡ true). absurd (cc)) c.in_default.ensures.sends),
        trace_more (g.S.BlockStore.state c.args.store.now).asked c.loop-i.i c.nth.result c.as_bytes.result.now so_far.0
            (trace_text (drop c.args.from (g.S.BlockStore.state c.args.store.now).asked)) (c.as_bytes.ensures ∙ c.access_line-line.ensures) c.nth.ensures so_far.2,
      );
      same_sink = c.write_all.ensures.same_sink ∙ before.same_sink;
      faults = c.in_default.ensures.cause.kept ∙ before.faults;
    }

pub returns-clause-ok : goal.returns-clause-ok
returns-clause-ok g c =
    let before = c.loop-i.invariant.so_far in
    let end : length (g.S.BlockStore.state c.args.store.now).asked ≤ c.loop-i.i = omega arith in
    rw (← trace_done _ _ _ _ end before.2) (flushed_ok c.flush.result before.0 c.requires.none before.1 c.flush.ensures.cut)

pub returns-clause-cut : goal.returns-clause-cut
returns-clause-cut g c =
    let before = c.loop-i.invariant.so_far in
    let end : length (g.S.BlockStore.state c.args.store.now).asked ≤ c.loop-i.i = omega arith in
    rw (← trace_done _ _ _ _ end before.2) (flushed before.0 c.requires.none before.1 c.flush.ensures.cut)

use Rattle.ob_shell.proofs.Words.{arith, refl, ◌∙◌}
use Rattle.std.proofs.Common.{length-take, length-set}
use Rattle.ob_shell.proofs.FeedLemmas.{Fed-none, Fed-then}
use Rattle.ob_shell.proofs.KeyLemmas.{key_halted, key_at_end, key_at_lf, key_too_long, line_grows, has_lf-nil, has_lf-push, none_unread}
use Rattle.ob_shell.proofs.key.read_key.Goals as goal

pub line-init : goal.line-init
line-init g c = record { fed = Fed-none _ _; no_lf = has_lf-nil; short = omega arith; sized = refl; within = c.requires.taken; fed_by = c.requires.fed_by; source = refl }

pub returns-in-Err-clause-read : goal.returns-in-Err-clause-read
returns-in-Err-clause-read g c =
    let fetch = rw c.in-Err.halt-is at c.in-Err.ensures in
    let before = c.line.invariant in
    key_halted c.in-Err.halt before.fed fetch.fed before.no_lf (omega (arith, length-take c.line.n c.line.line, before.sized, c.line-test.true))
    (none_unread c.next.new.self (g.S.Source.left c.next.new.source) (g.S.Source.gave c.next.new.source) (g.S.Source.faults c.line.source) (g.S.Source.faults c.next.new.source) c.in-Err.halt fetch.cause)

pub returns-in-Ok-None-clause-read : goal.returns-in-Ok-None-clause-read
returns-in-Ok-None-clause-read g c =
    let fetch = rw c.in-Ok-None.field-0-is at c.in-Ok-None.ensures in
    let before = c.line.invariant in
    rw c.line_at_end.ensures
    (key_at_end c.decode.result before.fed fetch.fed before.no_lf fetch.cause.1 fetch.cause.2 fetch.cause.3 c.decode.ensures)

pub returns-then-b-eq10-clause-read : goal.returns-then-b-eq10-clause-read
returns-then-b-eq10-clause-read g c =
    let fetch = rw c.in-Ok-Some.field-0-is at c.in-Ok-Some.ensures in
    let before = c.line.invariant in
    rw c.line_before_more.ensures
    (key_at_lf c.decode-then-b-eq10.result _ before.fed fetch.fed c.if-b-eq10.true before.no_lf c.decode-then-b-eq10.ensures)

pub line-preserved : goal.line-preserved
line-preserved g c =
    let fetch = rw c.in-Ok-Some.field-0-is at c.in-Ok-Some.ensures in
    let before = c.line.invariant in
    let grows = line_grows c.line.line c.line.n c.in-Ok-Some.b (omega (arith, before.sized, c.line-test.true)) in
    record {
      fed = rw grows (Fed-then before.fed fetch.fed);
      no_lf = rw grows (has_lf-push _ _ before.no_lf c.if-b-eq10.false);
      short = omega arith;
      sized = length-set _ _ _ ∙ before.sized;
      within = fetch.within;
      fed_by = fetch.fed_by;
      source = fetch.cause.0 ∙ before.source;
    }

pub returns-clause-read : goal.returns-clause-read
returns-clause-read g c =
    let before = c.line.invariant in
    key_too_long before.fed before.no_lf (omega (arith, length-take c.line.n c.line.line, before.sized, before.short))

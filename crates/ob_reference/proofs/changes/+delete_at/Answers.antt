use Rattle.std.proofs.Common.{filter, not}
use Rattle.ob_row.specs.Truth.{is_true}
use Rattle.ob_mean.specs.Conditions.{where_at}
use Rattle.ob_reference.proofs.TableLemmas.{same_name, counted_here, counted_behind, put_here, put_behind}
use Rattle.ob_reference.proofs.changes.+delete_at.Goals as goal

pub returns-then-eq-clause-count : goal.returns-then-eq-clause-count
returns-then-eq-clause-count t c =
    counted_here c.args.table.now c.args.cond.now c.in-Some.held.now c.in-Some.tables.now c.in-Some.ensures.cases.0
    (same_name c.if-eq.ensures c.as_bytes.ensures.value c.heading.ensures c.as_bytes-in-Some.ensures.value) c.delete_held.ensures.count

pub returns-then-eq-clause-next : goal.returns-then-eq-clause-next
returns-then-eq-clause-next t c =
    put_here c.args.table.now (λ cs. filter (λ row. not (is_true (where_at c.args.cond.now cs) row))) c.in-Some.held.now c.in-Some.tables.now c.in-Some.ensures.cases.0
    (same_name c.if-eq.ensures c.as_bytes.ensures.value c.heading.ensures c.as_bytes-in-Some.ensures.value) c.delete_held.ensures.next

pub returns-else-eq-clause-count : goal.returns-else-eq-clause-count
returns-else-eq-clause-count t c =
    counted_behind c.args.table.now c.args.cond.now c.in-Some.held.now c.in-Some.tables.now c.in-Some.ensures.cases.0
    (same_name c.if-eq.ensures c.as_bytes.ensures.value c.heading.ensures c.as_bytes-in-Some.ensures.value) c.delete_at.ensures.count

pub returns-else-eq-clause-next : goal.returns-else-eq-clause-next
returns-else-eq-clause-next t c =
    put_behind c.args.table.now (λ cs. filter (λ row. not (is_true (where_at c.args.cond.now cs) row))) c.in-Some.held.now c.in-Some.tables.now c.in-Some.ensures.cases.0
    (same_name c.if-eq.ensures c.as_bytes.ensures.value c.heading.ensures c.as_bytes-in-Some.ensures.value) c.delete_at.ensures.next

use Rattle.ob_reference.proofs.TableLemmas.{same_name, insert_here, insert_behind, refused_here, refused_behind, kept_here, kept_behind}
use Rattle.ob_reference.proofs.inserts.+insert_at.Goals as goal

pub returns-then-eq-clause-refusal : goal.returns-then-eq-clause-refusal
returns-then-eq-clause-refusal t c =
    refused_here c.args.table.now c.args.names.now c.args.values.now c.in-Some.held.now c.in-Some.tables.now c.insert_held.result c.in-Some.ensures.cases.0
    (same_name c.if-eq.ensures c.as_bytes.ensures.value c.heading.ensures c.as_bytes-in-Some.ensures.value) c.insert_held.ensures.refusal

pub returns-then-eq-clause-next : goal.returns-then-eq-clause-next
returns-then-eq-clause-next t c =
    insert_here c.args.table.now c.args.names.now c.args.values.now c.in-Some.held.now c.in-Some.tables.now c.insert_held.new.held c.insert_held.result c.in-Some.ensures.cases.0
    (same_name c.if-eq.ensures c.as_bytes.ensures.value c.heading.ensures c.as_bytes-in-Some.ensures.value) c.insert_held.ensures.next

pub returns-then-eq-clause-err : goal.returns-then-eq-clause-err
returns-then-eq-clause-err t c = kept_here c.in-Some.held.now c.insert_held.new.held c.in-Some.tables.now c.insert_held.result c.in-Some.ensures.cases.0 c.insert_held.ensures.err

pub returns-in-Err-clause-err : goal.returns-in-Err-clause-err
returns-in-Err-clause-err t c = kept_behind c.in-Some.ensures.cases.0 c.in-Err.ensures.err

pub returns-in-Ok-clause-refusal : goal.returns-in-Ok-clause-refusal
returns-in-Ok-clause-refusal t c =
    refused_behind c.args.table.now c.args.names.now c.args.values.now c.in-Some.held.now c.in-Some.tables.now c.in-Some.ensures.cases.0
    (same_name c.if-eq.ensures c.as_bytes.ensures.value c.heading.ensures c.as_bytes-in-Some.ensures.value) c.in-Ok.ensures.refusal

pub returns-in-Ok-clause-next : goal.returns-in-Ok-clause-next
returns-in-Ok-clause-next t c =
    insert_behind c.args.table.now c.args.names.now c.args.values.now c.in-Some.held.now c.in-Some.tables.now c.in-Ok.refusal c.in-Some.ensures.cases.0
    (same_name c.if-eq.ensures c.as_bytes.ensures.value c.heading.ensures c.as_bytes-in-Some.ensures.value) c.in-Ok.ensures.next

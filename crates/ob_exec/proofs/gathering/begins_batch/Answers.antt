use Rattle.ob_exec.proofs.Words.{ap, arith, count_of, early_refusal, false, headings_of, limits_of, List, Public, sym, true, ◌∙◌}
use Rattle.ob_base.specs.declared.schema.Table.{Table}
use Rattle.ob_mean.specs.Batches.{batch_most}
use Rattle.ob_mean.specs.Refusals.{is_index}
use Rattle.ob_exec.proofs.GatheringLemmas.{begins_kept, begins_late, begins_none, begins_unrefused, flat_insert, no_insert, none_is}
use Rattle.ob_tables.specs.Agreeing.{public_of}
use Rattle.ob_exec.proofs.gathering.begins_batch.Goals as goal

pub returns-in_default : goal.returns-in_default
returns-in_default g c =
    let p = public_of c.args.engine.now in
    sym (begins_kept p (count_of c.args.engine.now (g.S.BlockStore.state c.args.store.now)) c.args.stmt.now (no_insert p c.args.stmt.now c.in_default.not-Insert))

pub returns-then-batch_most-lt2 : goal.returns-then-batch_most-lt2
returns-then-batch_most-lt2 g c =
    let most = c.batch_most.ensures ∙ ap batch_most c.public-public.ensures in
    sym (begins_none (public_of c.args.engine.now) (count_of c.args.engine.now (g.S.BlockStore.state c.args.store.now)) c.args.stmt.now (omega (arith, c.if-batch_most-lt2.true, most)))

pub returns-then-spent-ge-LATE_FOR_BATCHES : goal.returns-then-spent-ge-LATE_FOR_BATCHES
returns-then-spent-ge-LATE_FOR_BATCHES g c =
    sym (begins_late (public_of c.args.engine.now) (count_of c.args.engine.now (g.S.BlockStore.state c.args.store.now)) c.args.stmt.now c.spent.result c.spent.ensures (omega (arith, c.if-spent-ge-LATE_FOR_BATCHES.true)))

pub returns-then-is_index : goal.returns-then-is_index
returns-then-is_index g c =
    let p = public_of c.args.engine.now in
    let tables = c.as_slice.ensures ∙ ap (λ (q : Public). q.tables) c.public-public.ensures in
    let index = c.is_index.ensures ∙ ap (λ (ts : List Table). is_index (headings_of ts) c.in-Insert.table) tables in
    sym (begins_kept p (count_of c.args.engine.now (g.S.BlockStore.state c.args.store.now)) c.args.stmt.now
    (flat_insert p c.args.stmt.now c.in-Insert.table _ _ true c.in-Insert.is (sym index ∙ c.if-is_index.true)))

pub returns : goal.returns
returns g c =
    let p = public_of c.args.engine.now in
    let most = c.batch_most.ensures ∙ ap batch_most c.public-public.ensures in
    let tables = c.as_slice.ensures ∙ ap (λ (q : Public). q.tables) c.public-public.ensures in
    let index = c.is_index.ensures ∙ ap (λ (ts : List Table). is_index (headings_of ts) c.in-Insert.table) tables in
    let refusal = c.early_refusal.ensures ∙ ap (λ (q : Public). early_refusal false (limits_of q) (headings_of q.tables) c.args.stmt.now) c.public-public.ensures in
    none_is c.early_refusal.result c.is_none.result c.is_none.ensures
    ∙ begins_unrefused p (count_of c.args.engine.now (g.S.BlockStore.state c.args.store.now)) c.args.stmt.now c.spent.result c.early_refusal.result (omega (arith, c.if-batch_most-lt2.false, most)) c.spent.ensures
    (omega (arith, c.if-spent-ge-LATE_FOR_BATCHES.false)) (flat_insert p c.args.stmt.now c.in-Insert.table _ _ false c.in-Insert.is (sym index ∙ c.if-is_index.false)) refusal

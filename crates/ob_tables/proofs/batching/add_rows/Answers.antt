use Rattle.ob_tables.proofs.Words.{ap, false, IsSome, map, refusal_by, rows_in, skeleton, Stmt, subst, sym, [], ◌++◌, ◌∙◌, ◌∷◌}
use Rattle.std.proofs.lemmas.List.{take_all}
use Rattle.ob_mean.specs.Batches.{inserts_into}
use Rattle.ob_tables.proofs.BatchLoops.{refusals_more, rows_all, rows_more}
use Rattle.ob_tables.proofs.batching.add_rows.Goals as goal

pub add_next-requires-clause-insert : goal.add_next-requires-clause-insert
add_next-requires-clause-insert c =
    subst (λ (stmt : Stmt). IsSome (inserts_into (skeleton stmt))) (sym c.insert-item.is) (c.requires.inserts c.loop-insert.insert-index c.insert-item.result c.loop-insert-test.true)

pub loop-insert-preserved : goal.loop-insert-preserved
loop-insert-preserved c =
    let before = c.loop-insert.invariant in
    let p = c.args.public.now in
    let cs = c.args.schema.now in
    let rest = c.args.rest.now in
    let j = c.loop-insert.insert-index in
    let insert = c.insert-item.result in
    let inside = c.loop-insert-test.true in
    record {
      rows =
          rows_more false p cs rest j insert inside _ c.loop-insert.rows.items c.add_next.new.rows.items before.rows
          (c.in-Ok.ensures.rows ∙ ap (λ (stmt : Stmt). c.loop-insert.rows.items ++ rows_in false p cs (stmt ∷ [])) c.insert-item.is);
      held = c.in-Ok.ensures.held;
      refusals =
          refusals_more false p rest j insert inside c.loop-insert.refusals.items c.push.new.self.items c.in-Ok.refusal before.refusals c.in-Ok-push.ensures.items
          (c.in-Ok.ensures.refusal ∙ ap (refusal_by false p) c.insert-item.is);
    }

pub returns-clause-rows : goal.returns-clause-rows
returns-clause-rows c = rows_all false c.args.public.now c.args.schema.now c.args.rest.now c.loop-insert.insert-index c.loop-insert-test.false _ c.loop-insert.rows.items c.loop-insert.invariant.rows

pub returns-clause-refusals : goal.returns-clause-refusals
returns-clause-refusals c = c.loop-insert.invariant.refusals ∙ ap (map (refusal_by false c.args.public.now)) (take_all c.loop-insert.insert-index c.args.rest.now c.loop-insert-test.false)

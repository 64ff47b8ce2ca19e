use Rattle.ob_exec.proofs.Words.{allowed, ap, at, at_ok, count_of, div_ceil, has_table, headings_of, is_late, is_there, limits_of, List, list_any, MaySelect, not, refl, rests_refl, Selection, SelectsFrom, Source, source_tables, subst, sym, world_of, ℕ, ◌∙◌}
use Rattle.ob_sql.specs.declared.stmt.Stmt.TheVariants.{SelectRows as RowsStmt}
use Rattle.ob_flat.specs.declared.flat.Flat.{Flat}
use Rattle.ob_exec.proofs.RowsNothing.{halts_first}
use Rattle.ob_exec.proofs.RowsTable.{counts_some, table_may, table_query, table_selects}
use Rattle.ob_exec.proofs.rows.select_table.Goals as goal

pub table_at-flat-requires : goal.table_at-flat-requires
table_at-flat-requires g c =
    let old = c.args.engine.now in
    let hs = headings_of old.public.tables in
    let free = allowed (is_late (count_of c.args.engine.now (g.S.BlockStore.state c.args.store.now))) (limits_of old.public) hs (RowsStmt c.args.select.now) c.requires.allowed in
    is_there (has_table c.args.table.now hs)
    (sym (ap (λ (source : Source). list_any (λ (name : List ℕ). not (has_table name hs)) (source_tables source)) c.requires.source) ∙ free.tables)

pub returns-in_default-clause-selects : goal.returns-in_default-clause-selects
returns-in_default-clause-selects g c =
    let old = c.args.engine.now in
    let state = g.R.Revisions.state in
    let s = g.S.BlockStore.state c.args.store.now in
    let found = c.table_at-flat.ensures in
    let here = found.here in
    record {
      ended = tt;
      halted = halts_first g.E.Emit.grew g.E.Emit.cut old.public c.args.select.now c.args.seen.now (world_of state old s).vault s s c.args.out.now c.requires.agrees.ready (rests_refl s) c.requires.fresh
          (counts_some state old s s c.table_at-flat.result.0 found.table c.args.table.now c.args.select.now c.requires.agrees here.get here.named c.requires.source c.requires.flat) c.requires.flat;
      sink = refl;
    }

pub returns-then-is_err-clause-selects : goal.returns-then-is_err-clause-selects
returns-then-is_err-clause-selects g c =
    let old = c.args.engine.now in
    let state = g.R.Revisions.state in
    let s = g.S.BlockStore.state c.args.store.now in
    let s1 = g.S.BlockStore.state c.reserve.new.self in
    let found = c.table_at-flat.ensures in
    let here = found.here in
    record {
      ended = tt;
      halted = halts_first g.E.Emit.grew g.E.Emit.cut old.public c.args.select.now c.args.seen.now (world_of state old s).vault s s1 c.args.out.now c.requires.agrees.ready c.reserve.ensures.rests c.requires.fresh
          (counts_some state old s s1 c.table_at-flat.result.0 found.table c.args.table.now c.args.select.now c.requires.agrees here.get here.named c.requires.source c.requires.flat) c.requires.flat;
      sink = refl;
    }

pub select_from-requires-clause-may : goal.select_from-requires-clause-may
select_from-requires-clause-may g c =
    let old = c.args.engine.now in
    let state = g.R.Revisions.state in
    let s = g.S.BlockStore.state c.args.store.now in
    let s1 = g.S.BlockStore.state c.reserve.new.self in
    let found = c.table_at-flat.ensures in
    let here = found.here in
    let flat_is = found.is in
    let is = table_query state old s s1 c.table_at-flat.result.0 found.table c.args.table.now c.args.select.now c.requires.agrees here.get here.named c.requires.source c.requires.flat
    c.table_at-flat.result.1 c.in-Ok.pred c.as_slice.result.now c.as_slice-columns.result.now flat_is c.as_slice-columns.ensures.value c.in-Ok.ensures
    (c.as_slice.ensures.value ∙ c.printed_places-cols.ensures) in
    let spare = at_ok c.reserve.result _ (sym c.is_err.ensures.value ∙ c.if-is_err.false) c.reserve.ensures.spare in
    let may = table_may state old s s1 c.table_at-flat.result.0 found.table c.args.table.now c.args.select.now c.requires.agrees here.get here.named c.requires.source c.requires.flat c.requires.allowed c.reserve.ensures.rests
    c.from-blocks.result c.padded_length-padded.result (c.from-blocks.ensures ∙ c.div_ceil.ensures ∙ (λ j. div_ceil (flat_is j).capacity (c.from.ensures j)))
    (λ x same size. c.padded_length-padded.ensures.length x same (size ∙ ap (λ (f : Flat). f.capacity) (sym flat_is))) spare in
    subst (λ (x : Selection). MaySelect x old.room (at state old.vault s1)) (sym is) may

pub returns-clause-selects : goal.returns-clause-selects
returns-clause-selects g c =
    let old = c.args.engine.now in
    let state = g.R.Revisions.state in
    let s = g.S.BlockStore.state c.args.store.now in
    let s1 = g.S.BlockStore.state c.reserve.new.self in
    let v = c.select_from.new.vault in
    let u = g.S.BlockStore.state c.select_from.new.store in
    let now = c.select_from.new.seen in
    let found = c.table_at-flat.ensures in
    let here = found.here in
    let flat_is = found.is in
    let is = table_query state old s s1 c.table_at-flat.result.0 found.table c.args.table.now c.args.select.now c.requires.agrees here.get here.named c.requires.source c.requires.flat
    c.table_at-flat.result.1 c.in-Ok.pred c.as_slice.result.now c.as_slice-columns.result.now flat_is c.as_slice-columns.ensures.value c.in-Ok.ensures
    (c.as_slice.ensures.value ∙ c.printed_places-cols.ensures) in
    let selects = subst (λ (x : Selection). SelectsFrom g.E.Emit.grew g.E.Emit.cut g.E.Emit.faults x c.select_from.result now (at state old.vault s1) (at state v u) c.args.out.now c.select_from.new.out)
    is c.select_from.ensures.selects in
    table_selects state old s s1 c.table_at-flat.result.0 found.table c.args.table.now c.args.select.now c.requires.agrees here.get here.named c.requires.source c.requires.flat v u c.reserve.ensures.rests
    g.E.Emit.grew g.E.Emit.cut g.E.Emit.faults now c.args.out.now c.select_from.new.out c.select_from.result selects

use Rattle.ob_exec.proofs.Words.{allowed, ap, arith, at, at_ok, count_of, Err, has_table, headings_of, is_late, left_place, length, limits_of, List, list_any, MaySelect, not, Ok, refl, rests_refl, Selection, SelectsFrom, Source, source_tables, subst, sym, ℕ, ◌++◌, ◌∙◌}
use Rattle.ob_sql.specs.declared.stmt.Stmt.TheVariants.{SelectRows as RowsStmt}
use Rattle.ob_names.specs.Names.{right_place}
use Rattle.ob_exec.proofs.RowsJoin.{IsPaired, asks_few, slots_few, join_idle, join_may, join_of, join_query, join_some, join_starts}
use Rattle.ob_exec.proofs.RowsJoinStart.{join_stops, join_selects}
use Rattle.ob_exec.proofs.RowsJoinEnd.{join_ends, join_halts}
use Rattle.ob_exec.proofs.RowsNothing.{halts_first}
use Rattle.ob_exec.proofs.RowsRoom.{lives_after, room_twice}
use Rattle.ob_tables.proofs.SourceColumns.{there_are}
use Rattle.ob_exec.proofs.rows.select_join.Goals as goal

pub table_at-left-requires : goal.table_at-left-requires
table_at-left-requires g c =
    let hs = headings_of c.args.engine.now.public.tables in
    let free = allowed (is_late (count_of c.args.engine.now (g.S.BlockStore.state c.args.store.now))) (limits_of c.args.engine.now.public) hs (RowsStmt c.args.select.now) c.requires.allowed in
    (there_are (has_table c.in-Join.left hs) (has_table c.in-Join.right hs)
    (sym (ap (λ (source : Source). list_any (λ (name : List ℕ). not (has_table name hs)) (source_tables source)) c.in-Join.is) ∙ free.tables)).0

pub table_at-right-requires : goal.table_at-right-requires
table_at-right-requires g c =
    let hs = headings_of c.args.engine.now.public.tables in
    let free = allowed (is_late (count_of c.args.engine.now (g.S.BlockStore.state c.args.store.now))) (limits_of c.args.engine.now.public) hs (RowsStmt c.args.select.now) c.requires.allowed in
    (there_are (has_table c.in-Join.left hs) (has_table c.in-Join.right hs)
    (sym (ap (λ (source : Source). list_any (λ (name : List ℕ). not (has_table name hs)) (source_tables source)) c.in-Join.is) ∙ free.tables)).1

pub returns-in_default-where_at-clause-selects : goal.returns-in_default-where_at-clause-selects
returns-in_default-where_at-clause-selects g c =
    let y = join_of c.args.select.now c.requires.agrees c.requires.allowed c.in-Join.is c.table_at-left.ensures c.table_at-right.ensures in
    record {
      ended = tt;
      halted = halts_first g.E.Emit.grew g.E.Emit.cut c.args.engine.now.public c.args.select.now c.args.seen.now _ (g.S.BlockStore.state c.args.store.now) _ c.args.out.now c.requires.agrees.ready (rests_refl _) c.requires.fresh (join_some y) c.requires.flat;
      sink = refl;
    }

pub returns-in_default-new-clause-selects : goal.returns-in_default-new-clause-selects
returns-in_default-new-clause-selects g c =
    let y = join_of c.args.select.now c.requires.agrees c.requires.allowed c.in-Join.is c.table_at-left.ensures c.table_at-right.ensures in
    record {
      ended = tt;
      halted = halts_first g.E.Emit.grew g.E.Emit.cut c.args.engine.now.public c.args.select.now c.args.seen.now _ (g.S.BlockStore.state c.args.store.now) _ c.args.out.now c.requires.agrees.ready (rests_refl _) c.requires.fresh (join_some y) c.requires.flat;
      sink = refl;
    }

pub returns-then-is_err-clause-selects : goal.returns-then-is_err-clause-selects
returns-then-is_err-clause-selects g c =
    let y = join_of c.args.select.now c.requires.agrees c.requires.allowed c.in-Join.is c.table_at-left.ensures c.table_at-right.ensures in
    record {
      ended = tt;
      halted = halts_first g.E.Emit.grew g.E.Emit.cut c.args.engine.now.public c.args.select.now c.args.seen.now _ (g.S.BlockStore.state c.args.store.now) _ c.args.out.now c.requires.agrees.ready c.reserve.ensures.rests c.requires.fresh (join_some y) c.requires.flat;
      sink = refl;
    }

pub joined_slots-requires-clause-few : goal.joined_slots-requires-clause-few
joined_slots-requires-clause-few g c =
    let y = join_of c.args.select.now c.requires.agrees c.requires.allowed c.in-Join.is c.table_at-left.ensures c.table_at-right.ensures in
    slots_few y

pub padded_length-padded-requires-clause-size : goal.padded_length-padded-requires-clause-size
padded_length-padded-requires-clause-size g c =
    let y = join_of c.args.select.now c.requires.agrees c.requires.allowed c.in-Join.is c.table_at-left.ensures c.table_at-right.ensures in
    omega (arith, c.joined_slots.ensures, slots_few y)

pub overflow_add-accesses : goal.overflow_add-accesses
overflow_add-accesses g c =
    let y = join_of c.args.select.now c.requires.agrees c.requires.allowed c.in-Join.is c.table_at-left.ensures c.table_at-right.ensures in
    omega (arith, asks_few y c.join_accesses-accesses.result c.join_accesses-accesses.ensures, c.padded_length-padded.ensures.few)

pub join-requires-clause-starts : goal.join-requires-clause-starts
join-requires-clause-starts g c =
    let y = join_of c.args.select.now c.requires.agrees c.requires.allowed c.in-Join.is c.table_at-left.ensures c.table_at-right.ensures in
    let spare = at_ok c.reserve.result _ (sym c.is_err.ensures.value ∙ c.if-is_err.false) c.reserve.ensures.spare in
    join_starts y _ c.left_place-lcol.result c.right_place-rcol.result c.join_accesses-accesses.result c.padded_length-padded.result c.reserve.ensures.rests c.join_accesses-accesses.ensures spare

pub join-requires-clause-tables : goal.join-requires-clause-tables
join-requires-clause-tables g c =
    let y = join_of c.args.select.now c.requires.agrees c.requires.allowed c.in-Join.is c.table_at-left.ensures c.table_at-right.ensures in
    let columns = c.as_slice-columns.ensures.value in
    let others = c.as_slice-others.ensures.value in
    let lcol_is = c.left_place-lcol.ensures.value ∙ (λ k. left_place (length (columns k)) (columns k ++ others k) c.in-Join.on c.in-Join.equals) in
    let rcol_is = c.right_place-rcol.ensures.value ∙ (λ k. right_place (length (columns k)) (columns k ++ others k) c.in-Join.on c.in-Join.equals) in
    join_may y _ _ _ c.reserve.ensures.rests lcol_is rcol_is

pub join-requires-clause-room : goal.join-requires-clause-room
join-requires-clause-room g c =
    let y = join_of c.args.select.now c.requires.agrees c.requires.allowed c.in-Join.is c.table_at-left.ensures c.table_at-right.ensures in
    join_idle y

pub returns-in-Err-clause-selects : goal.returns-in-Err-clause-selects
returns-in-Err-clause-selects g c =
    let y = join_of c.args.select.now c.requires.agrees c.requires.allowed c.in-Join.is c.table_at-left.ensures c.table_at-right.ensures in
    let columns = c.as_slice-columns.ensures.value in
    let others = c.as_slice-others.ensures.value in
    let lcol_is = c.left_place-lcol.ensures.value ∙ (λ k. left_place (length (columns k)) (columns k ++ others k) c.in-Join.on c.in-Join.equals) in
    let rcol_is = c.right_place-rcol.ensures.value ∙ (λ k. right_place (length (columns k)) (columns k ++ others k) c.in-Join.on c.in-Join.equals) in
    let after = at g.R.Revisions.state c.join.new.vault (g.S.BlockStore.state c.join.new.store) in
    let z : IsPaired y c.left_place-lcol.result c.right_place-rcol.result (g.S.BlockStore.state c.reserve.new.self) (Err c.in-Err.error) after =
    record { lcol_is = lcol_is; rcol_is = rcol_is; rests = c.reserve.ensures.rests; paired = c.in-Err.ensures.joins; told = c.in-Err.ensures.told } in
    join_stops y z g.E.Emit.grew g.E.Emit.cut g.E.Emit.faults c.args.seen.now c.args.out.now c.requires.fresh

pub select_from-requires-clause-may : goal.select_from-requires-clause-may
select_from-requires-clause-may g c =
    let y = join_of c.args.select.now c.requires.agrees c.requires.allowed c.in-Join.is c.table_at-left.ensures c.table_at-right.ensures in
    let columns = c.as_slice-columns.ensures.value in
    let others = c.as_slice-others.ensures.value in
    let lcol_is = c.left_place-lcol.ensures.value ∙ (λ k. left_place (length (columns k)) (columns k ++ others k) c.in-Join.on c.in-Join.equals) in
    let rcol_is = c.right_place-rcol.ensures.value ∙ (λ k. right_place (length (columns k)) (columns k ++ others k) c.in-Join.on c.in-Join.equals) in
    let after = at g.R.Revisions.state c.join.new.vault (g.S.BlockStore.state c.join.new.store) in
    let z : IsPaired y c.left_place-lcol.result c.right_place-rcol.result (g.S.BlockStore.state c.reserve.new.self) (Ok c.in-Ok-join.joined) after =
    record { lcol_is = lcol_is; rcol_is = rcol_is; rests = c.reserve.ensures.rests; paired = c.in-Ok-join.ensures.joins; told = c.in-Ok-join.ensures.told } in
    let is = join_query y c.left_place-lcol.result c.right_place-rcol.result c.in-Ok-join.joined c.in-Ok.pred c.as_slice.result.now c.as_slice-columns.result.now c.as_slice-others.result.now z.paired.makes.value
    columns others c.in-Ok.ensures (c.as_slice.ensures.value ∙ c.printed_places-cols.ensures) in
    let spare = at_ok c.reserve.result _ (sym c.is_err.ensures.value ∙ c.if-is_err.false) c.reserve.ensures.spare in
    let may = join_selects y c.join.new.room _ c.join_accesses-accesses.result c.padded_length-padded.result z c.join.ensures.room c.join_accesses-accesses.ensures
    (λ x same size. c.padded_length-padded.ensures.length x same (size ∙ sym c.joined_slots.ensures)) spare in
    subst (λ (x : Selection). MaySelect x c.join.new.room after) (sym is) may

pub discard-requires-clause-lives : goal.discard-requires-clause-lives
discard-requires-clause-lives g c =
    let joins = c.in-Ok-join.ensures.joins in
    lives_after _ _ _ c.in-Ok-join.joined _ joins.makes.value joins.ran.ok.lasts.ready c.in-Ok-select_from.ensures.selects.ran.ok.lasts joins.makes.lives

pub returns-in-Ok-select_from-clause-room : goal.returns-in-Ok-select_from-clause-room
returns-in-Ok-select_from-clause-room g c = room_twice c.args.engine.now.room c.join.new.room c.select_from.new.room _ _ _ c.join.ensures.room c.select_from.ensures.room

pub returns-in-Ok-select_from-clause-selects : goal.returns-in-Ok-select_from-clause-selects
returns-in-Ok-select_from-clause-selects g c =
    let y = join_of c.args.select.now c.requires.agrees c.requires.allowed c.in-Join.is c.table_at-left.ensures c.table_at-right.ensures in
    let columns = c.as_slice-columns.ensures.value in
    let others = c.as_slice-others.ensures.value in
    let lcol_is = c.left_place-lcol.ensures.value ∙ (λ k. left_place (length (columns k)) (columns k ++ others k) c.in-Join.on c.in-Join.equals) in
    let rcol_is = c.right_place-rcol.ensures.value ∙ (λ k. right_place (length (columns k)) (columns k ++ others k) c.in-Join.on c.in-Join.equals) in
    let after = at g.R.Revisions.state c.join.new.vault (g.S.BlockStore.state c.join.new.store) in
    let z : IsPaired y c.left_place-lcol.result c.right_place-rcol.result (g.S.BlockStore.state c.reserve.new.self) (Ok c.in-Ok-join.joined) after =
    record { lcol_is = lcol_is; rcol_is = rcol_is; rests = c.reserve.ensures.rests; paired = c.in-Ok-join.ensures.joins; told = c.in-Ok-join.ensures.told } in
    let is = join_query y c.left_place-lcol.result c.right_place-rcol.result c.in-Ok-join.joined c.in-Ok.pred c.as_slice.result.now c.as_slice-columns.result.now c.as_slice-others.result.now z.paired.makes.value
    columns others c.in-Ok.ensures (c.as_slice.ensures.value ∙ c.printed_places-cols.ensures) in
    let end = at g.R.Revisions.state c.select_from.new.vault (g.S.BlockStore.state c.select_from.new.store) in
    let now = c.select_from.new.seen in
    let selects = subst (λ (x : Selection). SelectsFrom g.E.Emit.grew g.E.Emit.cut g.E.Emit.faults x (Ok c.in-Ok-select_from.selected) now after end c.args.out.now c.select_from.new.out) is c.in-Ok-select_from.ensures.selects in
    let last = at g.R.Revisions.state c.discard.new.vault (g.S.BlockStore.state c.discard.new.store) in
    record {
      ended = join_ends z g.E.Emit.grew g.E.Emit.cut g.E.Emit.faults now c.args.out.now c.select_from.new.out end last c.in-Ok-select_from.selected c.discard.result selects c.discard.ensures.discards;
      halted = tt;
      sink = selects.sink;
    }

pub returns-clause-room : goal.returns-clause-room
returns-clause-room g c = room_twice c.args.engine.now.room c.join.new.room c.select_from.new.room _ _ _ c.join.ensures.room c.select_from.ensures.room

pub returns-clause-selects : goal.returns-clause-selects
returns-clause-selects g c =
    let y = join_of c.args.select.now c.requires.agrees c.requires.allowed c.in-Join.is c.table_at-left.ensures c.table_at-right.ensures in
    let columns = c.as_slice-columns.ensures.value in
    let others = c.as_slice-others.ensures.value in
    let lcol_is = c.left_place-lcol.ensures.value ∙ (λ k. left_place (length (columns k)) (columns k ++ others k) c.in-Join.on c.in-Join.equals) in
    let rcol_is = c.right_place-rcol.ensures.value ∙ (λ k. right_place (length (columns k)) (columns k ++ others k) c.in-Join.on c.in-Join.equals) in
    let after = at g.R.Revisions.state c.join.new.vault (g.S.BlockStore.state c.join.new.store) in
    let z : IsPaired y c.left_place-lcol.result c.right_place-rcol.result (g.S.BlockStore.state c.reserve.new.self) (Ok c.in-Ok-join.joined) after =
    record { lcol_is = lcol_is; rcol_is = rcol_is; rests = c.reserve.ensures.rests; paired = c.in-Ok-join.ensures.joins; told = c.in-Ok-join.ensures.told } in
    let is = join_query y c.left_place-lcol.result c.right_place-rcol.result c.in-Ok-join.joined c.in-Ok.pred c.as_slice.result.now c.as_slice-columns.result.now c.as_slice-others.result.now z.paired.makes.value
    columns others c.in-Ok.ensures (c.as_slice.ensures.value ∙ c.printed_places-cols.ensures) in
    let end = at g.R.Revisions.state c.select_from.new.vault (g.S.BlockStore.state c.select_from.new.store) in
    let now = c.select_from.new.seen in
    let selects = subst (λ (x : Selection). SelectsFrom g.E.Emit.grew g.E.Emit.cut g.E.Emit.faults x (Err c.in-Err-select_from.error) now after end c.args.out.now c.select_from.new.out) is c.in-Err-select_from.ensures.selects in
    let last = at g.R.Revisions.state c.forget.new.self (g.S.BlockStore.state c.select_from.new.store) in
    record {
      ended = tt;
      halted = join_halts z g.E.Emit.grew g.E.Emit.cut g.E.Emit.faults now c.args.out.now c.select_from.new.out end last c.in-Err-select_from.error selects (c.forget.ensures.forgets (g.S.BlockStore.state c.select_from.new.store)) refl;
      sink = selects.sink;
    }

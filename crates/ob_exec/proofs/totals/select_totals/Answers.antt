use Rattle.ob_exec.proofs.Words.{allowed, ap, append-nil, at, at_ok, buffered, count_of, div_ceil, Err, has_table, headings_of, IfSome, is_late, is_there, length, limits_of, Ok, Outcome, rests_refl, subst, sym, where_at, ℕ, ◌-◌, ◌∙◌, ◌≡◌, ◌≤◌}
use Rattle.ob_flat.specs.declared.flat.Flat.{Flat}
use Rattle.ob_sql.specs.declared.stmt.Stmt.TheVariants.{SelectTotals as TotalsStmt}
use Rattle.ob_exec.specs.Totalling.{Totals}
use Rattle.ob_tables.proofs.ServeLemmas.{serves_same}
use Rattle.ob_exec.proofs.TotalsServed.{may_total, serves_cut, serves_done, serves_none}
use Rattle.ob_exec.proofs.totals.select_totals.Goals as goal

pub table_at-flat-requires : goal.table_at-flat-requires
table_at-flat-requires g c =
    let old = c.args.engine.now in
    let s = g.S.BlockStore.state c.args.store.now in
    is_there (has_table c.args.select.now.table (headings_of old.public.tables))
    (allowed (is_late (count_of old s)) (limits_of old.public) (headings_of old.public.tables) (TotalsStmt c.args.select.now) c.requires.allowed).tables

pub returns-in_default : goal.returns-in_default
returns-in_default g c =
    let emit = g.E.Emit in
    let s = g.S.BlockStore.state c.args.store.now in
    let found = c.table_at-flat.ensures in
    record {
      serves =
          serves_same g.R.Revisions.state emit.grew emit.cut emit.faults (TotalsStmt c.args.select.now) c.args.engine.now s s c.args.out.now c.args.out.now _ _ _ _ c.cut.ensures.answer c.cut.ensures.seen
          (serves_none g.R.Revisions.state emit.grew emit.cut emit.faults g.met.E.Emit.starts c.args.engine.now s s c.args.select.now c.table_at-flat.result.0 found.table c.requires.agrees (rests_refl s) found.here
          c.requires.allowed c.args.out.now);
    }

pub returns-in_default-buckets_for : goal.returns-in_default-buckets_for
returns-in_default-buckets_for g c =
    let emit = g.E.Emit in
    let s = g.S.BlockStore.state c.args.store.now in
    let found = c.table_at-flat.ensures in
    record {
      serves =
          serves_same g.R.Revisions.state emit.grew emit.cut emit.faults (TotalsStmt c.args.select.now) c.args.engine.now s s c.args.out.now c.args.out.now _ _ _ _ c.cut-in_default-buckets_for.ensures.answer c.cut-in_default-buckets_for.ensures.seen
          (serves_none g.R.Revisions.state emit.grew emit.cut emit.faults g.met.E.Emit.starts c.args.engine.now s s c.args.select.now c.table_at-flat.result.0 found.table c.requires.agrees (rests_refl s) found.here
          c.requires.allowed c.args.out.now);
    }

pub returns-then-is_err : goal.returns-then-is_err
returns-then-is_err g c =
    let emit = g.E.Emit in
    let s = g.S.BlockStore.state c.args.store.now in
    let s1 = g.S.BlockStore.state c.reserve.new.self in
    let found = c.table_at-flat.ensures in
    record {
      serves =
          serves_same g.R.Revisions.state emit.grew emit.cut emit.faults (TotalsStmt c.args.select.now) c.args.engine.now s s1 c.args.out.now c.args.out.now _ _ _ _
          c.cut-then-is_err.ensures.answer c.cut-then-is_err.ensures.seen
          (serves_none g.R.Revisions.state emit.grew emit.cut emit.faults g.met.E.Emit.starts c.args.engine.now s s1 c.args.select.now c.table_at-flat.result.0 found.table c.requires.agrees c.reserve.ensures.rests found.here
          c.requires.allowed c.args.out.now);
    }

pub answer_totals-requires : goal.answer_totals-requires
answer_totals-requires g c =
    let found = c.table_at-flat.ensures in
    record {
      may =
          may_total g.R.Revisions.state g.E.Emit.grew g.E.Emit.cut g.E.Emit.faults g.met.E.Emit.starts c.args.engine.now (g.S.BlockStore.state c.args.store.now) (g.S.BlockStore.state c.reserve.new.self)
          c.args.select.now c.table_at-flat.result.0 found.table c.requires.agrees c.reserve.ensures.rests found.here c.requires.allowed c.table_at-flat.result.1 c.in-Ok.pred found.is
          (c.in-Ok.ensures ∙ ap (where_at c.args.select.now.cond) (append-nil c.as_slice.result.now ∙ c.as_slice.ensures.value))
          c.from-2.result (c.from-2.ensures ∙ c.div_ceil-blocks.ensures ∙ (λ j. div_ceil c.table_at-flat.result.1.capacity (c.from.ensures j)))
          (at_ok c.reserve.result _ (sym c.is_err.ensures.value ∙ c.if-is_err.false) c.reserve.ensures.spare);
      places = subst (λ (n : ℕ). IfSome c.args.select.now.group (λ key. n ≤ c.in-Ok-buckets_for.buckets.most)) c.rows.ensures.value c.in-Ok-buckets_for.ensures;
    }

pub returns-in-Ok-answer_totals : goal.returns-in-Ok-answer_totals
returns-in-Ok-answer_totals g c =
    let emit = g.E.Emit in
    let old = c.args.engine.now in
    let state = g.R.Revisions.state in
    let s = g.S.BlockStore.state c.args.store.now in
    let s1 = g.S.BlockStore.state c.reserve.new.self in
    let t = g.S.BlockStore.state c.answer_totals.new.store in
    let found = c.table_at-flat.ensures in
    let q = c.args.select.now in
    let totals =
    subst (λ (flat : Flat). Totals emit.grew emit.cut emit.faults (buffered old.room.pack old.room.rows) old.room.pack flat q (Ok c.in-Ok-answer_totals.outcome) (at state old.vault s1) (at state c.answer_totals.new.vault t)
    c.args.out.now c.answer_totals.new.out) found.is c.in-Ok-answer_totals.ensures.totals in
    record {
      serves =
          serves_same state emit.grew emit.cut emit.faults (TotalsStmt q) old s t c.args.out.now c.answer_totals.new.out _ _ _ _ (ap (λ (o : Outcome). Ok o) c.finish.ensures.answer) c.finish.ensures.seen
          (serves_done state emit.grew emit.cut emit.faults g.met.E.Emit.starts old s s1 q c.table_at-flat.result.0 found.table c.requires.agrees c.reserve.ensures.rests found.here c.requires.allowed
          c.answer_totals.new.vault c.answer_totals.new.room t c.answer_totals.ensures.room c.args.out.now c.answer_totals.new.out c.in-Ok-answer_totals.outcome c.requires.lives totals);
    }

pub returns : goal.returns
returns g c =
    let emit = g.E.Emit in
    let old = c.args.engine.now in
    let state = g.R.Revisions.state in
    let s = g.S.BlockStore.state c.args.store.now in
    let s1 = g.S.BlockStore.state c.reserve.new.self in
    let t = g.S.BlockStore.state c.answer_totals.new.store in
    let found = c.table_at-flat.ensures in
    let q = c.args.select.now in
    let n = c.count.result - c.count-before.result in
    let count : n ≡ length t.asked - length s.asked = λ j. c.count.ensures j - c.count-before.ensures j in
    let totals =
    subst (λ (flat : Flat). Totals emit.grew emit.cut emit.faults (buffered old.room.pack old.room.rows) old.room.pack flat q (Err c.in-Err.error) (at state old.vault s1) (at state c.answer_totals.new.vault t)
    c.args.out.now c.answer_totals.new.out) found.is c.in-Err.ensures.totals in
    record {
      serves =
          serves_same state emit.grew emit.cut emit.faults (TotalsStmt q) old s t c.args.out.now c.answer_totals.new.out _ _ _ _ c.cut-in-Err.ensures.answer c.cut-in-Err.ensures.seen
          (serves_cut state emit.grew emit.cut emit.faults g.met.E.Emit.starts old s s1 q c.table_at-flat.result.0 found.table c.requires.agrees c.reserve.ensures.rests found.here c.requires.allowed
          c.answer_totals.new.vault c.answer_totals.new.room t c.answer_totals.ensures.room c.args.out.now c.answer_totals.new.out c.in-Err.error n count totals);
    }

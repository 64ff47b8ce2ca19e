use Rattle.ob_exec.proofs.Words.{answer_of, ap, Cut, Engine, Err, is_stop, length, Ok, Outcome, Selected, SinkCause, subst, ℕ, ◌-◌, ◌∙◌, ◌≡◌}
use Rattle.ob_sql.specs.declared.stmt.Stmt.TheVariants.{SelectRows as RowsStmt}
use Rattle.ob_exec.proofs.RowsEnds.{serves_ended}
use Rattle.ob_tables.proofs.ServeLemmas.{serves_same}
use Rattle.ob_exec.proofs.RowsFound.{source_is}
use Rattle.ob_exec.proofs.RowsReach.{stops_closing}
use Rattle.ob_exec.proofs.RowsRun.{rows_after}
use Rattle.ob_exec.proofs.RowsStops.{serves_stopped, stops_halted}
use Rattle.ob_exec.proofs.rows.select_rows.Goals as goal

pub returns-in-Ok-close_answer : goal.returns-in-Ok-close_answer
returns-in-Ok-close_answer g c =
    let old = c.args.engine.now in
    let state = g.R.Revisions.state in
    let s = g.S.BlockStore.state c.args.store.now in
    let t = g.S.BlockStore.state c.select_source.new.store in
    let v = c.select_source.new.engine.vault in
    let room = c.select_source.new.engine.room in
    let now = c.select_source.new.seen in
    let select = c.args.select.now in
    let source = source_is state old s select c.requires.agrees c.requires.allowed c.requires.flat in
    let sink = c.in-Ok-close_answer.ensures.sink ∙ c.in-Ok.ensures.selects.sink in
    let serves = serves_ended state old s v room t select c.requires.agrees c.requires.allowed source g.E.Emit.grew g.met.E.Emit.starts now
    c.args.out.now c.select_source.new.out c.close_answer.new.out g.E.Emit.cut g.E.Emit.faults c.in-Ok.selected c.requires.lives c.in-Ok.ensures.room
    c.in-Ok.ensures.selects.ended c.in-Ok-close_answer.ensures.few c.in-Ok-close_answer.ensures.ok sink in
    let engine : c.finish_seen.new.self ≡ rows_after old v room now old.ended =
    c.finish_seen.ensures.seen ∙ ap (λ (e : Engine g.row.R.Denot). record e { seen = now; public = record e.public { next_region = e.vault.next } }) c.in-Ok.ensures.frame in
    record {
      serves = serves_same state g.E.Emit.grew g.E.Emit.cut g.E.Emit.faults (RowsStmt select) old s t c.args.out.now c.close_answer.new.out _ _ _ _
          (ap (λ (o : Outcome). Ok o) (c.finish_seen.ensures.answer ∙ c.outcome_of.ensures)) engine serves;
    }

pub returns-in-Err-close_answer : goal.returns-in-Err-close_answer
returns-in-Err-close_answer g c =
    let old = c.args.engine.now in
    let state = g.R.Revisions.state in
    let s = g.S.BlockStore.state c.args.store.now in
    let t = g.S.BlockStore.state c.select_source.new.store in
    let v = c.select_source.new.engine.vault in
    let room = c.select_source.new.engine.room in
    let now = c.select_source.new.seen in
    let select = c.args.select.now in
    let e = c.in-Err-close_answer.error in
    let n = c.count.result - c.count-before.result in
    let count : n ≡ length t.asked - length s.asked = λ j. c.count.ensures j - c.count-before.ensures j in
    let source = source_is state old s select c.requires.agrees c.requires.allowed c.requires.flat in
    let ended = c.in-Ok.ensures.selects.ended in
    let stops = stops_closing g.E.Emit.grew g.E.Emit.cut old.public select now _ _ c.args.out.now c.select_source.new.out c.close_answer.new.out c.requires.flat
    c.in-Ok.selected e c.in-Err-close_answer.ensures.never ended c.in-Err-close_answer.ensures.err in
    let sink = subst (λ (m : ℕ). SinkCause {T = Selected} (Err e) m (g.E.Emit.faults c.close_answer.new.out)) c.in-Ok.ensures.selects.sink c.in-Err-close_answer.ensures.sink in
    let serves = serves_stopped state old s v room t select c.requires.agrees c.requires.allowed source ended.ran.lasts g.E.Emit.grew g.E.Emit.cut g.E.Emit.faults g.met.E.Emit.starts
    now n c.args.out.now c.close_answer.new.out count e c.in-Ok.ensures.room stops sink in
    let engine : c.cut_seen.new.self ≡ rows_after old v room (record now { end = Cut n }) (is_stop (answer_of e)) =
    c.cut_seen.ensures.seen
    ∙ ap (λ (x : Engine g.row.R.Denot). record x { seen = record now { end = Cut n }; public = record x.public { next_region = x.vault.next }; ended = is_stop (answer_of e) }) c.in-Ok.ensures.frame in
    record {
      serves = serves_same state g.E.Emit.grew g.E.Emit.cut g.E.Emit.faults (RowsStmt select) old s t c.args.out.now c.close_answer.new.out _ _ _ _ c.cut_seen.ensures.answer engine serves;
    }

pub returns-in-Err : goal.returns-in-Err
returns-in-Err g c =
    let old = c.args.engine.now in
    let state = g.R.Revisions.state in
    let s = g.S.BlockStore.state c.args.store.now in
    let t = g.S.BlockStore.state c.select_source.new.store in
    let v = c.select_source.new.engine.vault in
    let room = c.select_source.new.engine.room in
    let now = c.select_source.new.seen in
    let select = c.args.select.now in
    let e = c.in-Err.error in
    let n = c.count-in-Err.result - c.count-before.result in
    let count : n ≡ length t.asked - length s.asked = λ j. c.count-in-Err.ensures j - c.count-before.ensures j in
    let source = source_is state old s select c.requires.agrees c.requires.allowed c.requires.flat in
    let halted = c.in-Err.ensures.selects.halted in
    let serves = serves_stopped state old s v room t select c.requires.agrees c.requires.allowed source halted.ran.lasts g.E.Emit.grew g.E.Emit.cut g.E.Emit.faults g.met.E.Emit.starts
    now n c.args.out.now c.select_source.new.out count e c.in-Err.ensures.room (stops_halted halted) c.in-Err.ensures.selects.sink in
    let engine : c.cut_seen-in-Err.new.self ≡ rows_after old v room (record now { end = Cut n }) (is_stop (answer_of e)) =
    c.cut_seen-in-Err.ensures.seen
    ∙ ap (λ (x : Engine g.row.R.Denot). record x { seen = record now { end = Cut n }; public = record x.public { next_region = x.vault.next }; ended = is_stop (answer_of e) }) c.in-Err.ensures.frame in
    record {
      serves = serves_same state g.E.Emit.grew g.E.Emit.cut g.E.Emit.faults (RowsStmt select) old s t c.args.out.now c.select_source.new.out _ _ _ _ c.cut_seen-in-Err.ensures.answer engine serves;
    }

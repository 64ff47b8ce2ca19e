use Rattle.ob_exec.proofs.Words.{ap, changes_tables, count_of, Create, Delete, Engine, false, Insert, List, Ok, Outcome, refl, Serves, skeleton, Stmt, subst, sym, Update, ◌∙◌, ◌≡◌}
use Rattle.ob_base.specs.declared.skeleton.NewColumn.{NewColumn}
use Rattle.ob_sql.specs.declared.stmt.Literal.{Literal}
use Rattle.ob_sql.specs.declared.stmt.Set.{Set}
use Rattle.ob_sql.specs.declared.stmt.Stmt.TheVariants.{Drop as DropTable}
use Rattle.ob_mean.specs.Verdict.{ended as seen_to}
use Rattle.ob_tables.specs.Running.{HasNoRows}
use Rattle.ob_tables.proofs.RunLemmas.{unsaved}
use Rattle.ob_tables.proofs.ServeLemmas.{served_as, serves_refused, serves_same}
use Rattle.ob_tables.proofs.ToldLemmas.{now_is}
use Rattle.ob_exec.proofs.running.serve.Goals as goal

pub returns-in-Some : goal.returns-in-Some
returns-in-Some g c =
    let old = c.args.engine.now in
    let s = g.S.BlockStore.state c.args.store.now in
    let now = now_is old.public (count_of old s) c.spent.result c.args.stmt.now c.early_refusal.result _ c.spent.ensures c.early_refusal.ensures c.in-Some.is in
    record {
      serves =
          serves_same g.R.Revisions.state g.E.Emit.grew g.E.Emit.cut g.E.Emit.faults c.args.stmt.now old s s c.args.out.now c.args.out.now _ _ _ _
          (ap (λ (o : Outcome). Ok o) c.refuse.ensures.answer) c.refuse.ensures.seen
          (serves_refused g.R.Revisions.state g.E.Emit.grew g.E.Emit.cut g.E.Emit.faults c.args.stmt.now old s c.args.out.now (g.met.E.Emit.starts c.args.out.now) c.requires.agrees c.requires.lives c.in-Some.refusal now);
      shows = λ saves changes. record {
        silent = subst (λ (o : Outcome). HasNoRows o) (sym c.refuse.ensures.answer) tt;
        plain = subst (λ (e : Engine g.row.R.Denot). e.seen ≡ seen_to e.seen.end) (sym c.refuse.ensures.seen) refl;
      };
    }

pub accessed-requires : goal.accessed-requires
accessed-requires g c = record { agrees = (g.S.BlockStore.state c.args.store.now, c.requires.agrees) }

pub returns-in-Some-accessed-clause-shows : goal.returns-in-Some-accessed-clause-shows
returns-in-Some-accessed-clause-shows g c = λ saves changes.
    let at = c.in-Some-accessed.ensures.some.is in
    let not = unsaved g.R.Revisions.state c.args.engine.now (g.S.BlockStore.state c.args.store.now) c.in-Some-accessed.k at.index c.requires.agrees at.get in
    absurd (cc (not, saves))

pub returns-in-Create : goal.returns-in-Create
returns-in-Create g c =
    let old = c.args.engine.now in
    let s = g.S.BlockStore.state c.args.store.now in
    let now = now_is old.public (count_of old s) c.spent.result c.args.stmt.now c.early_refusal.result _ c.spent.ensures c.early_refusal.ensures c.in_default.is in
    record {
      serves =
          served_as g.R.Revisions.state g.E.Emit.grew g.E.Emit.cut g.E.Emit.faults c.args.stmt.now (Create c.in-Create.table c.as_slice.result.now c.in-Create.capacity c.in-Create.shape) old s c.args.out.now c.create.result c.create.new.self
          (g.S.BlockStore.state c.create.new.store) (g.met.E.Emit.starts c.args.out.now) (ap (λ (cs : List NewColumn). Create c.in-Create.table cs c.in-Create.capacity c.in-Create.shape) c.as_slice.ensures ∙ sym c.in-Create.is) now c.in_default-accessed.ensures.none refl (λ tables. tt) c.create.ensures.serves;
      shows = λ saves changes. record { silent = c.create.ensures.serves.silent; plain = c.create.ensures.serves.plain };
    }

pub returns-in-Insert : goal.returns-in-Insert
returns-in-Insert g c =
    let old = c.args.engine.now in
    let s = g.S.BlockStore.state c.args.store.now in
    let now = now_is old.public (count_of old s) c.spent.result c.args.stmt.now c.early_refusal.result _ c.spent.ensures c.early_refusal.ensures c.in_default.is in
    record {
      serves =
          served_as g.R.Revisions.state g.E.Emit.grew g.E.Emit.cut g.E.Emit.faults c.args.stmt.now (Insert c.in-Insert.table c.in-Insert.columns c.as_slice-in-Insert.result.now) old s c.args.out.now c.insert.result c.insert.new.self
          (g.S.BlockStore.state c.insert.new.store) (g.met.E.Emit.starts c.args.out.now) (ap (λ (vs : List Literal). Insert c.in-Insert.table c.in-Insert.columns vs) c.as_slice-in-Insert.ensures ∙ sym c.in-Insert.is) now c.in_default-accessed.ensures.none refl (λ tables. tt) c.insert.ensures.serves;
      shows = λ saves changes. record { silent = c.insert.ensures.serves.silent; plain = c.insert.ensures.serves.plain };
    }

pub returns-in-Update : goal.returns-in-Update
returns-in-Update g c =
    let old = c.args.engine.now in
    let s = g.S.BlockStore.state c.args.store.now in
    let now = now_is old.public (count_of old s) c.spent.result c.args.stmt.now c.early_refusal.result _ c.spent.ensures c.early_refusal.ensures c.in_default.is in
    record {
      serves =
          served_as g.R.Revisions.state g.E.Emit.grew g.E.Emit.cut g.E.Emit.faults c.args.stmt.now (Update c.in-Update.table c.as_slice-in-Update.result.now c.in-Update.cond) old s c.args.out.now c.update.result c.update.new.self
          (g.S.BlockStore.state c.update.new.store) (g.met.E.Emit.starts c.args.out.now) (ap (λ (sets : List Set). Update c.in-Update.table sets c.in-Update.cond) c.as_slice-in-Update.ensures ∙ sym c.in-Update.is) now c.in_default-accessed.ensures.none refl (λ tables. tt) c.update.ensures.serves;
      shows = λ saves changes. record { silent = c.update.ensures.serves.silent; plain = c.update.ensures.serves.plain };
    }

pub returns-in-Delete : goal.returns-in-Delete
returns-in-Delete g c =
    let old = c.args.engine.now in
    let s = g.S.BlockStore.state c.args.store.now in
    let now = now_is old.public (count_of old s) c.spent.result c.args.stmt.now c.early_refusal.result _ c.spent.ensures c.early_refusal.ensures c.in_default.is in
    record {
      serves =
          served_as g.R.Revisions.state g.E.Emit.grew g.E.Emit.cut g.E.Emit.faults c.args.stmt.now (Delete c.in-Delete.table c.in-Delete.cond) old s c.args.out.now c.delete.result c.delete.new.self
          (g.S.BlockStore.state c.delete.new.store) (g.met.E.Emit.starts c.args.out.now) (sym c.in-Delete.is) now c.in_default-accessed.ensures.none refl (λ tables. tt) c.delete.ensures.serves;
      shows = λ saves changes. record { silent = c.delete.ensures.serves.silent; plain = c.delete.ensures.serves.plain };
    }

pub returns-in-Drop : goal.returns-in-Drop
returns-in-Drop g c =
    let old = c.args.engine.now in
    let s = g.S.BlockStore.state c.args.store.now in
    let now = now_is old.public (count_of old s) c.spent.result c.args.stmt.now c.early_refusal.result _ c.spent.ensures c.early_refusal.ensures c.in_default.is in
    record {
      serves =
          served_as g.R.Revisions.state g.E.Emit.grew g.E.Emit.cut g.E.Emit.faults c.args.stmt.now (DropTable c.in-Drop.table) old s c.args.out.now c.drop_table.result c.drop_table.new.self
          (g.S.BlockStore.state c.drop_table.new.store) (g.met.E.Emit.starts c.args.out.now) (sym c.in-Drop.is) now c.in_default-accessed.ensures.none refl (λ tables. tt) c.drop_table.ensures.serves;
      shows = λ saves changes. record { silent = c.drop_table.ensures.serves.silent; plain = c.drop_table.ensures.serves.plain };
    }

pub returns-in-SelectRows : goal.returns-in-SelectRows
returns-in-SelectRows g c =
    let s = g.S.BlockStore.state c.args.store.now in
    record {
      serves =
          subst (λ (stmt : Stmt). Serves g.R.Revisions.state g.E.Emit.grew g.E.Emit.cut g.E.Emit.faults stmt c.select_rows.result c.args.engine.now s c.select_rows.new.engine
          (g.S.BlockStore.state c.select_rows.new.store) c.args.out.now c.select_rows.new.out) (sym c.in-SelectRows.is) c.select_rows.ensures.serves;
      shows = λ saves changes. let not : changes_tables (skeleton c.args.stmt.now) ≡ false = ap (λ (stmt : Stmt). changes_tables (skeleton stmt)) c.in-SelectRows.is in absurd (cc (not, changes));
    }

pub returns-in-SelectTotals : goal.returns-in-SelectTotals
returns-in-SelectTotals g c =
    let s = g.S.BlockStore.state c.args.store.now in
    record {
      serves =
          subst (λ (stmt : Stmt). Serves g.R.Revisions.state g.E.Emit.grew g.E.Emit.cut g.E.Emit.faults stmt c.select_totals.result c.args.engine.now s c.select_totals.new.engine
          (g.S.BlockStore.state c.select_totals.new.store) c.args.out.now c.select_totals.new.out) (sym c.in-SelectTotals.is) c.select_totals.ensures.serves;
      shows = λ saves changes. let not : changes_tables (skeleton c.args.stmt.now) ≡ false = ap (λ (stmt : Stmt). changes_tables (skeleton stmt)) c.in-SelectTotals.is in absurd (cc (not, changes));
    }

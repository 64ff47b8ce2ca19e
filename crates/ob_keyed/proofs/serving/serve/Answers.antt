use Rattle.std.proofs.Common.{List, sym, ◌∙◌, ap, subst}
use Rattle.std.specs.Prelude.{IfOk}
use Rattle.ob_sql.specs.declared.stmt.Literal.{Literal}
use Rattle.ob_sql.specs.declared.stmt.Set.{Set}
use Rattle.ob_sql.specs.declared.stmt.Stmt.{Stmt}
use Rattle.ob_sql.specs.declared.stmt.Stmt.TheVariants.{Insert, Update}
use Rattle.ob_vault.specs.Places.{at}
use Rattle.ob_keyed.specs.Asking.{IsOn}
use Rattle.ob_keyed.specs.Serving.{GoneBy}
use Rattle.ob_keyed.proofs.serving.serve.Goals as goal

pub insert_row-requires-clause-stmt : goal.insert_row-requires-clause-stmt
insert_row-requires-clause-stmt g c = (
  c.in-Insert.table,
  subst (λ (s : Stmt). IsOn c.args.index.now s) (c.in-Insert.is ∙ ap (λ (vs : List Literal). Insert c.in-Insert.table c.in-Insert.columns vs) (sym c.as_slice.ensures)) c.requires.stmt,
)

pub update_row-requires-clause-stmt : goal.update_row-requires-clause-stmt
update_row-requires-clause-stmt g c = (
  c.in-Update.table,
  subst (λ (s : Stmt). IsOn c.args.index.now s) (c.in-Update.is ∙ ap (λ (sets : List Set). Update c.in-Update.table sets c.in-Update.cond) (sym c.as_slice-in-Update.ensures)) c.requires.stmt,
)

pub delete_row-requires-clause-stmt : goal.delete_row-requires-clause-stmt
delete_row-requires-clause-stmt g c = (c.in-Delete.table, subst (λ (s : Stmt). IsOn c.args.index.now s) c.in-Delete.is c.requires.stmt)

pub select_row-requires-clause-stmt : goal.select_row-requires-clause-stmt
select_row-requires-clause-stmt g c = subst (λ (s : Stmt). IsOn c.args.index.now s) c.in-SelectRows.is c.requires.stmt

pub returns-in-Insert-clause-gone : goal.returns-in-Insert-clause-gone
returns-in-Insert-clause-gone g c =
    subst (λ (s : Stmt). IfOk c.insert_row.result (λ keyed. GoneBy s c.args.index.now c.insert_row.new.index c.args.draw keyed
    (at g.R.Revisions.state c.args.vault.now (g.S.BlockStore.state c.args.store.now)) (at g.R.Revisions.state c.insert_row.new.vault (g.S.BlockStore.state c.insert_row.new.store))))
    (ap (λ (vs : List Literal). Insert c.in-Insert.table c.in-Insert.columns vs) c.as_slice.ensures ∙ sym c.in-Insert.is) (c.insert_row.ensures.gone c.in-Insert.table)

pub returns-in-Update-clause-gone : goal.returns-in-Update-clause-gone
returns-in-Update-clause-gone g c =
    subst (λ (s : Stmt). IfOk c.update_row.result (λ keyed. GoneBy s c.args.index.now c.update_row.new.index c.args.draw keyed
    (at g.R.Revisions.state c.args.vault.now (g.S.BlockStore.state c.args.store.now)) (at g.R.Revisions.state c.update_row.new.vault (g.S.BlockStore.state c.update_row.new.store))))
    (ap (λ (sets : List Set). Update c.in-Update.table sets c.in-Update.cond) c.as_slice-in-Update.ensures ∙ sym c.in-Update.is) (c.update_row.ensures.gone c.in-Update.table)

pub returns-in-Delete-clause-gone : goal.returns-in-Delete-clause-gone
returns-in-Delete-clause-gone g c =
    subst (λ (s : Stmt). GoneBy s c.args.index.now c.delete_row.new.index c.args.draw c.delete_row.result
    (at g.R.Revisions.state c.args.vault.now (g.S.BlockStore.state c.args.store.now)) (at g.R.Revisions.state c.delete_row.new.vault (g.S.BlockStore.state c.delete_row.new.store))) (sym c.in-Delete.is) (c.delete_row.ensures.gone c.in-Delete.table)

pub returns-in-SelectRows-clause-gone : goal.returns-in-SelectRows-clause-gone
returns-in-SelectRows-clause-gone g c =
    subst (λ (s : Stmt). GoneBy s c.args.index.now c.select_row.new.index c.args.draw c.select_row.result
    (at g.R.Revisions.state c.args.vault.now (g.S.BlockStore.state c.args.store.now)) (at g.R.Revisions.state c.select_row.new.vault (g.S.BlockStore.state c.select_row.new.store))) (sym c.in-SelectRows.is) c.select_row.ensures.gone

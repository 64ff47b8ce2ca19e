use Rattle.std.proofs.Common.{Some, sym, ◌∙◌, ap}
use Rattle.std.proofs.lemmas.Result.{err_from_is_err_and}
use Rattle.ob_vault.specs.Places.{at}
use Rattle.ob_reopen.proofs.Lists.{got_or}
use Rattle.ob_reopen.proofs.TableLemmas.{opened_none, may_table, opened_more, table_is, tables_cut, tables_all, spent_opened, spare_opened}
use Rattle.ob_reopen.proofs.tables.reopen_tables.Goals as goal

pub loop-i-init : goal.loop-i-init
loop-i-init g c = opened_none c.args.closing c.args.listed.now _ c.requires.awaits.ready

pub reopen_table-requires : goal.reopen_table-requires
reopen_table-requires g c =
    let closing = c.args.closing in
    let listed = c.args.listed.now in
    let i = c.loop-i.i in
    let opened = c.loop-i.invariant in
    let old = at g.R.Revisions.state c.args.vault.now (g.S.BlockStore.state c.args.store.now) in
    let now = at g.R.Revisions.state c.loop-i.vault (g.S.BlockStore.state c.loop-i.store) in
    let t = c.index-listed-i.result in
    let is = got_or listed i t c.loop-i-test.true ∙ ap Some (sym c.index-listed-i.is) in
    record {
      marked = c.requires.marked;
      listed = table_is closing listed c.requires.catalogue i t is;
      ready = opened.all.stays.ready;
      spare = spare_opened closing listed i old now c.requires.awaits opened c.loop-i-test.true c.requires.spare;
      few = spent_opened closing listed i old now c.requires.awaits opened c.requires.marked c.requires.catalogue.count c.loop-i-test.true;
      may = may_table closing listed c.requires.catalogue old now c.requires.awaits i t is opened;
    }

pub returns-in_err-reopen_table : goal.returns-in_err-reopen_table
returns-in_err-reopen_table g c =
    let p = err_from_is_err_and c.from_residual.result c.from_residual.ensures.1 in
    let listed = c.args.listed.now in
    let i = c.loop-i.i in
    let t = c.index-listed-i.result in
    let is = got_or listed i t c.loop-i-test.true ∙ ap Some (sym c.index-listed-i.is) in
    rw (p.1, p.2) (record { reopens = tables_cut c.in_err-reopen_table.field-0.0 c.args.closing listed c.requires.catalogue _ _ _ i t is c.loop-i.invariant c.in_err-reopen_table.ensures.resumes })

pub loop-i-preserved : goal.loop-i-preserved
loop-i-preserved g c =
    let listed = c.args.listed.now in
    let i = c.loop-i.i in
    let t = c.index-listed-i.result in
    let is = got_or listed i t c.loop-i-test.true ∙ ap Some (sym c.index-listed-i.is) in
    opened_more c.in_ok-reopen_table.field-0 c.args.closing listed c.requires.catalogue _ _ _ i t is c.loop-i.invariant c.in_ok-reopen_table.ensures.resumes

pub returns : goal.returns
returns g c = record { reopens = tables_all _ c.args.closing c.args.listed.now _ _ c.loop-i.i c.loop-i-test.false c.loop-i.invariant }

use Rattle.std.proofs.Common.{◌≡◌, ◌+◌, ◌≤◌, ◌∙◌, ℕ, List, length, take, set, refl, sym, ap, subst, arith}
use Rattle.std.proofs.lemmas.Result.{err_from_is_err_and}
use Rattle.ob_base.specs.Accesses.{write_at}
use Rattle.ob_store.proofs.Steps.{length-each}
use Rattle.ob_vault.specs.Rows.{row_at}
use Rattle.ob_vault.specs.Tied.{OnTurn}
use Rattle.ob_vault.specs.Places.{at}
use Rattle.ob_vault.proofs.Runs.{fit_same, fit_trans, may_put, own_lasts}
use Rattle.ob_vault.proofs.WordLemmas.{asks_after}
use Rattle.ob_reopen.specs.Closings.{region_of}
use Rattle.ob_reopen.proofs.OpenLemmas.{joined_one, row_wide, row_same, same_rows, set_sizes, set_row}
use Rattle.ob_reopen.proofs.WriteLemmas.{written_none, written_next, fills_cut, fills_all, not_last}
use Rattle.ob_reopen.proofs.writing.put_rows.Goals as goal

pub loop-place-init : goal.loop-place-init
loop-place-init g c = record {
  written = written_none c.args.region c.args.listed.now _ c.requires.asks.ready c.requires.lives c.requires.turn;
  same = same_rows c.args.rows.now;
}

pub put_row-requires : goal.put_row-requires
put_row-requires g c =
    let rows = c.loop-place.rows in
    let same = c.loop-place.invariant.same in
    let one : length rows ≡ 1 = same.count ∙ c.requires.one in
    record {
      region = c.requires.region;
      few = c.requires.few;
      within = omega (arith, c.loop-place-test.true);
      columns = c.requires.columns;
      wide = subst (λ (r : List ℕ). 1024 ≤ length r) (sym (row_same rows c.index-rows-0.result one)) (row_wide rows one (fit_same _ _ _ same c.requires.fit));
    }

pub put-requires : goal.put-requires
put-requires g c =
    let p = c.loop-place.place in
    let rows = c.loop-place.rows in
    let before = c.loop-place.invariant.written in
    let same = c.loop-place.invariant.same in
    let one : length rows ≡ 1 = same.count ∙ c.requires.one in
    let size = length-each (write_at c.args.region) 1 (λ i. refl) p in
    let asks = asks_after {m = 1} c.requires.asks before.went (omega (arith, size, c.loop-place-test.true)) in
    let shape = region_of (length c.args.listed.now + 1) in
    let now = at g.R.Revisions.state c.loop-place.vault (g.S.BlockStore.state c.loop-place.store) in
    let long : length c.put_row.new.row ≡ length (row_at rows 0) = c.put_row.ensures.size ∙ ap (λ (r : List ℕ). length r) (row_same rows c.index-rows-0.result one) in
    let written = set rows 0 c.put_row.new.row in
    let sizes = fit_trans _ _ _ same (set_sizes rows c.put_row.new.row one long) in
    let turned : OnTurn c.args.region shape p now = subst (λ (n : ℕ). OnTurn c.args.region shape n now) (not_last p (length c.args.listed.now + 1) c.loop-place-test.true) before.turn in
    record {
      ready = asks.ready;
      spare = asks.spare;
      few = omega (arith, asks.few);
      place = may_put c.args.region p shape written now (own_lasts _ _ _ before.went.lasts c.args.region c.requires.own) before.lives c.loop-place-test.true (fit_same _ _ _ sizes c.requires.fit) turned;
    }

pub returns-in_err-put : goal.returns-in_err-put
returns-in_err-put g c =
    let q = err_from_is_err_and c.from_residual.result c.from_residual.ensures.1 in
    let p = c.loop-place.place in
    let rows = c.loop-place.rows in
    let same = c.loop-place.invariant.same in
    let one : length rows ≡ 1 = same.count ∙ c.requires.one in
    let long : length c.put_row.new.row ≡ length (row_at rows 0) = c.put_row.ensures.size ∙ ap (λ (r : List ℕ). length r) (row_same rows c.index-rows-0.result one) in
    let written = set rows 0 c.put_row.new.row in
    let after = set_sizes rows c.put_row.new.row one long in
    let still : length written ≡ 1 = after.count ∙ one in
    let bytes = joined_one 1024 (length written) written still still ∙ ap (take 1024) (set_row rows c.put_row.new.row one) ∙ c.put_row.ensures.text in
    rw (q.1, q.2) (record {
      rows = fit_trans _ _ _ same after;
      fills = fills_cut c.args.region c.args.listed.now p written _ _ _ c.requires.asks.ready c.loop-place-test.true bytes c.loop-place.invariant.written c.in_err-put.field-0.0 c.in_err-put.ensures.puts;
    })

pub loop-place-preserved : goal.loop-place-preserved
loop-place-preserved g c =
    let p = c.loop-place.place in
    let rows = c.loop-place.rows in
    let same = c.loop-place.invariant.same in
    let one : length rows ≡ 1 = same.count ∙ c.requires.one in
    let long : length c.put_row.new.row ≡ length (row_at rows 0) = c.put_row.ensures.size ∙ ap (λ (r : List ℕ). length r) (row_same rows c.index-rows-0.result one) in
    let written = set rows 0 c.put_row.new.row in
    let after = set_sizes rows c.put_row.new.row one long in
    let still : length written ≡ 1 = after.count ∙ one in
    let bytes = joined_one 1024 (length written) written still still ∙ ap (take 1024) (set_row rows c.put_row.new.row one) ∙ c.put_row.ensures.text in
    record {
      written = written_next c.args.region c.args.listed.now p written _ _ _ c.requires.asks.ready c.loop-place-test.true bytes c.loop-place.invariant.written c.in_ok-put.field-0 c.in_ok-put.ensures.puts;
      same = fit_trans _ _ _ same after;
    }

pub loop-place-smaller : goal.loop-place-smaller
loop-place-smaller g c = omega (arith, c.loop-place-test.true)

pub returns : goal.returns
returns g c =
    let end : c.loop-place.place ≡ length c.args.listed.now + 1 = omega (arith, c.loop-place.auto.place-end, c.loop-place-test.false) in
    record {
      rows = c.loop-place.invariant.same;
      fills = fills_all _ c.args.region c.args.listed.now c.loop-place.place _ _ end c.loop-place.invariant.written;
    }

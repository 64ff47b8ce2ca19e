use Rattle.std.proofs.Common.{◌≡◌, ◌≤◌, ◌∙◌, ℕ, List, length, take, get_or, refl, sym, ap, subst, arith}
use Rattle.std.proofs.lemmas.Result.{err_from_is_err_and}
use Rattle.ob_base.specs.Accesses.{read_at}
use Rattle.ob_store.proofs.Steps.{length-each}
use Rattle.ob_vault.proofs.Runs.{lives_went, written_went, fit_same, fit_trans, may_get}
use Rattle.ob_reopen.specs.Closings.{closing_region}
use Rattle.ob_reopen.proofs.OpenLemmas.{joined_one, row_wide, row_same, same_rows}
use Rattle.ob_reopen.proofs.ReadLemmas.{read_none, read_next, reads_cut, reads_refused, reads_all}
use Rattle.ob_reopen.proofs.reading.read_rows.Goals as goal

pub loop-place-init : goal.loop-place-init
loop-place-init g c = record {
  read = read_none c.args.closing c.args.listed.items _ c.requires.open.ready c.requires.none;
  same = same_rows c.args.rows.now;
  space = c.requires.space;
}

pub get-requires-clause-ready : goal.get-requires-clause-ready
get-requires-clause-ready g c = c.loop-place.invariant.read.went.lasts.ready

pub get-requires-clause-spare : goal.get-requires-clause-spare
get-requires-clause-spare g c =
    let size = length-each (read_at c.args.closing.region) 1 (λ i. refl) c.loop-place.place in
    omega (arith, c.requires.open.spare, c.loop-place.invariant.read.went.spare, size, c.loop-place-test.true)

pub get-requires-clause-place : goal.get-requires-clause-place
get-requires-clause-place g c =
    let p = c.loop-place.place in
    let went = c.loop-place.invariant.read.went in
    may_get _ p (closing_region c.args.closing) _ _ (lives_went _ _ _ _ _ _ went (λ s. s) c.requires.open.lives) c.loop-place-test.true
    (fit_same _ _ _ c.loop-place.invariant.same c.requires.fit) (written_went _ _ _ _ _ p went (λ s. s) (c.requires.open.written p c.loop-place-test.true))

pub returns-in_err-get-clause-rows : goal.returns-in_err-get-clause-rows
returns-in_err-get-clause-rows g c = fit_trans _ _ _ c.loop-place.invariant.same c.get.ensures.rows

pub returns-in_err-get-clause-reads : goal.returns-in_err-get-clause-reads
returns-in_err-get-clause-reads g c =
    let p = err_from_is_err_and c.from_residual.result c.from_residual.ensures.1 in
    rw (p.1, p.2) (reads_cut c.args.closing c.loop-place.place c.loop-place.listed.items _ _ _ _ _ c.requires.open c.loop-place-test.true c.loop-place.invariant.read _ c.in_err-get.ensures.gets)

pub add_row-requires : goal.add_row-requires
add_row-requires g c =
    let read = c.loop-place.invariant.read in
    let same = fit_trans _ _ _ c.loop-place.invariant.same c.get.ensures.rows in
    let one : length c.get.new.rows ≡ 1 = same.count ∙ c.requires.one in
    let wide = row_wide c.get.new.rows one (fit_same _ _ _ same c.requires.fit) in
    record {
      marked = c.requires.marked;
      wide = subst (λ (r : List ℕ). 1024 ≤ length r) (sym (row_same c.get.new.rows c.index-rows-0.result one)) wide;
      before = read.are;
      space = omega (arith, c.loop-place-test.true, c.loop-place.invariant.space);
      count = omega (arith, read.count, c.loop-place.listed.ok.0);
    }

pub returns-then-not-add_row-clause-rows : goal.returns-then-not-add_row-clause-rows
returns-then-not-add_row-clause-rows g c = fit_trans _ _ _ c.loop-place.invariant.same c.get.ensures.rows

pub returns-then-not-add_row-clause-reads : goal.returns-then-not-add_row-clause-reads
returns-then-not-add_row-clause-reads g c =
    let rows = c.get.new.rows in
    let one : length rows ≡ 1 = (fit_trans _ _ _ c.loop-place.invariant.same c.get.ensures.rows).count ∙ c.requires.one in
    let was : length c.loop-place.rows ≡ 1 = c.loop-place.invariant.same.count ∙ c.requires.one in
    let bytes = take 1024 (get_or rows 0 c.index-rows-0.result) in
    reads_refused c.args.closing c.loop-place.place c.loop-place.listed.items _ rows _ _ _ c.requires.open c.loop-place-test.true c.loop-place.invariant.read c.in_ok-get.field-0 c.in_ok-get.ensures.gets bytes
    (joined_one 1024 (length c.loop-place.rows) rows was one ∙ ap (take 1024) (sym (row_same rows c.index-rows-0.result one))) c.if-not-add_row.ensures.no

pub loop-place-preserved : goal.loop-place-preserved
loop-place-preserved g c =
    let rows = c.get.new.rows in
    let same = fit_trans _ _ _ c.loop-place.invariant.same c.get.ensures.rows in
    let one : length rows ≡ 1 = same.count ∙ c.requires.one in
    let was : length c.loop-place.rows ≡ 1 = c.loop-place.invariant.same.count ∙ c.requires.one in
    let bytes = take 1024 (get_or rows 0 c.index-rows-0.result) in
    record {
      read = read_next c.args.closing c.loop-place.place c.loop-place.listed.items _ rows _ _ _ c.requires.open c.loop-place-test.true c.loop-place.invariant.read c.in_ok-get.field-0 c.in_ok-get.ensures.gets bytes
          (joined_one 1024 (length c.loop-place.rows) rows was one ∙ ap (take 1024) (sym (row_same rows c.index-rows-0.result one))) c.add_row.new.listed.items c.if-not-add_row.ensures.yes;
      same = same;
      space = omega (arith, c.loop-place.invariant.space, c.add_row.ensures.space);
    }

pub loop-place-smaller : goal.loop-place-smaller
loop-place-smaller g c = omega (arith, c.loop-place-test.true)

pub returns-clause-rows : goal.returns-clause-rows
returns-clause-rows g c = c.loop-place.invariant.same

pub returns-clause-reads : goal.returns-clause-reads
returns-clause-reads g c =
    let end : c.loop-place.place ≡ c.args.closing.blocks = omega (arith, c.loop-place.auto.place-end, c.loop-place-test.false) in
    rw c.from_vec.ensures (reads_all c.args.closing c.loop-place.place c.loop-place.listed.items _ _ c.requires.marked.blocks_least end c.loop-place.invariant.read)

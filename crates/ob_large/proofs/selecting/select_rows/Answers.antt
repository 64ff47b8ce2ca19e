use Rattle.std.proofs.Common.{inl, inr, length, ◌∙◌, refl, arith}
use Rattle.std.proofs.lemmas.Result.{err_from_is_err_and}
use Rattle.ob_vault.specs.Calls.{one}
use Rattle.ob_vault.proofs.Runs.{lives_apart}
use Rattle.ob_flat.specs.Words.{moved}
use Rattle.ob_flat.specs.Creates.{make_script}
use Rattle.ob_flat.proofs.Rooms.{same_rows}
use Rattle.ob_flat.proofs.Tables.{flat_lasts, blocks_few, fits_sized}
use Rattle.ob_vault.proofs.WordLemmas.{asks_start, asks_after}
use Rattle.ob_flat.proofs.WordLemmas.{ran_more, seals_any}
use Rattle.ob_large.specs.Selecting.{fill_script}
use Rattle.ob_large.proofs.Selected.{selects_ok, selects_err}
use Rattle.ob_large.proofs.selecting.select_rows.Goals as goal

pub make_table-requires : goal.make_table-requires
make_table-requires g c =
    let table = c.requires.table in
    record {
      spare = record { ready = c.requires.starts.ready; spare = omega (arith, c.requires.starts.spare) };
      few = omega (arith, c.requires.starts.few);
      size = fits_sized (length c.args.rows.now) c.args.flat.now.schema c.args.flat.now.capacity table.some table.size;
      pack = (table.some, table.most);
    }

pub returns-in_err-region-clause-rows : goal.returns-in_err-region-clause-rows
returns-in_err-region-clause-rows g c = same_rows c.args.rows.now

pub returns-in_err-region-clause-selects : goal.returns-in_err-region-clause-selects
returns-in_err-region-clause-selects g c =
    let p = err_from_is_err_and c.from_residual.result c.from_residual.ensures.1 in
    let pack = length c.args.rows.now in
    let flat = c.args.flat.now in
    let next = c.args.vault.now.next in
    let made = c.in_err-region.ensures.makes in
    let cut = made.ran.err in
    let off = lives_apart _ _ _ c.requires.starts.ready c.requires.table.written.made.lives in
    rw (p.1, p.2) (record {
      ran = ran_more (make_script pack (moved flat next)) (fill_script pack flat next) cut;
      never = elim made.never [ inl failed ↦ inl failed | inr none ↦ inr (inl none) ];
      memory = record { did = λ is. made.memory.did (cc is) };
      makes = record { value = tt; lives = tt; flat = tt; gone = made.gone; seals = seals_any made.seals.seals };
      holds = tt;
      source = flat_lasts pack flat (one next) _ _ cut.lasts off c.requires.table.written;
      told = λ honest slots is. made.never;
    })

pub fill_fresh-requires : goal.fill_fresh-requires
fill_fresh-requires g c =
    let pack = length c.args.rows.now in
    let flat = c.args.flat.now in
    let made = c.in_ok-region.ensures.makes in
    let off = lives_apart _ _ _ c.requires.starts.ready c.requires.table.written.made.lives in
    let few = blocks_few pack flat.capacity c.requires.table.some in
    let table = c.requires.table in
    record {
      asks = asks_after (asks_start c.requires.starts (omega (arith, few, table.size.most))) made.ran.ok (omega arith);
      table = record { some = table.some; most = table.most; size = table.size; written = flat_lasts pack flat (one c.args.vault.now.next) _ _ made.ran.ok.lasts off table.written };
      new = record { same = rw c.copied.ensures; made = rw (made.number, c.copied.ensures) made.made; apart = λ same. off (same ∙ made.number) };
      fit = c.requires.fit;
    }

pub returns-in-Ok-clause-rows : goal.returns-in-Ok-clause-rows
returns-in-Ok-clause-rows g c = c.fill_fresh.ensures.rows

pub returns-in-Ok-clause-selects : goal.returns-in-Ok-clause-selects
returns-in-Ok-clause-selects g c =
    let made = c.in_ok-region.ensures.makes in
    let fills = rw made.number at c.in-Ok.ensures.fills in
    rw (c.copied.ensures, made.number) (selects_ok _ _ _ _ _ c.requires.starts.ready c.requires.table made.ran.ok made.seals.seals _ _ made.lives fills)

pub returns-in-Err-clause-rows : goal.returns-in-Err-clause-rows
returns-in-Err-clause-rows g c = c.fill_fresh.ensures.rows

pub returns-in-Err-clause-selects : goal.returns-in-Err-clause-selects
returns-in-Err-clause-selects g c =
    let made = c.in_ok-region.ensures.makes in
    let fills = rw made.number at c.in-Err.ensures.fills in
    let forgets = c.forget.ensures.forgets (g.S.BlockStore.state c.fill_fresh.new.store) in
    let forgot = rw made.number at forgets.went fills.ran.err.lasts.ready in
    let gone = rw made.number at forgets.gone in
    selects_err _ _ _ _ _ c.requires.starts.ready c.requires.table made.ran.ok made.seals.seals _ _ _ fills forgot refl forgets.seals gone

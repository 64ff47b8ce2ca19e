use Rattle.std.proofs.Common.{◌*◌, inl, inr, length, refl, ◌∙◌, arith}
use Rattle.std.proofs.lemmas.Result.{err_from_is_err_and}
use Rattle.ob_base.specs.Schemas.{width}
use Rattle.ob_script.proofs.Numbers.{length-create_part}
use Rattle.ob_vault.specs.Calls.{one}
use Rattle.ob_vault.proofs.Runs.{lives_apart, own_made}
use Rattle.ob_vault.proofs.WordLemmas.{asks_start, asks_after}
use Rattle.ob_flat.specs.Words.{blocks_of}
use Rattle.ob_flat.specs.Creates.{create_script, table_of}
use Rattle.ob_flat.proofs.Rooms.{same_rows}
use Rattle.ob_flat.proofs.Tables.{fits_sized, blocks_few, flat_lasts}
use Rattle.ob_flat.proofs.WordLemmas.{ran_more}
use Rattle.ob_cont.specs.Selecting.{fill_length, fill_script}
use Rattle.ob_cont.specs.Putting.{order_for}
use Rattle.ob_cont.proofs.Due.{in_turn}
use Rattle.ob_cont.proofs.Fresh.{sized_less}
use Rattle.ob_cont.proofs.Selected.{selects_ok, selects_err}
use Rattle.ob_cont.proofs.selecting.select_rows.Goals as goal

pub create_blocks-requires : goal.create_blocks-requires
create_blocks-requires g c =
    let table = c.requires.table in
    let starts = c.requires.starts in
    record {
      starts = record { ready = starts.ready; spare = omega (arith, starts.spare); few = starts.few };
      size = fits_sized _ _ _ table.some (sized_less table.size c.requires.number.0 c.requires.number.1);
      pack = (table.some, table.most);
      fit = c.requires.buffers.held_fit;
      dummies = c.requires.dummies;
    }

pub returns-in_err-region-clause-rows : goal.returns-in_err-region-clause-rows
returns-in_err-region-clause-rows g c = same_rows c.args.rows.now

pub returns-in_err-region-clause-held : goal.returns-in_err-region-clause-held
returns-in_err-region-clause-held g c = same_rows c.args.held.now

pub returns-in_err-region-clause-selects : goal.returns-in_err-region-clause-selects
returns-in_err-region-clause-selects g c =
    let p = err_from_is_err_and c.from_residual.result c.from_residual.ensures.1 in
    let pack = length c.args.held.now in
    let flat = c.args.flat.now in
    let next = c.args.vault.now.next in
    let to = table_of flat.schema c.args.k next in
    let creates = c.in_err-region.ensures.creates in
    let cut = creates.ran.err in
    let off = lives_apart _ _ _ c.requires.starts.ready c.requires.table.written.made.lives in
    rw (p.1, p.2) (record {
      ran = ran_more (create_script pack to) (fill_script pack flat to) cut;
      never = elim creates.never [ inl failed ↦ inl failed | inr none ↦ inr (inl none) ];
      memory = record { did = λ is. creates.memory.did (cc is) };
      value = tt;
      lives = tt;
      written = tt;
      rows = tt;
      gone = creates.gone;
      seals = creates.seals;
      source = flat_lasts pack flat (one next) _ _ cut.lasts off c.requires.table.written;
      told = λ honest slots is. creates.never;
      exact = λ honest slots number consecutive is. tt;
    })

pub fill_result-requires : goal.fill_result-requires
fill_result-requires g c =
    let pack = length c.args.held.now in
    let flat = c.args.flat.now in
    let k = c.args.k in
    let next = c.args.vault.now.next in
    let to = table_of flat.schema k next in
    let table = c.requires.table in
    let creates = rw c.order_of-order.ensures at c.in_ok-region.ensures.creates in
    let went = creates.ran.ok in
    let off = lives_apart _ _ _ c.requires.starts.ready table.written.made.lives in
    let few = blocks_few pack flat.capacity table.some in
    let asked = length-create_part next (blocks_of pack to) (pack * width flat.schema) in
    let starts = asks_start c.requires.starts (omega (arith, few, blocks_few pack k table.some, c.requires.number.1, table.size.most)) in
    record {
      asks = asks_after {m = fill_length pack flat} starts went (omega (arith, asked));
      table = record { some = table.some; most = table.most; size = table.size; written = flat_lasts pack flat (one next) _ _ went.lasts off table.written };
      target = record {
        apart = λ same. off (same ∙ creates.number);
        schema = c.copied.ensures;
        size = rw c.copied.ensures (fits_sized _ _ _ table.some (sized_less table.size c.requires.number.0 c.requires.number.1));
        turn = rw (c.copied.ensures, creates.number) (in_turn (order_for pack) pack to _ (own_made (one next) _ _ went.lasts next c.requires.starts.ready refl) creates.lives creates.table);
      };
      buffers = c.requires.buffers;
    }

pub returns-in-Ok-clause-rows : goal.returns-in-Ok-clause-rows
returns-in-Ok-clause-rows g c = c.fill_result.ensures.rows

pub returns-in-Ok-clause-held : goal.returns-in-Ok-clause-held
returns-in-Ok-clause-held g c = c.fill_result.ensures.held

pub returns-in-Ok-clause-selects : goal.returns-in-Ok-clause-selects
returns-in-Ok-clause-selects g c =
    let creates = rw c.order_of-order.ensures at c.in_ok-region.ensures.creates in
    let fills = rw (c.copied.ensures, creates.number) at c.in-Ok.ensures.fills in
    rw (c.copied.ensures, creates.number) (selects_ok _ _ _ _ _ _ _ c.requires.starts.ready c.requires.table c.requires.number.0 creates _ _ fills)

pub returns-in-Err-clause-rows : goal.returns-in-Err-clause-rows
returns-in-Err-clause-rows g c = c.fill_result.ensures.rows

pub returns-in-Err-clause-held : goal.returns-in-Err-clause-held
returns-in-Err-clause-held g c = c.fill_result.ensures.held

pub returns-in-Err-clause-selects : goal.returns-in-Err-clause-selects
returns-in-Err-clause-selects g c =
    let creates = rw c.order_of-order.ensures at c.in_ok-region.ensures.creates in
    let fills = rw (c.copied.ensures, creates.number) at c.in-Err.ensures.fills in
    let forgets = rw creates.number at c.forget.ensures.forgets (g.S.BlockStore.state c.fill_result.new.store) in
    selects_err _ _ _ _ _ _ _ c.requires.starts.ready c.requires.table c.requires.number.0 creates _ _ _ fills forgets refl

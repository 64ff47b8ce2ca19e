use Rattle.std.proofs.Common.{◌≡◌, ◌*◌, ℕ, length, refl, sym, ◌∙◌, ap, subst, arith}
use Rattle.std.proofs.lemmas.Result.{err_from_is_err_and}
use Rattle.ob_base.specs.Numbers.{blocks_for}
use Rattle.ob_base.specs.Schemas.{width}
use Rattle.ob_script.proofs.Numbers.{length-create_part}
use Rattle.ob_vault.specs.Calls.{one}
use Rattle.ob_vault.proofs.Runs.{lives_apart, own_made}
use Rattle.ob_vault.proofs.WordLemmas.{asks_start, asks_after}
use Rattle.ob_flat.specs.Flats.{FitsRegion}
use Rattle.ob_flat.proofs.Rooms.{same_rows}
use Rattle.ob_flat.proofs.Tables.{flat_lasts}
use Rattle.ob_hash.specs.Hashing.{IsSource, layout_at}
use Rattle.ob_hash.proofs.Selected.{made_open, selects_none, selects_ok, selects_err}
use Rattle.ob_hash.proofs.Sizes.{result_blocks}
use Rattle.ob_hash.proofs.Whole.{select_few, hashed_at}
use Rattle.ob_hash.specs.declared.selecting.Placed.TheVariants.{Done, Overflow}
use Rattle.ob_hash.proofs.selecting.select_rows.Goals as goal

pub create_blocks-requires : goal.create_blocks-requires
create_blocks-requires g c =
    let starts = c.requires.starts in
    let table = c.requires.table in
    let pack = length c.args.rows.now in
    let is = hashed_at pack c.args.flat.now c.args.k c.args.depth c.args.vault.now.next _ table c.requires.sizes in
    let blocks : blocks_for (length c.args.block.now) ((c.args.k * c.args.depth) * pack) ≡ c.args.k * c.args.depth =
    ap (λ (n : ℕ). blocks_for n ((c.args.k * c.args.depth) * pack)) c.requires.buffers.same ∙ result_blocks is in
    record {
      starts = record { ready = starts.ready; spare = omega (arith, starts.spare, blocks); few = starts.few };
      size = subst (λ (n : ℕ). FitsRegion n c.args.flat.now.schema ((c.args.k * c.args.depth) * pack)) (sym c.requires.buffers.same) is.size;
      pack = rw c.requires.buffers.same (table.some, table.most);
      fit = c.requires.buffers.block_fit;
      dummies = c.requires.dummies;
    }

pub returns-in_err-region-clause-rows : goal.returns-in_err-region-clause-rows
returns-in_err-region-clause-rows g c = same_rows c.args.rows.now

pub returns-in_err-region-clause-block : goal.returns-in_err-region-clause-block
returns-in_err-region-clause-block g c = same_rows c.args.block.now

pub returns-in_err-region-clause-selects : goal.returns-in_err-region-clause-selects
returns-in_err-region-clause-selects g c =
    let p = err_from_is_err_and c.from_residual.result c.from_residual.ensures.1 in
    let pack = length c.args.rows.now in
    let flat = c.args.flat.now in
    let l = layout_at pack flat c.args.k c.args.depth c.args.vault.now.next in
    let table = c.requires.table in
    let off = lives_apart _ _ _ c.requires.starts.ready table.written.made.lives in
    let is = hashed_at pack flat c.args.k c.args.depth c.args.vault.now.next _ table c.requires.sizes in
    let source : IsSource l flat = record { schema = refl; apart = off } in
    let created = rw c.requires.buffers.same at c.in_err-region.ensures.creates in
    rw (p.1, p.2) (selects_none l flat _ _ is source table _ _ created)

pub hash_blocks-requires : goal.hash_blocks-requires
hash_blocks-requires g c =
    let pack = length c.args.rows.now in
    let flat = c.args.flat.now in
    let next = c.args.vault.now.next in
    let l = layout_at pack flat c.args.k c.args.depth next in
    let table = c.requires.table in
    let off = lives_apart _ _ _ c.requires.starts.ready table.written.made.lives in
    let is = hashed_at pack flat c.args.k c.args.depth next _ table c.requires.sizes in
    let source : IsSource l flat = record { schema = refl; apart = off } in
    let created = rw (c.requires.buffers.same, c.in_ok-region.ensures.creates.number) at c.in_ok-region.ensures.creates in
    let went = created.ran.ok in
    let few = select_few l flat is table.size.most table.some in
    let asks = asks_after (asks_start c.requires.starts few) went (omega (arith, length-create_part next (blocks_for pack l.table.capacity) (pack * width flat.schema), result_blocks is)) in
    record {
      asks = asks;
      table = record { some = table.some; most = table.most; size = table.size; written = flat_lasts pack flat (one next) _ _ went.lasts off table.written };
      hashed = rw c.copied.ensures (hashed_at pack flat c.args.k c.args.depth c.in_ok-region.region _ table c.requires.sizes);
      live = rw (c.copied.ensures, c.in_ok-region.ensures.creates.number) (made_open l _ (own_made (one next) _ _ went.lasts next c.requires.starts.ready refl) created);
      source = record { schema = c.copied.ensures; apart = λ same. off (same ∙ c.in_ok-region.ensures.creates.number) };
      buffers = record { rows_fit = rw c.copied.ensures c.requires.buffers.rows_fit; same = c.requires.buffers.same; block_fit = rw c.copied.ensures c.requires.buffers.block_fit };
    }

pub returns-in-Ok-None-clause-rows : goal.returns-in-Ok-None-clause-rows
returns-in-Ok-None-clause-rows g c = c.hash_blocks.ensures.rows

pub returns-in-Ok-None-clause-block : goal.returns-in-Ok-None-clause-block
returns-in-Ok-None-clause-block g c = c.hash_blocks.ensures.block

pub returns-in-Ok-None-clause-selects : goal.returns-in-Ok-None-clause-selects
returns-in-Ok-None-clause-selects g c =
    let pack = length c.args.rows.now in
    let flat = c.args.flat.now in
    let next = c.args.vault.now.next in
    let l = layout_at pack flat c.args.k c.args.depth next in
    let table = c.requires.table in
    let off = lives_apart _ _ _ c.requires.starts.ready table.written.made.lives in
    let is = hashed_at pack flat c.args.k c.args.depth next _ table c.requires.sizes in
    let source : IsSource l flat = record { schema = refl; apart = off } in
    let number = c.in_ok-region.ensures.creates.number in
    let created = rw (c.requires.buffers.same, number) at c.in_ok-region.ensures.creates in
    let hashes = rw (c.copied.ensures, number) at c.in-Ok-None.ensures.hashes in
    rw (c.copied.ensures, number) (selects_ok l flat _ _ is source table _ created (Done l.table) _ _ refl (sym c.in-Ok-None.field-0-is) hashes)

pub returns-in-Ok-Some-clause-rows : goal.returns-in-Ok-Some-clause-rows
returns-in-Ok-Some-clause-rows g c = c.hash_blocks.ensures.rows

pub returns-in-Ok-Some-clause-block : goal.returns-in-Ok-Some-clause-block
returns-in-Ok-Some-clause-block g c = c.hash_blocks.ensures.block

pub returns-in-Ok-Some-clause-selects : goal.returns-in-Ok-Some-clause-selects
returns-in-Ok-Some-clause-selects g c =
    let pack = length c.args.rows.now in
    let flat = c.args.flat.now in
    let next = c.args.vault.now.next in
    let l = layout_at pack flat c.args.k c.args.depth next in
    let table = c.requires.table in
    let off = lives_apart _ _ _ c.requires.starts.ready table.written.made.lives in
    let is = hashed_at pack flat c.args.k c.args.depth next _ table c.requires.sizes in
    let source : IsSource l flat = record { schema = refl; apart = off } in
    let number = c.in_ok-region.ensures.creates.number in
    let created = rw (c.requires.buffers.same, number) at c.in_ok-region.ensures.creates in
    let hashes = rw (c.copied.ensures, number) at c.in-Ok-Some.ensures.hashes in
    rw (c.copied.ensures, number) (selects_ok l flat _ _ is source table _ created (Overflow l.table c.in-Ok-Some.i) _ _ refl (sym c.in-Ok-Some.field-0-is) hashes)

pub returns-in-Err-clause-rows : goal.returns-in-Err-clause-rows
returns-in-Err-clause-rows g c = c.hash_blocks.ensures.rows

pub returns-in-Err-clause-block : goal.returns-in-Err-clause-block
returns-in-Err-clause-block g c = c.hash_blocks.ensures.block

pub returns-in-Err-clause-selects : goal.returns-in-Err-clause-selects
returns-in-Err-clause-selects g c =
    let pack = length c.args.rows.now in
    let flat = c.args.flat.now in
    let next = c.args.vault.now.next in
    let l = layout_at pack flat c.args.k c.args.depth next in
    let table = c.requires.table in
    let off = lives_apart _ _ _ c.requires.starts.ready table.written.made.lives in
    let is = hashed_at pack flat c.args.k c.args.depth next _ table c.requires.sizes in
    let source : IsSource l flat = record { schema = refl; apart = off } in
    let number = c.in_ok-region.ensures.creates.number in
    let created = rw (c.requires.buffers.same, number) at c.in_ok-region.ensures.creates in
    let hashes = rw (c.copied.ensures, number) at c.in-Err.ensures.hashes in
    let forgets = c.forget.ensures.forgets (g.S.BlockStore.state c.hash_blocks.new.store) in
    let forgot = rw number at forgets.went hashes.keeps.ran.err.lasts.ready in
    let gone = rw number at forgets.gone in
    selects_err l flat _ _ is source table _ created _ _ _ hashes forgot refl forgets.seals gone

use Rattle.std.proofs.Common.{◌*◌, length, refl, ap}
use Rattle.std.proofs.lemmas.Result.{err_from_is_err_and}
use Rattle.ob_base.specs.Numbers.{blocks_for}
use Rattle.ob_base.specs.Schemas.{width}
use Rattle.ob_vault.specs.Places.{RowsFit}
use Rattle.ob_vault.proofs.Runs.{holds_rows, may_put}
use Rattle.ob_blocks.specs.Blocks.{block_at}
use Rattle.ob_flat.specs.Flats.{table_region, whole_blocks}
use Rattle.ob_flat.specs.Passes.{pass_error}
use Rattle.ob_flat.proofs.Runs.{pass_of}
use Rattle.ob_flat.proofs.Tables.{accepted, blocks_hold, block_put, joined_block}
use Rattle.ob_small.specs.Keeping.{fitted}
use Rattle.ob_small.proofs.Windows.{kept_block}
use Rattle.ob_small.proofs.writing.write_block.Goals as goal

pub put-requires-clause-place : goal.put-requires-clause-place
put-requires-clause-place g c =
    let may = c.requires.may in
    let to = c.args.to.now in
    let block = c.args.block.now in
    let fit : RowsFit block (length block * width to.schema) = record { each = width to.schema; whole = refl; some = c.requires.block.some; wide = c.requires.block.wide } in
    may_put _ c.args.place (table_region may.order (length block) to.schema to.capacity) _ _ may.own may.lives may.within fit may.turn

pub returns-in_err-put-clause-writes : goal.returns-in_err-put-clause-writes
returns-in_err-put-clause-writes g c =
    let p = err_from_is_err_and c.from_residual.result c.from_residual.ensures.1 in
    let may = c.requires.may in
    let to = c.args.to.now in
    let block = c.args.block.now in
    let shape = table_region may.order (length block) to.schema to.capacity in
    let put = c.in_err-put.ensures.puts in
    rw (p.1, p.2) (record {
      ran = record { ok = tt; err = pass_of _ _ _ _ _ put.err };
      never = ap pass_error put.never;
      seals = record { seals = λ good fine. put.seals good shape may.lives (accepted good (length block) to.region to.schema block c.requires.block.some refl fine c.requires.block.spells) };
      only = put.only;
      turn = put.turn;
      written = tt;
      rows = tt;
      told = tt;
    })

pub returns-clause-writes : goal.returns-clause-writes
returns-clause-writes g c =
    let may = c.requires.may in
    let to = c.args.to.now in
    let block = c.args.block.now in
    let pack = length block in
    let place = c.args.place in
    let some = c.requires.block.some in
    let shape = table_region may.order pack to.schema to.capacity in
    let put = c.in_ok-put.ensures.puts in
    record {
      ran = record { ok = put.ok; err = tt };
      never = tt;
      seals = record { seals = λ good fine. put.seals good shape may.lives (accepted good pack to.region to.schema block some refl fine c.requires.block.spells) };
      only = put.only;
      turn = put.turn;
      written = put.written;
      rows = λ tells. block_put pack to.schema block to.region place _ some refl c.requires.block.spells (put.told tells shape may.lives);
      told = λ tells slots keeps.
          let spelt = kept_block to.schema pack to.capacity (blocks_for pack to.capacity) place slots block (blocks_hold pack to.capacity some) refl may.within keeps in
          holds_rows to.region place _ _ _ (joined_block pack to.schema (block_at pack (whole_blocks pack to.capacity (fitted to.capacity slots)) place) block some refl spelt) (put.told tells shape may.lives);
    }

use Rattle.std.proofs.Common.{◌*◌, length, count_by, ◌∙◌, refl, arith}
use Rattle.std.proofs.lemmas.Result.{err_from_is_err_and}
use Rattle.ob_vault.proofs.Runs.{lives_apart, lives_went}
use Rattle.ob_blocks.specs.Blocks.{map_at}
use Rattle.ob_flat.specs.Words.{blocks_of}
use Rattle.ob_flat.proofs.Rooms.{same_rows}
use Rattle.ob_flat.proofs.Tables.{copies, fits_sized}
use Rattle.ob_mutate.specs.Mutating.{copy_script}
use Rattle.ob_mutate.proofs.Moving.{mutates_none, mutates_ok, mutates_err, fill_asks, drop_spare, table_stands, fills_swapped}
use Rattle.ob_mutate.proofs.rewriting.rewrite_rows.Goals as goal

pub make_table-requires : goal.make_table-requires
make_table-requires g c =
    let table = c.requires.table in
    let starts = c.requires.starts in
    record {
      spare = record { ready = starts.ready; spare = omega (arith, starts.spare) };
      few = omega (arith, starts.few);
      size = fits_sized (length c.args.rows.now) c.args.flat.now.schema c.args.flat.now.capacity table.some table.size;
      pack = (table.some, table.most);
    }

pub returns-in_err-fresh-clause-rows : goal.returns-in_err-fresh-clause-rows
returns-in_err-fresh-clause-rows g c = same_rows c.args.rows.now

pub returns-in_err-fresh-clause-rewrites : goal.returns-in_err-fresh-clause-rewrites
returns-in_err-fresh-clause-rewrites g c =
    let p = err_from_is_err_and c.from_residual.result c.from_residual.ensures.1 in
    let pack = length c.args.rows.now in
    let flat = c.args.flat.now in
    let change = c.args.change.now in
    rw (p.1, p.2) (mutates_none c.args.former pack flat (copy_script pack flat c.args.vault.now.next) (count_by (g.C.Change.picks change)) (map_at (g.C.Change.to change) 0) _ c.requires.starts.ready c.requires.table _ _ c.in_err-fresh.ensures.makes)

pub swap_blocks-requires : goal.swap_blocks-requires
swap_blocks-requires g c =
    let pack = length c.args.rows.now in
    let flat = c.args.flat.now in
    let makes = c.in_ok-fresh.ensures.makes in
    let ready = c.requires.starts.ready in
    let change = c.args.change.now in
    let fill = copy_script pack flat c.args.vault.now.next in
    let off = lives_apart _ _ _ ready c.requires.table.written.made.lives in
    record {
      asks = fill_asks c.args.former pack flat fill (count_by (g.C.Change.picks change)) (map_at (g.C.Change.to change) 0) _ ready c.requires.table _ makes (2 * blocks_of pack flat) c.requires.starts (omega arith);
      table = table_stands c.args.former pack flat fill (count_by (g.C.Change.picks change)) (map_at (g.C.Change.to change) 0) _ ready c.requires.table _ makes;
      made = rw makes.number makes.made;
      apart = λ same. off (same ∙ makes.number);
      fit = c.requires.fit;
      suits = c.requires.suits;
      past = c.requires.past;
    }

pub move_table-requires : goal.move_table-requires
move_table-requires g c =
    let pack = length c.args.rows.now in
    let flat = c.args.flat.now in
    let next = c.args.vault.now.next in
    let makes = c.in_ok-fresh.ensures.makes in
    let ready = c.requires.starts.ready in
    let change = c.args.change.now in
    let fill = copy_script pack flat next in
    let off = lives_apart _ _ _ ready c.requires.table.written.made.lives in
    let swaps = rw makes.number at c.in-Ok.ensures.swaps in
    record {
      spare = drop_spare c.args.former pack flat fill (count_by (g.C.Change.picks change)) (map_at (g.C.Change.to change) 0) _ ready c.requires.table _ makes (2 * blocks_of pack flat) _ c.requires.starts
          (omega (arith, copies flat.region next (blocks_of pack flat))) swaps.ran.ok;
      lives = (_, lives_went _ _ _ _ _ _ swaps.ran.ok off (lives_went _ _ _ _ _ _ makes.ran.ok off c.requires.table.written.made.lives));
    }

pub returns-in-Ok-clause-rows : goal.returns-in-Ok-clause-rows
returns-in-Ok-clause-rows g c = c.swap_blocks.ensures.rows

pub returns-in-Ok-clause-rewrites : goal.returns-in-Ok-clause-rewrites
returns-in-Ok-clause-rewrites g c =
    let pack = length c.args.rows.now in
    let flat = c.args.flat.now in
    let makes = c.in_ok-fresh.ensures.makes in
    let swaps = rw makes.number at c.in-Ok.ensures.swaps in
    let change = c.args.change.now in
    rw (c.from.ensures, c.move_table.ensures.flat, makes.number) (mutates_ok c.args.former pack flat (copy_script pack flat c.args.vault.now.next) (count_by (g.C.Change.picks change)) (map_at (g.C.Change.to change) 0) _ c.requires.starts.ready c.requires.table
    _ makes _ _ _ (fills_swapped pack flat _ _ _ _ _ _ swaps) c.move_table.ensures.leaves)

pub returns-in-Err-clause-rows : goal.returns-in-Err-clause-rows
returns-in-Err-clause-rows g c = c.swap_blocks.ensures.rows

pub returns-in-Err-clause-rewrites : goal.returns-in-Err-clause-rewrites
returns-in-Err-clause-rewrites g c =
    let pack = length c.args.rows.now in
    let flat = c.args.flat.now in
    let makes = c.in_ok-fresh.ensures.makes in
    let swaps = rw makes.number at c.in-Err.ensures.swaps in
    let forgets = c.forget.ensures.forgets (g.S.BlockStore.state c.swap_blocks.new.store) in
    let forgot = rw makes.number at forgets.went swaps.ran.err.lasts.ready in
    let gone = rw makes.number at forgets.gone in
    let change = c.args.change.now in
    mutates_err c.args.former pack flat (copy_script pack flat c.args.vault.now.next) (count_by (g.C.Change.picks change)) (map_at (g.C.Change.to change) 0) _ c.requires.starts.ready c.requires.table
    _ makes _ _ _ (fills_swapped pack flat _ _ _ _ _ _ swaps) forgot refl forgets.seals gone

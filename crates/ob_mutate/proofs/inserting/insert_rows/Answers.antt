use Rattle.std.proofs.Common.{◌*◌, length, ◌∙◌, refl, arith}
use Rattle.std.proofs.lemmas.Result.{err_from_is_err_and}
use Rattle.ob_vault.proofs.Runs.{lives_apart, lives_went}
use Rattle.ob_flat.specs.Words.{blocks_of}
use Rattle.ob_flat.proofs.Rooms.{same_rows}
use Rattle.ob_flat.proofs.Tables.{fits_sized}
use Rattle.ob_mutate.specs.Inserting.{insert_answer}
use Rattle.ob_mutate.specs.Mutating.{place_script, inserted_slots}
use Rattle.ob_mutate.proofs.Moving.{mutates_none, mutates_ok, mutates_err, fill_asks, drop_spare, table_stands, places, as_insert}
use Rattle.ob_mutate.proofs.inserting.insert_rows.Goals as goal

pub make_table-requires : goal.make_table-requires
make_table-requires g c =
    let table = c.requires.table in
    let starts = c.requires.starts in
    record {
      spare = record { ready = starts.ready; spare = omega (arith, starts.spare) };
      few = omega (arith, starts.few);
      size = fits_sized (length c.args.rows.now) c.args.flat.now.schema c.args.flat.now.capacity table.some table.size;
      pack = (table.some, table.most);
    }

pub returns-in_err-fresh-clause-rows : goal.returns-in_err-fresh-clause-rows
returns-in_err-fresh-clause-rows g c = same_rows c.args.rows.now

pub returns-in_err-fresh-clause-inserts : goal.returns-in_err-fresh-clause-inserts
returns-in_err-fresh-clause-inserts g c =
    let p = err_from_is_err_and c.from_residual.result c.from_residual.ensures.1 in
    let pack = length c.args.rows.now in
    let flat = c.args.flat.now in
    let cells = c.args.cells.now in
    let next = c.args.vault.now.next in
    let all = mutates_none c.args.former pack flat (place_script pack flat next) (insert_answer flat.schema cells) (inserted_slots flat cells) _ c.requires.starts.ready c.requires.table _ _ c.in_err-fresh.ensures.makes in
    rw (p.1, p.2) (as_insert next all)

pub insert_blocks-requires : goal.insert_blocks-requires
insert_blocks-requires g c =
    let pack = length c.args.rows.now in
    let flat = c.args.flat.now in
    let cells = c.args.cells.now in
    let makes = c.in_ok-fresh.ensures.makes in
    let ready = c.requires.starts.ready in
    let fill = place_script pack flat c.args.vault.now.next in
    let off = lives_apart _ _ _ ready c.requires.table.written.made.lives in
    record {
      asks = fill_asks c.args.former pack flat fill (insert_answer flat.schema cells) (inserted_slots flat cells) _ ready c.requires.table _ makes (3 * blocks_of pack flat) c.requires.starts (omega arith);
      table = table_stands c.args.former pack flat fill (insert_answer flat.schema cells) (inserted_slots flat cells) _ ready c.requires.table _ makes;
      made = rw makes.number makes.made;
      apart = λ same. off (same ∙ makes.number);
      fit = c.requires.fit;
      cells = c.requires.cells;
    }

pub move_table-requires : goal.move_table-requires
move_table-requires g c =
    let pack = length c.args.rows.now in
    let flat = c.args.flat.now in
    let cells = c.args.cells.now in
    let next = c.args.vault.now.next in
    let makes = c.in_ok-fresh.ensures.makes in
    let ready = c.requires.starts.ready in
    let off = lives_apart _ _ _ ready c.requires.table.written.made.lives in
    let fills = rw makes.number at c.in-Ok.ensures.fills in
    record {
      spare = drop_spare c.args.former pack flat (place_script pack flat next) (insert_answer flat.schema cells) (inserted_slots flat cells) _ ready c.requires.table _ makes (3 * blocks_of pack flat) _ c.requires.starts (places pack flat next) fills.ran.ok;
      lives = (_, lives_went _ _ _ _ _ _ fills.ran.ok off (lives_went _ _ _ _ _ _ makes.ran.ok off c.requires.table.written.made.lives));
    }

pub returns-in-Ok-clause-rows : goal.returns-in-Ok-clause-rows
returns-in-Ok-clause-rows g c = c.insert_blocks.ensures.rows

pub returns-in-Ok-clause-inserts : goal.returns-in-Ok-clause-inserts
returns-in-Ok-clause-inserts g c =
    let pack = length c.args.rows.now in
    let flat = c.args.flat.now in
    let cells = c.args.cells.now in
    let next = c.args.vault.now.next in
    let makes = c.in_ok-fresh.ensures.makes in
    let fills = rw makes.number at c.in-Ok.ensures.fills in
    let all = mutates_ok c.args.former pack flat (place_script pack flat next) (insert_answer flat.schema cells) (inserted_slots flat cells) _ c.requires.starts.ready c.requires.table _ makes _ _ _ fills c.move_table.ensures.leaves in
    rw (c.move_table.ensures.flat, makes.number) (as_insert next all)

pub returns-in-Err-clause-rows : goal.returns-in-Err-clause-rows
returns-in-Err-clause-rows g c = c.insert_blocks.ensures.rows

pub returns-in-Err-clause-inserts : goal.returns-in-Err-clause-inserts
returns-in-Err-clause-inserts g c =
    let pack = length c.args.rows.now in
    let flat = c.args.flat.now in
    let cells = c.args.cells.now in
    let next = c.args.vault.now.next in
    let makes = c.in_ok-fresh.ensures.makes in
    let fills = rw makes.number at c.in-Err.ensures.fills in
    let forgets = c.forget.ensures.forgets (g.S.BlockStore.state c.insert_blocks.new.store) in
    let forgot = rw makes.number at forgets.went fills.ran.err.lasts.ready in
    let gone = rw makes.number at forgets.gone in
    let all = mutates_err c.args.former pack flat (place_script pack flat next) (insert_answer flat.schema cells) (inserted_slots flat cells) _ c.requires.starts.ready c.requires.table _ makes _ _ _ fills forgot refl forgets.seals gone in
    as_insert next all

use Rattle.std.proofs.Common.{sym, ◌∙◌, ◌*◌, ℕ, ap}
use Rattle.ob_base.specs.Limits.{buffered_blocks}
use Rattle.ob_base.specs.Schemas.{width}
use Rattle.ob_flat.proofs.Rooms.{block_fits}
use Rattle.ob_flat.proofs.Opened.{block_few, buffered_some, front_clear, back_blocks, back_wide, ends_wide, ends_closed}
use Rattle.ob_small.proofs.selecting.select.Goals as goal

pub select_rows-result-requires-clause-starts : goal.select_rows-result-requires-clause-starts
select_rows-result-requires-clause-starts g c = rw (c.split_at_mut-rows.ensures.front_len ∙ c.pack-pack.ensures.value, c.rows.ensures.value, c.pack-pack.ensures.value) c.requires.starts

pub select_rows-result-requires-clause-table : goal.select_rows-result-requires-clause-table
select_rows-result-requires-clause-table g c =
    let count = c.split_at_mut-rows.ensures.front_len ∙ c.pack-pack.ensures.value in
    let few = block_few c.args.room.now c.pack-pack.ensures.sound count in
    record { some = few.0; most = few.1; size = c.requires.size; written = rw count c.requires.flat }

pub select_rows-result-requires-clause-fit : goal.select_rows-result-requires-clause-fit
select_rows-result-requires-clause-fit g c =
    block_fits (width c.args.flat.now.schema) c.args.room.now c.requires.room c.pack-pack.ensures.sound c.pack-pack.ensures.value (front_clear c.args.room.now c.pack-pack.ensures.value c.rows.ensures.value c.open-open.ensures.value c.split_at_mut-rows.ensures.front)

pub select_rows-result-requires-clause-buffers : goal.select_rows-result-requires-clause-buffers
select_rows-result-requires-clause-buffers g c =
    let room = c.args.room.now in
    record {
      some = buffered_some room c.pack-pack.ensures.sound c.pack-pack.ensures.value c.rows.ensures.value c.requires.room.enough;
      space = back_blocks room c.pack-pack.ensures.value c.rows.ensures.value c.open-open.ensures.value c.split_at_mut-rows.ensures.back
          ∙ ap (λ (n : ℕ). buffered_blocks c.pack-pack.result c.rows.result * n) (sym c.split_at_mut-rows.ensures.front_len);
      wide = back_wide room c.pack-pack.ensures.value c.rows.ensures.value c.open-open.ensures.value (width c.args.flat.now.schema) c.requires.room.wide c.split_at_mut-rows.ensures.back;
    }

pub clear_shelf-requires-clause-wide : goal.clear_shelf-requires-clause-wide
clear_shelf-requires-clause-wide g c =
    ends_wide c.args.room.now c.pack-pack.ensures.value c.rows.ensures.value c.open-open.ensures.value (width c.args.flat.now.schema) c.requires.room c.split_at_mut-rows.ensures.value c.select_rows-result.ensures.rows c.select_rows-result.ensures.kept

pub returns-clause-room : goal.returns-clause-room
returns-clause-room g c =
    c.clear_shelf.ensures
    ∙ ends_closed c.args.room.now c.pack-pack.ensures.value c.rows.ensures.value c.open-open.ensures.value (width c.args.flat.now.schema) c.requires.room c.split_at_mut-rows.ensures.value c.select_rows-result.ensures.rows c.select_rows-result.ensures.kept c.pack-pack.ensures.sound

pub returns-clause-selects : goal.returns-clause-selects
returns-clause-selects g c = rw (c.split_at_mut-rows.ensures.front_len ∙ c.pack-pack.ensures.value, c.rows.ensures.value, c.pack-pack.ensures.value) at c.select_rows-result.ensures.selects

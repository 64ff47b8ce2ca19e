use Rattle.std.proofs.Common.{◌≤◌, ◌+◌, ℕ, max, length, sym, ◌∙◌, ap, arith}
use Rattle.ob_base.specs.Schemas.{width}
use Rattle.ob_flat.proofs.Rooms.{block_fits}
use Rattle.ob_flat.proofs.Opened.{block_few}
use Rattle.ob_mutate.proofs.Shelved.{back_count, back_wide, ends_closed, ends_wide, front_clear}
use Rattle.ob_mutate.proofs.batch.insert_all.Goals as goal

pub insert_rows-result-requires : goal.insert_rows-result-requires
insert_rows-result-requires g c =
    let s = c.args.room.now in
    let n = length c.args.batch.now in
    let value = c.open-open.ensures.value in
    let count = c.split_at_mut-rows.ensures.front_len ∙ c.pack-pack.ensures.value in
    let few = block_few s c.pack-pack.ensures.sound count in
    record {
      starts = simp (sym count) at c.requires.starts;
      table = record { some = few.0; most = few.1; size = c.requires.size; written = simp (sym count) at c.requires.flat };
      fit = block_fits (width c.args.flat.now.schema) s c.requires.room c.pack-pack.ensures.sound c.pack-pack.ensures.value (front_clear c.pack-pack.result n s value c.split_at_mut-rows.ensures.front);
      batch = record {
        fit = c.requires.batch;
        wide = back_wide c.pack-pack.result n s value (width c.args.flat.now.schema) c.requires.room.wide c.split_at_mut-rows.ensures.back;
        count = back_count c.pack-pack.result n s value c.split_at_mut-rows.ensures.back;
        places = c.requires.places;
        few = omega (arith, c.requires.few, c.rows.ensures.value, c.rows.type_inv);
      };
      out = c.requires.out;
    }

pub clear_shelf-requires-clause-wide : goal.clear_shelf-requires-clause-wide
clear_shelf-requires-clause-wide g c =
    let s = c.args.room.now in
    let n = length c.args.batch.now in
    let fits : c.pack-pack.result + n ≤ s.rows = omega (arith, c.requires.few, c.pack-pack.ensures.value) in
    ends_wide c.pack-pack.result n s c.open-open.ensures.value (width c.args.flat.now.schema) c.requires.room fits c.split_at_mut-rows.ensures.value c.insert_rows-result.ensures.rows c.insert_rows-result.ensures.kept

pub returns-clause-room : goal.returns-clause-room
returns-clause-room g c =
    let s = c.args.room.now in
    let n = length c.args.batch.now in
    let fits : c.pack-pack.result + n ≤ s.rows = omega (arith, c.requires.few, c.pack-pack.ensures.value) in
    c.clear_shelf.ensures
    ∙ ends_closed c.pack-pack.result n s c.open-open.ensures.value (width c.args.flat.now.schema) c.requires.room fits c.split_at_mut-rows.ensures.value c.insert_rows-result.ensures.rows c.insert_rows-result.ensures.kept c.pack-pack.ensures.sound
    ∙ ap (λ (p : ℕ). record s { high = max s.high (p + n) }) c.pack-pack.ensures.value

pub returns-clause-inserts : goal.returns-clause-inserts
returns-clause-inserts g c = rw (c.split_at_mut-rows.ensures.front_len ∙ c.pack-pack.ensures.value) at c.insert_rows-result.ensures.inserts

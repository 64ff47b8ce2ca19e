use Rattle.std.proofs.Common.{◌≤◌, ◌*◌, ℕ, List, ◌++◌, max, sym, ◌∙◌, ap, subst, arith}
use Rattle.ob_base.specs.Schemas.{width}
use Rattle.ob_vault.specs.Rows.{SameSizes}
use Rattle.ob_vault.proofs.RowsLemmas.{sizes_join}
use Rattle.ob_flat.proofs.Rooms.{opened_wide, opened_closed}
use Rattle.ob_flat.proofs.Halves.{both_fit, both_free, pack_fits, half_within, first_count, second_count, first_fit, second_fit, second_spelt}
use Rattle.ob_hash.proofs.selecting.select.Goals as goal

pub overflow_mul-pack : goal.overflow_mul-pack
overflow_mul-pack g c = both_fit (width c.args.flat.now.schema) c.args.room.now c.requires.room c.pack-pack.ensures.sound c.pack-pack.ensures.value

pub open-open-requires-clause-free : goal.open-open-requires-clause-free
open-open-requires-clause-free g c = both_free (width c.args.flat.now.schema) c.args.room.now c.requires.room c.pack-pack.ensures.sound c.pack-pack.ensures.value

pub open-open-requires-clause-shelf : goal.open-open-requires-clause-shelf
open-open-requires-clause-shelf g c = c.requires.room.shelf

pub overflow_cast-pack : goal.overflow_cast-pack
overflow_cast-pack g c = pack_fits (width c.args.flat.now.schema) c.args.room.now c.requires.room c.pack-pack.ensures.sound c.pack-pack.ensures.value

pub split_at_mut-rows-requires : goal.split_at_mut-rows-requires
split_at_mut-rows-requires g c = half_within (width c.args.flat.now.schema) c.args.room.now c.requires.room c.pack-pack.ensures.sound c.pack-pack.ensures.value c.open-open.ensures.value

pub select_rows-result-requires : goal.select_rows-result-requires
select_rows-result-requires g c =
    let w = width c.args.flat.now.schema in
    let s = c.args.room.now in
    let room = c.requires.room in
    let sound = c.pack-pack.ensures.sound in
    let pack = c.pack-pack.ensures.value in
    let all = c.open-open.ensures.value in
    let first = c.split_at_mut-rows.ensures.front in
    let second = c.split_at_mut-rows.ensures.back in
    let depth = c.from-depth.ensures in
    let count = first_count w s room sound pack all first in
    record {
      starts = rw (count, depth) c.requires.starts;
      table = rw count (record { some = sound.pack_some; most = sound.pack_few; size = c.requires.size; written = c.requires.flat });
      sizes = rw depth c.requires.sizes;
      buffers = record {
        rows_fit = first_fit w s room sound pack all first;
        same = second_count w s room sound pack all second ∙ sym count;
        block_fit = second_fit w s room sound pack all second;
      };
      dummies = second_spelt c.args.flat.now.schema s _ room all second;
    }

pub clear_shelf-requires-clause-wide : goal.clear_shelf-requires-clause-wide
clear_shelf-requires-clause-wide g c =
    let s = c.args.room.now in
    let n = 2 * c.pack-pack.result in
    let fits : n ≤ s.rows = omega (arith, c.pack-pack.ensures.value, c.requires.room.enough) in
    let ends = c.select_rows-result.new.rows ++ c.select_rows-result.new.block in
    let same = subst (λ (l : List (List ℕ)). SameSizes l ends) (sym c.split_at_mut-rows.ensures.value) (sizes_join _ _ _ _ c.select_rows-result.ensures.rows c.select_rows-result.ensures.block) in
    opened_wide (width c.args.flat.now.schema) n s _ ends c.requires.room fits c.open-open.ensures.value same

pub returns-clause-room : goal.returns-clause-room
returns-clause-room g c =
    let s = c.args.room.now in
    let n = 2 * c.pack-pack.result in
    let fits : n ≤ s.rows = omega (arith, c.pack-pack.ensures.value, c.requires.room.enough) in
    let ends = c.select_rows-result.new.rows ++ c.select_rows-result.new.block in
    let same = subst (λ (l : List (List ℕ)). SameSizes l ends) (sym c.split_at_mut-rows.ensures.value) (sizes_join _ _ _ _ c.select_rows-result.ensures.rows c.select_rows-result.ensures.block) in
    c.clear_shelf.ensures
    ∙ opened_closed (width c.args.flat.now.schema) n s _ ends c.requires.room fits c.open-open.ensures.value same c.pack-pack.ensures.sound
    ∙ ap (λ (p : ℕ). record s { high = max s.high (2 * p) }) c.pack-pack.ensures.value

pub returns-clause-selects : goal.returns-clause-selects
returns-clause-selects g c =
    let count = first_count (width c.args.flat.now.schema) c.args.room.now c.requires.room c.pack-pack.ensures.sound c.pack-pack.ensures.value c.open-open.ensures.value c.split_at_mut-rows.ensures.front in
    rw (count, c.from-depth.ensures) at c.select_rows-result.ensures.selects

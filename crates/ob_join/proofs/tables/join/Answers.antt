use Rattle.std.proofs.Common.{◌≡◌, ◌≤◌, ◌+◌, ◌*◌, ℕ, List, ◌++◌, length, max, min, sym, ◌∙◌, ap, subst, arith}
use Rattle.std.specs.Int.{div_ceil}
use Rattle.ob_base.specs.Limits.{buffered_blocks}
use Rattle.ob_base.specs.Schemas.{width}
use Rattle.ob_vault.specs.Rows.{SameSizes}
use Rattle.ob_vault.proofs.RowsLemmas.{sizes_join}
use Rattle.ob_flat.proofs.Rooms.{open_fits, opened_wide, opened_closed}
use Rattle.std.proofs.lemmas.List.{length-replicate}
use Rattle.ob_room.specs.RoomState.{RoomState, clear}
use Rattle.ob_join.proofs.Making.{left_narrow, right_narrow, joined_is, told_is}
use Rattle.ob_join.proofs.Windows.{clear_wide, product_within}
use Rattle.ob_join.proofs.Opened.{first_fit, second_fit, pack_some, pack_few, as_many, kept_many, some_kept}
use Rattle.ob_join.proofs.tables.join.Goals as goal

opens : {n : ℕ} (lefts : ℕ) (s : RoomState) (pack rows : ℕ) → n ≡ min (buffered_blocks pack rows) lefts → pack ≡ s.pack → rows ≡ s.rows → 3 * s.pack + 1 ≤ s.rows → 2 * pack + n * pack ≤ s.rows
opens {n} lefts s pack rows is same all enough =
    let fits = open_fits 2 pack rows (omega arith) (omega (arith, same, all, enough)) in
    omega (arith, all, fits, product_within n (buffered_blocks pack rows) pack (omega (arith, is)))

-- as many as are kept, and as are open
kept_are : {n lefts pack rows : ℕ} (s : RoomState) (capacity : ℕ) → n ≡ min (buffered_blocks pack rows) lefts → lefts ≡ div_ceil capacity pack → pack ≡ s.pack → rows ≡ s.rows
    → n ≡ min (buffered_blocks s.pack s.rows) (div_ceil capacity s.pack)
kept_are s capacity is whole same all = is ∙ (λ i. min (buffered_blocks (same i) (all i)) (whole i)) ∙ ap (λ (p : ℕ). min (buffered_blocks s.pack s.rows) (div_ceil capacity p)) same

open_are : {n pack k : ℕ} (s : RoomState) → n ≡ k → pack ≡ s.pack → 2 * pack + n * pack ≡ 2 * s.pack + k * s.pack
open_are {n} s is same = ap (λ (p : ℕ). 2 * p + n * p) same ∙ ap (λ (m : ℕ). 2 * s.pack + m * s.pack) is

-- three parts that are as wide as they were
sizes_three : (all front a b c d e f : List (List ℕ)) → all ≡ front ++ c → front ≡ a ++ b → SameSizes a d → SameSizes b e → SameSizes c f → SameSizes all (d ++ e ++ f)
sizes_three all front a b c d e f whole part first second third =
    subst (λ (l : List (List ℕ)). SameSizes l (d ++ e ++ f)) (sym whole)
    (sizes_join front c (d ++ e) f (subst (λ (l : List (List ℕ)). SameSizes l (d ++ e)) (sym part) (sizes_join a b d e first second)) third)

pub join_tables-result-requires-clause-starts : goal.join_tables-result-requires-clause-starts
join_tables-result-requires-clause-starts g c = rw (c.split_at_mut-rows.ensures.front_len ∙ c.pack-pack.ensures.value, c.rows.ensures.value, c.pack-pack.ensures.value) c.requires.starts

pub join_tables-result-requires-clause-tables : goal.join_tables-result-requires-clause-tables
join_tables-result-requires-clause-tables g c = rw (c.split_at_mut-rows.ensures.front_len ∙ c.pack-pack.ensures.value, c.rows.ensures.value, c.pack-pack.ensures.value) c.requires.tables

pub join_tables-result-requires-clause-buffers : goal.join_tables-result-requires-clause-buffers
join_tables-result-requires-clause-buffers g c =
    let room = c.args.room.now in
    let sound = c.pack-pack.ensures.sound in
    let rows = c.split_at_mut-rows.ensures in
    let same = as_many _ _ _ _ c.split_at_mut-blocks.ensures.front_len rows.front_len rows.back_len in
    let narrow : width c.args.right.now.schema ≤ room.width = omega (arith, right_narrow c.args.left.now.schema c.args.right.now.schema, c.requires.room.wide) in
    record {
      some = pack_some room rows.front_len c.pack-pack.ensures.value sound;
      most = pack_few room rows.front_len c.pack-pack.ensures.value sound;
      rows_fit = first_fit _ _ _ _ _ _ _ _ c.split_at_mut-rows.result.1.now narrow c.open-open.ensures.value c.split_at_mut-blocks.ensures.front rows.front (pack_some room rows.front_len c.pack-pack.ensures.value sound);
      same = same;
      out_fit = second_fit _ _ _ _ _ _ _ c.split_at_mut-rows.result.0.now _ c.requires.room.wide c.open-open.ensures.value c.split_at_mut-blocks.ensures.front rows.back (pack_some room (same ∙ rows.front_len) c.pack-pack.ensures.value sound);
    }

pub join_tables-result-requires-clause-kept : goal.join_tables-result-requires-clause-kept
join_tables-result-requires-clause-kept g c =
    let room = c.args.room.now in
    let pack = c.pack-pack.result in
    let l = c.args.left.now.schema in
    let narrow : width l ≤ room.width = omega (arith, left_narrow l c.args.right.now.schema, c.requires.room.wide) in
    record {
      some = some_kept room _ _ c.pack-pack.ensures.value c.rows.ensures.value c.pack-pack.ensures.sound.pack_some c.requires.room.enough;
      space = kept_many c.min-kept_blocks.result (ap length c.open-open.ensures.value ∙ length-replicate _ (clear room.width)) c.split_at_mut-blocks.ensures.back_len c.split_at_mut-rows.ensures.front_len
          ∙ ap (λ (m : ℕ). m * length c.split_at_mut-rows.result.0.now) (c.min-kept_blocks.ensures ∙ ap (min (buffered_blocks pack c.rows.result)) (c.div_ceil.ensures ∙ ap (div_ceil c.args.left.now.capacity) (sym c.split_at_mut-rows.ensures.front_len)));
      wide = clear_wide (width l) room.width (2 * pack) (2 * pack + c.min-kept_blocks.result * pack) c.split_at_mut-blocks.result.1.now narrow (rw c.open-open.ensures.value at c.split_at_mut-blocks.ensures.back);
    }

pub clear_shelf-requires-clause-wide : goal.clear_shelf-requires-clause-wide
clear_shelf-requires-clause-wide g c =
    let s = c.args.room.now in
    let pack = c.pack-pack.result in
    let rows = c.rows.result in
    let fits = opens _ s pack rows c.min-kept_blocks.ensures c.pack-pack.ensures.value c.rows.ensures.value c.requires.room.enough in
    let ends = c.join_tables-result.new.rows ++ c.join_tables-result.new.out ++ c.join_tables-result.new.kept in
    let same = sizes_three c.open-open.result.now c.split_at_mut-blocks.result.0.now _ _ _ _ _ _ c.split_at_mut-blocks.ensures.value c.split_at_mut-rows.ensures.value c.join_tables-result.ensures.rows c.join_tables-result.ensures.out c.join_tables-result.ensures.kept in
    opened_wide (width (c.args.left.now.schema ++ c.args.right.now.schema)) (2 * pack + c.min-kept_blocks.result * pack) s _ ends c.requires.room fits c.open-open.ensures.value same

pub returns-clause-room : goal.returns-clause-room
returns-clause-room g c =
    let s = c.args.room.now in
    let pack = c.pack-pack.result in
    let rows = c.rows.result in
    let fits = opens _ s pack rows c.min-kept_blocks.ensures c.pack-pack.ensures.value c.rows.ensures.value c.requires.room.enough in
    let ends = c.join_tables-result.new.rows ++ c.join_tables-result.new.out ++ c.join_tables-result.new.kept in
    let same = sizes_three c.open-open.result.now c.split_at_mut-blocks.result.0.now _ _ _ _ _ _ c.split_at_mut-blocks.ensures.value c.split_at_mut-rows.ensures.value c.join_tables-result.ensures.rows c.join_tables-result.ensures.out c.join_tables-result.ensures.kept in
    let kept = kept_are s c.args.left.now.capacity c.min-kept_blocks.ensures c.div_ceil.ensures c.pack-pack.ensures.value c.rows.ensures.value in
    let high = open_are s kept c.pack-pack.ensures.value in
    c.clear_shelf.ensures
    ∙ opened_closed (width (c.args.left.now.schema ++ c.args.right.now.schema)) (2 * pack + c.min-kept_blocks.result * pack) s _ ends c.requires.room fits c.open-open.ensures.value same c.pack-pack.ensures.sound
    ∙ ap (λ (n : ℕ). record s { high = max s.high n }) high

pub returns-clause-joins : goal.returns-clause-joins
returns-clause-joins g c = rw (c.split_at_mut-rows.ensures.front_len ∙ c.pack-pack.ensures.value, c.rows.ensures.value, c.pack-pack.ensures.value) at c.join_tables-result.ensures.joins

pub returns-clause-told : goal.returns-clause-told
returns-clause-told g c =
    let room = c.args.room.now in
    let l = c.args.left.now.capacity in
    let r = c.args.right.now.capacity in
    let tells = rw (c.split_at_mut-rows.ensures.front_len ∙ c.pack-pack.ensures.value, c.rows.ensures.value, c.pack-pack.ensures.value) at c.join_tables-result.ensures.told in
    record { told = λ honest left right first second. told_is room.pack c.join_tables-result.result _ _ _ (joined_is c.args.lcol c.args.rcol room.pack room.rows l r left right first.size second.size) (tells.told honest left right first second) }

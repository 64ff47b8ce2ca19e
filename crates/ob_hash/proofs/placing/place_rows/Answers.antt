use Rattle.std.proofs.Common.{◌≡◌, ◌≤◌, ◌<◌, ◌+◌, ◌*◌, ◌-◌, min, ℕ, Fits, w32, w64, Bool, List, Option, None, IsTrue, length, slice_index_or, sym, ◌∙◌, ap, subst, arith}
use Rattle.std.proofs.lemmas.Result.{err_from_is_err_and}
use Rattle.ob_base.specs.Numbers.{blocks_for}
use Rattle.ob_base.specs.Schemas.{Columns, width}
use Rattle.ob_script.specs.Parts.{slots_in}
use Rattle.ob_vault.specs.Places.{RowsFit}
use Rattle.ob_vault.specs.Rows.{row_at}
use Rattle.ob_vault.proofs.RowsLemmas.{same_at}
use Rattle.ob_vault.proofs.Runs.{fit_same, fit_trans}
use Rattle.ob_vault.proofs.WordLemmas.{asks_after, honest_before, honest_after}
use Rattle.ob_row.specs.Rows.{Row}
use Rattle.ob_row.specs.Slots.{Slots, slot_at, is_selected}
use Rattle.ob_row.specs.Spelling.{Begins}
use Rattle.ob_row.specs.Truth.{is_true}
use Rattle.ob_blocks.specs.Blocks.{block_at}
use Rattle.ob_flat.specs.Flats.{whole_blocks}
use Rattle.ob_flat.specs.Slots.{Spelt}
use Rattle.ob_flat.proofs.Rooms.{same_rows}
use Rattle.ob_flat.proofs.Tables.{index_fits}
use Rattle.ob_hash.specs.Bucketed.{buckets_of}
use Rattle.ob_hash.specs.Filling.{IsRow}
use Rattle.ob_hash.specs.Hashing.{layout_of, slot_part, bucket_size}
use Rattle.ob_hash.proofs.Kept.{keeps_none, keeps_next, keeps_cut, keeps_all}
use Rattle.ob_hash.proofs.Places.{are_buckets, block_slot, selected_some, placed_same, placed_next}
use Rattle.ob_hash.proofs.Sizes.{nearer, block_begins, slots_touch, slot_room, slots_inside}
use Rattle.ob_hash.proofs.placing.place_rows.Goals as goal

-- the slots below the capacity
ends : (rows pack capacity u n : ℕ) → rows ≡ pack → n ≡ min rows (capacity - u * rows) → n ≡ slots_in pack capacity u
ends rows pack capacity u n same is = is ∙ ap (λ (r : ℕ). slots_in r capacity u) same

-- where the slots of a block begin, and the others
module _ {rows pack : ℕ} (capacity u : ℕ) (same : rows ≡ pack) (some : 1 ≤ pack) (few : pack ≤ 16) (most : capacity ≤ 16777216) (below : u < blocks_for pack capacity) where
  first_is : u * rows ≡ u * pack
  first_is = ap (λ (n : ℕ). u * n) same

  first_fits : Fits w32 (u * rows)
  first_fits = omega (arith, first_is, index_fits pack capacity u some few most below)

  first_begins : u * rows ≤ capacity
  first_begins = omega (arith, first_is, block_begins pack capacity u some below)

  next_fits : {j n : ℕ} → n ≡ min rows (capacity - u * rows) → j < n → Fits w32 (u * rows + j)
  next_fits is less = omega (arith, is, less, first_is, same, index_fits pack capacity u some few most below)

  index_small : {j n : ℕ} → n ≡ min rows (capacity - u * rows) → j < n → Fits w64 j
  index_small is less = omega (arith, is, less, same, few)

-- a row of the block spells its slot
slot_begins : (columns : Columns) (pack capacity u j : ℕ) (slots : Slots) (rows : List (List ℕ)) (row : List ℕ) → length rows ≡ pack → j < length rows → u * pack + j < length slots → row_at rows j ≡ row
    → Spelt columns (block_at pack (whole_blocks pack capacity slots) u) rows → Begins columns (slot_at slots (u * pack + j)) row
slot_begins columns pack capacity u j slots rows row count below inside is spelt =
    subst (Begins columns (slot_at slots (u * pack + j))) is
    (subst (λ (s : Option Row). Begins columns s (row_at rows j)) (block_slot pack u j _ slots (omega (arith, below, count)) inside) (spelt.each j below))

pub overflow_mul-first : goal.overflow_mul-first
overflow_mul-first g c =
    let rows = c.requires.rows in
    let hashed = c.requires.hashed in
    first_fits c.args.flat.now.capacity c.args.u rows.count hashed.some hashed.most rows.size.most rows.within

pub overflow_sub-flat : goal.overflow_sub-flat
overflow_sub-flat g c =
    let rows = c.requires.rows in
    let hashed = c.requires.hashed in
    first_begins c.args.flat.now.capacity c.args.u rows.count hashed.some hashed.most rows.size.most rows.within

pub overflow_cast-row : goal.overflow_cast-row
overflow_cast-row g c =
    let rows = c.requires.rows in
    let hashed = c.requires.hashed in
    index_small c.args.flat.now.capacity c.args.u rows.count hashed.some hashed.most rows.size.most rows.within c.min-j-end.ensures c.loop-j-test.true

pub overflow_add-i : goal.overflow_add-i
overflow_add-i g c =
    let rows = c.requires.rows in
    let hashed = c.requires.hashed in
    next_fits c.args.flat.now.capacity c.args.u rows.count hashed.some hashed.most rows.size.most rows.within c.min-j-end.ensures c.loop-j-test.true

pub loop-j-smaller : goal.loop-j-smaller
loop-j-smaller g c = nearer c.loop-j-test.true

pub loop-j-init : goal.loop-j-init
loop-j-init g c =
    let l = layout_of (length c.args.block.now) c.args.hashed.now in
    let here : c.args.u * l.pack ≡ c.args.u * l.pack + 0 = omega arith in
    record {
      keeps = keeps_none l _ c.requires.asks.ready c.requires.live;
      same = same_rows c.args.block.now;
      told = λ honest slots size spelt is. placed_same here is;
    }

pub holds-requires : goal.holds-requires
holds-requires g c =
    let below : c.loop-j.j < length c.args.rows.now = omega (arith, c.loop-j-test.true, c.min-j-end.ensures) in
    let row = same_at c.args.rows.now c.loop-j.j c.index-rows-j.result below c.index-rows-j.is in
    omega (arith, ap length row, c.requires.rows.wide.wide c.loop-j.j below)

pub unreachable-requires : goal.unreachable-requires
unreachable-requires g c =
    let below : c.loop-j.j < length c.args.rows.now = omega (arith, c.loop-j-test.true, c.min-j-end.ensures) in
    let row = same_at c.args.rows.now c.loop-j.j c.index-rows-j.result below c.index-rows-j.is in
    let spells = c.requires.rows.spells in
    let slot = slice_index_or spells.slots c.loop-j.j None in
    absurd (cc (c.in-Err.is, c.holds.ensures.truth slot (subst (Begins c.args.flat.now.schema slot) row (spells.spelt.each c.loop-j.j below))))

pub fill_buckets-requires-clause-asks : goal.fill_buckets-requires-clause-asks
fill_buckets-requires-clause-asks g c =
    let hashed = c.args.hashed.now in
    let pack = length c.args.block.now in
    let slots = slots_in pack c.args.flat.now.capacity c.args.u in
    let end = ends _ pack c.args.flat.now.capacity c.args.u _ c.requires.rows.count c.min-j-end.ensures in
    asks_after c.requires.asks c.loop-j.invariant.keeps.ran.ok
    (omega (arith, slots_touch hashed.flat.now.region hashed.k hashed.depth (c.args.u * pack) c.loop-j.j, slot_room c.loop-j.j slots hashed.depth (omega (arith, end, c.loop-j-test.true))))

pub fill_buckets-requires-clause-hashed : goal.fill_buckets-requires-clause-hashed
fill_buckets-requires-clause-hashed g c = rw c.loop-j.invariant.same.count c.requires.hashed

pub fill_buckets-requires-clause-live : goal.fill_buckets-requires-clause-live
fill_buckets-requires-clause-live g c = rw c.loop-j.invariant.same.count c.loop-j.invariant.keeps.stays

pub fill_buckets-requires-clause-fit : goal.fill_buckets-requires-clause-fit
fill_buckets-requires-clause-fit g c =
    let block = c.loop-j.block in
    let w : width c.args.flat.now.schema ≡ width c.args.hashed.now.flat.now.schema = ap width (sym c.requires.rows.schema) in
    subst (λ (v : ℕ). RowsFit block (length block * v)) w
    (subst (λ (n : ℕ). RowsFit block (n * width c.args.flat.now.schema)) (sym c.loop-j.invariant.same.count) (fit_same _ _ _ c.loop-j.invariant.same c.requires.fit))

pub fill_buckets-requires-clause-row : goal.fill_buckets-requires-clause-row
fill_buckets-requires-clause-row g c =
    let below : c.loop-j.j < length c.args.rows.now = omega (arith, c.loop-j-test.true, c.min-j-end.ensures) in
    let row = same_at c.args.rows.now c.loop-j.j c.index-rows-j.result below c.index-rows-j.is in
    let slot = c.in-Ok.ensures.malformed in
    subst (λ (columns : Columns). IsRow columns c.index-rows-j.result) (sym c.requires.rows.schema)
    (record { wide = omega (arith, ap length row, c.requires.rows.wide.wide c.loop-j.j below); own = slot.0; begins = slot.1 })

pub returns-in_err-waits-clause-block : goal.returns-in_err-waits-clause-block
returns-in_err-waits-clause-block g c = fit_trans _ _ _ c.loop-j.invariant.same c.fill_buckets.ensures.block

pub returns-in_err-waits-clause-places : goal.returns-in_err-waits-clause-places
returns-in_err-waits-clause-places g c =
    let p = err_from_is_err_and c.from_residual.result c.from_residual.ensures.1 in
    let hashed = c.args.hashed.now in
    let l = layout_of (length c.args.block.now) hashed in
    let flat = c.args.flat.now in
    let j = c.loop-j.j in
    let rows = c.args.rows.now in
    let test = is_true c.args.pred.now in
    let given = c.requires.rows in
    let end = ends _ l.pack flat.capacity c.args.u _ given.count c.min-j-end.ensures in
    let inside : j < slots_in l.pack flat.capacity c.args.u = omega (arith, end, c.loop-j-test.true) in
    let before = c.loop-j.invariant in
    let fills = rw (before.same.count, given.count) at c.in_err-waits.ensures.fills in
    rw (p.1, p.2) (record {
      keeps = keeps_cut (slot_part l.table.region l.k l.depth (c.args.u * l.pack)) (slots_in l.pack flat.capacity c.args.u) j _ inside before.keeps fills.keeps;
      never = fills.never;
      told = λ honest slots size spelt is.
          let m = c.args.u * l.pack + j in
          let below : j < length rows = omega (arith, c.loop-j-test.true, c.min-j-end.ensures) in
          let within : m < length slots = omega (arith, size, slots_inside l.pack flat.capacity c.args.u j inside) in
          let begins = slot_begins flat.schema l.pack flat.capacity c.args.u j slots rows c.index-rows-j.result given.count below within (same_at rows j c.index-rows-j.result below c.index-rows-j.is) spelt in
          let selected : c.in-Ok.selected ≡ is_selected test (slot_at slots m) = cc (c.in-Ok.ensures.truth (slot_at slots m) begins) in
          let was = before.told (honest_before fills.keeps.ran.err.lasts honest) slots size spelt is in
          let are = are_buckets l.k (bucket_size l) test slots m c.requires.hashed.buckets (omega (arith, within)) in
          fills.told (honest_after before.keeps.ran.ok honest) slots (buckets_of l.k (bucket_size l) test slots m) are was.holds (subst (λ (columns : Columns). Begins columns (slot_at slots m) c.index-rows-j.result) (sym given.schema) begins)
          (λ yes. selected_some test (slot_at slots m) (subst (λ (b : Bool). IsTrue b) selected yes));
    })

pub loop-j-preserved : goal.loop-j-preserved
loop-j-preserved g c =
    let hashed = c.args.hashed.now in
    let l = layout_of (length c.args.block.now) hashed in
    let flat = c.args.flat.now in
    let j = c.loop-j.j in
    let rows = c.args.rows.now in
    let test = is_true c.args.pred.now in
    let given = c.requires.rows in
    let end = ends _ l.pack flat.capacity c.args.u _ given.count c.min-j-end.ensures in
    let inside : j < slots_in l.pack flat.capacity c.args.u = omega (arith, end, c.loop-j-test.true) in
    let before = c.loop-j.invariant in
    let fills = rw (before.same.count, given.count) at c.in_ok-waits.ensures.fills in
    record {
      keeps = keeps_next (slot_part l.table.region l.k l.depth (c.args.u * l.pack)) j before.keeps fills.keeps;
      same = fit_trans _ _ _ before.same c.fill_buckets.ensures.block;
      told = λ honest slots size spelt is.
          let m = c.args.u * l.pack + j in
          let below : j < length rows = omega (arith, c.loop-j-test.true, c.min-j-end.ensures) in
          let within : m < length slots = omega (arith, size, slots_inside l.pack flat.capacity c.args.u j inside) in
          let begins = slot_begins flat.schema l.pack flat.capacity c.args.u j slots rows c.index-rows-j.result given.count below within (same_at rows j c.index-rows-j.result below c.index-rows-j.is) spelt in
          let selected : c.in-Ok.selected ≡ is_selected test (slot_at slots m) = cc (c.in-Ok.ensures.truth (slot_at slots m) begins) in
          let was = before.told (honest_before fills.keeps.ran.ok.lasts honest) slots size spelt is in
          let are = are_buckets l.k (bucket_size l) test slots m c.requires.hashed.buckets (omega (arith, within)) in
          let now = fills.told (honest_after before.keeps.ran.ok honest) slots (buckets_of l.k (bucket_size l) test slots m) are was.holds (subst (λ (columns : Columns). Begins columns (slot_at slots m) c.index-rows-j.result) (sym given.schema) begins)
          (λ yes. selected_some test (slot_at slots m) (subst (λ (b : Bool). IsTrue b) selected yes)) in
          let first = rw given.count at c.first_of-unplaced.ensures in
          let next : m + 1 ≡ c.args.u * l.pack + (j + 1) = omega arith in
          placed_same next (placed_next l test slots m _ _ _ _ _ within selected was.first first now);
    }

pub returns-clause-block : goal.returns-clause-block
returns-clause-block g c = c.loop-j.invariant.same

pub returns-clause-places : goal.returns-clause-places
returns-clause-places g c =
    let l = layout_of (length c.args.block.now) c.args.hashed.now in
    let flat = c.args.flat.now in
    let end = ends _ l.pack flat.capacity c.args.u _ c.requires.rows.count c.min-j-end.ensures in
    let last : c.loop-j.j ≡ slots_in l.pack flat.capacity c.args.u = omega (arith, end, c.loop-j-test.false, c.loop-j.auto.j-end) in
    let all = c.loop-j.invariant in
    record {
      keeps = keeps_all _ (slot_part l.table.region l.k l.depth (c.args.u * l.pack)) last all.keeps;
      never = tt;
      told = λ honest slots size spelt is. placed_same (ap (λ (j : ℕ). c.args.u * l.pack + j) last) (all.told honest slots size spelt is);
    }

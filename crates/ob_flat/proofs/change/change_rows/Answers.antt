use mir.Val.{bool_byte}
use Rattle.std.proofs.Common.{Bool, true, false, count_by, if◌then◌else◌, ◌≡◌, ◌<◌, ◌≤◌, ◌+◌, ℕ, List, Fits, w32, Option, None, take, length, slice_index_or, refl, sym, ◌∙◌, ap, subst, arith}
use Rattle.std.proofs.lemmas.List.{take_all}
use Rattle.std.proofs.lemmas.List.Sums.{sum_by_more}
use Rattle.ob_vault.proofs.RowsLemmas.{sizes_set, sizes_trans}
use Rattle.ob_row.specs.Rows.{Row}
use Rattle.ob_row.specs.Spelling.{Begins}
use Rattle.ob_blocks.proofs.Blocks.{ones, one_at_most}
use Rattle.ob_row.specs.Slots.{Slots}
use Rattle.ob_base.specs.Schemas.{width}
use Rattle.ob_vault.specs.Rows.{Wide, SameSizes}
use Rattle.ob_flat.proofs.Rooms.{same_rows}
use Rattle.ob_flat.proofs.Loops.{below_all, nearer, no_less, at_most_itself, passed, not_passed, below_end, most_all, same_most, row_w32, row_index_w32, row_offset}
use Rattle.ob_flat.proofs.Rows.{wide_same, row_is, row_other, spells_more, spelt_changed, slots_of}
use Rattle.ob_flat.proofs.change.change_rows.Goals as goal

byte : (b : Bool) (m : ℕ) → m ≡ bool_byte b → m ≡ (if b then 1 else 0)
byte true m is = is
byte false m is = is

counted : (p : Option Row → Bool) (slots : Slots) (z n m : ℕ) (b : Bool) → z < length slots → n ≡ count_by p (take z slots) → b ≡ p (slice_index_or slots z None) → m ≡ (if b then 1 else 0) → n + m ≡ count_by p (take (z + 1) slots)
counted p slots z n m b below is same sum =
    ap (λ (k : ℕ). k + m) is ∙ ap (λ (k : ℕ). count_by p (take z slots) + k) (sum ∙ ap (λ (b : Bool). if b then 1 else 0) same) ∙ sym (sum_by_more (ones p) slots z None below)

counted_most : (n m z : ℕ) (b : Bool) → n ≤ z → m ≡ bool_byte b → n + m ≤ z + 1
counted_most n m z b few is = omega (arith, one_at_most b, byte b m is)

counted_w32 : (n m z size first : ℕ) (b : Bool) → n ≤ z → m ≡ bool_byte b → z < size → first + size ≤ 2147483648 → Fits w32 (n + m)
counted_w32 n m z size first b few is below room = omega (arith, counted_most n m z b few is)

wide_at : (w z : ℕ) (old rows : List (List ℕ)) (x : List ℕ) → Wide w old → SameSizes old rows → z < length rows → w ≤ length (slice_index_or rows z x)
wide_at w z old rows x wide same inside = omega (arith, ap length (row_is rows z x inside), (wide_same w old rows same wide).wide z inside)

pub loop-z-preserved : goal.loop-z-preserved
loop-z-preserved g c =
    let z = c.loop-z.z in
    let columns = c.args.schema.now in
    let rows = c.loop-z.rows in
    let before = c.loop-z.invariant in
    let inside : z < length rows = below_all c.loop-z-test.true (sym before.same.count) in
    let row = row_is rows z c.index-rows-z.result inside in
    let new = c.change.new.row in
    record {
      few = counted_most c.loop-z.n c.from-n.result z c.in-Ok.picked before.few c.from-n.ensures;
      same = sizes_trans _ _ _ before.same (sizes_set rows z new inside 0 (c.change.ensures.size ∙ ap length row));
      rest = λ j past. row_other columns rows z new inside j (λ at. absurd (not_passed at past)) ∙ before.rest j (passed past);
      spells = spells_more columns rows z new inside (λ j r. (slot : Option Row) × Begins columns slot r) before.spells c.in-Ok.ensures.spells;
      told = λ slots spelt.
          let slot = slice_index_or slots z None in
          let here : Begins columns slot (slice_index_or rows z c.index-rows-z.result) = subst (Begins columns slot) (sym (row ∙ before.rest z (at_most_itself z))) (spelt.each z c.loop-z-test.true) in
          let both = c.in-Ok.ensures.told slot here in
          let was = before.told slots spelt in (
            counted (g.C.Change.picks c.args.change.now) slots z c.loop-z.n c.from-n.result c.in-Ok.picked (below_all c.loop-z-test.true (sym spelt.count)) was.0 both.0 (byte c.in-Ok.picked c.from-n.result c.from-n.ensures),
            spells_more columns rows z new inside (λ j r. Begins columns (g.C.Change.to c.args.change.now (c.args.first + j) (slice_index_or slots j None)) r) was.1 both.1,
          );
    }

pub returns-clause-spells : goal.returns-clause-spells
returns-clause-spells g c = slots_of c.args.schema.now c.loop-z.rows (λ j below. c.loop-z.invariant.spells j (below_end below c.loop-z.invariant.same.count c.loop-z-test.false))

pub returns-clause-told : goal.returns-clause-told
returns-clause-told g c = λ slots spelt.
    let was = c.loop-z.invariant.told slots spelt in
    let count = c.loop-z.invariant.same.count in (
      was.0 ∙ ap (count_by (g.C.Change.picks c.args.change.now)) (take_all c.loop-z.z slots (same_most spelt.count c.loop-z-test.false)),
      spelt_changed c.args.schema.now (g.C.Change.to c.args.change.now) c.args.first c.loop-z.z slots c.loop-z.rows (spelt.count ∙ sym count) (same_most count c.loop-z-test.false) was.1,
    )

pub loop-z-init : goal.loop-z-init
loop-z-init g c = record {
  few = at_most_itself 0;
  same = same_rows c.args.rows.now;
  rest = λ j past. refl;
  spells = λ j below. absurd (no_less j below);
  told = λ slots spelt. (refl, λ j below. absurd (no_less j below));
}

pub overflow_cast-z : goal.overflow_cast-z
overflow_cast-z g c = row_w32 c.args.first c.loop-z-test.true c.requires.index

pub overflow_add-first : goal.overflow_add-first
overflow_add-first g c = row_index_w32 c.args.first c.loop-z-test.true c.requires.index

pub offset_bounds-rows-z : goal.offset_bounds-rows-z
offset_bounds-rows-z g c = row_offset c.args.first c.loop-z-test.true c.requires.index

pub bounds-rows-z : goal.bounds-rows-z
bounds-rows-z g c = below_all c.loop-z-test.true (sym c.loop-z.invariant.same.count)

pub change-requires-clause-wide : goal.change-requires-clause-wide
change-requires-clause-wide g c =
    wide_at (width c.args.schema.now) c.loop-z.z c.args.rows.now c.loop-z.rows c.index-rows-z.result c.requires.wide c.loop-z.invariant.same (below_all c.loop-z-test.true (sym c.loop-z.invariant.same.count))

pub change-requires-clause-suits : goal.change-requires-clause-suits
change-requires-clause-suits g c = c.requires.suits

pub overflow_add-n : goal.overflow_add-n
overflow_add-n g c =
    counted_w32 c.loop-z.n c.from-n.result c.loop-z.z (length c.args.rows.now) c.args.first c.in-Ok.picked c.loop-z.invariant.few c.from-n.ensures c.loop-z-test.true c.requires.index

pub returns-in-Err-clause-rows : goal.returns-in-Err-clause-rows
returns-in-Err-clause-rows g c =
    let z = c.loop-z.z in
    let rows = c.loop-z.rows in
    let inside : z < length rows = below_all c.loop-z-test.true (sym c.loop-z.invariant.same.count) in
    sizes_trans _ _ _ c.loop-z.invariant.same (sizes_set rows z c.change.new.row inside 0 (c.change.ensures.size ∙ ap length (row_is rows z c.index-rows-z.result inside)))

pub returns-in-Err-clause-told : goal.returns-in-Err-clause-told
returns-in-Err-clause-told g c = λ slots spelt.
    let z = c.loop-z.z in
    let rows = c.loop-z.rows in
    let slot = slice_index_or slots z None in
    let inside : z < length rows = below_all c.loop-z-test.true (sym c.loop-z.invariant.same.count) in
    let row = row_is rows z c.index-rows-z.result inside in
    let here : Begins c.args.schema.now slot (slice_index_or rows z c.index-rows-z.result) = subst (Begins c.args.schema.now slot) (sym (row ∙ c.loop-z.invariant.rest z (at_most_itself z))) (spelt.each z c.loop-z-test.true) in
    c.in-Err.ensures.told slot here

pub loop-z-smaller : goal.loop-z-smaller
loop-z-smaller g c = nearer c.loop-z.z (length c.args.rows.now) c.loop-z-test.true

pub returns-clause-rows : goal.returns-clause-rows
returns-clause-rows g c = c.loop-z.invariant.same

pub returns-clause-most : goal.returns-clause-most
returns-clause-most g c = most_all c.loop-z.invariant.few c.loop-z.auto.z-end

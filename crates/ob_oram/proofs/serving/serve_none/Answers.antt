use Rattle.std.proofs.Common.{◌≡◌, ◌<◌, ◌-◌, ◌∙◌, ℕ, Some, None, length, get_or, refl, sym, arith}
use Rattle.ob_row.specs.Rows.{Row}
use Rattle.ob_oram.specs.declared.op.Op.TheVariants.{Insert}
use Rattle.ob_oram.specs.Indexes.{key_of}
use Rattle.ob_oram.specs.Opens.{last_slot, tree_key}
use Rattle.ob_oram.proofs.OpRows.{tree_key_is, no_row_here, opens_insert, keyed_insert, serves_insert, serves_absent}
use Rattle.ob_oram.proofs.WalkReads.{open_set}
use Rattle.ob_flat.proofs.Rooms.{same_rows}
use Rattle.ob_oram.proofs.serving.serve_none.Goals as goal

pub returns-in-Insert-clause-serves : goal.returns-in-Insert-clause-serves
returns-in-Insert-clause-serves c = λ slots opened empty.
    let index = c.args.index.now in
    let remap = c.args.remap in
    let fits = rw c.in-Insert.is at c.requires.op in
    let mine = rw c.in-Insert.is at c.requires.remap in
    let last : length c.args.rows.now - 1 ≡ last_slot index = omega (arith, c.requires.count) in
    let inside : last_slot index < length c.args.buffer.now = omega (arith, c.requires.buffer) in
    let key = tree_key_is index (Insert c.in-Insert.field-0 c.in-Insert.cells) fits in
    let within : tree_key index (Insert c.in-Insert.field-0 c.in-Insert.cells) < index.capacity = omega (arith, key, mine, c.requires.key) in
    let absent = λ (j : ℕ) (row : Row) (is : get_or slots j None ≡ Some row) (same : key_of index row ≡ tree_key index (Insert c.in-Insert.field-0 c.in-Insert.cells)). no_row_here index remap slots c.args.buffer.now c.args.rows.now opened remap.key c.requires.none j row is (same ∙ key ∙ sym mine) in
    let opens = opens_insert index remap c.requires.shaped c.in-Insert.field-0 c.in-Insert.cells fits mine c.requires.key c.encode.new.row _ c.encode.ensures.value in
    rw (last, c.in-Insert.is) (
      _,
      open_set index remap slots c.args.buffer.now c.args.rows.now opened (last_slot index) _ _ c.encode.new.row inside opens (keyed_insert index remap c.requires.shaped c.in-Insert.field-0 c.in-Insert.cells fits mine c.requires.key),
      serves_insert index slots c.in-Insert.field-0 c.in-Insert.cells (last_slot index) (omega (arith, inside, opened.sees.count)) empty within absent key,
    )

pub returns-in_default : goal.returns-in_default
returns-in_default c =
    let index = c.args.index.now in
    let op = c.args.op.now in
    let key = tree_key_is index op c.requires.op in
    record {
      rows = same_rows c.args.rows.now;
      buffer = refl;
      range = λ same. absurd (cc same);
      serves = λ slots opened empty. (
        slots,
        opened,
        serves_absent index slots op c.in_default.not-Insert (omega (arith, key, c.requires.remap, c.requires.key))
            (λ j row is same. no_row_here index c.args.remap slots c.args.buffer.now c.args.rows.now opened c.args.remap.key c.requires.none j row is (same ∙ key ∙ sym c.requires.remap)),
      );
    }

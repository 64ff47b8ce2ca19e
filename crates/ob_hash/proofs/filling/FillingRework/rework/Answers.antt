use Rattle.std.proofs.Common.{◌≡◌, ◌<◌, ◌&&◌, Bool, Option, None, is_some, length, slice_index_or, refl, sym, ◌∙◌, ap, subst, arith}
use Rattle.std.proofs.lemmas.List.{take_all}
use Rattle.ob_vault.proofs.RowsLemmas.{sizes_set, sizes_trans}
use Rattle.ob_row.specs.Rows.{Row}
use Rattle.ob_row.specs.Spelling.{Begins}
use Rattle.ob_flat.proofs.Rows.{row_is, row_other, spells_more, slots_of}
use Rattle.ob_hash.specs.Waiting.{slot_after, waits_after, filled_with}
use Rattle.ob_hash.proofs.Waiting.{length-filled_with, waits_more, at-filled_with}
use Rattle.ob_hash.proofs.filling.FillingRework.rework.Goals as goal

pub returns-in-Err-clause-told : goal.returns-in-Err-clause-told
returns-in-Err-clause-told c = λ slots spelt.
    let z = c.loop-z.z in
    let columns = c.args.schema.now in
    let was = c.loop-z.invariant in
    let own = c.requires.suits in
    let row = row_is c.loop-z.rows z c.index-rows-z.result (omega arith) in
    c.in-Err.ensures.told own.own (slice_index_or slots z None) (subst (Begins columns own.own) (sym was.row) own.begins)
    (subst (Begins columns (slice_index_or slots z None)) (sym (row ∙ was.rest z (omega arith))) (spelt.each z c.loop-z-test.true))

pub loop-z-preserved : goal.loop-z-preserved
loop-z-preserved c =
    let z = c.loop-z.z in
    let columns = c.args.schema.now in
    let rows = c.loop-z.rows in
    let was = c.loop-z.invariant in
    let inside : z < length rows = omega arith in
    let row = row_is rows z c.index-rows-z.result inside in
    let new = c.fill_slot.new.slot in
    let suits = c.requires.suits in
    let b = c.args.self.now.waits in
    record {
      same = sizes_trans _ _ _ was.same (sizes_set rows z new inside 0 (c.fill_slot.ensures.size ∙ ap length row));
      row = c.fill_slot.ensures.row ∙ was.row;
      rest = λ j past. row_other columns rows z new inside j (λ at. absurd (omega (arith, at, past))) ∙ was.rest j (omega (arith, past));
      spells = spells_more columns rows z new inside (λ j r. (slot : Option Row) × Begins columns slot r) was.spells
          (c.in-Ok.ensures.spells (suits.own, subst (Begins columns suits.own) (sym was.row) suits.begins));
      told = λ slots spelt own begins.
          let slot = slice_index_or slots z None in
          let below : z < length slots = omega (arith, spelt.count) in
          let here = subst (Begins columns slot) (sym (row ∙ was.rest z (omega arith))) (spelt.each z c.loop-z-test.true) in
          let now = c.in-Ok.ensures.told own slot (subst (Begins columns own) (sym was.row) begins) here in
          let told = was.told slots spelt own begins in
          let put : slot_after c.loop-z.self.waits own slot ≡ slice_index_or (filled_with b own slots) z None =
          ap (λ (w : Bool). slot_after w own slot) told.0 ∙ sym (at-filled_with b own slots z below) in (
            now.0 ∙ ap (λ (w : Bool). w && is_some slot) told.0 ∙ sym (waits_more b slots z below),
            spells_more columns rows z new inside (λ j r. Begins columns (slice_index_or (filled_with b own slots) j None) r) told.1 (subst (λ (s : Option Row). Begins columns s new) put now.1),
          );
    }

pub returns-clause-spells : goal.returns-clause-spells
returns-clause-spells c = slots_of c.args.schema.now c.loop-z.rows (λ j below. c.loop-z.invariant.spells j (omega (arith, below, c.loop-z.invariant.same.count, c.loop-z-test.false)))

pub returns-clause-told : goal.returns-clause-told
returns-clause-told c = λ slots spelt.
    let was = c.loop-z.invariant in
    let suits = c.requires.suits in
    let told = was.told slots spelt suits.own suits.begins in
    let b = c.args.self.now.waits in (
      filled_with b suits.own slots,
      record {
        own = suits.own;
        begins = suits.begins;
        row = was.row;
        waits = told.0 ∙ ap (waits_after b) (take_all c.loop-z.z slots (omega (arith, spelt.count, c.loop-z-test.false)));
        after = refl;
      },
      record {
        count = length-filled_with b suits.own slots ∙ spelt.count ∙ sym was.same.count;
        each = λ j below. told.1 j (omega (arith, below, was.same.count, c.loop-z-test.false));
      },
    )

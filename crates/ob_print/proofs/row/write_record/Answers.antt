use Rattle.std.proofs.Common.{◌≡◌, ◌≢◌, ◌≤◌, ◌+◌, ◌^◌, ◌-◌, ◌<◌, ◌∙◌, ◌++◌, [], Some, ℕ, List, ap, map, length, sym, refl, arith, rules, append-nil, append_assoc}
use Rattle.std.proofs.lemmas.List.{get_or-map, length-map, take_all}
use Rattle.csv.specs.Writing.{is_blank, row_text}
use Rattle.csv.specs.declared.writer.QuoteStyle.TheVariants as style
use Rattle.csv.proofs.WriteFacts.{blank-step, row-step, row-final}
use Rattle.ob_print.specs.Records.{of_any_length}
use Rattle.ob_print.specs.Rows.{always}
use Rattle.ob_print.proofs.Records.{row_alike}
use Rattle.ob_print.proofs.row.write_record.Goals.{in-Ok-flush, in-Err-flush}
use Rattle.ob_print.proofs.row.write_record.Goals as goal

grown : (new old before body piece more : List ℕ) → new ≡ old ++ piece → old ≡ before ++ body → more ≡ body ++ piece → new ≡ before ++ more
grown new old before body piece more is was grows =
    is ∙ ap (λ (l : List ℕ). l ++ piece) was ∙ append_assoc before body piece ∙ ap (λ (l : List ℕ). before ++ l) (sym grows)

pub loop-field-init : goal.loop-field-init
unfolding is_blank
loop-field-init g c = record {
  setup = c.requires.setup;
  text = rw c.requires.pending refl;
  count = c.requires.fields;
  blank = rw c.requires.wrote refl;
}

pub loop-field-preserved : goal.loop-field-preserved
loop-field-preserved g c =
    let inv = c.loop-field.invariant in
    let e = c.in-Ok.ensures in
    let i = c.loop-field.field-index in
    let fields = map g.F.Field.text c.args.fields.now in
    let plain : c.loop-field.writer.cfg.style ≢ style.NonNumeric = rw inv.setup (λ h. cc h) in
    let size = length-map c.args.fields.now g.F.Field.text in
    let within : i < length fields = omega (arith, size, c.loop-field-test.true) in
    let here = get_or-map g.F.Field.text c.args.fields.now i c.field-item.result [] c.loop-field-test.true ∙ ap g.F.Field.text (sym c.field-item.is) in
    let text = rw (inv.setup, inv.count, c.bytes.ensures) at (e.text plain) in
    let more = rw here at (row-step of_any_length fields i within) in
    let few : i + 1 ≤ 2 ^ 64 - 1 = search rules in
    record {
      setup = e.same ∙ inv.setup;
      text = grown _ _ _ _ _ _ text inv.text more;
      count = e.count ∙ rw inv.count (omega arith);
      blank =
          blank-step of_any_length fields i c.loop-field.writer.wrote c.write_field.new.self.wrote within inv.blank
          (λ w. rw here (rw (inv.setup, c.bytes.ensures) at (e.wrote w plain))) e.stays;
    }

-- all of a record was written, and handed on
handed_on : (fields : List (List ℕ)) (before new : List ℕ) (pending : List ℕ) → pending ≡ [] → new ++ pending ≡ before ++ row_text of_any_length fields → new ≡ before ++ row_text always fields
handed_on fields before new pending none is =
    sym (append-nil new) ∙ ap (λ (l : List ℕ). new ++ l) (sym none) ∙ is ∙ ap (λ (l : List ℕ). before ++ l) (row_alike fields)

pub returns-clause-line : goal.returns-clause-line
returns-clause-line g c =
    let inv = c.loop-field.invariant in
    let fields = map g.F.Field.text c.args.fields.now in
    let size = length-map c.args.fields.now g.F.Field.text in
    let end : length fields ≤ c.loop-field.field-index = omega (arith, size, c.loop-field-test.false) in
    let all = take_all c.loop-field.field-index fields end in
    let ended = rw inv.setup at c.in-Ok-end_record.ensures.bytes in
    let whole = row-final (Some c.args.writer.now.wtr.inner.items) (Some (c.loop-field.writer.wtr.inner.items ++ c.loop-field.writer.wtr.buf))
    (Some (c.end_record.new.self.wtr.inner.items ++ c.end_record.new.self.wtr.buf)) of_any_length fields c.loop-field.writer.wrote c.loop-field.writer.fields
    (rw all at inv.text) (rw (all, ← inv.count) at inv.blank) ended in
    elim c.match-flush.branch [
      | in-Ok-flush w ↦ rw w.result-is (handed_on fields c.args.writer.now.wtr.inner.items _ _ w.in-Ok-flush.ensures.pending (c.flush.ensures.bytes ∙ whole))
      | in-Err-flush w ↦ rw w.result-is tt
    ]

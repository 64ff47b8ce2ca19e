use Rattle.std.proofs.Common.{◌≡◌, ◌<◌, [], ◌∷◌, Option, is_some, length, take, sym, ◌∙◌, ap, subst, arith}
use Rattle.ob_base.specs.Events.{Row as RowEvent, row_events}
use Rattle.ob_row.specs.Rows.{Row}
use Rattle.ob_row.specs.Spelling.{Begins}
use Rattle.ob_emit.proofs.Events.{slot_told}
use Rattle.ob_emit.proofs.slots.emit_slot.Goals as goal

pub returns-in-Ok-row-clause-emits : goal.returns-in-Ok-row-clause-emits
returns-in-Ok-row-clause-emits g c =
    let cells = take (length c.args.cols.now) c.show_cells.new.cells in
    let below : c.args.i < c.args.flat.now.capacity = omega arith in
    record {
      below = λ some. below;
      emitted = record {
        rows = cells ∷ [];
        count = omega arith;
        leads = c.in-Ok-row.ensures.ok;
        told = λ s.
            let is = c.in-Ok.ensures.spelled s.slot s.is in
            let some : c.in-Ok.real ≡ is_some s.slot = cc is in
            slot_told c.args.flat.now.capacity c.args.cols.now c.args.i s.slot cells (sym some ∙ c.if-real.true) below
            (λ row same. c.show_cells.ensures.told row (subst (λ (slot : Option Row). Begins c.args.flat.now.schema slot c.args.row.now) same s.is));
      };
      halted = tt;
      read = record { slot = c.in-Ok.ensures.malformed.0; is = c.in-Ok.ensures.malformed.1 };
      malformed = tt;
      cause = c.in-Ok-row.ensures.cause;
    }

pub returns-in-Err-row-clause-emits : goal.returns-in-Err-row-clause-emits
returns-in-Err-row-clause-emits g c =
    let cells = take (length c.args.cols.now) c.show_cells.new.cells in
    let below : c.args.i < c.args.flat.now.capacity = omega arith in
    record {
      below = tt;
      emitted = tt;
      halted = record {
        events = RowEvent cells ∷ [];
        ends = c.in-Err-row.ensures.err;
        told = λ s.
            let is = c.in-Ok.ensures.spelled s.slot s.is in
            let some : c.in-Ok.real ≡ is_some s.slot = cc is in (
              [],
              ap row_events (slot_told c.args.flat.now.capacity c.args.cols.now c.args.i s.slot cells (sym some ∙ c.if-real.true) below
                  (λ row same. c.show_cells.ensures.told row (subst (λ (slot : Option Row). Begins c.args.flat.now.schema slot c.args.row.now) same s.is))),
            );
      };
      read = tt;
      malformed = λ is spelt. absurd (cc is);
      cause = c.in-Err-row.ensures.cause;
    }

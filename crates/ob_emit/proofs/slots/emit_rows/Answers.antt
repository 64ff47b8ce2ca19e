use Rattle.std.proofs.Common.{◌<◌, ◌+◌, [], ◌++◌, List, None, length, take, slice_index_or, if◌then◌else◌, ◌∙◌, sym, ap, subst, arith, below_more}
use Rattle.ob_flat.proofs.Rows.{slots_of}
use Rattle.std.proofs.lemmas.List.{take_all}
use Rattle.ob_base.specs.declared.shown.Shown.{Shown}
use Rattle.ob_row.specs.Spelling.{Begins}
use Rattle.ob_vault.proofs.RowsLemmas.{same_at}
use Rattle.ob_emit.specs.Emitting.{slot_shown, slots_shown}
use Rattle.ob_emit.proofs.Events.{shown-more, shown-rest, byte, within}
use Rattle.ob_base.proofs.EventLemmas.{emitted_join}
use Rattle.ob_emit.proofs.Halting.{halts_join}
use Rattle.ob_emit.proofs.slots.emit_rows.Goals as goal

pub returns-in-Err-clause-emits : goal.returns-in-Err-clause-emits
returns-in-Err-clause-emits g c =
    let z = c.loop-z.z in
    let n = c.args.flat.now.capacity in
    let columns = c.args.flat.now.schema in
    let cols = c.args.cols.now in
    let first = c.args.first in
    let slot = c.in-Err.ensures.emits in
    let row = same_at c.args.rows.now z c.index-rows-z.result c.loop-z-test.true c.index-rows-z.is in
    record {
      most = tt;
      emitted = tt;
      halted = halts_join g.E.Emit.grew g.E.Emit.cut _ (λ s. slots_shown n cols first (take z s.slots)) (λ s. slot_shown n cols (first + z) s.slot) (λ s. slots_shown n cols first s.slots) c.args.seen c.loop-z.n _ _ _
          c.loop-z.invariant.emitted slot.halted
          (λ s.
          let slots = s.slots in
          let inside : z < length slots = omega (arith, s.spelt.count, c.loop-z-test.true) in
          let own = slice_index_or slots z None in
          let rest = shown-rest n cols first (z + 1) slots in (
            s,
            record { slot = own; is = subst (Begins columns own) row (s.spelt.each z c.loop-z-test.true) },
            rest.0,
            ap (λ (l : List (List Shown)). l ++ rest.0) (shown-more n cols first z slots inside) ∙ rest.1,
          ));
      read = tt;
      malformed = λ is s. slot.malformed is (record { slot = slice_index_or s.slots z None; is = subst (Begins columns (slice_index_or s.slots z None)) row (s.spelt.each z c.loop-z-test.true) });
      cause = rw (← c.loop-z.invariant.faults) slot.cause;
    }

pub loop-z-preserved : goal.loop-z-preserved
loop-z-preserved g c =
    let z = c.loop-z.z in
    let n = c.args.flat.now.capacity in
    let columns = c.args.flat.now.schema in
    let cols = c.args.cols.now in
    let first = c.args.first in
    let some = c.in-Ok.some in
    let slot = c.in-Ok.ensures.emits in
    let row = same_at c.args.rows.now z c.index-rows-z.result c.loop-z-test.true c.index-rows-z.is in
    let one = byte some c.from-n.result c.from-n.ensures in
    let most = within some c.loop-z.n (first + z) n c.from-n.result one c.loop-z.invariant.most.0 c.loop-z.invariant.most.1 slot.below in
    record {
      size = c.emit_slot.ensures.size ∙ c.loop-z.invariant.size;
      most = (omega (arith, most.0), most.1);
      emitted = emitted_join g.E.Emit.grew [] (λ s. slots_shown n cols first (take z s.slots)) (λ s. slot_shown n cols (first + z) s.slot) (λ s. slots_shown n cols first (take (z + 1) s.slots)) c.args.seen c.loop-z.n 0 (if some then 1 else 0) (c.loop-z.n + c.from-n.result) _ _ _
          c.loop-z.invariant.emitted slot.emitted (omega (arith, one))
          (λ s.
          let slots = s.slots in
          let inside : z < length slots = omega (arith, s.spelt.count, c.loop-z-test.true) in
          let own = slice_index_or slots z None in
          (s, record { slot = own; is = subst (Begins columns own) row (s.spelt.each z c.loop-z-test.true) }, shown-more n cols first z slots inside));
      read = below_more _ _ c.loop-z.invariant.read (record { slot = slot.read.slot; is = subst (Begins columns slot.read.slot) (sym row) slot.read.is });
      faults = slot.cause ∙ c.loop-z.invariant.faults;
    }

pub returns-clause-emits : goal.returns-clause-emits
returns-clause-emits g c =
    let all = c.loop-z.invariant in
    record {
      most = (omega (arith, all.most.0, c.loop-z.auto.z-end), all.most.1);
      emitted = record {
        rows = all.emitted.rows;
        count = all.emitted.count;
        leads = all.emitted.leads;
        told = λ s. all.emitted.told s ∙ ap (slots_shown c.args.flat.now.capacity c.args.cols.now c.args.first) (take_all c.loop-z.z s.slots (omega (arith, s.spelt.count, c.loop-z-test.false)));
      };
      halted = tt;
      read = slots_of c.args.flat.now.schema c.args.rows.now (λ j below. let r = all.read j (omega (arith, below, c.loop-z-test.false)) in (r.slot, r.is));
      malformed = tt;
      cause = all.faults;
    }

use Rattle.std.proofs.Common.{◌<◌, ◌≤◌, ◌+◌, ℕ, List, [], length, slice_index_or, slice_set, length-set, sym, ◌∙◌, subst, arith}
use Rattle.ob_mutate.specs.Batches.{ArePlaces, inserted_one}
use Rattle.ob_mutate.proofs.Served.{AreServed, all_served, few_more, one_served, places_more}
use Rattle.ob_mutate.proofs.admitting.admit_rows.Goals as goal

pub loop-i-preserved : goal.loop-i-preserved
loop-i-preserved c =
    let columns = c.args.schema.now in
    let kept = c.args.kept.now in
    let i = c.loop-i.i in
    let out = c.loop-i.out in
    let taken = c.loop-i.notes.taken in
    let before = c.loop-i.invariant in
    let answer = c.admit_row.result in
    let more = sym c.admit_row.ensures.taken in
    let inside : i < length kept = omega (arith, c.loop-i-test.true, c.min-i-end.ensures) in
    let room : i < length out = omega (arith, before.size, c.loop-i-test.true, c.min-i-end.ensures) in
    record {
      size = length-set out i answer ∙ before.size;
      are = c.admit_row.ensures.notes;
      free = c.admit_row.ensures.free ∙ before.free;
      few = subst (λ (l : List ℕ). length l ≤ i + 1) more (few_more i taken answer before.few);
      room = c.admit_row.ensures.room;
      places = subst (ArePlaces (length kept)) more (places_more (length kept) i taken answer inside before.places);
      told = λ batch slots are answers sees.
          let was = before.told batch slots are answers sees in
          let row = slice_index_or batch i [] in
          let step = c.admit_row.ensures.told row was.0 (are.each i inside) was.1 in
          let next = inserted_one columns row was.0 in
          let within : i < length batch = omega (arith, inside, are.count) in
          (next, step.1, subst (AreServed columns batch slots next (i + 1) (slice_set out i answer)) more (one_served columns batch slots was.0 i out taken answer within room step.0 was.2));
    }

pub returns-clause-told : goal.returns-clause-told
returns-clause-told c = λ batch slots are answers sees.
    let was = c.loop-i.invariant.told batch slots are answers sees in
    let i = c.loop-i.i in
    let past : length batch ≤ i = omega (arith, c.loop-i-test.false, c.min-i-end.ensures, answers, are.count) in
    let most : length c.loop-i.out ≤ i = omega (arith, c.loop-i-test.false, c.min-i-end.ensures, answers, c.loop-i.invariant.size) in
    all_served c.args.schema.now batch slots was.0 i c.loop-i.out c.loop-i.notes.taken past most was.2

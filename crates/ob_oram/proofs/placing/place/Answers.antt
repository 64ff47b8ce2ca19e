use Rattle.std.proofs.Common.{◌≡◌, ◌∙◌, ◌+◌, Some, None, length, get_or, arith}
use Rattle.std.proofs.lemmas.Bool.{false≢true}
use Rattle.ob_tree.proofs.GoingLemmas.{going_more, going_stuck}
use Rattle.ob_oram.proofs.Crowding.{crowded_end, crowded_stuck, piled_more}
use Rattle.ob_oram.proofs.Seeing.{empty_seen, row_seen, placed_all, placed_not}
use Rattle.ob_oram.proofs.placing.place.Goals as goal

pub returns-then-not-step-clause-sees : goal.returns-then-not-step-clause-sees
returns-then-not-step-clause-sees c = λ columns key lf slots sees.
    let was = c.loop-i.invariant.sees columns key lf slots sees in
    let now = c.if-not-step.ensures.sees columns key lf was.0 was.1 in (
      now.0,
      now.1,
      record {
        placed = λ single never. absurd (false≢true never);
        full = λ single.
            let go = was.2 single in
            let some = going_stuck key lf c.args.leaf c.args.height c.args.n c.loop-i.i c.height_of-above.result slots was.0 c.loop-i-test.true c.height_of-above.ensures.is go (now.2.step go.single) in
            ((λ never. absurd (false≢true never)), (λ none. absurd (omega (arith, some, none))));
        crowded = λ no rooted.
            let size : length was.0 ≡ c.args.n + 1 = was.1.count ∙ c.loop-i.invariant.count ∙ c.requires.room in
            crowded_stuck lf c.args.leaf c.args.height c.loop-i.i c.height_of-above.result c.height_of-above.ensures.is c.args.n slots was.0 now.0 size c.loop-i-test.true was.3 now.2.moved rooted;
      },
    )

pub loop-i-preserved : goal.loop-i-preserved
loop-i-preserved c = record {
  count = c.step.ensures.count.0 ∙ c.loop-i.invariant.count;
  count_rows = c.step.ensures.count.1 ∙ c.loop-i.invariant.count_rows;
  wide = λ w is. c.step.ensures.wide w (c.loop-i.invariant.wide w is);
  sees = λ columns key lf slots sees.
      let was = c.loop-i.invariant.sees columns key lf slots sees in
      let now = c.if-not-step.ensures.sees columns key lf was.0 was.1 in (
        now.0,
        now.1,
        λ single.
            let go = was.2 single in
            going_more key lf c.args.leaf c.args.height c.args.n c.loop-i.i c.height_of-above.result slots was.0 now.0 c.loop-i-test.true c.height_of-above.ensures.is go (now.2.step go.single),
        let size : length was.0 ≡ c.args.n + 1 = was.1.count ∙ c.loop-i.invariant.count ∙ c.requires.room in
            piled_more lf c.args.leaf c.args.height c.loop-i.i c.height_of-above.result c.height_of-above.ensures.is slots was.0 now.0 (omega (arith, size, c.loop-i-test.true)) was.3 now.2.moved,
      );
}

pub returns-in-None-clause-sees : goal.returns-in-None-clause-sees
returns-in-None-clause-sees c = λ columns key lf slots sees.
    let was = c.loop-i.invariant.sees columns key lf slots sees in
    let is : get_or c.loop-i.buffer c.args.n None ≡ None = c.in-None.is in (
      was.0,
      was.1,
      placed_all key lf c.args.leaf c.args.height c.args.n c.loop-i.i slots was.0 c.loop-i.auto.i-end c.loop-i-test.false was.2
          (empty_seen columns key lf was.0 c.loop-i.buffer c.loop-i.rows was.1 c.args.n is),
    )

pub returns-in-Some-clause-sees : goal.returns-in-Some-clause-sees
returns-in-Some-clause-sees c = λ columns key lf slots sees.
    let was = c.loop-i.invariant.sees columns key lf slots sees in
    let is : get_or c.loop-i.buffer c.args.n None ≡ Some c.in-Some.field-0 = c.in-Some.is in
    let here = row_seen columns key lf was.0 c.loop-i.buffer c.loop-i.rows was.1 c.args.n c.in-Some.field-0 is in (
      was.0,
      was.1,
      placed_not key lf c.args.leaf c.args.height c.args.n c.loop-i.i slots was.0 c.loop-i.auto.i-end c.loop-i-test.false was.2 here.0 here.1
          (crowded_end lf c.args.leaf c.args.height c.args.n c.loop-i.i slots was.0 c.loop-i.auto.i-end c.loop-i-test.false (was.1.count ∙ c.loop-i.invariant.count ∙ c.requires.room) was.3 here.0 here.1),
    )

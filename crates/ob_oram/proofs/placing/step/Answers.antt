use Rattle.std.proofs.Common.{None, [], ◌<◌, length, sym, ◌∙◌, subst, arith}
use Rattle.std.proofs.lemmas.List.Edits.{swap_is}
use Rattle.ob_oram.specs.Buffers.{Sees, turned}
use Rattle.ob_oram.proofs.Seeing.{turned_sees, step_least, step_empty, step_full}
use Rattle.ob_oram.proofs.placing.step.Goals as goal

pub returns-in-Some-clause-sees : goal.returns-in-Some-clause-sees
returns-in-Some-clause-sees c = λ columns key lf slots sees.
    let i = c.args.i in
    let q = c.in-Some.b.0 in
    let least = c.in-Some.ensures in
    let buffer = swap_is c.args.buffer.now i q None c.requires.inside least.high ∙ sym c.swap.ensures.after in
    let wi : i < length c.args.rows.now = omega (arith, c.requires.inside, c.requires.count) in
    let wq : q < length c.args.rows.now = omega (arith, least.high, c.requires.count) in
    let rows = swap_is c.args.rows.now i q [] wi wq ∙ sym c.swap-in-Some.ensures.after in
    let after = turned_sees columns key lf slots _ _ sees i q c.requires.inside least.high in (
      turned None slots i q,
      subst (λ b. Sees columns key lf (turned None slots i q) b c.swap-in-Some.new.self) buffer (subst (λ r. Sees columns key lf (turned None slots i q) (turned None c.args.buffer.now i q) r) rows after),
      step_least columns key lf slots _ _ sees c.args.leaf c.args.height i q _ least,
    )

pub returns-in-Some-gap-clause-sees : goal.returns-in-Some-gap-clause-sees
returns-in-Some-gap-clause-sees c = λ columns key lf slots sees.
    let i = c.args.i in
    let q = c.in-Some-gap.q in
    let empty = c.in-Some-gap.ensures in
    let buffer = swap_is c.args.buffer.now i q None c.requires.inside empty.1 ∙ sym c.swap-in-Some-gap.ensures.after in
    let wi : i < length c.args.rows.now = omega (arith, c.requires.inside, c.requires.count) in
    let wq : q < length c.args.rows.now = omega (arith, empty.1, c.requires.count) in
    let rows = swap_is c.args.rows.now i q [] wi wq ∙ sym c.swap-in-Some-gap-2.ensures.after in
    let after = turned_sees columns key lf slots _ _ sees i q c.requires.inside empty.1 in (
      turned None slots i q,
      subst (λ b. Sees columns key lf (turned None slots i q) b c.swap-in-Some-gap-2.new.self) buffer (subst (λ r. Sees columns key lf (turned None slots i q) (turned None c.args.buffer.now i q) r) rows after),
      step_empty columns key lf slots _ _ sees c.args.leaf c.args.height i q empty.0 empty.1 c.in-None.ensures empty.2,
    )

pub returns-in-None-gap-clause-sees : goal.returns-in-None-gap-clause-sees
returns-in-None-gap-clause-sees c = λ columns key lf slots sees.
    (slots, sees, step_full columns key lf slots _ _ sees c.args.leaf c.args.height c.args.i c.in-None.ensures c.in-None-gap.ensures)

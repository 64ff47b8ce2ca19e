use Rattle.ob_tables.proofs.Words.{ap, arith, DrawPlace, suc, ℕ, ◌%◌, ◌+◌, ◌-◌, ◌^◌, ◌∙◌, ◌≡◌}
use Rattle.ob_tables.proofs.DrawsTaken.{taken_all}
use Rattle.ob_tables.proofs.creating.next_draws.Goals as goal

pub returns-clause-next : goal.returns-clause-next
returns-clause-next c =
    let some : c.args.keys ≡ suc (c.args.keys - 1) = omega (arith, c.requires) in
    let all : c.each.i ≡ c.args.keys = omega (arith, c.each-test.false, c.each.auto.i-end) in
    taken_all c.args.draws.now c.each.draws c.each.i (c.args.keys - 1) c.each.invariant.taken (all ∙ some)
    ∙ ap (λ (n : ℕ). let old : DrawPlace = c.args.draws.now in record old { next = (old.next + n) % 2 ^ 67 }) all

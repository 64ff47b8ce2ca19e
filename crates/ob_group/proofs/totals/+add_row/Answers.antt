use Rattle.std.proofs.Common.{rules, ◌≡◌, ◌+◌, ◌∷◌, subst, arith}
use Rattle.ob_group.specs.Running.{AreUpTo}
use Rattle.ob_group.proofs.Bounds.{up_to_more}
use Rattle.ob_group.proofs.totals.+add_row.Goals as goal

pub returns-in-Some-split_first_mut-clause-few : goal.returns-in-Some-split_first_mut-clause-few
returns-in-Some-split_first_mut-clause-few m c = λ n is.
    let split : c.args.totals.now ≡ c.in-Some-split_first_mut.total.now ∷ c.in-Some-split_first_mut.totals.now = search rules in
    let both : AreUpTo n (c.in-Some-split_first_mut.total.now ∷ c.in-Some-split_first_mut.totals.now) = subst (AreUpTo n) split is in
    (c.joined.ensures.few n both.0, c.add_row.ensures.few n both.1)

pub returns-in-None-clause-few : goal.returns-in-None-clause-few
returns-in-None-clause-few m c = λ n is. up_to_more n (n + 1) _ (omega arith) is

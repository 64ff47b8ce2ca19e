use Rattle.std.proofs.Common.{rules, ◌≡◌, ◌+◌, length, ◌∙◌, arith}
use Rattle.ob_group.proofs.Bounds.{up_to_more}
use Rattle.ob_group.proofs.aggregation.AddingVisit.visit.Goals as goal

pub add_row-requires-clause-few : goal.add_row-requires-clause-few
add_row-requires-clause-few c = up_to_more c.args._i 2147483648 _ (omega (arith, c.requires.index)) c.requires.suits.2

pub returns-then-branch-clause-suits : goal.returns-then-branch-clause-suits
returns-then-branch-clause-suits c =
    let size : length c.add_row.new.totals ≡ length c.args.self.now.totals = search rules in
    (c.requires.suits.0, size ∙ c.requires.suits.1, c.add_row.ensures.few c.args._i c.requires.suits.2)

pub returns-else-branch-clause-suits : goal.returns-else-branch-clause-suits
returns-else-branch-clause-suits c = (c.requires.suits.0, c.requires.suits.1, up_to_more c.args._i (c.args._i + 1) _ (omega arith) c.requires.suits.2)

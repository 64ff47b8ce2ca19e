use Rattle.std.proofs.Common.{◌-◌, ◌*◌, ◌+◌, ℕ, ap, arith}
use Rattle.ob_base.proofs.IndexLemmas.{power_some}
use Rattle.ob_script.proofs.Leaves.{shifted_two, blocks_few}
use Rattle.ob_script.proofs.tree.tree_blocks.Goals as goal

pub overflow_sub-result : goal.overflow_sub-result
overflow_sub-result c = omega (arith, shifted_two c.args.height c.requires, power_some (c.args.height + 1))

pub overflow_mul-result : goal.overflow_mul-result
overflow_mul-result c = omega (arith, shifted_two c.args.height c.requires, blocks_few c.args.height c.requires)

pub returns : goal.returns
returns c = ap (λ (n : ℕ). 4 * (n - 1)) (shifted_two c.args.height c.requires)

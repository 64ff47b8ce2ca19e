use Rattle.std.proofs.Common.{◌≡◌, ◌≤◌, ◌*◌, ◌^◌, ◌∙◌, arith}
use Rattle.ob_base.specs.Joins.{joined_blocks}
use Rattle.ob_script.proofs.Joined.{few_blocks}
use Rattle.ob_script.proofs.script.joined_blocks.Goals as goal

pub overflow_cast-result : goal.overflow_cast-result
overflow_cast-result c =
    let p = c.args.public.now in
    let blocks = joined_blocks p.pack p.buffer c.args.left.now.heading.capacity c.args.right.now.heading.capacity in
    let is : c.from.result * c.from-rights.result ≡ blocks = λ t. (c.from.ensures ∙ c.chunks.ensures) t * (c.from-rights.ensures ∙ c.blocks_of.ensures) t in
    let few : blocks ≤ 2 ^ 24 = few_blocks blocks p.pack (2 ^ 24) c.requires.public.pack_some c.requires.few in
    omega (arith, is, few)

pub returns-clause-few : goal.returns-clause-few
returns-clause-few c =
    let p = c.args.public.now in
    let blocks = joined_blocks p.pack p.buffer c.args.left.now.heading.capacity c.args.right.now.heading.capacity in
    let is : c.from.result * c.from-rights.result ≡ blocks = λ t. (c.from.ensures ∙ c.chunks.ensures) t * (c.from-rights.ensures ∙ c.blocks_of.ensures) t in
    let few : blocks ≤ 2 ^ 24 = few_blocks blocks p.pack (2 ^ 24) c.requires.public.pack_some c.requires.few in
    omega (arith, is, few)

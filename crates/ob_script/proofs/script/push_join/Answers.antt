use Rattle.std.proofs.Common.{◌≡◌, ◌*◌, ◌∙◌, sym, arith}
use Rattle.std.specs.Int.{div_ceil}
use Rattle.ob_script.proofs.Joined.{few_of}
use Rattle.ob_script.proofs.script.push_join.Goals as goal

pub push-requires-2-clause-sized : goal.push-requires-2-clause-sized
push-requires-2-clause-sized c =
    let is : div_ceil c.blocks_of-lefts.result c.buffered.result * c.blocks_of-rights.result ≡ c.joined_blocks.result =
    (λ t. div_ceil (c.blocks_of-lefts.ensures t) (c.buffered.ensures.value t) * c.blocks_of-rights.ensures t) ∙ sym c.joined_blocks.ensures.value in
    let few = c.joined_blocks.ensures.few in
    let p = c.args.public.now in
    let l = few_of p.pack c.args.left.now.heading.capacity c.requires.left.capacity in
    let r = few_of p.pack c.args.right.now.heading.capacity c.requires.right.capacity in
    (omega (arith, l), omega (arith, r), omega (arith, is, few), omega arith, omega arith)

use Rattle.ob_exec.proofs.Words.{arith, blocks_few, div_ceil, some_buffered, ◌*◌, ◌-◌, ◌≤◌}
use Rattle.std.proofs.Common.{◌/◌, mul-le-mul}
use Rattle.ob_exec.proofs.rows.joined_blocks.Goals as goal

pub returns-clause-few : goal.returns-clause-few
returns-clause-few c =
    let p = c.args.public.now in
    let pack = c.from-pack.result in
    let pack_is = c.from-pack.ensures in
    let least : 1 ≤ pack = omega (arith, pack_is, c.requires.pack) in
    let some : 1 ≤ (p.buffer - 2 * pack) / pack = some_buffered pack p.buffer least (omega (arith, pack_is, c.requires.buffer)) in
    let lefts : div_ceil c.args.left.now.capacity pack ≤ c.args.left.now.capacity = blocks_few pack c.args.left.now.capacity least in
    let kept : div_ceil c.div_ceil.result ((p.buffer - 2 * pack) / pack) ≤ c.div_ceil.result = blocks_few ((p.buffer - 2 * pack) / pack) c.div_ceil.result some in
    let rows : div_ceil c.args.right.now.capacity pack ≤ c.args.right.now.capacity = blocks_few pack c.args.right.now.capacity least in
    let few : c.from.result ≤ 1048576 = omega (arith, c.from.ensures, c.div_ceil-chunks.ensures, kept, c.div_ceil.ensures, lefts, c.requires.left) in
    let less : c.from-2.result ≤ 1048576 = omega (arith, c.from-2.ensures, c.div_ceil-2.ensures, rows, c.requires.right) in
    let all : c.from.result * c.from-2.result ≤ 1048576 * 1048576 = mul-le-mul few less in
    omega (arith, all)

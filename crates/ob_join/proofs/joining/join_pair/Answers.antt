use Rattle.std.proofs.Common.{◌≡◌, ◌+◌, ◌-◌, ◌++◌, length, take, drop}
use Rattle.ob_base.specs.Schemas.{width}
use Rattle.ob_join.proofs.Pairs.{pair_written}
use Rattle.ob_join.proofs.joining.join_pair.Goals as goal

pub returns-clause-told : goal.returns-clause-told
returns-clause-told c = λ x y first second.
    let l = c.args.left.now in
    let r = c.args.right.now in
    let left = take (width l) c.args.a.now in
    let cells = take (width r - 1) (drop 1 c.args.b.now) in
    let size : length c.join_bytes.new.to ≡ length c.args.to.now = search in
    let is : c.join_bytes.new.to ≡ left ++ (cells ++ drop (length left + length cells) c.args.to.now) = rw (c.width.ensures, c.width-2.ensures, c.bytes.ensures, c.bytes-2.ensures, c.bytes_mut.ensures.value) at c.join_bytes.ensures in
    pair_written l r x y c.args.a.now c.args.b.now c.args.to.now c.join_bytes.new.to (length left + length cells) first second size is

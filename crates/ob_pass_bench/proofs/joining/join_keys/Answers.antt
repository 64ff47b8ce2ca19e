use Rattle.std.proofs.Common.{rules, ◌≡◌, ◌≤◌, ◌+◌, ◌*◌, ℕ, subst, arith, length-append}
use Rattle.std.specs.Int.{div_ceil}
use Rattle.ob_base.specs.Limits.{buffered_blocks}
use Rattle.ob_base.specs.Numbers.{blocks_for}
use Rattle.ob_base.specs.Joins.{joined_blocks, joined_slots}
use Rattle.ob_join.proofs.Pairs.{width-join}
use Rattle.ob_pass_bench.proofs.joining.join_keys.Goals as goal

buffered_some : (pack rows : ℕ) → 1 ≤ pack → 3 * pack + 1 ≤ rows → 1 ≤ buffered_blocks pack rows
buffered_some pack rows some enough = grind arith

some_of : (n q : ℕ) → 1 ≤ q → 1 ≤ n → 1 ≤ div_ceil n q
some_of n q some least = grind arith

least_times : (a b : ℕ) → 1 ≤ a → 1 ≤ b → 1 ≤ a * b
least_times a b first second = grind arith

slots_most : (blocks p q pack rows' rows n m most : ℕ) → blocks ≡ joined_blocks q rows' n m → p ≡ q → q ≡ pack → rows' ≡ rows → blocks * p ≤ most → joined_slots pack rows n m ≤ most
slots_most blocks p q pack rows' rows n m most is same shown opened small =
    subst (λ (r : ℕ). joined_slots pack r n m ≤ most) opened
    (subst (λ (k : ℕ). joined_slots k rows' n m ≤ most) shown
    (subst (λ (k : ℕ). joined_blocks q rows' n m * k ≤ most) same
    (subst (λ (k : ℕ). k * p ≤ most) is small)))

pub join-requires-clause-tables : goal.join-requires-clause-tables
join-requires-clause-tables g c =
    let l = c.args.left.now.schema in
    let r = c.args.right.now.schema in
    let pack = c.args.room.now.pack in
    let rows = c.args.room.now.rows in
    let n = c.args.left.now.capacity in
    let m = c.args.right.now.capacity in
    let some = c.requires.left.place.some in
    let lefts = some_of n pack some c.requires.left.size.least in
    let chunks = some_of (blocks_for pack n) (buffered_blocks pack rows) (buffered_some pack rows some c.requires.left.place.idle.enough) lefts in
    let rights = some_of m pack some c.requires.right.size.least in
    record {
      left = search rules;
      right = search rules;
      left_size = c.requires.left.size;
      right_size = c.requires.right.size;
      sized = record {
        some = omega (arith, length-append l r, c.requires.left.columns.least);
        few = omega (arith, length-append l r, c.requires.left.columns.most, c.requires.right.columns.most);
        wide = omega (arith, width-join l r, c.if-width-gt-WIDEST.false, c.width.ensures.value, c.width-2.ensures.value);
        least = least_times _ pack (least_times _ _ chunks rights) some;
        most = slots_most _ _ _ pack _ rows n m 16777216 c.blocks_of-blocks.ensures c.from.ensures c.pack-pack.ensures.value c.rows.ensures.value (omega (arith, c.if-blocks-from-gt-MOST.false));
      };
      lcol = omega (arith, c.requires.left.columns.least);
      rcol = omega (arith, c.requires.right.columns.least);
    }

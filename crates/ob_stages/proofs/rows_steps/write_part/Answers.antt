use Rattle.std.proofs.Common.{◌≡◌, ◌+◌, ◌-◌, ◌*◌, ℕ, arith}
use Rattle.ob_small.proofs.Steps.{part_block, written_as}
use Rattle.ob_stages.proofs.rows_steps.write_part.Goals as goal

row_count : (a b : ℕ) → a + b - a ≡ b
row_count a b = omega arith

pub write_block-requires-clause-block : goal.write_block-requires-clause-block
write_block-requires-clause-block g c =
    let part = c.requires.part in
    part_block c.args.to.now.schema c.args.pack c.args.x _ c.args.kept.now (row_count (c.args.x * c.args.pack) c.args.pack) part.some part.inside part.wide part.spells

pub returns-clause-writes : goal.returns-clause-writes
returns-clause-writes g c = written_as c.args.pack c.args.to.now c.args.place c.args.x _ c.args.kept.now (row_count (c.args.x * c.args.pack) c.args.pack) c.requires.part.inside c.write_block.ensures.writes

use Rattle.std.proofs.Common.{◌-◌, arith}
use Rattle.ob_small.proofs.Kept.{slots_put, keeps_on, keeps_off}
use Rattle.ob_small.proofs.keeping.keep_row.Goals as goal

pub returns-then-i-kept-clause-keeps : goal.returns-then-i-kept-clause-keeps
returns-then-i-kept-clause-keeps c =
    let columns = c.args.schema.now in
    let kept = c.args.kept.now in
    let i = c.args.seen - c.args.from in
    record {
      spells = λ begins are. slots_put columns kept i c.copy_row.new.to (omega arith) are (begins.0, c.copy_row.ensures.begins begins.0 begins.1);
      told = λ slot before begins size keeps.
          keeps_on columns before slot c.args.from c.args.k kept keeps i c.copy_row.new.to (omega arith) (omega (arith, size)) (omega arith) (c.copy_row.ensures.begins slot begins);
    }

pub returns-else-i-kept-clause-keeps : goal.returns-else-i-kept-clause-keeps
returns-else-i-kept-clause-keeps c = record {
  spells = λ begins are. are;
  told = λ slot before begins size keeps. keeps_off c.args.schema.now before slot c.args.from c.args.k c.args.kept.now keeps (λ i below same. omega (arith, below, same, size));
}

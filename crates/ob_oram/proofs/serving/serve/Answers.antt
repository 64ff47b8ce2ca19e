use Rattle.std.proofs.Common.{arith}
use Rattle.ob_oram.proofs.OpRows.{tree_key_is, serves_past}
use Rattle.ob_oram.proofs.serving.serve.Goals as goal

pub returns-then-remap-index-clause-serves : goal.returns-then-remap-index-clause-serves
returns-then-remap-index-clause-serves c = λ slots opened empty.
    let key = tree_key_is c.args.index.now c.args.op.now c.requires.op in
    (slots, opened, serves_past c.args.index.now slots opened.keyed c.args.op.now (omega (arith, key, c.requires.remap, c.if-remap-index.true)) key)

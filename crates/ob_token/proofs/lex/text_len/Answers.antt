use Rattle.ob_token.proofs.Pieces.{quotes_turn, quotes_on}
use Rattle.ob_token.proofs.lex.text_len.Goals as goal

pub loop-i-preserved-then-b-eq39 : goal.loop-i-preserved-then-b-eq39
loop-i-preserved-then-b-eq39 c = quotes_turn c.args.bytes.now c.loop-i.i c.loop-i.open c.loop-i-test.true c.if-b-eq39.true c.loop-i.invariant

pub loop-i-preserved : goal.loop-i-preserved
loop-i-preserved c =
    quotes_on c.args.bytes.now c.loop-i.i c.loop-i.open c.is_printable_byte.result c.loop-i-test.true c.if-b-eq39.false c.if-not-open.false
    c.if-not-is_printable_byte.false c.is_printable_byte.ensures c.loop-i.invariant

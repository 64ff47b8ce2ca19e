use Rattle.std.proofs.Common.{sym}
use Rattle.ob_reopen.proofs.Parts.{kind_first, kind_second}
use Rattle.ob_reopen.proofs.parsing.kind_in.Goals as goal

pub returns-then-kind-eq0 : goal.returns-then-kind-eq0
returns-then-kind-eq0 c = λ k is. sym (kind_first k c.args.kind c.args.n is c.if-kind-eq0.true)

pub returns-else-kind-eq0 : goal.returns-else-kind-eq0
returns-else-kind-eq0 c = λ k is. sym (kind_second k c.args.kind c.args.n is c.if-kind-eq0.false)

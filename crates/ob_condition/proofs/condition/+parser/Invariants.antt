use Rattle.std.proofs.Common.{◌+◌, ◌*◌, length}
use Rattle.ob_grammar.proofs.Loops.{Left}
use Rattle.ob_token.specs.declared.token.Mark.TheVariants as M
use Rattle.ob_sql.specs.Search.{And, Or}
use Rattle.ob_condition.specs.Marks.{key}
use Rattle.ob_condition.specs.Reading.{conj_of, prim, search_in}
use Rattle.ob_condition.proofs.condition.+parser.Given as goal

abbrev pub decreases-cond : goal.decreases-cond
decreases-cond l = 3 * l.depth + 2

abbrev pub decreases-conj : goal.decreases-conj
decreases-conj l = 3 * l.depth + 1

abbrev pub decreases-prim : goal.decreases-prim
decreases-prim l = 3 * l.depth

abbrev pub invariant-cond-parts : goal.invariant-cond-parts
invariant-cond-parts l = Left (key M.Or) (λ q. q) Or (conj_of (prim l.text l.depth)) l.fn.tokens (search_in l.left) l.rest

abbrev pub decreases-cond-parts : goal.decreases-cond-parts
decreases-cond-parts l = length l.rest

abbrev pub invariant-conj-parts : goal.invariant-conj-parts
invariant-conj-parts l = Left (key M.And) (λ q. q) And (prim l.text l.depth) l.fn.tokens (search_in l.left) l.rest

abbrev pub decreases-conj-parts : goal.decreases-conj-parts
decreases-conj-parts l = length l.rest

use Rattle.std.proofs.Common.{[], ◌∷◌, ◌++◌, length}
use Rattle.ob_grammar.proofs.Loops.{Left}
use Rattle.ob_token.specs.declared.token.Mark.TheVariants as M
use Rattle.ob_condition.specs.Marks.{key}
use Rattle.ob_parse.proofs.part.list.Given as goal

abbrev pub invariant-parts : goal.invariant-parts
invariant-parts g l = Left (key M.Comma) (λ v. v ∷ []) (λ s v. s ++ v ∷ []) (g.T.Part.reading l.text) l.fn.tokens l.found.items l.rest

abbrev pub decreases-parts : goal.decreases-parts
decreases-parts g l = length l.rest

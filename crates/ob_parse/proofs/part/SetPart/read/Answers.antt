use Rattle.ob_grammar.proofs.Forms.{Whatever}
use Rattle.ob_grammar.proofs.Placed.{shorter}
use Rattle.ob_parse.specs.Statements.{Assignment}
use Rattle.ob_parse.specs.StatementReading.{assignment}
use Rattle.ob_condition.proofs.Faults.{gives_within}
use Rattle.ob_parse.proofs.GoodStatements.{any_end, good_assignment}
use Rattle.ob_parse.proofs.part.SetPart.read.Goals as goal

pub returns-clause-within : goal.returns-clause-within
returns-clause-within c =
    gives_within (λ s. s) c.assignment.result (assignment c.args.text.now c.args.tokens.now) c.args.tokens.now c.assignment.ensures
    (shorter (Assignment c.args.text.now) Whatever (assignment c.args.text.now) (good_assignment c.args.text.now) any_end c.args.tokens.now)

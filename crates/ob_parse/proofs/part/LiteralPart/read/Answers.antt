use Rattle.ob_grammar.proofs.Placed.{shorter}
use Rattle.ob_condition.specs.Conditions.{Constant}
use Rattle.ob_condition.specs.Reading.{constant}
use Rattle.ob_condition.proofs.Ends.{column_end}
use Rattle.ob_condition.proofs.Faults.{gives_within}
use Rattle.ob_condition.proofs.GoodConditions.{AfterColumn, good_constant}
use Rattle.ob_parse.proofs.part.LiteralPart.read.Goals as goal

pub returns-clause-within : goal.returns-clause-within
returns-clause-within c =
    gives_within (λ l. l) c.constant.result (constant c.args.text.now c.args.tokens.now) c.args.tokens.now c.constant.ensures.value
    (shorter (Constant c.args.text.now) AfterColumn (constant c.args.text.now) (good_constant c.args.text.now AfterColumn column_end) column_end c.args.tokens.now)

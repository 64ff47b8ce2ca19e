use Rattle.ob_grammar.proofs.Placed.{shorter}
use Rattle.ob_parse.specs.Statements.{OneItem}
use Rattle.ob_parse.specs.StatementReading.{item}
use Rattle.ob_condition.proofs.Faults.{gives_within}
use Rattle.ob_condition.proofs.GoodConditions.{AfterColumn}
use Rattle.ob_parse.proofs.GoodStatements.{column_end, good_item}
use Rattle.ob_parse.proofs.part.ListedPart.read.Goals as goal

pub returns-clause-within : goal.returns-clause-within
returns-clause-within c =
    gives_within (λ s. s) c.item.result (item c.args.tokens.now) c.args.tokens.now c.item.ensures
    (shorter OneItem AfterColumn item good_item column_end c.args.tokens.now)

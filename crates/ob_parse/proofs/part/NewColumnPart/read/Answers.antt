use Rattle.ob_grammar.proofs.Placed.{shorter}
use Rattle.ob_parse.specs.Statements.{Definition}
use Rattle.ob_parse.specs.StatementReading.{definition}
use Rattle.ob_condition.proofs.Faults.{gives_within}
use Rattle.ob_parse.proofs.GoodStatements.{AfterDefinition, definition_end, good_definition}
use Rattle.ob_parse.proofs.part.NewColumnPart.read.Goals as goal

pub returns-clause-within : goal.returns-clause-within
returns-clause-within c =
    gives_within (λ s. s) c.definition.result (definition c.args.tokens.now) c.args.tokens.now c.definition.ensures
    (shorter Definition AfterDefinition definition good_definition definition_end c.args.tokens.now)

use Rattle.ob_grammar.proofs.Forms.{Whatever}
use Rattle.ob_grammar.proofs.Placed.{one_value}
use Rattle.ob_parse.specs.Statements.{Statement}
use Rattle.ob_parse.specs.StatementReading.{statement}
use Rattle.ob_token.specs.Tokens.{tokens_of}
use Rattle.ob_parse.proofs.GoodStatements.{any_end, good_statement}
use Rattle.ob_parse.proofs.parser.one_statement.Goals as goal

pub returns : goal.returns
returns c text = one_value (Statement text) Whatever (statement text) (good_statement text) any_end (tokens_of text)

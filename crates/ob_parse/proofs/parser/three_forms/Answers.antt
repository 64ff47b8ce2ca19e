use Rattle.ob_parse.proofs.Selects.{of_forms, to_forms}
use Rattle.ob_parse.proofs.parser.three_forms.Goals as goal

pub returns : goal.returns
returns c text s tokens = (to_forms text s tokens, of_forms text s tokens)

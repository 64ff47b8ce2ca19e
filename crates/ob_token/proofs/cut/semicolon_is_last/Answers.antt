use Rattle.ob_token.proofs.Closing.{semicolon_last}
use Rattle.ob_token.proofs.cut.semicolon_is_last.Goals as goal

pub returns : goal.returns
returns c bytes from to = semicolon_last bytes from to

use Rattle.ob_reopen.proofs.ByNameAlike.{named_alike}
use Rattle.ob_reopen.proofs.laws.names_order_tables.Goals as goal

pub returns : goal.returns
returns c = named_alike

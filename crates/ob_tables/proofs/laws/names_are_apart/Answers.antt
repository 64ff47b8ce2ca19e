use Rattle.ob_tables.proofs.NamesApart.{named_apart}
use Rattle.ob_tables.proofs.laws.names_are_apart.Goals as goal

pub returns : goal.returns
returns g c = λ e s agrees. named_apart e.public.tables agrees.tables.names

use Rattle.ob_linked.proofs.SavedLemmas.{access_saves}
use Rattle.ob_linked.proofs.access_is_saved.Goals as goal

pub returns : goal.returns
returns g c = λ key h draw s op w size less goes t cells is lies run number. access_saves key h draw s op w size less goes t cells is lies run number

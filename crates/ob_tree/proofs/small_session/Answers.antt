use Rattle.std.proofs.Common.{refl}
use Rattle.ob_tree.proofs.small_session.Goals as goal

pub returns : goal.returns
returns c = record { gots = refl; first = refl; then = refl; script = refl }

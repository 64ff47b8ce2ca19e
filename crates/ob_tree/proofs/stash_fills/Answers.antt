use Rattle.std.proofs.Common.{refl}
use Rattle.ob_tree.proofs.stash_fills.Goals as goal

pub returns-clause-gots : goal.returns-clause-gots
returns-clause-gots c = refl

pub returns-clause-full : goal.returns-clause-full
returns-clause-full c = refl

pub returns-clause-reads : goal.returns-clause-reads
returns-clause-reads c = refl

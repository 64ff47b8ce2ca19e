use Rattle.std.proofs.Common.{refl}
use Rattle.ob_tree.proofs.RunLemmas.{created_apart}
use Rattle.ob_oram.specs.Sequences.{keys_asked}
use Rattle.ob_oram.proofs.LeafDraws.{ended_apart, leaves_drawn}
use Rattle.ob_oram.proofs.laws.accesses_read_draws.Goals as goal

pub returns-clause-leaves : goal.returns-clause-leaves
returns-clause-leaves c = λ index steps d next given are drawn leaves. leaves_drawn d index.height index.capacity steps index next given refl refl are drawn leaves

pub returns-clause-once : goal.returns-clause-once
returns-clause-once c = λ first n steps. created_apart first n (keys_asked n steps)

pub returns-clause-ended : goal.returns-clause-ended
returns-clause-ended c = ended_apart

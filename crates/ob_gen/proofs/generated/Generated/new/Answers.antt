use Rattle.std.specs.List.{concat}
use Rattle.ob_gen.specs.Generated.{generated}
use Rattle.ob_gen.proofs.generated.Generated.new.Goals as goal

pub returns : goal.returns
unfolding generated
returns c = rw c.new-2.ensures (λ i. record { left = concat (c.new.ensures i); gave = 0 })

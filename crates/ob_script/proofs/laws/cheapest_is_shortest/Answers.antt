use Rattle.ob_script.proofs.Shortest.{padded_shortest, shortest}
use Rattle.ob_script.proofs.laws.cheapest_is_shortest.Goals as goal

pub returns : goal.returns
returns c = record {
  rows = λ p k g t consecutive plan public. shortest p k g t public consecutive plan;
  padded = λ p q g t plan public. padded_shortest p q g t public plan;
}

use Rattle.ob_seal.proofs.Spans.{of_one}
use Rattle.ob_seal.proofs.laws.one_runs_blocks_have_its_keys.Goals as goal

pub returns : goal.returns
returns c keys at none = of_one keys at none

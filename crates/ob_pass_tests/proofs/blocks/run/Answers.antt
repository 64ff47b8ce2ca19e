use Rattle.ob_pass_tests.proofs.Sizes.{widest}
use Rattle.ob_pass_tests.proofs.blocks.run.Goals as goal

pub run_over-requires-clause-idle : goal.run_over-requires-clause-idle
run_over-requires-clause-idle g c = c.in-Some-room_of.ensures.idle 1024 widest

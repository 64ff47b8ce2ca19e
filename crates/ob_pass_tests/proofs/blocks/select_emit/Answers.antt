use Rattle.ob_pass_tests.proofs.Passes.{found_emits}
use Rattle.ob_pass_tests.proofs.Sizes.{buckets_most, few_most}
use Rattle.ob_pass_tests.proofs.blocks.select_emit.Goals as goal

pub hashed-requires : goal.hashed-requires
hashed-requires g c = record { rest = c.requires.rest; table = c.requires.table }

pub emit_discard-requires : goal.emit_discard-requires
emit_discard-requires g c = found_emits 2048 _ _ _ _ _ _ c.requires.rest c.requires.table.size.wide buckets_most c.in_ok-result.ensures

pub selected-requires : goal.selected-requires
selected-requires g c = record { rest = c.requires.rest; table = c.requires.table }

pub emit_discard-requires-2 : goal.emit_discard-requires-2
emit_discard-requires-2 g c = found_emits 16 _ _ _ _ _ _ c.requires.rest c.requires.table.size.wide few_most c.in_ok-result-2.ensures

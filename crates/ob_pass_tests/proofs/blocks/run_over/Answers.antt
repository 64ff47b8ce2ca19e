use Rattle.std.proofs.Common.{◌∙◌}
use Rattle.ob_vault.proofs.WordLemmas.{starts_anew}
use Rattle.ob_pass_tests.proofs.blocks.run_over.Goals as goal

pub serve-requires : goal.serve-requires
serve-requires g c = record {
  ready = starts_anew (c.new-vault.ensures.ready _ (c.new-store.ensures ∙ c.new.ensures.asked)) c.new-vault.ensures.started;
  idle = c.requires.idle;
  some = c.requires.pack.0;
  most = c.requires.pack.1;
}

use Rattle.ob_tree.proofs.RunLemmas.{length-read_script, length-access_script}
use Rattle.ob_tree.proofs.script_lengths.Goals as goal

pub returns : goal.returns
returns c = record {
  reads = λ t h leaf. length-read_script t h leaf;
  all = λ t h leaf. length-access_script t h leaf;
}

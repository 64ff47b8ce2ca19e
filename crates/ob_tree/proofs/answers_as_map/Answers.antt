use Rattle.ob_tree.proofs.AccessLemmas.{held_after_some}
use Rattle.ob_tree.proofs.RunLemmas.{access_answers, run_as_map}
use Rattle.ob_tree.proofs.answers_as_map.Goals as goal

pub returns : goal.returns
returns g c = record {
  got = λ h draw s m op w rep keeps e. (access_answers g.R.Keyed.key h s m op draw w rep keeps e).0;
  represents = λ h draw s m op w rep keeps e. (access_answers g.R.Keyed.key h s m op draw w rep keeps e).1;
  bag = λ h draw s m op w rep e. held_after_some g.R.Keyed.key h s m op draw rep w e;
  run = λ h s m ops rep keep. run_as_map g.R.Keyed.key h ops s m rep keep;
}
